-- Where something stands in a list of numbers: it is there exactly if it has a position.
use Prim.Native.Nat.{ℕ, suc, ◌<◌, ◌≤◌, zero}
use native.Mathlib.Omega.{arith}
use mathlib.Core.Path.{◌≡◌, refl, sym, ◌∙◌, ap}
use mathlib.Core.Bool.{false}
use mathlib.Core.Option.{Option, none, some}
use mathlib.Core.List.{List, [], ◌∷◌}
use lib.ListN.{length, get_or}
use lib.Dec.{eqb}
use Rattle.rules.specs.Maps.{Map, is_some, find, keys, among}
use Rattle.rules.proofs.Laws.{cases, never, or_left, false_or, find_some, has_among, eqb_eq, eqb_true, eqb_false}
use Rattle.rules.proofs.MapLaws.{some_eq, none_some, Up}
use Rattle.store.specs.Positions.{one_on, position}

-- what is a place further on
pub further {ℓ} : {X : Type ℓ} (o : Option ℕ) (j : ℕ) → one_on o ≡ some j → ((i : ℕ) → o ≡ some i → j ≡ suc i → X) → X
further none j e f = none_some e
further (some i) j e f = f i refl (sym (some_eq e))

pub position_among : (k : ℕ) (l : List ℕ) → is_some (position k l) ≡ among k l
unfolding position among
position_among k [] = refl
position_among k (x ∷ l) = cases (eqb k x)
    (λ t. rw t (sym (or_left (among k l) refl)))
    (λ t. rw (t, false_or (among k l)) (stay (position k l) ∙ position_among k l))
  where
    stay : (o : Option ℕ) → is_some (one_on o) ≡ is_some o
    stay none = refl
    stay (some j) = refl

-- what isn't there has no position, and what has none isn't there
pub not_placed : (k : ℕ) (l : List ℕ) → among k l ≡ false → none ≡ position k l
not_placed k l h = nothing (position k l) (position_among k l ∙ h)
  where
    nothing : (o : Option ℕ) → is_some o ≡ false → none ≡ o
    nothing none e = refl
    nothing (some j) e = never (sym e)

-- what has a position stands there
pub stands_at : (k j : ℕ) (l : List ℕ) → position k l ≡ some j → (j < length l) × (get_or l j 0 ≡ k)
unfolding position
stands_at k j [] h = none_some h
stands_at k j (x ∷ l) h = cases (eqb k x)
    (λ t. let z : 0 ≡ j = some_eq (rw t at h) in rw (← z) (omega arith, sym (eqb_eq k x t)))
    (λ t. further (position k l) j (rw t at h) (λ i q e. let r = stands_at k i l q in let z = r.0 in rw e (omega arith, r.1)))

-- and is found
pub position_found : {A : Type 0} (k j : ℕ) (m : Map A) → position k (keys m) ≡ some j → (a : A) × (find k m ≡ some a)
position_found k j m h = find_some k m (has_among k m ∙ sym (position_among k (keys m)) ∙ ap is_some h)

-- ---- in a rising list

-- no number of it is below its bound
pub up_at : (b j : ℕ) (l : List ℕ) → Up b l → j < length l → b ≤ get_or l j 0
up_at b j [] u h = absurd (omega arith)
up_at b zero (x ∷ l) u h = u.0
up_at b (suc j) (x ∷ l) u h = let y = u.0 in let z = up_at (suc x) j l u.1 (omega arith) in omega arith

-- what stands somewhere has its position there
pub stands_once : (b j : ℕ) (l : List ℕ) → Up b l → j < length l → position (get_or l j 0) l ≡ some j
unfolding position
stands_once b j [] u h = absurd (omega arith)
stands_once b zero (x ∷ l) u h = rw (eqb_true x x refl)
stands_once b (suc j) (x ∷ l) u h =
    let later = up_at (suc x) j l u.1 (omega arith) in
    rw (eqb_false (get_or l j 0) x (λ z. omega arith), stands_once (suc x) j l u.1 (omega arith))
