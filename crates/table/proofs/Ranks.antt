-- The rank of a key among keys that rise: how a look at one key bounds it, and what it tells of the key's place.
use Prim.Native.Nat.{ℕ, zero, suc, ◌+◌, ◌-◌, ◌≤◌, ◌<◌}
use native.Mathlib.Omega.{arith}
use mathlib.Core.Path.{◌≡◌, refl, sym, ◌∙◌, ap}
use mathlib.Core.Bool.{true, false}
use mathlib.Core.Option.{Option, none, some}
use mathlib.Core.List.{List, [], ◌∷◌}
use lib.ListN.{length, get_or}
use lib.Dec.{eqb, ltb}
use Rattle.rules.specs.Maps.{is_some}
use Rattle.rules.specs.Bytes.{byte}
use Rattle.rules.proofs.Laws.{cases, never, eqb_eq, eqb_ne, lt-ltb, le-ltb}
use Rattle.rules.proofs.MapLaws.{some_eq, none_some, Up, rising_up}
use Rattle.store.specs.Layout.{place_count, in_use_at}
use Rattle.store.specs.Positions.{position}
use Rattle.store.proofs.Positions.{up_at, further, stands_at, stands_once}
use Rattle.table.specs.Spots.{rank, Ranked}
use Rattle.table.specs.Places.{InShape, keys_in}
use Rattle.table.proofs.Turns.{key_of, key_there}
use Rattle.table.proofs.TableMoved.{rank_fits}
use Rattle.table.proofs.Located.{how_many_keys}

-- ---- in a list that rises

-- a key that isn't greater is passed, with all before it
ranked_past : (b k j : ℕ) (l : List ℕ) → Up b l → j < length l → get_or l j 0 ≤ k → j < rank k l
unfolding rank
ranked_past b k j [] u h g = absurd (omega arith)
ranked_past b k zero (x ∷ l) u h g = rw (le-ltb k x g) (omega arith)
ranked_past b k (suc j) (x ∷ l) u h g =
    let z = ranked_past (suc x) k j l u.1 (omega arith) g in
    let y = up_at (suc x) j l u.1 (omega arith) in
    rw (le-ltb k x (omega arith)) (omega arith)

-- a greater one isn't, nor is any behind it
ranked_short : (k j : ℕ) (l : List ℕ) → j < length l → k < get_or l j 0 → rank k l ≤ j
unfolding rank
ranked_short k j [] h g = absurd (omega arith)
ranked_short k zero (x ∷ l) h g = rw (lt-ltb k x g) (omega arith)
ranked_short k (suc j) (x ∷ l) h g =
    let z = ranked_short k j l (omega arith) g in
    cases (ltb k x) (λ t. rw t (omega arith)) (λ t. rw t (omega arith))

-- what has a place is the last that is passed
ranked_behind : (b k j : ℕ) (l : List ℕ) → Up b l → position k l ≡ some j → rank k l ≡ suc j
unfolding rank position
ranked_behind b k j [] u p = none_some p
ranked_behind b k j (x ∷ l) u p = cases (eqb k x)
    (λ t.
    let e : k ≡ x = eqb_eq k x t in
    let z : 0 ≡ j = some_eq (rw t at p) in
    let y = passes_none k l u.1 (omega arith) in
    rw (le-ltb k x (omega arith), y) (omega arith))
    (λ t. further (position k l) j (rw t at p) (λ i q n.
    let later = ranked_behind (suc x) k i l u.1 q in
    let at = stands_at k i l q in
    let above = up_at (suc x) i l u.1 at.0 in
    rw (le-ltb k x (omega (arith, at.1)), later) (omega arith)))
  where
    passes_none : (k : ℕ) (l : List ℕ) → {x : ℕ} → Up (suc x) l → k ≤ x → rank k l ≡ 0
    passes_none k [] u h = refl
    passes_none k (y ∷ l) u h = let z = u.0 in rw (lt-ltb k y (omega arith))

-- ---- in the bytes of a table

module _ (b : List ℕ) (s : InShape b) (k : ℕ) where
  abbrev l : List ℕ
  l = keys_in b

  up : Up 0 l
  up = rising_up l s.rise

  pub few_passed : rank k l ≤ place_count
  few_passed = let z = rank_fits k l in let n = how_many_keys b in let f = s.few in omega arith

  -- what a look at the last of the next `by` places tells, or that there aren't as many
  module _ {n low by : ℕ} (e : n ≡ byte b in_use_at) (one : 1 ≤ by) (r : Ranked low (by + by) k l) where
    pub gone_past : low + by ≤ n → key_of b (low + by - 1) ≤ k → Ranked (low + by) by k l
    gone_past h g =
        let few = how_many_keys b in
        let there = key_there b (low + by - 1) (omega arith) in
        let z = ranked_past 0 k (low + by - 1) l up (omega arith) (omega arith) in
        let y = r.near in
        record { from_low = omega arith; near = omega arith }

    pub stopped_short : low + by ≤ n → k < key_of b (low + by - 1) → Ranked low by k l
    stopped_short h g =
        let few = how_many_keys b in
        let there = key_there b (low + by - 1) (omega arith) in
        let z = ranked_short k (low + by - 1) l (omega arith) (omega arith) in
        record { from_low = r.from_low; near = omega arith }

    pub at_the_end : n < low + by → Ranked low by k l
    at_the_end h =
        let few = how_many_keys b in
        let z = rank_fits k l in
        record { from_low = r.from_low; near = omega arith }

  -- the key's place, told by its rank
  module _ {j : ℕ} (e : j ≡ rank k l) where
    pub last_passed : (o : Option ℕ) → position k l ≡ o → true ≡ is_some o → some (j - 1) ≡ o
    last_passed none p h = never (sym h)
    last_passed (some i) p h = ap some (let z = ranked_behind 0 k i l up p in omega arith)

    pub one_passed : (o : Option ℕ) → position k l ≡ o → true ≡ is_some o → 1 ≤ j
    one_passed none p h = never (sym h)
    one_passed (some i) p h = let z = ranked_behind 0 k i l up p in omega arith

    pub none_passed : (o : Option ℕ) → position k l ≡ o → j ≡ 0 → false ≡ is_some o
    none_passed none p h = refl
    none_passed (some i) p h = absurd (let z = ranked_behind 0 k i l up p in omega arith)

    pub last_looked_at : (j ≡ 0 → ⊥) → (x : ℕ) → x ≡ key_of b (j - 1) → eqb k x ≡ is_some (position k l)
    last_looked_at n x q =
        let few = how_many_keys b in
        let z = rank_fits k l in
        let small : j - 1 < length l = omega arith in
        let there : get_or l (j - 1) 0 ≡ x = key_there b (j - 1) (omega arith) ∙ sym q in
        cases (eqb k x)
        (λ t. t ∙ sym (ap is_some (ap (λ (y : ℕ). position y l) (eqb_eq k x t ∙ sym there) ∙ stands_once 0 (j - 1) l up small)))
        (λ t. t ∙ not_it (position k l) refl (λ y. eqb_ne k x t (y ∙ there)))
      where
        not_it : (o : Option ℕ) → position k l ≡ o → (k ≡ get_or l (j - 1) 0 → ⊥) → false ≡ is_some o
        not_it none p d = refl
        not_it (some i) p d =
            let z = ranked_behind 0 k i l up p in
            let y : i ≡ j - 1 = omega arith in
            absurd (d (sym (stands_at k i l p).1 ∙ ap (λ (m : ℕ). get_or l m 0) y))

pub not_placed : (o : Option ℕ) → false ≡ is_some o → none ≡ o
not_placed none h = refl
not_placed (some i) h = never h
