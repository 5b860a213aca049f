-- Values cut off a message one after another, and bytes that must be zero.
use Prim.Native.Nat.{ℕ, zero, suc, ◌+◌}
use native.Mathlib.Omega.{arith}
use native.Mathlib.Nat.{zero-add, suc-add}
use mathlib.Core.Path.{◌≡◌, refl, ap}
use mathlib.Core.Bool.{true, false}
use mathlib.Core.Option.{none, some}
use mathlib.Core.List.{List, [], ◌∷◌, ◌++◌}
use lib.ListN.{take, drop, replicate}
use lib.Seq.{drop-drop}
use lib.Dec.{eqb}
use Rattle.rules.specs.Maps.{Map, find, among, same, empty}
use Rattle.rules.specs.Bytes.{byte}
use Rattle.rules.specs.Masks.{total}
use Rattle.rules.specs.Commands.{cut, not_zero}
use Rattle.rules.specs.WellFormed.{unkept_bytes}
use Rattle.rules.proofs.Laws.{cases, never, or_none, false_or, eqb_eq, same_eq, eq_same}

-- ---- values cut off one after another

pub cut_append : (size : ℕ → ℕ) (l m v : List ℕ) → cut size (l ++ m) v ≡ cut size l v ++ cut size m (drop (total size l) v)
unfolding cut total
cut_append size [] m v = refl
cut_append size (n ∷ l) m v = rw (cut_append size l m (drop (size n) v), drop-drop (total size l) (size n) v)

pub total_append : (size : ℕ → ℕ) (l m : List ℕ) → total size (l ++ m) ≡ total size l + total size m
unfolding total
total_append size [] m = omega arith
total_append size (n ∷ l) m = let h = total_append size l m in omega arith

pub cut_none : (size : ℕ → ℕ) (l v : List ℕ) (n : ℕ) → among n l ≡ false → find n (cut size l v) ≡ none
unfolding cut find among
cut_none size [] v n h = refl
cut_none size (x ∷ l) v n h = let g = or_none h in rw g.0 (cut_none size l (drop (size x) v) n g.1)

-- ---- bytes that are zero

-- the first so many bytes are there and zero
abbrev pub Zeros : ℕ → List ℕ → Type 0
Zeros n v = take n v ≡ replicate n 0

nothing_is_no_byte {ℓ} : {X : Type ℓ} {x : ℕ} {l : List ℕ} → [] ≡ x ∷ l → X
nothing_is_no_byte e = absurd (let z : ◌≡◌ {A = ℕ} 0 1 = cc in omega arith)

pub zeros_split : (a b : ℕ) (v : List ℕ) → Zeros (a + b) v → Zeros a v × Zeros b (drop a v)
zeros_split zero b v z = (refl, rw (zero-add b) at z)
zeros_split (suc a) b [] z = nothing_is_no_byte (rw (suc-add a b) at z)
zeros_split (suc a) b (x ∷ v) z =
    let y : x ∷ take (a + b) v ≡ 0 ∷ replicate (a + b) 0 = rw (suc-add a b) at z in
    let h : x ≡ 0 = ap (λ (l : List ℕ). byte l 0) y in
    let r = zeros_split a b v (ap (λ (l : List ℕ). drop 1 l) y) in
    (rw (h, r.0), r.1)

zeros_join : (a b : ℕ) (v : List ℕ) → Zeros a v → Zeros b (drop a v) → Zeros (a + b) v
zeros_join zero b v y z = rw (zero-add b) z
zeros_join (suc a) b [] y z = nothing_is_no_byte y
zeros_join (suc a) b (x ∷ v) y z =
    let h : x ≡ 0 = ap (λ (l : List ℕ). byte l 0) y in
    rw (suc-add a b, h, zeros_join a b v (ap (λ (l : List ℕ). drop 1 l) y) z)

-- no complaint about what isn't kept: it is zero, and the other way round
pub unkept_are_zero : (m : Map ℕ) (v : List ℕ) → empty (not_zero m v) ≡ true → Zeros (unkept_bytes m) v
unfolding not_zero unkept_bytes
unkept_are_zero [] v h = refl
unkept_are_zero (e ∷ m) v h = cases (same (take e.1 v) (replicate e.1 0))
    (λ t. zeros_join e.1 (unkept_bytes m) v (same_eq (take e.1 v) (replicate e.1 0) t) (unkept_are_zero m (drop e.1 v) (rw t at h)))
    (λ t. never (rw t at h))

pub zero_is_unkept : (m : Map ℕ) (v : List ℕ) → Zeros (unkept_bytes m) v → empty (not_zero m v) ≡ true
unfolding not_zero unkept_bytes
zero_is_unkept [] v z = refl
zero_is_unkept (e ∷ m) v z =
    let y = zeros_split e.1 (unkept_bytes m) v z in
    rw (eq_same (take e.1 v) (replicate e.1 0) y.0) (zero_is_unkept m (drop e.1 v) y.1)

-- values cut off zeros are zeros
pub cut_zeros : (size : ℕ → ℕ) (l v : List ℕ) → Zeros (total size l) v → (n : ℕ) → among n l ≡ true → find n (cut size l v) ≡ some (replicate (size n) 0)
unfolding cut total among find
cut_zeros size [] v z n h = never h
cut_zeros size (j ∷ l) v z n h =
    let y = zeros_split (size j) (total size l) v z in
    cases (eqb n j)
    (λ e. rw (e, y.0, eqb_eq n j e) refl)
    (λ e. rw e (cut_zeros size l (drop (size j) v) y.1 n (rw (e, false_or (among n l)) at h)))
