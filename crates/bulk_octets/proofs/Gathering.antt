-- Bytes added bit by bit: a turn of the loop, and when the sum is zero.
use Prim.Native.Nat.{ℕ, zero, suc, ◌+◌, ◌<◌}
use native.Mathlib.Nat.{add-zero}
use native.Mathlib.Numerals.{add-one}
use native.Mathlib.Omega.{arith}
use mathlib.Core.Path.{◌≡◌, refl, sym, ◌∙◌, ap}
use mathlib.Core.List.{List, [], ◌∷◌, ◌++◌, append-nil}
use lib.ListN.{length, get_or, take, drop, set}
use lib.Seq.{take-suc, drop-cons, set_at, get_or-drop, get_or-append-add, length-take-le, take-length, drop-length, append_snoc}
use lib.Dec.{eqb}
use lib.Bits.{bit_or}
use Rattle.rules.specs.Maps.{◌and◌, all}
use Rattle.rules.specs.Bytes.{all_zero}
use Rattle.rules.proofs.Laws.{true_and}
use Rattle.rules.proofs.Conjunctions.{and_swap}
use Rattle.bulk_octets.specs.Gathered.{gathered}
use Rattle.octets.proofs.Tests.{or_test}

pub length_gathered : (a m : List ℕ) → length (gathered a m) ≡ length a
unfolding gathered
length_gathered [] m = refl
length_gathered (x ∷ a) [] = refl
length_gathered (x ∷ a) (y ∷ m) = ap suc (length_gathered a m)

gathered_at : (a m : List ℕ) (i : ℕ) → i < length a → i < length m → get_or (gathered a m) i 0 ≡ bit_or (get_or a i 0) (get_or m i 0)
unfolding gathered
gathered_at [] m i h k = absurd (omega arith)
gathered_at (x ∷ a) [] i h k = absurd (omega arith)
gathered_at (x ∷ a) (y ∷ m) zero h k = refl
gathered_at (x ∷ a) (y ∷ m) (suc i) h k = gathered_at a m i (omega arith) (omega arith)

-- the first i are added, the others as they were
abbrev pub added : List ℕ → List ℕ → ℕ → List ℕ
added a m i = take i (gathered a m) ++ drop i a

pub gather_again : (a t m : List ℕ) (i : ℕ) → t ≡ added a m i → length a ≡ length m → i < length m
    → set t i (bit_or (get_or t i 0) (get_or m i 0)) ≡ added a m (i + 1)
gather_again a t m i p l h =
    let g : List ℕ = gathered a m in
    let lg = length_gathered a m in
    let len : length (take i g) ≡ i = length-take-le i g (omega arith) in
    let z : i + 0 ≡ i = add-zero i in
    let read : get_or (added a m i) i 0 ≡ get_or a i 0 =
    ap (λ (x : ℕ). get_or (added a m i) x 0) (sym z ∙ ap (λ (x : ℕ). x + 0) (sym len)) ∙ get_or-append-add (take i g) (drop i a) 0 0 ∙ get_or-drop i a 0 0 ∙ ap (λ (x : ℕ). get_or a x 0) z in
    let next : take (suc i) g ≡ take i g ++ (bit_or (get_or a i 0) (get_or m i 0) ∷ []) = take-suc g i 0 (omega arith) ∙ rw (gathered_at a m i (omega arith) h) in
    rw (p, read, add-one i, next, drop-cons a i 0 (omega arith))
    (set_at (take i g) _ _ _ i len ∙ sym (append_snoc (take i g) (bit_or (get_or a i 0) (get_or m i 0)) (drop (suc i) a)))

pub gather_end : (a t m : List ℕ) (i : ℕ) → t ≡ added a m i → length a ≡ length m → i ≡ length m → t ≡ gathered a m
gather_end a t m i p l e =
    let all_of : i ≡ length (gathered a m) = e ∙ sym l ∙ sym (length_gathered a m) in
    let none_of : i ≡ length a = e ∙ sym l in
    p ∙ ap (λ (x : List ℕ). x ++ drop i a) (ap (λ (n : ℕ). take n (gathered a m)) all_of ∙ take-length (gathered a m))
    ∙ ap (λ (x : List ℕ). gathered a m ++ x) (ap (λ (n : ℕ). drop n a) none_of ∙ drop-length a) ∙ append-nil (gathered a m)

-- the sum is zero exactly if both are
pub zeros_gathered : (a m : List ℕ) → length a ≡ length m → all_zero (gathered a m) ≡ (all_zero a and all_zero m)
unfolding gathered all_zero all ◌and◌
zeros_gathered [] [] l = sym (true_and _)
zeros_gathered [] (y ∷ m) l = absurd (omega (arith, l))
zeros_gathered (x ∷ a) [] l = absurd (omega (arith, l))
zeros_gathered (x ∷ a) (y ∷ m) l = rw (or_test x y, zeros_gathered a m (omega (arith, l))) (and_swap (eqb x 0) (eqb y 0) (all_zero a) (all_zero m))
