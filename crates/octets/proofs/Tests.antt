-- Tests that gather differences by OR, and what all zero means.
use Prim.Native.Nat.{ℕ, zero, suc}
use native.Mathlib.Omega.{arith}
use mathlib.Core.Path.{◌≡◌, refl, sym, ◌∙◌, ap}
use mathlib.Core.Bool.{true, false, ◌&&◌}
use mathlib.Core.List.{List, [], ◌∷◌, ◌++◌}
use lib.ListN.{length, replicate}
use lib.Dec.{eqb}
use lib.Bits.{bit_or, bit_xor, or_zero_l, or_add_and, and_le_l, and_le_r, xor_add_and, xor_self}
use Rattle.std.specs.List.{fold, zip}
use Rattle.rules.specs.Maps.{◌and◌, all, same}
use Rattle.rules.proofs.Conjunctions.{join_assoc, join_end}
use Rattle.rules.proofs.Laws.{cases, both, eqb_true, eqb_false, eqb_eq, same?, same_eq}
use Rattle.rules.specs.Bytes.{all_zero}

pub or_test : (a b : ℕ) → eqb (bit_or a b) 0 ≡ (eqb a 0 && eqb b 0)
or_test a b = same? a 0
    (λ e. rw (e, or_zero_l b))
    (λ e. rw (eqb_false a 0 e) (eqb_false (bit_or a b) 0 (λ q. e (omega (arith, or_add_and a b, and_le_r a b)))))

xor_test : (a b : ℕ) → eqb (bit_xor a b) 0 ≡ eqb a b
xor_test a b = same? a b
    (λ e. rw (e, xor_self b) (sym (eqb_true b b refl)))
    (λ e. rw (eqb_false a b e) (eqb_false (bit_xor a b) 0 (λ q. e (omega (arith, xor_add_and a b, and_le_l a b, and_le_r a b)))))

-- what a fold over the bytes has gathered
pub zeros_folded : (any : ℕ) (l : List ℕ) → eqb (fold bit_or any l) 0 ≡ (eqb any 0 && all_zero l)
unfolding all_zero all ◌and◌
zeros_folded any [] = sym (join_end (eqb any 0))
zeros_folded any (x ∷ l) = zeros_folded (bit_or any x) l ∙ rw (or_test any x) (join_assoc (eqb any 0) (eqb x 0) (all_zero l))

-- and a fold over pairs of bytes
pub same_folded : (any : ℕ) (a b : List ℕ) → length a ≡ length b
    → eqb (fold (λ n p. bit_or n (bit_xor p.0 p.1)) any (zip a b)) 0 ≡ (eqb any 0 && same a b)
unfolding same ◌and◌
same_folded any [] [] l = sym (join_end (eqb any 0))
same_folded any [] (y ∷ b) l = absurd (omega (arith, l))
same_folded any (x ∷ a) [] l = absurd (omega (arith, l))
same_folded any (x ∷ a) (y ∷ b) l =
    same_folded (bit_or any (bit_xor x y)) a b (omega (arith, l))
    ∙ rw (or_test any (bit_xor x y), xor_test x y) (join_assoc (eqb any 0) (eqb x y) (same a b))

-- slices of other lengths differ
pub same_not : (a b : List ℕ) → (length a ≡ length b → ⊥) → false ≡ same a b
same_not a b h = cases (same a b) (λ e. absurd (h (ap length (same_eq a b e)))) (λ e. sym e)

-- ---- all zero

pub zeros_are : (l : List ℕ) → all_zero l ≡ true → l ≡ replicate (length l) 0
unfolding all_zero all
zeros_are [] h = refl
zeros_are (x ∷ l) h = rw (eqb_eq x 0 (both h).0, ← zeros_are l (both h).1)

pub are_zeros : (n : ℕ) → all_zero (replicate n 0) ≡ true
unfolding all_zero all ◌and◌
are_zeros zero = refl
are_zeros (suc n) = are_zeros n

pub zeros_append : (l m : List ℕ) → all_zero (l ++ m) ≡ (all_zero l and all_zero m)
unfolding all_zero all ◌and◌
zeros_append [] m = refl
zeros_append (x ∷ l) m = rw (zeros_append l m) (sym (join_assoc (eqb x 0) (all_zero l) (all_zero m)))
