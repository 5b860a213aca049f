-- Bytes copied behind themselves, with a mark in front.
use Prim.Native.Nat.{ℕ, ◌+◌, ◌≤◌, ◌<◌}
use native.Mathlib.Omega.{arith}
use mathlib.Core.Path.{◌≡◌, refl, sym, ◌∙◌, ap}
use mathlib.Core.List.{List, [], ◌∷◌, ◌++◌}
use lib.ListN.{length, set}
use borrow.Rule.Slice.PartMut.{put_mid}
use Rattle.rules.specs.Bytes.{laid}
use Rattle.octets.proofs.Laid.{laid_part, laid_next, laid_behind, one_laid, laid_apart, length_laid}
use Rattle.octets.proofs.Parted.{part, part_before}

-- front and behind are the slice's two parts, from `to` on; a copy of n bytes of the first goes into the second
module _ (front behind copied : List ℕ) (from n : ℕ) (apart : from + n ≤ length front) (room : n < length behind)
    (e : copied ≡ part from n front) (l : length copied ≡ n) where
  marked : (k : ℕ) → n ≡ k → set (put_mid 1 k behind copied) 0 1 ≡ laid 0 (1 ∷ copied) behind
  marked k h =
      let whole : put_mid 1 k behind copied ≡ laid 1 copied behind = laid_part 1 k copied behind (l ∙ h) in
      ap (λ (b : List ℕ). set b 0 1) whole ∙ one_laid 0 1 (laid 1 copied behind) (rw (length_laid 1 copied behind (omega (arith, l))) (omega arith))
      ∙ sym (laid_apart 0 1 (1 ∷ []) copied behind (omega arith) (omega (arith, l)))
      ∙ laid_next 0 (1 ∷ []) behind (omega arith) copied

  pub frozen : (s : List ℕ) → s ≡ front ++ behind → (k : ℕ) → n ≡ k
      → front ++ set (put_mid 1 k behind copied) 0 1 ≡ laid (length front) (1 ∷ part from n s) s
  frozen s w k h =
      let z : length front + 0 ≡ length front = omega arith in
      ap (λ (x : List ℕ). front ++ x) (marked k h) ∙ laid_behind front (1 ∷ copied) behind 0
      ∙ rw (z, e, w, part_before front behind from n apart) refl
