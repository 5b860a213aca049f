-- What a mask names and a class doesn't have, or doesn't let a Set write; and what all that it names takes.
use Prim.Native.Nat.{ℕ, suc, ◌+◌, ◌-◌, ◌*◌, ◌≤◌, ◌<◌}
use native.Mathlib.Omega.{arith}
use mathlib.Core.Path.{◌≡◌, refl, sym, ◌∙◌, ap}
use mathlib.Core.Bool.{Bool, not, ◌&&◌}
use mathlib.Core.List.{List, [], ◌∷◌}
use lib.ListN.{length}
use lib.Bits.{bit_and, and_le_l}
use Rattle.rules.specs.Maps.{◌and◌, keys, those}
use Rattle.rules.specs.Masks.{in_mask, named, mask, total}
use Rattle.rules.specs.Catalogue.{attribute, supported, size_of}
use Rattle.rules.specs.Commands.{unsupported, unwritable}
use Rattle.bits.specs.Digits.{digit}
use Rattle.bits.proofs.MaskWalk.{Walked, next_within}
use Rattle.bits.proofs.Masks.{Within, named_within, named_few, numbers_among, those_same, those_those, mask_named, named_and, in_mask_not}
use Rattle.class_tables.specs.Built.{class_for}
use Rattle.class_tables.specs.Masks.{writable_numbers}
use Rattle.class_tables.specs.Sizes.{size_digits}
use Rattle.class_tables.proofs.MaskLaws.{supported_bit, writable_bit}
use Rattle.class_tables.proofs.SizeLaws.{size_in_digits}
use Rattle.class_tables.specs.declared.Product.{Product}

both_small : (m k : ℕ) → m < 65536 → bit_and m k < 65536
both_small m k h = let z : bit_and m k ≤ m = and_le_l m k in omega arith

module _ (pr : Product) (c : ℕ) where
  -- the bits that a mask doesn't have
  others : (p : ℕ → Bool) (k : ℕ) → k < 65536 → ((n : ℕ) → 1 ≤ n → n ≤ 16 → in_mask k n ≡ p n)
      → (n : ℕ) → 1 ≤ n → n ≤ 16 → in_mask (65535 - k) n ≡ not (p n)
  others p k h q n i j = in_mask_not k n h i j ∙ ap not (q n i j)

  pub unsupported_is : (m s : ℕ) → m < 65536 → s < 65536 → s ≡ mask (keys (class_for pr c).attributes)
      → bit_and m (65535 - s) ≡ mask (unsupported (class_for pr c) (named m))
  unfolding unsupported
  unsupported_is m s h i e =
      sym (mask_named (bit_and m (65535 - s)) (both_small m (65535 - s) h)) ∙
      ap mask (named_and m (65535 - s) ∙
      those_same (in_mask (65535 - s)) (λ n. not (supported (class_for pr c) n)) 1 (named m) (named_within m)
      (others (supported (class_for pr c)) s i (λ n f g. rw e (supported_bit pr c n (numbers_among n f g)))))

  pub unwritable_is : (m s w : ℕ) → m < 65536 → s < 65536 → w < 65536 → s ≡ mask (keys (class_for pr c).attributes) → w ≡ mask (writable_numbers (class_for pr c))
      → bit_and (bit_and m s) (65535 - w) ≡ mask (unwritable (class_for pr c) (named m))
  unfolding unwritable ◌and◌
  unwritable_is m s w h i j e f =
      sym (mask_named (bit_and (bit_and m s) (65535 - w)) (both_small (bit_and m s) (65535 - w) (both_small m s h))) ∙
      ap mask (named_and (bit_and m s) (65535 - w) ∙ ap (those (in_mask (65535 - w))) (named_and m s) ∙
      those_those (in_mask (65535 - w)) (in_mask s) (named m) ∙
      those_same (λ n. in_mask s n && in_mask (65535 - w) n) (λ n. supported (class_for pr c) n and not (attribute (class_for pr c) n).W) 1 (named m) (named_within m)
      (λ n a b. rw (
        others (λ k. (attribute (class_for pr c) k).W) w j (λ k g d. rw f (writable_bit pr c k (numbers_among k g d))) n a b,
        ← (let z : in_mask s n ≡ supported (class_for pr c) n = rw e (supported_bit pr c n (numbers_among n a b)) in z),
      ) refl))

-- ---- sizes read from the digits of a number

-- few attributes, each of few bytes
module _ (x : ℕ) where
  total_small : (l : List ℕ) → total (digit x) l ≤ 15 * length l
  unfolding total digit
  total_small [] = omega arith
  total_small (n ∷ l) = let z = total_small l in omega arith

  -- the next one's bytes can be added
  pub next_small : {m sum n : ℕ} {left rest : List ℕ} → Walked (digit x) m left sum → left ≡ n ∷ rest → sum + digit x n ≤ 240
  next_small {m} w first = let z = next_within w first in let t = total_small (named m) in let few = named_few m in omega arith

module _ (pr : Product) (c x : ℕ) (e : x ≡ size_digits (class_for pr c)) where
  total_within : (b : ℕ) (l : List ℕ) → 1 ≤ b → Within b l → total (digit x) l ≡ total (size_of (class_for pr c)) l
  unfolding total
  total_within b [] h w = refl
  total_within b (n ∷ l) h w =
      let i = w.0 in
      let z : digit x n ≡ size_of (class_for pr c) n = rw e (size_in_digits pr c n (omega arith) w.1) in
      let r : total (digit x) l ≡ total (size_of (class_for pr c)) l = total_within (suc n) l (omega arith) w.2 in
      omega arith

  -- what a mask's attributes take by a class's digits is what they take
  pub total_read : (m : ℕ) → total (digit x) (named m) ≡ total (size_of (class_for pr c)) (named m)
  total_read m = total_within 1 (named m) (omega arith) (named_within m)
