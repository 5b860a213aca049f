-- The digits of a class's sizes: each is the size of its attribute.
use Prim.Native.Nat.{ℕ, ◌≤◌}
use mathlib.Core.Path.{◌≡◌, refl, sym, ◌∙◌, ap}
use mathlib.Core.Bool.{Bool, true}
use lib.Dec.{eqb}
use Rattle.rules.specs.Maps.{keys, all}
use Rattle.rules.specs.Masks.{attribute_numbers}
use Rattle.rules.specs.Catalogue.{Class, supported, size_of}
use Rattle.rules.proofs.Laws.{eqb_eq, all_among, has_among}
use Rattle.bits.specs.Digits.{digit}
use Rattle.bits.proofs.Masks.{numbers_among, within_among}
use Rattle.class_tables.specs.Built.{class_for}
use Rattle.class_tables.specs.Sizes.{size_digits}
use Rattle.class_tables.specs.Computing.{computing_tables}
use Rattle.class_tables.proofs.EveryProduct.{of_each}
use Rattle.class_tables.proofs.Facts.{supported_within}
use Rattle.class_tables.specs.declared.Product.{Product}

abbrev size_read : Class → ℕ → Bool
size_read k n = eqb (digit (size_digits k) n) (size_of k n)

pub size_in_digits : (pr : Product) (c n : ℕ) → 1 ≤ n → n ≤ 16 → digit (size_digits (class_for pr c)) n ≡ size_of (class_for pr c) n
size_in_digits pr c n h i =
    let k : Class = class_for pr c in
    eqb_eq (digit (size_digits k) n) (size_of k n)
    (all_among (size_read k) attribute_numbers (of_each (λ k. all (size_read k) attribute_numbers) (unfold computing_tables digit in (refl, refl)) pr c)
    n (numbers_among n h i))

pub read_off : (pr : Product) (c n : ℕ) {x r : ℕ} → 1 ≤ n → n ≤ 16 → x ≡ size_digits (class_for pr c) → r ≡ digit x n → r ≡ size_of (class_for pr c) n
read_off pr c n h i e d = d ∙ ap (λ (x : ℕ). digit x n) e ∙ size_in_digits pr c n h i

-- an attribute that a class has is one of sixteen, and its size is read off
pub is_numbered : (pr : Product) (c n : ℕ) → supported (class_for pr c) n ≡ true → (1 ≤ n) × (n ≤ 16)
is_numbered pr c n h = let k : Class = class_for pr c in within_among 1 n (keys k.attributes) (supported_within pr c) (sym (has_among n k.attributes) ∙ h)

pub size_read_off : (pr : Product) (c n : ℕ) {x r : ℕ} → supported (class_for pr c) n ≡ true → x ≡ size_digits (class_for pr c) → r ≡ digit x n → r ≡ size_of (class_for pr c) n
size_read_off pr c n h e d = let i = is_numbered pr c n h in read_off pr c n i.0 i.1 e d
