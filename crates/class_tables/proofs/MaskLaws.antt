-- The bits of the masks: each tells of its attribute what the catalogue says.
use Prim.Native.Nat.{ℕ}
use native.Mathlib.Omega.{arith}
use mathlib.Core.Path.{◌≡◌, refl}
use mathlib.Core.Bool.{Bool, true, false}
use mathlib.Core.List.{List, []}
use lib.Dec.{eqb}
use Rattle.rules.specs.Maps.{keys, among, all}
use Rattle.rules.specs.Bytes.{bit}
use Rattle.rules.specs.Masks.{attribute_numbers, in_mask, mask}
use Rattle.rules.specs.Catalogue.{Class, attribute, supported}
use Rattle.rules.proofs.Laws.{eqb_eq, all_among}
use Rattle.class_tables.specs.Built.{class_for}
use Rattle.class_tables.specs.Masks.{writable_numbers}
use Rattle.class_tables.specs.Computing.{computing_tables}
use Rattle.class_tables.proofs.EveryProduct.{PassedBy, of_each}
use Rattle.class_tables.specs.declared.Product.{Product}

bit_eq : (a b : Bool) → bit a ≡ bit b → a ≡ b
bit_eq true true e = refl
bit_eq false false e = refl
bit_eq true false e = absurd (omega arith)
bit_eq false true e = absurd (omega arith)

abbrev agrees : (Class → List ℕ) → (Class → ℕ → Bool) → Class → Bool
agrees f p k = all (λ n. eqb (bit (in_mask (mask (f k)) n)) (bit (p k n))) attribute_numbers

bit_agrees : (f : Class → List ℕ) (p : Class → ℕ → Bool) → PassedBy [] (agrees f p)
    → (pr : Product) (c n : ℕ) → among n attribute_numbers ≡ true → in_mask (mask (f (class_for pr c))) n ≡ p (class_for pr c) n
bit_agrees f p h pr c n a =
    let k : Class = class_for pr c in
    bit_eq (in_mask (mask (f k)) n) (p k n)
    (eqb_eq (bit (in_mask (mask (f k)) n)) (bit (p k n))
    (all_among (λ m. eqb (bit (in_mask (mask (f k)) m)) (bit (p k m))) attribute_numbers (of_each (agrees f p) h pr c) n a))

module _ (pr : Product) (c n : ℕ) (a : among n attribute_numbers ≡ true) where
  pub supported_bit : in_mask (mask (keys (class_for pr c).attributes)) n ≡ supported (class_for pr c) n
  supported_bit = bit_agrees (λ k. keys k.attributes) supported (unfold computing_tables in (refl, refl)) pr c n a

  pub writable_bit : in_mask (mask (writable_numbers (class_for pr c))) n ≡ (attribute (class_for pr c) n).W
  writable_bit = bit_agrees writable_numbers (λ k m. (attribute k m).W) (unfold computing_tables in (refl, refl)) pr c n a
