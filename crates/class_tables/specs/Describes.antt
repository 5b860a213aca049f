-- What a line of the code's tables says of an attribute of a class.
use Rattle.std.specs.Prelude.{ℕ, ◌+◌, ◌≤◌, ◌<◌, ◌≡◌, true, Some}
use Rattle.rules.specs.Catalogue.{Class, attribute, supported, size_of, is_stored, is_fixed, stored_numbers}
use Rattle.store.specs.Layout.{place_width}
use Rattle.store.specs.Positions.{offset}
use Rattle.class_tables.specs.declared.Rule.TheVariants.{Any, Pointer}
use Rattle.class_tables.specs.declared.Attribute.{Attribute}
use Rattle.class_tables.specs.declared.Product.{Product}
use Rattle.class_tables.specs.Meaning.{meaning}
use Rattle.class_tables.specs.Lines.{line_for}

-- where attribute n stands in the stored contents of an instance
abbrev pub offset_of : Class → ℕ → ℕ
offset_of k n = offset (size_of k) (stored_numbers k) n

-- an attribute of one byte that rules may look at
pub record Looked (k : Class) (n : ℕ) : Type 0 where
  pub is_there : supported k n ≡ true
  pub kept : is_stored (attribute k n).source ≡ true
  pub fixed : is_fixed (attribute k n) ≡ true
  pub one : size_of k n ≡ 1

-- the line r is attribute n of class k
pub record DescribedIn (k : Class) (n : ℕ) (r : Attribute) : Type 0 where
  pub is : meaning r ≡ attribute k n
  pub placed : is_stored (attribute k n).source ≡ true → supported k n ≡ true → r.at ≡ offset_of k n
  pub small : r.size ≤ 25
  pub near : r.at + r.size ≤ place_width
  -- what no u16 holds isn't judged
  pub wide : 2 < r.size → r.rule ≡ Any
  -- a pointer is judged by another attribute only if rules may look at that
  pub looks : (c i : ℕ) → r.rule ≡ Pointer c → r.only_if ≡ Some i → Looked k i

-- r is the line of attribute n of class c
pub record Describes (pr : Product) (c n : ℕ) (r : Attribute) : Type 0 where
  pub is_line : r ≡ line_for pr c n
