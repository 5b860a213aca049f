-- The drops of a report of an attribute, told from its line, from the bytes of a live table, and from where the instance's contents begin in them.
use Rattle.std.specs.Prelude.{ℕ, Bool, true, List}
use Rattle.rules.specs.Catalogue.{Class}
use Rattle.rules.specs.Reports.{drops_of_attribute}
use Rattle.class_tables.specs.declared.Attribute.{Attribute}
use Rattle.class_tables.specs.Meaning.{meaning}
use Rattle.attribute_check.specs.Judges.{legal_by}

-- content v of the attribute that line a describes, of an instance of class k whose contents begin at a place of b
unfoldable pub content_drops : (ℕ → ℕ → Bool) → Class → List ℕ → ℕ → Attribute → List ℕ → List (Bool × ℕ)
content_drops there k b at a v = drops_of_attribute true (meaning a) (legal_by there k b at a v) v
