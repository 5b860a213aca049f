-- Legal contents, told from the bytes of an instance whose contents begin at a place of b.
use Rattle.std.specs.Prelude.{ℕ, ◌+◌, ◌<◌, ◌≡◌, Bool, true, not, cond, Option, Some, None, List, [], length, take, drop, eqb, ltb, leb}
use Rattle.rules.specs.Maps.{◌and◌, keys, keep}
use Rattle.rules.specs.Bytes.{number}
use Rattle.rules.specs.Catalogue.{Class, Catalogue, attribute, size_of, is_fixed}
use Rattle.rules.specs.Legal.{passes}
use Rattle.rules.specs.Commands.{cut}
use Rattle.class_tables.specs.Meaning.{meaning}
use Rattle.class_tables.specs.Describes.{offset_of, Looked}
use Rattle.class_tables.specs.declared.Rule.{Rule}
use Rattle.class_tables.specs.declared.Rule.TheVariants.{Any, Range, Listed, Pointer}
use Rattle.class_tables.specs.declared.Attribute.{Attribute}
use Rattle.table.specs.Live.{there_in}

-- is instance i of class c there, in the bytes of a live table? An instance's number has two bytes.
unfoldable pub is_in : Catalogue → List ℕ → ℕ → ℕ → Bool
is_in cat live c i = ltb i 65536 and there_in cat live c i

-- the number in a content of at most two bytes; wider ones aren't judged
unfoldable pub value_of : List ℕ → ℕ
value_of v = cond (leb (length v) 2) (number v) 0

-- the bytes of attribute n
abbrev pub bytes_at : Class → List ℕ → ℕ → ℕ → List ℕ
bytes_at k b at n = take (size_of k n) (drop (at + offset_of k n) b)

-- what a rule may look at beside its own content
unfoldable pub fixed_at : Class → List ℕ → ℕ → ℕ → List ℕ
fixed_at k b at n = cond (is_fixed (attribute k n)) (bytes_at k b at n) []

-- is v legal for attribute n, where these instances are there?
unfoldable pub legal_at : (ℕ → ℕ → Bool) → Class → List ℕ → ℕ → ℕ → List ℕ → Bool
legal_at there k b at n v = passes there ((attribute k n).rule v (fixed_at k b at))

-- those of the attributes l whose content, cut off v one after another, isn't legal
unfoldable pub bad_among : (ℕ → ℕ → Bool) → Class → List ℕ → ℕ → List ℕ → List ℕ → List ℕ
bad_among there k b at l v = keys (keep (λ n w. not (legal_at there k b at n w)) (cut (size_of k) l v))

-- ---- what a line of the tables has a rule look at

-- the number in the attribute that a pointer is judged by, or 0 where it is by none
abbrev pub looked_at : Rule → Option ℕ → (ℕ → List ℕ) → ℕ
looked_at Any n others = 0
looked_at (Range low high) n others = 0
looked_at (Listed a b) n others = 0
looked_at (Pointer c) None others = 0
looked_at (Pointer c) (Some n) others = number (others n)

-- is a pointer judged, by this attribute?
abbrev pub is_met : Option ℕ → (ℕ → List ℕ) → Bool
is_met None others = true
is_met (Some n) others = eqb (number (others n)) 1

-- is v legal for the attribute that a line describes, where these instances are there?
unfoldable pub legal_by : (ℕ → ℕ → Bool) → Class → List ℕ → ℕ → Attribute → List ℕ → Bool
legal_by there k b at a v = passes there ((meaning a).rule v (fixed_at k b at))

-- a line that can be judged: not by its rule if no u16 holds the content, and by no attribute that rules may not look at
pub record Judgeable (k : Class) (a : Attribute) : Type 0 where
  pub wide : 2 < a.size → a.rule ≡ Any
  pub looks : (c n : ℕ) → a.rule ≡ Pointer c → a.only_if ≡ Some n → Looked k n
