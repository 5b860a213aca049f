-- What a line of the code's tables means: an attribute of a catalogue.
use Rattle.std.specs.Prelude.{ℕ, Bool, true, false, [], ◌∷◌, Option, Some, None}
use Rattle.rules.specs.Maps.{Map}
use Rattle.rules.specs.Bytes.{bytes}
use Rattle.rules.specs.Catalogue as rules
use Rattle.rules.specs.Products.{any, from◌to◌, one_of, an_existing, existing_where}
use Rattle.class_tables.specs.declared.Rule.{Rule}
use Rattle.class_tables.specs.declared.Rule.TheVariants.{Any, Range, Listed, Pointer}
use Rattle.class_tables.specs.declared.Rights.{Rights}
use Rattle.class_tables.specs.declared.Rights.TheVariants.{R, W, C, Wc, L}
use Rattle.class_tables.specs.declared.Way.{Way}
use Rattle.class_tables.specs.declared.Way.TheVariants.{First, Carried, Copied, OfCreator, CountOf}
use Rattle.class_tables.specs.declared.Attribute.{Attribute}
use Rattle.class_tables.specs.declared.Unkept.{Unkept}

-- ---- lines

abbrev pub line : ℕ → ℕ → Rights → Way → Rule → Attribute
line size at rights way rule = record { size = size; at = at; rights = rights; avc = false; way = way; rule = rule; only_if = None }

-- stored, and so much at first; or carried by the Create
abbrev pub kept_line : ℕ → ℕ → Rights → ℕ → Rule → Attribute
kept_line size at rights first rule = line size at rights (First first) rule

abbrev pub carried_line : ℕ → ℕ → Rights → Rule → Attribute
carried_line size at rights rule = line size at rights Carried rule

-- no such attribute
abbrev pub absent_line : Attribute
absent_line = line 0 0 R (First 0) Any

abbrev pub with_avc : Attribute → Attribute
with_avc a = record { size = a.size; at = a.at; rights = a.rights; avc = true; way = a.way; rule = a.rule; only_if = a.only_if }

-- judged only where attribute n is 1
abbrev pub judged_if : ℕ → Attribute → Attribute
judged_if n a = record { size = a.size; at = a.at; rights = a.rights; avc = a.avc; way = a.way; rule = a.rule; only_if = Some n }

-- ---- their meaning

abbrev pub writes : Rights → Bool
writes R = false
writes W = true
writes C = false
writes Wc = true
writes L = false

abbrev pub carries : Rights → Bool
carries R = false
carries W = false
carries C = true
carries Wc = true
carries L = false

abbrev pub reports : Rights → Bool
reports R = false
reports W = false
reports C = false
reports Wc = false
reports L = true

abbrev pub source_of : ℕ → Way → rules.Source
source_of size (First v) = rules.stored (rules.constant (bytes size v))
source_of size Carried = rules.stored (rules.constant [])
source_of size (Copied n) = rules.stored (rules.copied n)
source_of size (OfCreator a) = rules.of_creator a
source_of size (CountOf d a) = rules.count_of d a

abbrev pub is_kept : Way → Bool
is_kept (First v) = true
is_kept Carried = true
is_kept (Copied n) = true
is_kept (OfCreator a) = false
is_kept (CountOf d a) = false

-- a pointer's rule, by the attribute that has to be 1, if there is one
abbrev pub pointer_rule : ℕ → Option ℕ → rules.Rule
pointer_rule c None = an_existing c
pointer_rule c (Some n) = existing_where n 1 c

abbrev pub rule_of : Rule → Option ℕ → rules.Rule
rule_of Any only_if = any
rule_of (Range low high) only_if = from low to high
rule_of (Listed a b) only_if = one_of (a ∷ b ∷ [])
rule_of (Pointer c) only_if = pointer_rule c only_if

abbrev pub is_any : Rule → Bool
is_any Any = true
is_any (Range low high) = false
is_any (Listed a b) = false
is_any (Pointer c) = false

unfoldable pub meaning : Attribute → rules.Attribute
meaning a = record {
  size = a.size;
  W = writes a.rights;
  C = carries a.rights;
  L = reports a.rights;
  avc = a.avc;
  source = source_of a.size a.way;
  rule = rule_of a.rule a.only_if;
}

-- ---- what isn't kept

abbrev pub unkept_of : Option Unkept → Map ℕ
unkept_of None = []
unkept_of (Some u) = (u.number, u.size) ∷ []
