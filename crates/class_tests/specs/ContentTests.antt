-- The contents of a class as one test of bytes, made of the lines of its attributes: what the code's straight-line tests say.
use Rattle.std.specs.Prelude.{ℕ, Bool, true, false, cond, leb, List, [], ◌∷◌, map, ◌==◌, nat_eq, nat_le, Option, Some, None}
use Rattle.rules.specs.Maps.{◌and◌, ◌or◌, Map, keep}
use Rattle.rules.specs.Bytes.{byte, two}
use Rattle.rules.specs.Catalogue.{Creation, created, automatic, comes_with, Catalogue, class}
use Rattle.rules.specs.Legal.{may_be_there}
use Rattle.class_tables.specs.declared.Rule.{Rule}
use Rattle.class_tables.specs.declared.Rule.TheVariants.{Any, Range, Listed, Pointer}
use Rattle.class_tables.specs.declared.Attribute.{Attribute}
use Rattle.class_tables.specs.declared.Product.{Product}
use Rattle.class_tables.specs.Built.{cat_of}
use Rattle.class_tables.specs.Meaning.{is_kept}
use Rattle.class_tables.specs.Lines.{lines_of, lines_in, line_in}

-- ---- one attribute

-- the number in the one or two bytes of a line
abbrev pub value_in : Attribute → List ℕ → ℕ
value_in a b = cond (a.size == 1) (byte b a.at) (two b a.at)

-- a range, without the ends that no number passes
abbrev pub within : ℕ → ℕ → ℕ → Bool
within low high x = cond (low == 0) (nat_le x high) (cond (high == 65535) (nat_le low x) (leb low x and leb x high))

-- a pointer is judged where this attribute of its instance is 1; none: always
abbrev pub is_judged : Map Attribute → List ℕ → Option ℕ → Bool
is_judged m b None = true
is_judged m b (Some n) = byte b (line_in m n).at == 1

-- what a rule says of the number in a content; a pointer is judged or not
abbrev pub rule_test : Catalogue → Bool → Rule → ℕ → Bool
rule_test cat judged Any x = true
rule_test cat judged (Range low high) x = within low high x
rule_test cat judged (Listed a b) x = nat_eq x a or nat_eq x b
rule_test cat judged (Pointer c) x = cond judged (may_be_there (class cat c).creation x) true

-- a line of the lines m
abbrev pub line_test : Catalogue → Map Attribute → List ℕ → Attribute → Bool
line_test cat m b a = rule_test cat (is_judged m b a.only_if) a.rule (value_in a b)

-- ---- a class

abbrev pub always_there : Creation → Bool
always_there created = false
always_there (automatic l) = true
always_there (comes_with c) = false

-- can a content fail by its rule? A created instance that it names may since be gone.
abbrev pub can_fail : Catalogue → Rule → Bool
can_fail cat Any = false
can_fail cat (Range low high) = true
can_fail cat (Listed a b) = true
can_fail cat (Pointer c) = always_there (class cat c).creation

-- the stored lines that can fail
unfoldable pub judged_lines : Catalogue → Map Attribute → Map Attribute
judged_lines cat m = keep (λ n a. is_kept a.way and can_fail cat a.rule) m

-- tests joined one after another
unfoldable pub joined : Bool → List Bool → Bool
joined x [] = x
joined x (y ∷ l) = joined (x and y) l

unfoldable pub all_pass : List Bool → Bool
all_pass [] = true
all_pass (x ∷ l) = joined x l

unfoldable pub lines_test : Catalogue → Map Attribute → List ℕ → Bool
lines_test cat m b = all_pass (map (λ e. line_test cat m b e.1) (judged_lines cat m))

-- the contents of an instance of class c
unfoldable pub contents_test : Product → ℕ → List ℕ → Bool
contents_test pr c b = lines_test (cat_of pr) (lines_in (lines_of pr) c) b

-- the two lines of a port that belong together: its TPType, and its TPPointer, which is judged where TPType is 1
abbrev pub pointer_test : Product → List ℕ → Bool
pointer_test pr b = (nat_eq (byte b 3) 1 or nat_eq (byte b 3) 2) and cond (byte b 3 == 1) (may_be_there (class (cat_of pr) 11).creation (two b 4)) true

unfoldable pub computing_tests : ℕ
unfolding judged_lines joined all_pass lines_test contents_test
computing_tests = 0
