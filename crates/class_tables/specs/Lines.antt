-- The lines of the code's tables, class by class and product by product: what they mean is the catalogues of the rules.
use Rattle.std.specs.Prelude.{ℕ, [], ◌∷◌, ◌++◌}
use Rattle.rules.specs.Maps.{Map, given, find, computing_maps}
use Rattle.class_tables.specs.declared.Rule.TheVariants.{Any, Range, Listed, Pointer}
use Rattle.class_tables.specs.declared.Rights.TheVariants.{R, W, C, Wc, L}
use Rattle.class_tables.specs.declared.Way.TheVariants.{Copied, OfCreator, CountOf}
use Rattle.class_tables.specs.declared.Attribute.{Attribute}
use Rattle.class_tables.specs.declared.Product.{Product}
use Rattle.class_tables.specs.declared.Product.TheVariants.{Small, Large, Meter}
use Rattle.class_tables.specs.Meaning.{line, kept_line, carried_line, absent_line, with_avc, judged_if}

-- ---- the classes

unfoldable pub ont_data_lines : Map Attribute
ont_data_lines = (1, kept_line 1 0 W 0 Any) ∷ []

unfoldable pub uni_lines : Map Attribute
uni_lines =
    (1, kept_line 1 0 W 0 Any)
    ∷ (2, with_avc (kept_line 1 1 L 0 Any))
    ∷ (3, kept_line 1 2 W 0 Any)
    ∷ (4, kept_line 1 3 W 0 (Listed 0 3))
    ∷ (5, kept_line 1 4 W 0 (Range 0 1))
    ∷ (6, with_avc (kept_line 1 5 L 0 (Range 0 1)))
    ∷ []

unfoldable pub large_uni_lines : Map Attribute
large_uni_lines = uni_lines ++
    (7, kept_line 1 6 L 0 Any)
    ∷ (8, kept_line 2 7 W 1518 Any)
    ∷ (9, kept_line 1 9 W 0 (Range 0 2))
    ∷ (10, kept_line 2 10 W 0 Any)
    ∷ (11, kept_line 1 12 W 2 (Range 0 2))
    ∷ (12, kept_line 1 13 W 0 (Range 0 1))
    ∷ (13, kept_line 1 14 W 0 Any)
    ∷ []

-- those of Small that Meter has, closed up
unfoldable pub meter_uni_lines : Map Attribute
meter_uni_lines =
    (1, kept_line 1 0 W 0 Any)
    ∷ (2, with_avc (kept_line 1 1 L 0 Any))
    ∷ (5, kept_line 1 2 W 0 (Range 0 1))
    ∷ (6, with_avc (kept_line 1 3 L 0 (Range 0 1)))
    ∷ []

unfoldable pub profile_lines : Map Attribute
profile_lines =
    (1, carried_line 1 0 Wc (Range 0 1))
    ∷ (2, carried_line 1 1 Wc (Range 0 1))
    ∷ (3, carried_line 1 2 Wc (Range 0 1))
    ∷ (4, carried_line 2 3 Wc Any)
    ∷ (5, carried_line 2 5 Wc (Range 0x0600 0x2800))
    ∷ (6, carried_line 2 7 Wc (Range 0x0100 0x0A00))
    ∷ (7, carried_line 2 9 Wc (Range 0x0400 0x1E00))
    ∷ []

unfoldable pub bridge_lines : Map Attribute
bridge_lines =
    (1, kept_line 6 0 L 0 Any)
    ∷ (2, line 2 0 R (OfCreator 4) Any)
    ∷ (3, kept_line 8 6 L 0 Any)
    ∷ (4, kept_line 4 14 L 0 Any)
    ∷ (5, line 1 0 R (CountOf 47 1) Any)
    ∷ (6, kept_line 2 18 L 0 Any)
    ∷ []

unfoldable pub large_bridge_lines : Map Attribute
large_bridge_lines = bridge_lines ++ (7, line 2 20 L (Copied 6) Any) ∷ (8, line 2 22 L (Copied 7) Any) ∷ []

unfoldable pub port_lines : Map Attribute
port_lines =
    (1, carried_line 2 0 C (Pointer 45))
    ∷ (2, carried_line 1 2 C Any)
    ∷ (3, carried_line 1 3 C (Listed 1 2))
    ∷ (4, judged_if 3 (carried_line 2 4 C (Pointer 11)))
    ∷ (5, carried_line 2 6 Wc (Range 0 255))
    ∷ (6, carried_line 2 8 Wc (Range 1 65535))
    ∷ (7, carried_line 1 10 Wc (Range 0 1))
    ∷ (8, carried_line 1 11 Wc (Range 0 1))
    ∷ []

unfoldable pub large_port_lines : Map Attribute
large_port_lines = port_lines ++ (9, carried_line 1 12 Wc (Range 0 1)) ∷ []

-- ---- the products

-- the lines of each class
abbrev pub Lines : Type 0
Lines = Map (Map Attribute)

unfoldable pub small_lines : Lines
small_lines = (2, ont_data_lines) ∷ (11, uni_lines) ∷ (45, profile_lines) ∷ (46, bridge_lines) ∷ (47, port_lines) ∷ []

unfoldable pub large_lines : Lines
large_lines = (2, ont_data_lines) ∷ (11, large_uni_lines) ∷ (45, profile_lines) ∷ (46, large_bridge_lines) ∷ (47, large_port_lines) ∷ []

unfoldable pub meter_lines : Lines
meter_lines = (2, ont_data_lines) ∷ (11, meter_uni_lines) ∷ []

unfoldable pub lines_of : Product → Lines
lines_of Small = small_lines
lines_of Large = large_lines
lines_of Meter = meter_lines

-- ---- looking up

unfoldable pub lines_in : Lines → ℕ → Map Attribute
lines_in t c = given (find c t) [] (λ m. m)

unfoldable pub line_in : Map Attribute → ℕ → Attribute
line_in m n = given (find n m) absent_line (λ a. a)

-- the line of attribute n of class c
unfoldable pub line_for : Product → ℕ → ℕ → Attribute
line_for pr c n = line_in (lines_in (lines_of pr) c) n

unfoldable pub computing_lines : ℕ
unfolding ont_data_lines uni_lines large_uni_lines meter_uni_lines profile_lines bridge_lines large_bridge_lines port_lines large_port_lines
    small_lines large_lines meter_lines lines_of lines_in line_in line_for computing_maps
computing_lines = 0
