-- Everything that the tables are compared with computes where this name is unfolded.
use Rattle.std.specs.Prelude.{ℕ}
use Rattle.rules.specs.Run.{computing_rules}
use Rattle.rules.specs.Products.{computing_products}
use Rattle.store.specs.Layout.{computing_layout}
use Rattle.store.specs.Positions.{position, before, offset}
use Rattle.class_tables.specs.Built.{cat_of}
use Rattle.class_tables.specs.Meaning.{meaning}
use Rattle.class_tables.specs.Lines.{computing_lines}
use Rattle.class_tables.specs.Masks.{writable_numbers}
use Rattle.class_tables.specs.Sizes.{size_digits}

unfoldable pub computing_tables : ℕ
unfolding computing_rules computing_products computing_layout computing_lines cat_of meaning offset before writable_numbers size_digits position
computing_tables = 0
