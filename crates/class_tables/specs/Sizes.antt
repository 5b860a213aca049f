-- The sizes of a class's attributes in one number.
use Rattle.std.specs.Prelude.{ℕ, ◌-◌, ◌*◌, ◌^◌}
use Rattle.rules.specs.Masks.{attribute_numbers, total}
use Rattle.rules.specs.Catalogue.{Class, size_of}

-- a hexadecimal digit each: attribute 1's is the top one of sixteen; a digit holds at most 15, and so many bytes an attribute may have
-- (`WellFormed` allows 25). A table with a larger one is refused: `SizeLaws.size_in_digits` is computed over all of them.
unfoldable pub size_digits : Class → ℕ
size_digits k = total (λ n. size_of k n * 16 ^ (16 - n)) attribute_numbers
