-- Bytes added to others, bit by bit.
use Rattle.std.specs.Prelude.{ℕ, List, [], ◌∷◌}
use Rattle.std.specs.Int.Bits.{bit_or}

unfoldable pub gathered : List ℕ → List ℕ → List ℕ
gathered [] m = []
gathered (x ∷ l) [] = x ∷ l
gathered (x ∷ l) (y ∷ m) = bit_or x y ∷ gathered l m
