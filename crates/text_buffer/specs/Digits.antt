-- Bytes and numbers as hex digits.
use Rattle.std.specs.Prelude.{ℕ, ◌/◌, ◌%◌, List, [], ◌∷◌, ◌++◌, get_or}

-- 0 to 9, A to F
unfoldable pub hex_digits : List ℕ
hex_digits = 48 ∷ 49 ∷ 50 ∷ 51 ∷ 52 ∷ 53 ∷ 54 ∷ 55 ∷ 56 ∷ 57 ∷ 65 ∷ 66 ∷ 67 ∷ 68 ∷ 69 ∷ 70 ∷ []

-- the digit of a number below 16
abbrev pub hex_digit : ℕ → ℕ
hex_digit n = get_or hex_digits n 0

-- the two digits of a byte
abbrev pub hex : ℕ → List ℕ
hex b = hex_digit (b / 16) ∷ hex_digit (b % 16) ∷ []

-- the digits of bytes, with nothing between them
unfoldable pub hexes : List ℕ → List ℕ
hexes [] = []
hexes (b ∷ l) = hex b ++ hexes l

-- 0x and four digits
abbrev pub hex_number : ℕ → List ℕ
hex_number n = 48 ∷ 120 ∷ (hex (n / 256) ++ hex (n % 256))
