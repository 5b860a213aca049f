-- Bytes and the numbers that they hold, the highest byte first.
use Rattle.std.specs.Prelude.{ℕ, zero, suc, ◌+◌, ◌*◌, ◌/◌, ◌%◌, ◌^◌, Bool, true, false, List, [], ◌∷◌, ◌++◌, length, take, drop, get_or, replicate, eqb, ltb}
use Rattle.rules.specs.Maps.{all}

abbrev pub byte : List ℕ → ℕ → ℕ
byte l i = get_or l i 0

-- the number in two bytes
abbrev pub two : List ℕ → ℕ → ℕ
two l i = byte l i * 256 + byte l (i + 1)

unfoldable pub number_from : ℕ → List ℕ → ℕ
number_from n [] = n
number_from n (x ∷ l) = number_from (n * 256 + x) l

-- the number that bytes hold
abbrev pub number : List ℕ → ℕ
number l = number_from 0 l

-- a number in so many bytes
unfoldable pub bytes : ℕ → ℕ → List ℕ
bytes zero n = []
bytes (suc k) n = n / 256 ^ k % 256 ∷ bytes k n

-- a list made to a length: cut, or zeros put behind it
abbrev pub fill : ℕ → List ℕ → List ℕ
fill n l = take n (l ++ replicate n 0)

abbrev pub is_byte : ℕ → Bool
is_byte x = ltb x 256

unfoldable pub are_bytes : List ℕ → Bool
are_bytes l = all is_byte l

unfoldable pub all_zero : List ℕ → Bool
all_zero l = all (λ x. eqb x 0) l

-- v laid over b from a place on
unfoldable pub laid : ℕ → List ℕ → List ℕ → List ℕ
laid at v b = take at b ++ (v ++ drop (at + length v) b)

-- ---- bits, the top one first

abbrev pub bit : Bool → ℕ
bit true = 1
bit false = 0

unfoldable pub bits_from : ℕ → List Bool → ℕ
bits_from n [] = n
bits_from n (b ∷ l) = bits_from (n * 2 + bit b) l

-- so many bytes of bits
unfoldable pub bit_bytes : ℕ → List Bool → List ℕ
bit_bytes zero l = []
bit_bytes (suc k) l = bits_from 0 (take 8 l) ∷ bit_bytes k (drop 8 l)

-- the lowest so many bits of a number
unfoldable pub bits : ℕ → ℕ → List Bool
bits zero x = []
bits (suc k) x = eqb (x / 2 ^ k % 2) 1 ∷ bits k x

unfoldable pub computing_bytes : ℕ
unfolding number_from bytes are_bytes all_zero laid bits_from bit_bytes bits
computing_bytes = 0
