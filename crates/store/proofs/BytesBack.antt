-- Numbers in two bytes and bits in one, read back.
use Prim.Native.Nat.{ℕ, ◌+◌, ◌*◌, ◌/◌, ◌%◌, ◌^◌, ◌<◌}
use native.Mathlib.Omega.{arith}
use native.Mathlib.Nat.{pow-suc, div-div-eq-div-mul}
use mathlib.Core.Path.{◌≡◌, refl}
use mathlib.Core.Bool.{Bool, true, false}
use mathlib.Core.List.{List, [], ◌∷◌, ◌++◌}
use lib.ListN.{length}
use lib.Dec.{eqb}
use Rattle.rules.specs.Bytes.{two, bytes, bit, bits_from, bits}
use Rattle.rules.proofs.Laws.{eqb_true, eqb_false}

-- ---- two bytes

pub two_back : (n : ℕ) → n < 65536 → (rest : List ℕ) → two (bytes 2 n ++ rest) 0 ≡ n
unfolding bytes
two_back n h rest = omega arith

-- ---- bits

-- the bits that came in front of these
pub bits_before : (l : List Bool) (n : ℕ) → bits_from n l / 2 ^ length l ≡ n
unfolding bits_from
bits_before [] n = omega arith
bits_before (b ∷ l) n =
    rw (pow-suc 2 (length l), ← div-div-eq-div-mul (bits_from (n * 2 + bit b) l) (2 ^ length l) 2, bits_before l (n * 2 + bit b)) (half b)
  where
    half : (b : Bool) → (n * 2 + bit b) / 2 ≡ n
    half true = omega arith
    half false = omega arith

-- a number's bits are those that it was made of
pub bits_back : (l : List Bool) (n : ℕ) → bits (length l) (bits_from n l) ≡ l
unfolding bits_from bits
bits_back [] n = refl
bits_back (b ∷ l) n = rw (bits_before l (n * 2 + bit b), bits_back l (n * 2 + bit b), last b)
  where
    last : (b : Bool) → eqb ((n * 2 + bit b) % 2) 1 ≡ b
    last true = eqb_true ((n * 2 + 1) % 2) 1 (omega arith)
    last false = eqb_false ((n * 2 + 0) % 2) 1 (omega arith)

pub byte_bits_back : (l : List Bool) → length l ≡ 8 → bits 8 (bits_from 0 l) ≡ l
byte_bits_back l h = rw (← h) (bits_back l 0)
