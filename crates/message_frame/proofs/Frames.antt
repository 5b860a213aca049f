-- A message as it is begun: its eight bytes in front, and what follows them.
use Prim.Native.Nat.{ℕ, ◌+◌, ◌/◌, ◌%◌, ◌≤◌, ◌<◌}
use native.Mathlib.Omega.{arith}
use mathlib.Core.Path.{◌≡◌, refl}
use mathlib.Core.List.{List, [], ◌∷◌, ◌++◌, append_assoc}
use lib.ListN.{length, take, drop, set, length-append}
use lib.Seq.{take_at, drop_at, drop-drop}
use borrow.Rule.Slice.PartMut.{put_mid, post_of}
use Rattle.rules.specs.Bytes.{bytes, fill}
use Rattle.rules.specs.Messages.{trailer, checksum, framed}

-- a number of two bytes, as `put_number` writes it
abbrev pub with_number : ℕ → ℕ → List ℕ → List ℕ
with_number i n l = take i l ++ (bytes 2 n ++ drop (i + 2) l)

-- all of eight bytes written
pub header : (l : List ℕ) → length l ≡ 8 → (id kind class number : ℕ)
    → with_number 6 number (with_number 4 class (set (set (with_number 0 id l) 2 kind) 3 0x0A)) ≡ bytes 2 id ++ (kind ∷ 0x0A ∷ (bytes 2 class ++ bytes 2 number))
unfolding bytes
header (x₀ ∷ x₁ ∷ x₂ ∷ x₃ ∷ x₄ ∷ x₅ ∷ x₆ ∷ x₇ ∷ []) h id kind class number = refl
header [] h id kind class number = absurd (omega (arith, h))
header (x₀ ∷ []) h id kind class number = absurd (omega (arith, h))
header (x₀ ∷ x₁ ∷ []) h id kind class number = absurd (omega (arith, h))
header (x₀ ∷ x₁ ∷ x₂ ∷ []) h id kind class number = absurd (omega (arith, h))
header (x₀ ∷ x₁ ∷ x₂ ∷ x₃ ∷ []) h id kind class number = absurd (omega (arith, h))
header (x₀ ∷ x₁ ∷ x₂ ∷ x₃ ∷ x₄ ∷ []) h id kind class number = absurd (omega (arith, h))
header (x₀ ∷ x₁ ∷ x₂ ∷ x₃ ∷ x₄ ∷ x₅ ∷ []) h id kind class number = absurd (omega (arith, h))
header (x₀ ∷ x₁ ∷ x₂ ∷ x₃ ∷ x₄ ∷ x₅ ∷ x₆ ∷ []) h id kind class number = absurd (omega (arith, h))
header (x₀ ∷ x₁ ∷ x₂ ∷ x₃ ∷ x₄ ∷ x₅ ∷ x₆ ∷ x₇ ∷ y ∷ l) h id kind class number = absurd (omega (arith, h))

-- two bytes are those of a number
pub two_bytes : (n h l : ℕ) → n < 65536 → h ≡ n / 256 → l ≡ n % 256 → h ∷ l ∷ [] ≡ bytes 2 n
unfolding bytes
two_bytes n h l s e f =
    let x : n / 256 % 256 ≡ h = let z : n / 256 < 256 = omega arith in omega arith in
    let y : n / 1 % 256 ≡ l = omega arith in
    rw (x, y)

-- two parts of a buffer written one after the other
pub written : (id : List ℕ) (kind : ℕ) (entity h r b : List ℕ) → length id ≡ 2 → length entity ≡ 4 → 48 ≤ length b
    → h ≡ id ++ (kind ∷ 0x0A ∷ entity) → r ≡ fill 32 [] ++ (trailer ++ checksum)
    → put_mid 8 40 (h ++ post_of 0 8 b) r ≡ framed id kind entity [] ++ drop 48 b
unfolding framed
written id kind entity h r b li le lb eh er =
    let lh : length h ≡ 8 = rw (eh, length-append id (kind ∷ 0x0A ∷ entity)) (omega arith) in
    let lr : drop 40 (drop 8 (h ++ drop 8 b)) ≡ drop 48 b = rw (drop_at h (drop 8 b) 8 lh) (drop-drop 40 8 b) in
    rw (take_at h (drop 8 b) 8 lh, lr, eh, er) (simp append_assoc)
