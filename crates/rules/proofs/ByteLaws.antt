-- Lists of bytes: what is cut, joined and filled stays bytes.
use Prim.Native.Nat.{ℕ, zero, suc, ◌+◌, ◌*◌, ◌/◌, ◌%◌, ◌^◌, ◌≤◌, ◌<◌, ◌-◌}
use native.Mathlib.Omega.{arith}
use native.Mathlib.Nat.{pow-suc, mul_assoc, mul_comm}
use mathlib.Core.Path.{◌≡◌, refl, ◌∙◌, ap, sym}
use mathlib.Core.Bool.{Bool, true, false}
use mathlib.Core.List.{List, [], ◌∷◌, ◌++◌}
use lib.ListN.{length, take, drop, replicate, length-append, length-replicate, length-drop, get_or}
use lib.Seq.{length-take-le, take-nil, take-append-add, drop-cons}
use lib.Dec.{eqb}
use Rattle.rules.specs.Maps.{keys, every, all}
use Rattle.rules.specs.Bytes.{byte, two, number, number_from, bytes, fill, is_byte, are_bytes, bit, bits_from, bit_bytes}
use Rattle.rules.specs.Masks.{total}
use Rattle.rules.specs.Commands.{cut}
use Rattle.rules.proofs.Laws.{both, and_true, ltb_lt, lt-ltb, eqb_true, all_append}
use native.Mathlib.Numerals.{add-one}

pub bytes_append : (l m : List ℕ) → are_bytes l ≡ true → are_bytes m ≡ true → are_bytes (l ++ m) ≡ true
unfolding are_bytes
bytes_append l m h g = all_append is_byte l m h g

pub bytes_cons : (x : ℕ) (l : List ℕ) → x < 256 → are_bytes l ≡ true → are_bytes (x ∷ l) ≡ true
unfolding are_bytes all
bytes_cons x l h g = and_true (lt-ltb x 256 h) g

pub bytes_none : are_bytes [] ≡ true
unfolding are_bytes all
bytes_none = refl

pub bytes_take : (n : ℕ) (l : List ℕ) → are_bytes l ≡ true → are_bytes (take n l) ≡ true
unfolding are_bytes all
bytes_take zero l h = refl
bytes_take (suc n) [] h = refl
bytes_take (suc n) (x ∷ l) h = and_true (both h).0 (bytes_take n l (both h).1)

pub bytes_drop : (n : ℕ) (l : List ℕ) → are_bytes l ≡ true → are_bytes (drop n l) ≡ true
unfolding are_bytes all
bytes_drop zero l h = h
bytes_drop (suc n) [] h = refl
bytes_drop (suc n) (x ∷ l) h = bytes_drop n l (both h).1

pub bytes_zeros : (n : ℕ) → are_bytes (replicate n 0) ≡ true
unfolding are_bytes all
bytes_zeros zero = refl
bytes_zeros (suc n) = and_true refl (bytes_zeros n)

pub bytes_fill : (n : ℕ) (l : List ℕ) → are_bytes l ≡ true → are_bytes (fill n l) ≡ true
bytes_fill n l h = bytes_take n (l ++ replicate n 0) (bytes_append l (replicate n 0) h (bytes_zeros n))

pub length_fill : (n : ℕ) (l : List ℕ) → length (fill n l) ≡ n
length_fill n l = length-take-le n (l ++ replicate n 0) (simp (length-append, length-replicate) (omega arith))

pub bytes_of_number : (k n : ℕ) → are_bytes (bytes k n) ≡ true
unfolding bytes are_bytes all
bytes_of_number zero n = refl
bytes_of_number (suc k) n = and_true (lt-ltb (n / 256 ^ k % 256) 256 (omega arith)) (bytes_of_number k n)

pub byte_small : (l : List ℕ) (i : ℕ) → are_bytes l ≡ true → byte l i < 256
unfolding are_bytes all
byte_small [] zero h = omega arith
byte_small [] (suc i) h = omega arith
byte_small (x ∷ l) zero h = ltb_lt x 256 (both h).0
byte_small (x ∷ l) (suc i) h = byte_small l i (both h).1

pub two_small : (l : List ℕ) (i : ℕ) → are_bytes l ≡ true → two l i < 65536
two_small l i h =
    let a : byte l i < 256 = byte_small l i h in
    let b : byte l (i + 1) < 256 = byte_small l (i + 1) h in
    omega arith

-- what is known of a slice's elements, as a test
pub known_bytes : (b : List ℕ) → ((i : ℕ) → byte b i < 256) → are_bytes b ≡ true
known_bytes [] h = bytes_none
known_bytes (x ∷ b) h = bytes_cons x b (h 0) (known_bytes b (λ i. h (suc i)))

-- ---- filled lists

-- what fits isn't cut
pub fill_keeps : (n : ℕ) (v : List ℕ) → length v ≤ n → fill n v ≡ v ++ take (n - length v) (replicate n 0)
fill_keeps n v h =
    ap (λ (j : ℕ). take j (v ++ replicate n 0)) (let z : n ≡ length v + (n - length v) = omega arith in z)
    ∙ take-append-add v (replicate n 0) (n - length v)

pub take_zeros : (m n : ℕ) → m ≤ n → take {A = ℕ} m (replicate n 0) ≡ replicate m 0
take_zeros zero n h = refl
take_zeros (suc m) zero h = absurd (omega arith)
take_zeros (suc m) (suc n) h = ap (λ (l : List ℕ). 0 ∷ l) (take_zeros m n (omega arith))

pub fill_is : (n : ℕ) (v : List ℕ) → length v ≤ n → fill n v ≡ v ++ replicate (n - length v) 0
fill_is n v h = fill_keeps n v h ∙ ap (λ (z : List ℕ). v ++ z) (take_zeros (n - length v) n (omega arith))

pub fill_nothing : (n : ℕ) → fill n [] ≡ replicate n 0
fill_nothing n = take_zeros n n (omega arith)

-- ---- numbers

-- a number in one byte
pub number_of_one : (l : List ℕ) → length l ≡ 1 → are_bytes l ≡ true → number l < 256
unfolding number_from are_bytes all
number_of_one [] e h = absurd (omega (arith, e))
number_of_one (x ∷ []) e h = let p : x < 256 = ltb_lt x 256 (both h).0 in omega arith
number_of_one (x ∷ y ∷ l) e h = absurd (omega (arith, e))

-- ---- values cut off one after another

pub keys_cut : (size : ℕ → ℕ) (l v : List ℕ) → keys (cut size l v) ≡ l
unfolding keys cut
keys_cut size [] v = refl
keys_cut size (n ∷ l) v = ap (λ (x : List ℕ). n ∷ x) (keys_cut size l (drop (size n) v))

pub sized_cut : (size : ℕ → ℕ) (l v : List ℕ) → total size l ≤ length v → every (λ n w. eqb (length w) (size n)) (cut size l v) ≡ true
unfolding every cut total
sized_cut size [] v h = refl
sized_cut size (n ∷ l) v h = and_true
    (eqb_true (length (take (size n) v)) (size n) (length-take-le (size n) v (omega arith)))
    (sized_cut size l (drop (size n) v) (simp length-drop (omega arith)))

pub bytes_cut : (size : ℕ → ℕ) (l v : List ℕ) → are_bytes v ≡ true → every (λ n w. are_bytes w) (cut size l v) ≡ true
unfolding every cut
bytes_cut size [] v h = refl
bytes_cut size (n ∷ l) v h = and_true (bytes_take (size n) v h) (bytes_cut size l (drop (size n) v) (bytes_drop (size n) v h))

-- ---- bits

pub bits_below : (j : ℕ) (l : List Bool) (n b : ℕ) → n < b → bits_from n (take j l) < b * 2 ^ j
unfolding bits_from
bits_below zero l n b h = omega arith
bits_below (suc j) [] n b h =
    let r : bits_from n (take j []) < b * 2 * 2 ^ j = bits_below j [] n (b * 2) (omega arith) in
    rw (pow-suc 2 j, mul_comm (2 ^ j) 2, ← mul_assoc b 2 (2 ^ j)) (rw (take-nil {A = Bool} j) at r)
bits_below (suc j) (on ∷ l) n b h =
    rw (pow-suc 2 j, mul_comm (2 ^ j) 2, ← mul_assoc b 2 (2 ^ j)) (bits_below j l (n * 2 + bit on) (b * 2) (twice on))
  where
    twice : (on : Bool) → n * 2 + bit on < b * 2
    twice true = omega arith
    twice false = omega arith

pub eight_small : (l : List Bool) → bits_from 0 (take 8 l) < 256
eight_small l = bits_below 8 l 0 1 (omega arith)

pub bytes_of_bits : (k : ℕ) (l : List Bool) → are_bytes (bit_bytes k l) ≡ true
unfolding bit_bytes
bytes_of_bits zero l = bytes_none
bytes_of_bits (suc k) l = bytes_cons (bits_from 0 (take 8 l)) (bit_bytes k (drop 8 l)) (eight_small l) (bytes_of_bits k (drop 8 l))

-- ---- numbers as bytes

pub length_bytes : (k x : ℕ) → length (bytes k x) ≡ k
unfolding bytes
length_bytes zero x = refl
length_bytes (suc k) x = ap suc (length_bytes k x)

pub two_of_bytes : (n : ℕ) → n ≤ 65535 → two (bytes 2 n) 0 ≡ n
unfolding bytes
two_of_bytes n h = omega arith

pub drop_next : (l : List ℕ) (i : ℕ) → i < length l → drop i l ≡ get_or l i 0 ∷ drop (i + 1) l
drop_next l i h = drop-cons l i 0 h ∙ ap (λ (n : ℕ). get_or l i 0 ∷ drop n l) (sym (add-one i))
