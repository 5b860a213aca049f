-- What std prints of a byte by two hex digits, and of a number of two bytes by four.
use Prim.Native.Nat.{ℕ, suc, ◌-◌, ◌/◌, ◌%◌, ◌^◌, ◌<◌, ◌≤◌}
use native.Mathlib.Omega.{arith}
use mathlib.Core.Path.{◌≡◌, refl, ap, ◌∙◌}
use mathlib.Core.Bool.{true, false, cond}
use mathlib.Core.Logic.{◌≢◌}
use mathlib.Core.List.{List, [], ◌∷◌, ◌++◌}
use lib.Dec.{eqb, ltb}
use borrow.Author.Tests.{ne_eqb, eq-eqb, eqb-true, ltb-true, ltb-false}
use Rattle.rules.proofs.Laws.{cases}
use Rattle.std.proofs.lemmas.Bool.{agree_below_at}
use Rattle.std.proofs.lemmas.Fmt.{hex_byte, hex_one_digit, hex_two_digits}
use Rattle.std.specs.Fmt.{digits, digits_onto, digit_glyph, format_spec, padded_integral, char_count}
use Rattle.text_buffer.specs.Digits.{hex_digits, hex_digit, hex}

-- std's digits are those of the table: each was compared
glyph : (n : ℕ) → n < 16 → digit_glyph true n ≡ hex_digit n
unfolding hex_digits
glyph n h = eqb-true (digit_glyph true n) (hex_digit n) (agree_below_at (λ m. eqb (digit_glyph true m) (hex_digit m)) (λ m. true) 16 n refl h)

pub hex_of_byte : (n : ℕ) → n < 256 → padded_integral (format_spec 32 0 4 2 (2 ^ 64 - 1)) false [] (digits 16 true n) ≡ hex n
hex_of_byte n h = hex_byte true n h ∙ rw (glyph (n / 16) (omega arith), glyph (n % 16) (omega arith))

-- one digit is laid down, and more are left, or none
more : (k n : ℕ) (after : List ℕ) → n / 16 ≢ 0 → digits_onto (suc k) 16 true n after ≡ digits_onto k 16 true (n / 16) (digit_glyph true (n % 16) ∷ after)
more k n after e =
    ap (λ b. cond b (digit_glyph true (n % 16) ∷ after) (digits_onto k 16 true (n / 16) (digit_glyph true (n % 16) ∷ after))) (ne_eqb (n / 16) 0 e)

last : (k n : ℕ) (after : List ℕ) → n / 16 ≡ 0 → digits_onto (suc k) 16 true n after ≡ digit_glyph true (n % 16) ∷ after
last k n after e =
    ap (λ b. cond b (digit_glyph true (n % 16) ∷ after) (digits_onto k 16 true (n / 16) (digit_glyph true (n % 16) ∷ after))) (eq-eqb (n / 16) 0 e)

begun : (n : ℕ) → digits 16 true n ≡ digits_onto (suc 63) 16 true n []
unfolding digits
begun n = refl

three_digits : (n : ℕ) → 256 ≤ n → n < 4096
    → digits 16 true n ≡ digit_glyph true (n / 256 % 16) ∷ digit_glyph true (n / 16 % 16) ∷ digit_glyph true (n % 16) ∷ []
three_digits n low high =
    let a : n / 16 / 16 % 16 ≡ n / 256 % 16 = omega arith in
    begun n ∙ more 63 n [] (λ e. omega (arith, e)) ∙ more 62 (n / 16) _ (λ e. omega (arith, e)) ∙ last 61 (n / 16 / 16) _ (omega arith)
    ∙ ap (λ d. digit_glyph true d ∷ digit_glyph true (n / 16 % 16) ∷ digit_glyph true (n % 16) ∷ []) a

four_digits : (n : ℕ) → 4096 ≤ n → n < 65536
    → digits 16 true n ≡ digit_glyph true (n / 4096) ∷ digit_glyph true (n / 256 % 16) ∷ digit_glyph true (n / 16 % 16) ∷ digit_glyph true (n % 16) ∷ []
four_digits n low high =
    let a : n / 16 / 16 % 16 ≡ n / 256 % 16 = omega arith in
    let b : n / 16 / 16 / 16 % 16 ≡ n / 4096 = omega arith in
    begun n ∙ more 63 n [] (λ e. omega (arith, e)) ∙ more 62 (n / 16) _ (λ e. omega (arith, e)) ∙ more 61 (n / 16 / 16) _ (λ e. omega (arith, e))
    ∙ last 60 (n / 16 / 16 / 16) _ (omega arith)
    ∙ ap (λ d. digit_glyph true d ∷ digit_glyph true (n / 16 / 16 % 16) ∷ digit_glyph true (n / 16 % 16) ∷ digit_glyph true (n % 16) ∷ []) b
    ∙ ap (λ d. digit_glyph true (n / 4096) ∷ digit_glyph true d ∷ digit_glyph true (n / 16 % 16) ∷ digit_glyph true (n % 16) ∷ []) a

-- a number of two bytes with zeros in front
padded : List ℕ → List ℕ
padded = padded_integral (format_spec 32 0 4 4 (2 ^ 64 - 1)) false []

in_four : ℕ → List ℕ
in_four n = digit_glyph true (n / 4096) ∷ digit_glyph true (n / 256 % 16) ∷ digit_glyph true (n / 16 % 16) ∷ digit_glyph true (n % 16) ∷ []

module _ (n : ℕ) where
  of_one : n < 16 → padded (digits 16 true n) ≡ in_four n
  unfolding padded in_four padded_integral char_count
  of_one h =
      let a : n / 4096 ≡ 0 = omega arith in
      let b : n / 256 % 16 ≡ 0 = omega arith in
      let c : n / 16 % 16 ≡ 0 = omega arith in
      let d : n % 16 ≡ n = omega arith in
      rw (hex_one_digit true n h, a, b, c, d)

  of_two : 16 ≤ n → n < 256 → padded (digits 16 true n) ≡ in_four n
  unfolding padded in_four padded_integral char_count
  of_two l h =
      let a : n / 4096 ≡ 0 = omega arith in
      let b : n / 256 % 16 ≡ 0 = omega arith in
      let c : n / 16 % 16 ≡ n / 16 = omega arith in
      rw (hex_two_digits true n l h, a, b, c)

  of_three : 256 ≤ n → n < 4096 → padded (digits 16 true n) ≡ in_four n
  unfolding padded in_four padded_integral char_count
  of_three l h = let a : n / 4096 ≡ 0 = omega arith in rw (three_digits n l h, a)

  of_four : 4096 ≤ n → n < 65536 → padded (digits 16 true n) ≡ in_four n
  unfolding padded in_four padded_integral char_count
  of_four l h = rw (four_digits n l h)

  each : n < 65536 → padded (digits 16 true n) ≡ in_four n
  each h =
      cases (ltb n 16) (λ l. of_one (ltb-true n 16 l)) (λ m.
      cases (ltb n 256) (λ l. of_two (omega (arith, ltb-false n 16 m)) (ltb-true n 256 l)) (λ m.
      cases (ltb n 4096) (λ l. of_three (omega (arith, ltb-false n 256 m)) (ltb-true n 4096 l)) (λ m.
      of_four (omega (arith, ltb-false n 4096 m)) h)))

pub hex_of_number : (n : ℕ) → n < 65536 → padded_integral (format_spec 32 0 4 4 (2 ^ 64 - 1)) false [] (digits 16 true n) ≡ hex (n / 256) ++ hex (n % 256)
unfolding padded in_four
hex_of_number n h =
    let a : n / 4096 ≡ n / 256 / 16 = omega arith in
    let c : n / 16 % 16 ≡ n % 256 / 16 = omega arith in
    let d : n % 16 ≡ n % 256 % 16 = omega arith in
    each n h
    ∙ rw (glyph (n / 4096) (omega arith), glyph (n / 256 % 16) (omega arith), glyph (n / 16 % 16) (omega arith), glyph (n % 16) (omega arith), a, c, d)
