-- The digits of a number, one after another; and the number in a word.
use Prim.Native.Nat.{ℕ, ◌+◌, ◌*◌, ◌≤◌, ◌<◌}
use native.Mathlib.Numerals.{add-one}
use native.Mathlib.Omega.{arith}
use mathlib.Core.Path.{◌≡◌, refl}
use mathlib.Core.Bool.{true, false}
use mathlib.Core.List.{List, [], ◌∷◌}
use lib.ListN.{length, drop, get_or, drop_of_length-le}
use lib.Seq.{drop-cons}
use borrow.Author.Tests.{lt-leb}
use Rattle.std.specs.Prelude.{Some, None, Ok, Err}
use Rattle.rules.proofs.Laws.{le-leb}
use Rattle.script_values.specs.declared.Why.TheVariants as why
use Rattle.script_values.specs.Runs.{wrong_at, digit_in}
use Rattle.script_values.specs.Numbers.{digits_from, digits_at, number_in, hex_marked}

module _ (base limit place : ℕ) where
  pub no_digits : (s : List ℕ) → length s ≡ 0 → digits_at base limit place s ≡ Err (wrong_at place why.NotANumber)
  unfolding digits_at
  no_digits [] h = refl
  no_digits (c ∷ s) h = absurd (omega arith)

  pub some_digits : (s : List ℕ) → (length s ≡ 0 → ⊥) → digits_from base limit 0 place s ≡ digits_at base limit place s
  unfolding digits_at
  some_digits [] h = absurd (h refl)
  some_digits (c ∷ s) h = refl

module _ (base limit value place : ℕ) (s : List ℕ) (i : ℕ) where
  pub digits_end : length s ≤ i → digits_from base limit value place (drop i s) ≡ Ok value
  unfolding digits_from
  digits_end h = rw (drop_of_length-le s h)

  module _ (h : i < length s) where
    pub digit_bad : digit_in base (get_or s i 0) ≡ None → digits_from base limit value place (drop i s) ≡ Err (wrong_at place why.NotANumber)
    unfolding digits_from
    digit_bad e = rw (drop-cons s i 0 h, e)

    module _ (d : ℕ) (e : digit_in base (get_or s i 0) ≡ Some d) where
      pub digit_large : limit < value * base + d → digits_from base limit value place (drop i s) ≡ Err (wrong_at place why.NumberTooLarge)
      unfolding digits_from
      digit_large l = rw (drop-cons s i 0 h, e, lt-leb (value * base + d) limit l)

      pub digit_good : (next : ℕ) → next ≡ place + 1 → value * base + d ≤ limit
          → digits_from base limit value place (drop i s) ≡ digits_from base limit (value * base + d) next (drop (i + 1) s)
      unfolding digits_from
      digit_good next n l = rw (n, add-one i, drop-cons s i 0 h, e, le-leb (value * base + d) limit l)

-- ---- a number in a word

pub hex_number : (limit place : ℕ) (w : List ℕ) → hex_marked w ≡ true → digits_at 16 limit (place + 2) (drop 2 w) ≡ number_in limit place w
unfolding number_in
hex_number limit place w e = rw e

pub decimal_number : (limit place : ℕ) (w : List ℕ) → hex_marked w ≡ false → digits_at 10 limit place w ≡ number_in limit place w
unfolding number_in
decimal_number limit place w e = rw e
