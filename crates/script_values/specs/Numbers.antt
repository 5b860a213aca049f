-- Numbers, in decimal, or in hex behind `0x`.
use Rattle.std.specs.Prelude.{ℕ, ◌+◌, ◌*◌, Bool, cond, List, [], ◌∷◌, take, drop, leb, Result, Ok, Err, codes}
use Rattle.std.specs.Option.{ok_or}
use Rattle.std.specs.Str.{bytes_eq}
use Rattle.script_values.specs.declared.Why.TheVariants as why
use Rattle.script_values.specs.declared.Wrong.{Wrong}
use Rattle.script_values.specs.declared.Word.{Word}
use Rattle.script_values.specs.declared.Number.{Number}
use Rattle.script_values.specs.declared.Three.{Three}
use Rattle.script_values.specs.Runs.{wrong_at, and_then, digit_in, part, next_word}

-- digits one after another, behind those that gave a value: each must be a digit, and the value stay within the limit
unfoldable pub digits_from : ℕ → ℕ → ℕ → ℕ → List ℕ → Result ℕ Wrong
digits_from base limit value place [] = Ok value
digits_from base limit value place (c ∷ l) =
    and_then (ok_or (digit_in base c) (wrong_at place why.NotANumber))
    (λ d. cond (leb (value * base + d) limit) (digits_from base limit (value * base + d) (place + 1) l) (Err (wrong_at place why.NumberTooLarge)))

-- at least one digit
unfoldable pub digits_at : ℕ → ℕ → ℕ → List ℕ → Result ℕ Wrong
digits_at base limit place [] = Err (wrong_at place why.NotANumber)
digits_at base limit place (c ∷ l) = digits_from base limit 0 place (c ∷ l)

-- does a word begin with 0x?
abbrev pub hex_marked : List ℕ → Bool
hex_marked w = bytes_eq (take 2 w) (codes "0x")

-- the number that a word at a place holds
unfoldable pub number_in : ℕ → ℕ → List ℕ → Result ℕ Wrong
number_in limit place w = cond (hex_marked w) (digits_at 16 limit (place + 2) (drop 2 w)) (digits_at 10 limit place w)

-- the number that a word of a text holds
abbrev pub number_of : ℕ → List ℕ → Word → Result Number Wrong
number_of limit text w = and_then (number_in limit w.from (part text w.from w.to)) (λ v. Ok (record { value = v; next = w.to }))

-- the number in the next word
unfoldable pub next_number : ℕ → List ℕ → ℕ → Result Number Wrong
next_number limit text at = and_then (next_word text at) (number_of limit text)

-- the class, the instance's number, and the number of an attribute or an alarm
unfoldable pub three_numbers : List ℕ → ℕ → Result Three Wrong
three_numbers text at =
    and_then (next_number 65535 text at)
    (λ class. and_then (next_number 65535 text class.next)
    (λ number. and_then (next_number 255 text number.next)
    (λ third. Ok (record { class = class.value; number = number.value; third = third.value; next = third.next }))))

unfoldable pub computing_numbers : ℕ
unfolding digits_from digits_at number_in next_number three_numbers
computing_numbers = 0
