-- Bytes in hex: two digits a byte, the high one first, blanks and underscores between digits passed over.
use Rattle.std.specs.Prelude.{ℕ, ◌+◌, ◌*◌, ◌≡◌, not, cond, List, [], ◌∷◌, ◌++◌, length, drop, leb, Result, Ok, Err}
use Rattle.std.specs.Option.{ok_or}
use Rattle.rules.specs.Maps.{put_if}
use Rattle.rules.specs.Bytes.{laid}
use Rattle.script_values.specs.declared.Why.TheVariants as why
use Rattle.script_values.specs.declared.Wrong.{Wrong}
use Rattle.script_values.specs.Runs.{wrong_at, is_gap, digit_in}

-- what was read, and the bytes that were read, up to a fault if there is one
abbrev pub Decoded : Type 0
Decoded = Result ℕ Wrong × List ℕ

-- an answer and bytes, as a function gives them that lays the bytes over the first ones of a buffer
pub record Gives {A : Type 0} (d : A × List ℕ) (answer : A) (before after : List ℕ) : Type 0 where
  pub says : answer ≡ d.0
  pub lays : after ≡ laid 0 d.1 before

-- the bytes of a text that aren't passed over, each with its place
unfoldable pub marks : ℕ → List ℕ → List (ℕ × ℕ)
marks place [] = []
marks place (c ∷ l) = put_if (not (is_gap c)) (place, c) (marks (place + 1) l)

-- the hex digit that a byte at a place is
unfoldable pub hex_digit : ℕ → ℕ → Result ℕ Wrong
hex_digit place c = ok_or (digit_in 16 c) (wrong_at place why.NotHex)

-- what follows from a hex digit, behind the bytes that were read
abbrev pub with_digit : List ℕ → Result ℕ Wrong → (ℕ → Decoded) → Decoded
with_digit done (Ok d) f = f d
with_digit done (Err w) f = (Err w, done)

-- pairs of digits, behind those that were read, in a room for so many bytes
unfoldable pub pairs : ℕ → List ℕ → List (ℕ × ℕ) → Decoded
pairs room done [] = (Ok (length done), done)
pairs room done (m ∷ []) = with_digit done (hex_digit m.0 m.1) (λ high. (Err (wrong_at m.0 why.HalfByte), done))
pairs room done (m ∷ n ∷ l) =
    with_digit done (hex_digit m.0 m.1)
    (λ high. with_digit done (hex_digit n.0 n.1)
    (λ low. cond (leb room (length done)) (Err (wrong_at m.0 why.TooLong), done) (pairs room (done ++ ((high * 16 + low) ∷ [])) l)))

-- the bytes in hex from a place to the end of a text
abbrev pub hex_from : ℕ → List ℕ → ℕ → Decoded
hex_from room text at = pairs room [] (marks at (drop at text))

unfoldable pub computing_hex : ℕ
unfolding marks hex_digit pairs
computing_hex = 0
