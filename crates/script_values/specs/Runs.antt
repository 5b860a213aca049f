-- The bytes of a line: blanks, digits, runs of bytes of one kind, and words. A place is a column of the line, counted from 0.
use Rattle.std.specs.Prelude.{ℕ, suc, ◌+◌, ◌-◌, ◌≡◌, ◌<◌, ◌≤◌, Bool, not, ◌||◌, cond, List, [], ◌∷◌, length, take, drop, eqb, ltb, Option, Some, None, Result, Ok, Err}
use Rattle.std.specs.Char.{digit_value}
use Prim.Native.Char.{code}
use Rattle.script_values.specs.declared.Why.{Why}
use Rattle.script_values.specs.declared.Why.TheVariants as why
use Rattle.script_values.specs.declared.Wrong.{Wrong}
use Rattle.script_values.specs.declared.Word.{Word}

-- ---- what is read, or where and why it can't be

-- a place at which a line can't be read, and the reason
abbrev pub wrong_at : ℕ → Why → Wrong
wrong_at place why = record { place = place; why = why }

-- what follows from what was read
abbrev pub and_then : {A B : Type 0} → Result A Wrong → (A → Result B Wrong) → Result B Wrong
and_then (Ok x) f = f x
and_then (Err w) f = Err w

-- ---- bytes

-- a space, a tab or a carriage return
unfoldable pub is_blank : ℕ → Bool
is_blank c = eqb c (code " ") || (eqb c (code "\t") || eqb c (code "\r"))

-- passed over between hex digits: a blank or an underscore
unfoldable pub is_gap : ℕ → Bool
is_gap c = eqb c (code "_") || is_blank c

-- in a word: no blank
abbrev pub in_word : ℕ → Bool
in_word c = not (is_blank c)

-- in code, which ends where a comment begins
abbrev pub in_code : ℕ → Bool
in_code c = not (eqb c (code "#"))

-- the digit of a base up to 16 that a byte is: 0 to 9, A to F or a to f, below the base
unfoldable pub digit_in : ℕ → ℕ → Option ℕ
digit_in base c = cond (ltb (digit_value c) base) (Some (digit_value c)) None

-- ---- runs

-- how many bytes that pass a test come first
unfoldable pub run_length : (ℕ → Bool) → List ℕ → ℕ
run_length p [] = 0
run_length p (c ∷ l) = cond (p c) (suc (run_length p l)) 0

-- where a run ends that begins at a place
abbrev pub run_end : (ℕ → Bool) → List ℕ → ℕ → ℕ
run_end p text at = at + run_length p (drop at text)

-- what a closure gives of a byte is what a test gives of it
abbrev pub Computes : (ℕ → Bool → Type 0) → (ℕ → Bool) → Type 0
Computes gives p = (c : ℕ) (r : Bool) → c < 256 → gives c r → r ≡ p c

-- ---- words

-- the bytes of a text from a place to another
abbrev pub part : List ℕ → ℕ → ℕ → List ℕ
part text from to = take (to - from) (drop from text)

-- the word that begins at a place; at the end of the text, or behind it, one is missing
unfoldable pub word_from : List ℕ → ℕ → Result Word Wrong
word_from text from = cond (ltb from (length text)) (Ok (record { from = from; to = run_end in_word text from })) (Err (wrong_at from why.MissingWord))

-- the next word behind a place
abbrev pub next_word : List ℕ → ℕ → Result Word Wrong
next_word text at = word_from text (run_end is_blank text at)

-- a word has a byte, and lies within its text
pub record Within (text : List ℕ) (w : Word) : Type 0 where
  pub begins : w.from < length text
  pub forward : w.from ≤ w.to
  pub ends : w.to ≤ length text

unfoldable pub computing_runs : ℕ
unfolding is_blank is_gap digit_in run_length word_from
computing_runs = 0
