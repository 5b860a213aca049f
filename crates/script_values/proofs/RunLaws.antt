-- A run of bytes, at its next byte and at its end; and the word that a run is.
use Prim.Native.Nat.{ℕ, ◌+◌, ◌≤◌, ◌<◌}
use native.Mathlib.Numerals.{add-one}
use native.Mathlib.Omega.{arith}
use mathlib.Core.Path.{◌≡◌}
use mathlib.Core.Bool.{Bool, true, false}
use mathlib.Core.List.{List}
use lib.ListN.{length, get_or, drop_of_length-le}
use lib.Seq.{drop-cons}
use Rattle.std.specs.Prelude.{Ok, Err}
use Rattle.rules.proofs.Laws.{lt-ltb, le-ltb}
use Rattle.script_values.specs.declared.Why.TheVariants as why
use Rattle.script_values.specs.Runs.{wrong_at, is_blank, in_word, run_length, run_end, word_from, next_word}

module _ (p : ℕ → Bool) (s : List ℕ) (i : ℕ) where
  pub run_more : i < length s → p (get_or s i 0) ≡ true → run_end p s i ≡ run_end p s (i + 1)
  unfolding run_length
  run_more h e = rw (add-one i, drop-cons s i 0 h, e) (omega arith)

  pub run_stops : i < length s → p (get_or s i 0) ≡ false → run_end p s i ≡ i
  unfolding run_length
  run_stops h e = rw (drop-cons s i 0 h, e) (omega arith)

  pub run_over : length s ≤ i → run_end p s i ≡ i
  unfolding run_length
  run_over h = rw (drop_of_length-le s h) (omega arith)

-- ---- words

module _ (text : List ℕ) (at from : ℕ) (f : from ≡ run_end is_blank text at) where
  pub word_missing : length text ≤ from → Err (wrong_at from why.MissingWord) ≡ next_word text at
  unfolding word_from
  word_missing h = rw (← f, le-ltb from (length text) h)

  pub word_is : (to : ℕ) → from < length text → to ≡ run_end in_word text from → Ok (record { from = from; to = to }) ≡ next_word text at
  unfolding word_from
  word_is to h t = rw (← f, lt-ltb from (length text) h, ← t)
