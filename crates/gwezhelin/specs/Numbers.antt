-- The numbers that C gets for what a call comes to.
use Rattle.std.specs.Prelude.{ℕ, ◌≡◌, List}
use Rattle.std.proofs.Math.Option.{Option, none, some}
use Rattle.rules.specs.Reports as rules
use Rattle.store.specs.Entries.{Left}

-- 0: the buffer's first 48 bytes are to be sent; 255: nothing is; else the drop's number
abbrev pub number_for : rules.Outcome → ℕ
number_for (rules.dropped n) = n
number_for rules.quiet = 255
number_for (rules.answered r) = 0

-- what C gets, and what the call left, are those of x
pub record Returns (r : ℕ) (store buffer : List ℕ) (x : Left) : Type 0 where
  pub its_number : r ≡ number_for x.outcome
  pub its_store : store ≡ x.store
  pub its_buffer : buffer ≡ x.buffer

-- of a power-on: 0, or the drop's number
abbrev pub start_number_for : Option ℕ → ℕ
start_number_for none = 0
start_number_for (some n) = n

pub record StartReturns (r : ℕ) (store : List ℕ) (x : Option ℕ × List ℕ) : Type 0 where
  pub its_number : r ≡ start_number_for x.0
  pub its_store : store ≡ x.1
