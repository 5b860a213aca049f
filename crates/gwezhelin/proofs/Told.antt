-- From what an entry left to the number that C gets.
use Prim.Native.Nat.{ℕ}
use mathlib.Core.Path.{◌≡◌, refl, ◌∙◌, ap}
use mathlib.Core.Option.{Option}
use mathlib.Core.List.{List, []}
use Rattle.store.specs.Entries.{Left}
use Rattle.outcome.specs.declared.Outcome.{Outcome}
use Rattle.outcome.specs.declared.Outcome.TheVariants.{Answered, Quiet}
use Rattle.std.specs.Prelude.{Result, Ok, Err}
use Rattle.message_frame.specs.declared.drops.DropReason.{DropReason}
use Rattle.outcome.specs.Outcomes.{outcome_of, left_by, started_of}
use Rattle.gwezhelin.specs.Numbers.{number_for, start_number_for, Returns, StartReturns}

-- an answer's number doesn't lie in the buffer
same_number : (o : Result Outcome DropReason) (b : List ℕ) → number_for (outcome_of o []) ≡ number_for (outcome_of o b)
same_number (Ok Answered) b = refl
same_number (Ok Quiet) b = refl
same_number (Err d) b = refl

pub told : (o : Result Outcome DropReason) (r : ℕ) (store buffer : List ℕ) (x : Left) → r ≡ number_for (outcome_of o []) → left_by o store buffer ≡ x → Returns r store buffer x
told o r store buffer x e f = record {
  its_number = e ∙ same_number o buffer ∙ ap (λ (l : Left). number_for l.outcome) f;
  its_store = ap (λ (l : Left). l.store) f;
  its_buffer = ap (λ (l : Left). l.buffer) f;
}

pub start_told : (o : Result (Unit {0}) DropReason) (r : ℕ) (store : List ℕ) (x : Option ℕ × List ℕ) → r ≡ start_number_for (started_of o) → (started_of o, store) ≡ x → StartReturns r store x
start_told o r store x e f = record { its_number = e ∙ ap (λ (p : Option ℕ × List ℕ). start_number_for p.0) f; its_store = ap (λ (p : Option ℕ × List ℕ). p.1) f }
