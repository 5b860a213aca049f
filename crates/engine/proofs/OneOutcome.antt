-- Each entry's contract allows one outcome, one store and one reply buffer for an input.
use Prim.Native.Nat.{ℕ}
use mathlib.Core.Path.{◌≡◌, refl, sym, ◌∙◌, ap}
use mathlib.Core.Option.{Option, none, some}
use mathlib.Core.Bool.{cond}
use mathlib.Core.List.{List}
use lib.Dec.{eqb}
use Rattle.rules.specs.Products.{built_products}
use Rattle.rules.specs.Reports as rules
use Rattle.rules.specs.Run.{Call}
use Rattle.store.specs.Entries.{Left, enter, power_on}
use Rattle.outcome.specs.declared.Outcome.{Outcome}
use Rattle.outcome.specs.declared.Outcome.TheVariants.{Answered, Quiet}
use Rattle.std.specs.Prelude.{Result, Ok, Err}
use Rattle.message_frame.specs.Drops.{drop_number}
use Rattle.message_frame.specs.declared.drops.DropReason.{DropReason}
use Rattle.message_frame.specs.declared.drops.DropReason.TheVariants as reason
use Rattle.outcome.specs.Outcomes.{outcome_of, left_by, started_of}

-- the reason that has a number; any for a number that none has
abbrev pub reason_of : ℕ → DropReason
reason_of n = cond (eqb n 1) reason.ShortReply
    (cond (eqb n 2) reason.UnsoundStore
    (cond (eqb n 3) reason.WrongLength
    (cond (eqb n 4) reason.WrongDevice
    (cond (eqb n 5) reason.WrongType
    (cond (eqb n 6) reason.NoCorrelationId
    (cond (eqb n 7) reason.WrongFixedBytes
    (cond (eqb n 11) reason.NoSuchInstance
    (cond (eqb n 12) reason.NotReported reason.BadContent))))))))

reason_back : (d : DropReason) → d ≡ reason_of (drop_number d)
reason_back reason.ShortReply = refl
reason_back reason.UnsoundStore = refl
reason_back reason.WrongLength = refl
reason_back reason.WrongDevice = refl
reason_back reason.WrongType = refl
reason_back reason.NoCorrelationId = refl
reason_back reason.WrongFixedBytes = refl
reason_back reason.NoSuchInstance = refl
reason_back reason.NotReported = refl
reason_back reason.BadContent = refl

-- the code's answer that stands for an outcome
coded : rules.Outcome → Result Outcome DropReason
coded (rules.dropped n) = Err (reason_of n)
coded rules.quiet = Ok Quiet
coded (rules.answered r) = Ok Answered

coded_back : (o : Result Outcome DropReason) (b : List ℕ) → o ≡ coded (outcome_of o b)
unfolding coded
coded_back (Ok Answered) b = refl
coded_back (Ok Quiet) b = refl
coded_back (Err d) b = ap Err (reason_back d)

-- what two runs of an entry on the same input can differ in: nothing
pub record SameOutcome (o o' : Result Outcome DropReason) (store store' buffer buffer' : List ℕ) : Type 0 where
  pub outcomes : o ≡ o'
  pub stores : store ≡ store'
  pub buffers : buffer ≡ buffer'

pub only_one : (x : Left) (o o' : Result Outcome DropReason) (store store' buffer buffer' : List ℕ) → left_by o store buffer ≡ x → left_by o' store' buffer' ≡ x
    → SameOutcome o o' store store' buffer buffer'
only_one x o o' store store' buffer buffer' e f = record {
  outcomes = coded_back o buffer ∙ ap (λ (l : Left). coded l.outcome) (e ∙ sym f) ∙ sym (coded_back o' buffer');
  stores = ap (λ (l : Left). l.store) (e ∙ sym f);
  buffers = ap (λ (l : Left). l.buffer) (e ∙ sym f);
}

-- any two outcomes that the contract of an entry allows are equal
module _ (c : Call) (before given : List ℕ) where
  pub any_two_outcomes_are_equal : (o o' : Result Outcome DropReason) (store store' buffer buffer' : List ℕ)
      → left_by o store buffer ≡ enter built_products c before given → left_by o' store' buffer' ≡ enter built_products c before given
      → SameOutcome o o' store store' buffer buffer'
  any_two_outcomes_are_equal o o' store store' buffer buffer' e f = only_one (enter built_products c before given) o o' store store' buffer buffer' e f

pub started_coded : Option ℕ → Result (Unit {0}) DropReason
started_coded none = Ok tt
started_coded (some n) = Err (reason_of n)

pub started_back : (o : Result (Unit {0}) DropReason) → o ≡ started_coded (started_of o)
unfolding started_coded
started_back (Ok t) = refl
started_back (Err d) = ap Err (reason_back d)

pub any_two_power_ons_are_equal : (p : ℕ) (before : List ℕ) (o o' : Result (Unit {0}) DropReason) (store store' : List ℕ)
    → (started_of o, store) ≡ power_on built_products p before → (started_of o', store') ≡ power_on built_products p before
    → (o ≡ o') × (store ≡ store')
any_two_power_ons_are_equal p before o o' store store' e f = (
  started_back o ∙ ap (λ (x : Option ℕ × List ℕ). started_coded x.0) (e ∙ sym f) ∙ sym (started_back o'),
  ap (λ (x : Option ℕ × List ℕ). x.1) (e ∙ sym f),
)
