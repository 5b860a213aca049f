-- Each entry's contract fixes its outcome, its store and its reply buffer for every input. Said of the contracts themselves (`OneOutcome` says it of what
-- they have): `Reads.Asked` is
-- what a function's `requires` asks of a caller, `Reads.Learnt` what its `ensures` tells a caller, both made by the checker out of the clauses
-- in src/lib.rt. So a `requires` that is added, or an `ensures` that is loosened, breaks the theorem of that function.
use Prim.Native.Nat.{ℕ}
use mathlib.Core.Path.{◌≡◌, sym, ◌∙◌, ap}
use mathlib.Core.Option.{Option}
use mathlib.Core.List.{List}
use contract.Lifetimes.{Lfts}
use denote.Triple.Entry.{Args, Res}
use denote.Triple.Clauses.{Ended, Lasts, AtExit, at_exit}
use Rattle.store.specs.Entries.{Left}
use Rattle.std.specs.Prelude.{Result}
use Rattle.message_frame.specs.declared.drops.DropReason.{DropReason}
use Rattle.outcome.specs.declared.Outcome.{Outcome}
use Rattle.outcome.specs.Outcomes.{left_by}
use Rattle.engine.proofs.OneOutcome.{only_one, started_coded, started_back}
use Rattle.engine.specs.contracts.handle as handle
use Rattle.engine.proofs.handle.Reads as handle_reads
use Rattle.engine.specs.contracts.report_attribute as report_attribute
use Rattle.engine.proofs.report_attribute.Reads as report_attribute_reads
use Rattle.engine.specs.contracts.report_alarm as report_alarm
use Rattle.engine.proofs.report_alarm.Reads as report_alarm_reads
use Rattle.engine.specs.contracts.power_on as power_on
use Rattle.engine.proofs.power_on.Reads as power_on_reads

-- ---- what is said of a contract

-- A contract, over a signature T: what it asks of the arguments, and what it tells of the result and of the parameters at exit. It fixes the
-- outcome if it asks nothing, and allows for the same arguments only one result and one last value of whatever is lent to be changed.
pub record FixesTheOutcome (T : Ended) (asked : (κs : Lfts T.signature.lifetimes) → Args T.signature κs → Type 0)
    (told : (κs : Lfts T.signature.lifetimes) → Args T.signature κs → Res T.signature κs → AtExit T κs → Type 0) : Type 0 where
  pub asks_nothing : (κs : Lfts T.signature.lifetimes) (a : Args T.signature κs) → asked κs a
  pub any_two_are_equal : (κs : Lfts T.signature.lifetimes) (a : Args T.signature κs) (r r' : Res T.signature κs) (last last' : Lasts T κs a)
      → told κs a r (at_exit T κs a last) → told κs a r' (at_exit T κs a last') → (r ≡ r') × (last ≡ last')

-- ---- the entries

-- any two outcomes that the contract of `handle` allows are equal: the answer, the store and the reply buffer
pub handle_fixes_the_outcome : FixesTheOutcome handle.ended handle_reads.Asked handle_reads.Learnt
handle_fixes_the_outcome = record {
  asks_nothing = λ κs a. tt;
  any_two_are_equal = λ κs a r r' last last' e f.
      let same = only_one _ r r' last.0 last'.0 last.1.1.0 last'.1.1.0 e f in
      (same.outcomes, λ i. (same.stores i, (tt, (same.buffers i, tt))));
}

-- of a report: its store and its reply buffer, and nothing of the four values between them
of_a_report : {x : Left} (r r' : Result Outcome DropReason) (last last' : List ℕ × (Unit {0} × (Unit {0} × (Unit {0} × (Unit {0} × (List ℕ × Unit {0}))))))
    → left_by r last.0 last.1.1.1.1.1.0 ≡ x → left_by r' last'.0 last'.1.1.1.1.1.0 ≡ x → (r ≡ r') × (last ≡ last')
of_a_report r r' last last' e f =
    let same = only_one _ r r' last.0 last'.0 last.1.1.1.1.1.0 last'.1.1.1.1.1.0 e f in
    (same.outcomes, λ i. (same.stores i, (tt, (tt, (tt, (tt, (same.buffers i, tt)))))))

-- so with `report_attribute`
pub report_attribute_fixes_the_outcome : FixesTheOutcome report_attribute.ended report_attribute_reads.Asked report_attribute_reads.Learnt
report_attribute_fixes_the_outcome = record { asks_nothing = λ κs a. tt; any_two_are_equal = λ κs a r r' last last' e f. of_a_report r r' last last' e f }

-- with `report_alarm`
pub report_alarm_fixes_the_outcome : FixesTheOutcome report_alarm.ended report_alarm_reads.Asked report_alarm_reads.Learnt
report_alarm_fixes_the_outcome = record { asks_nothing = λ κs a. tt; any_two_are_equal = λ κs a r r' last last' e f. of_a_report r r' last last' e f }

-- and with `power_on`, which is lent a store alone
pub power_on_fixes_the_outcome : FixesTheOutcome power_on.ended power_on_reads.Asked power_on_reads.Learnt
power_on_fixes_the_outcome = record {
  asks_nothing = λ κs a. tt;
  any_two_are_equal = λ κs a r r' last last' e f. (
    started_back r ∙ ap (λ (x : Option ℕ × List ℕ). started_coded x.0) (e ∙ sym f) ∙ sym (started_back r'),
    λ i. (((e ∙ sym f) i).1, (tt, tt)),
  );
}
