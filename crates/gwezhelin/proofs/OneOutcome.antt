-- The contract of each function of the C face allows one number, one store and one reply buffer for every input. As in `engine/FixedOutcomes`,
-- said of the contracts themselves: of each `requires` and `ensures` in src/lib.rt as the checker reads them.
use Prim.Native.Nat.{ℕ}
use mathlib.Core.Path.{◌≡◌, sym, ◌∙◌}
use mathlib.Core.List.{List}
use Rattle.store.specs.Entries.{Left}
use Rattle.engine.proofs.FixedOutcomes.{FixesTheOutcome}
use Rattle.gwezhelin.specs.Numbers.{Returns}
use Rattle.gwezhelin.specs.contracts.gwz_store_size as store_size
use Rattle.gwezhelin.proofs.gwz_store_size.Reads as store_size_reads
use Rattle.gwezhelin.specs.contracts.gwz_power_on as power_on
use Rattle.gwezhelin.proofs.gwz_power_on.Reads as power_on_reads
use Rattle.gwezhelin.specs.contracts.gwz_handle as handle
use Rattle.gwezhelin.proofs.gwz_handle.Reads as handle_reads
use Rattle.gwezhelin.specs.contracts.gwz_report_attribute as report_attribute
use Rattle.gwezhelin.proofs.gwz_report_attribute.Reads as report_attribute_reads
use Rattle.gwezhelin.specs.contracts.gwz_report_alarm as report_alarm
use Rattle.gwezhelin.proofs.gwz_report_alarm.Reads as report_alarm_reads

-- any two numbers that the contract of `gwz_store_size` allows are equal
pub store_size_fixes_the_number : FixesTheOutcome store_size.ended store_size_reads.Asked store_size_reads.Learnt
store_size_fixes_the_number = record { asks_nothing = λ κs a. tt; any_two_are_equal = λ κs a r r' last last' e f. (e ∙ sym f, λ i. tt) }

-- any two numbers and stores that the contract of `gwz_power_on` allows are equal
pub power_on_fixes_number_and_store : FixesTheOutcome power_on.ended power_on_reads.Asked power_on_reads.Learnt
power_on_fixes_number_and_store = record {
  asks_nothing = λ κs a. tt;
  any_two_are_equal = λ κs a r r' last last' e f. (e.its_number ∙ sym f.its_number, λ i. ((e.its_store ∙ sym f.its_store) i, (tt, tt)));
}

-- any two numbers, stores and buffers that the contract of `gwz_handle` allows are equal
pub handle_fixes_number_store_and_buffer : FixesTheOutcome handle.ended handle_reads.Asked handle_reads.Learnt
handle_fixes_number_store_and_buffer = record {
  asks_nothing = λ κs a. tt;
  any_two_are_equal = λ κs a r r' last last' e f.
      (e.its_number ∙ sym f.its_number, λ i. ((e.its_store ∙ sym f.its_store) i, (tt, ((e.its_buffer ∙ sym f.its_buffer) i, tt))));
}

-- of a report: its store and its reply buffer, and nothing of the four values between them
of_a_report : {x : Left} (r r' : ℕ) (last last' : List ℕ × (Unit {0} × (Unit {0} × (Unit {0} × (Unit {0} × (List ℕ × Unit {0}))))))
    → Returns r last.0 last.1.1.1.1.1.0 x → Returns r' last'.0 last'.1.1.1.1.1.0 x → (r ≡ r') × (last ≡ last')
of_a_report r r' last last' e f = (
  e.its_number ∙ sym f.its_number,
  λ i. ((e.its_store ∙ sym f.its_store) i, (tt, (tt, (tt, (tt, ((e.its_buffer ∙ sym f.its_buffer) i, tt)))))),
)

-- so with `gwz_report_attribute`
pub report_attribute_fixes_number_store_and_buffer : FixesTheOutcome report_attribute.ended report_attribute_reads.Asked report_attribute_reads.Learnt
report_attribute_fixes_number_store_and_buffer = record { asks_nothing = λ κs a. tt; any_two_are_equal = λ κs a r r' last last' e f. of_a_report r r' last last' e f }

-- and with `gwz_report_alarm`
pub report_alarm_fixes_number_store_and_buffer : FixesTheOutcome report_alarm.ended report_alarm_reads.Asked report_alarm_reads.Learnt
report_alarm_fixes_number_store_and_buffer = record { asks_nothing = λ κs a. tt; any_two_are_equal = λ κs a r r' last last' e f. of_a_report r r' last last' e f }
