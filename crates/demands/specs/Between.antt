-- What may come between two calls of a run: a condition on each call, on what it finds and on what it comes to.
use Rattle.std.specs.Prelude.{ℕ, ◌≡◌, Bool, true, false, List, [], ◌∷◌, eqb}
use Rattle.std.proofs.Math.Option.{some}
use Rattle.rules.specs.Maps.{◌and◌}
use Rattle.rules.specs.Catalogue.{Catalogue, ont_data}
use Rattle.rules.specs.State.{State}
use Rattle.rules.specs.Messages.{message_number, class_in, instance_in, all_alarms_number, upload_number, reset_number}
use Rattle.rules.specs.Reports.{Outcome, dropped, quiet, answered}
use Rattle.rules.specs.Run.{Call, message, attribute_report, alarm_report, Input, step}
use Rattle.rules.specs.Products.{Products}
use Rattle.store.specs.Decode.{Held, decode}
use Rattle.demands.specs.Lending.{lend, memory_after}
use Rattle.demands.specs.Repeating.{IsNoRepeat}

-- ---- runs

-- each call of a run of the rules, on the state that it finds
abbrev pub EachStep : (State → Call → Outcome → Type 0) → Catalogue → State → List Input → Type 0
EachStep condition cat s [] = Unit {0}
EachStep condition cat s (p ∷ l) = condition s p.call (step cat s p).1 × EachStep condition cat (step cat s p).0 l

-- each call of a run on a store in memory, in its lent sizes, on the memory that it finds
abbrev pub EachLent : (List ℕ → Call → Outcome → Type 0) → Products → List ℕ → List Input → Type 0
EachLent condition products memory [] = Unit {0}
EachLent condition products memory (p ∷ l) = condition memory p.call (lend products p memory).outcome × EachLent condition products (memory_after products p memory) l

abbrev pub is_dropped : Outcome → Bool
is_dropped (dropped n) = true
is_dropped quiet = false
is_dropped (answered r) = false

-- ---- between a command and its repeat

-- a local report, dropped or not, or a message that is dropped
abbrev pub IsReportOrDropped : Call → Outcome → Type 0
IsReportOrDropped (message m) o = is_dropped o ≡ true
IsReportOrDropped (attribute_report c i n v) o = Unit {0}
IsReportOrDropped (alarm_report c i n on) o = Unit {0}

-- ---- between the asking for a walk and the fetching of its parts

-- a MIB upload of the ONT data, which freezes a new copy
abbrev pub asks_for_an_upload : List ℕ → Bool
asks_for_an_upload m = eqb (message_number m) upload_number and (eqb (class_in m) ont_data and eqb (instance_in m) 0)

-- a Get all alarms of the ONT data
abbrev pub asks_for_an_alarm_walk : List ℕ → Bool
asks_for_an_alarm_walk m = eqb (message_number m) all_alarms_number and (eqb (class_in m) ont_data and eqb (instance_in m) 0)

-- a MIB reset, which ends both walks
abbrev pub is_a_reset : List ℕ → Bool
is_a_reset m = eqb (message_number m) reset_number

-- Any report; and any message that is dropped, or is a repeat, or neither asks for such a walk nor is a reset.
abbrev pub LeavesWalks : (List ℕ → Bool) → State → Call → Outcome → Type 0
LeavesWalks asks s (message m) o = is_dropped o ≡ false → IsNoRepeat s m → (asks m ≡ false) × (is_a_reset m ≡ false)
LeavesWalks asks s (attribute_report c i n v) o = Unit {0}
LeavesWalks asks s (alarm_report c i n on) o = Unit {0}

abbrev pub LeavesUploads : State → Call → Outcome → Type 0
LeavesUploads = LeavesWalks asks_for_an_upload

abbrev pub LeavesAlarmWalks : State → Call → Outcome → Type 0
LeavesAlarmWalks = LeavesWalks asks_for_an_alarm_walk

-- the same on a store: whatever state it holds, m is no repeat
abbrev pub RepeatsNothingIn : Products → List ℕ → List ℕ → Type 0
RepeatsNothingIn products store m = (h : Held) → decode products store ≡ some h → IsNoRepeat h.state m

abbrev pub LeavesWalksOn : (List ℕ → Bool) → Products → List ℕ → Call → Outcome → Type 0
LeavesWalksOn asks products store (message m) o = is_dropped o ≡ false → RepeatsNothingIn products store m → (asks m ≡ false) × (is_a_reset m ≡ false)
LeavesWalksOn asks products store (attribute_report c i n v) o = Unit {0}
LeavesWalksOn asks products store (alarm_report c i n on) o = Unit {0}
