-- A call and its one outcome; power-on; a run of calls.
use Rattle.std.specs.Prelude.{ℕ, Bool, not, cond, List, [], ◌∷◌, map, take, eqb, ltb}
use Rattle.std.proofs.Math.Option.{Option, none, some}
use Rattle.rules.specs.Maps.{◌and◌, ◌or◌, given, among, same, first_that_applies, computing_maps}
use Rattle.rules.specs.Bytes.{computing_bytes}
use Rattle.rules.specs.Masks.{computing_masks}
use Rattle.rules.specs.Catalogue.{Catalogue, class, known, key, ont_data, computing_catalogue}
use Rattle.rules.specs.State.{Table, Memory, State, class_of, with_memory, computing_state}
use Rattle.rules.specs.Legal.{automatic_keys, computing_legal}
use Rattle.rules.specs.Messages.{message_number, class_in, instance_in, contents_in, message_drops, with_result, without_result}
use Rattle.rules.specs.Messages.{create_number, delete_number, set_number, get_number, all_alarms_number, alarms_next_number}
use Rattle.rules.specs.Messages.{upload_number, upload_next_number, reset_number, not_supported, unknown_class, reply_to, Answer}
use Rattle.rules.specs.Messages.{unless_refused, computing_messages}
use Rattle.rules.specs.Commands.{new_entry, create, delete, set, get, reset, computing_commands}
use Rattle.rules.specs.Walks.{upload, upload_next, all_alarms, alarms_next, computing_walks}
use Rattle.rules.specs.Reports.{Outcome, answered, unless_dropped, report_attribute, report_alarm, computing_reports}

-- ---- commands

-- message number, class, instance and contents, with what the message does if nothing has refused it yet
unfoldable pub perform : Catalogue → State → ℕ → ℕ → ℕ → List ℕ → Option Answer
perform cat s n c i v = first_that_applies
    ((eqb n create_number, create cat s c i v)
    ∷ (eqb n delete_number, delete cat s c i)
    ∷ (eqb n set_number, set cat s c i v)
    ∷ (eqb n get_number, get cat s c i v)
    ∷ (eqb n reset_number, reset cat s c i)
    ∷ (eqb n all_alarms_number, all_alarms s c i)
    ∷ (eqb n alarms_next_number, alarms_next s c i v)
    ∷ (eqb n upload_number, upload cat s c i)
    ∷ (eqb n upload_next_number, upload_next cat s c i v)
    ∷ [])

-- message number not built; unknown class; command not for this class
unfoldable pub first_results : Catalogue → ℕ → ℕ → List (Bool × List ℕ)
first_results cat n c =
    (not (among n with_result or among n without_result), not_supported ∷ [])
    ∷ (among n with_result and not (known cat c), unknown_class ∷ [])
    ∷ (among n with_result and not (among n (class cat c).commands), not_supported ∷ [])
    ∷ []

unfoldable pub answer : Catalogue → State → ℕ → ℕ → ℕ → List ℕ → Answer
answer cat s n c i v = unless_refused s (first_results cat n c) (given (perform cat s n c i v) (s, []) (λ a. a))

-- the first 40 bytes equal those of the last answered command
unfoldable pub is_repeat : List ℕ → Memory → Bool
is_repeat m r = same (take 40 m) r.command

unfoldable pub remember : List ℕ → List ℕ → State → State
remember m r s = with_memory (some (record { command = take 40 m; reply = r })) s

-- a command that is no repeat is answered, and remembered
unfoldable pub answer_anew : Catalogue → State → List ℕ → State × Outcome
answer_anew cat s m =
    let a : Answer = answer cat s (message_number m) (class_in m) (instance_in m) (contents_in m) in
    let r : List ℕ = reply_to m a.1 in
    (remember m r a.0, answered r)

-- a repeat gets the old reply, and nothing changes
unfoldable pub answer_again : Catalogue → State → List ℕ → Memory → State × Outcome
answer_again cat s m r = cond (is_repeat m r) (s, answered r.reply) (answer_anew cat s m)

unfoldable pub handle : Catalogue → State → List ℕ → State × Outcome
handle cat s m = unless_dropped s (message_drops m) (given s.remembered (answer_anew cat s m) (answer_again cat s m))

-- ---- calls

pub data Call : Type 0 where
  message : List ℕ → Call
  -- class, instance, attribute, content
  attribute_report : ℕ → ℕ → ℕ → List ℕ → Call
  -- class, instance, alarm, raised or cleared
  alarm_report : ℕ → ℕ → ℕ → Bool → Call

-- a call, with the sizes of what is lent to it
pub record Input : Type 0 where
  pub store_room : ℕ
  pub reply_room : ℕ
  pub call : Call

-- the store's length, for all products
abbrev pub store_length : ℕ
store_length = 3344

abbrev pub reply_length : ℕ
reply_length = 48

unfoldable pub taken : Catalogue → State → Call → State × Outcome
taken cat s (message m) = handle cat s m
taken cat s (attribute_report c i n v) = report_attribute cat s c i n v
taken cat s (alarm_report c i n on) = report_alarm cat s c i n on

-- drops 1 and 2, then the call's own. A state is always sound: 2 is left for a store that is lent too short.
unfoldable pub room_drops : Input → List (Bool × ℕ)
room_drops p = (ltb p.reply_room reply_length, 1) ∷ (ltb p.store_room store_length, 2) ∷ []

unfoldable pub step : Catalogue → State → Input → State × Outcome
step cat s p = unless_dropped s (room_drops p) (taken cat s p.call)

-- ---- power-on

unfoldable pub fresh_table : Catalogue → Table
fresh_table cat = record { automatic = map (λ k. (k, new_entry cat (class_of k) [])) (key ont_data 0 ∷ automatic_keys cat); created = [] }

-- first contents, alarm number 0, no alarm, nothing remembered, no walk
unfoldable pub fresh : Catalogue → State
fresh cat = record { table = fresh_table cat; alarms = []; alarm_number = 0; remembered = none; upload = none; walk = none }

-- ---- runs

-- each call's outcome, with the state after it
unfoldable pub run : Catalogue → State → List Input → List (State × Outcome)
run cat s [] = []
run cat s (p ∷ l) = let r : State × Outcome = step cat s p in r ∷ run cat r.0 l

unfoldable pub after : Catalogue → State → List Input → State
after cat s [] = s
after cat s (p ∷ l) = after cat (step cat s p).0 l

-- a run from power-on
unfoldable pub run_from_power_on : Catalogue → List Input → List (State × Outcome)
run_from_power_on cat l = run cat (fresh cat) l

-- all the rules compute where this name is unfolded
unfoldable pub computing_rules : ℕ
unfolding computing_maps computing_bytes computing_masks computing_catalogue computing_state computing_legal computing_messages
    computing_commands computing_walks computing_reports perform first_results answer is_repeat remember answer_anew answer_again handle
    taken room_drops step fresh_table fresh run after run_from_power_on
computing_rules = 0
