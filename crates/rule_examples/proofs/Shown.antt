-- More of document 01 by computation from the rules: the counter, Delete and reset, walks that show nothing, whole notifications,
-- contents that are ignored, the catalogues' first contents, bounds and rights, the places, the order of Set's results, and the
-- message numbers that aren't built.
use Prim.Native.Nat.{ℕ, zero, suc, ◌+◌}
use mathlib.Core.Path.{◌≡◌, refl}
use mathlib.Core.Bool.{true, false, cond}
use mathlib.Core.Option.{Option, none, some}
use mathlib.Core.List.{List, [], ◌∷◌, ◌++◌, map}
use lib.ListN.{take, drop, replicate}
use lib.Dec.{eqb}
use Rattle.rules.specs.Maps.{◌and◌, Map, gather, among, same}
use Rattle.rules.specs.Bytes.{bytes, fill}
use Rattle.rules.specs.Catalogue.{Class, Catalogue, automatic, key}
use Rattle.rules.specs.State.{Table, Alarms, State, counter}
use Rattle.rules.specs.Messages.{set_number, get_number}
use Rattle.rules.specs.Reports.{Outcome, dropped, quiet}
use Rattle.rules.specs.Run.{Input, attribute_report, alarm_report, step, fresh, after, run_from_power_on}
use Rattle.rules.specs.Products.{any, from◌to◌, RW, ont_data_class, Small, Large}
use Rattle.rules.proofs.Examples.{both_products, call, command, sent, shown, tell, good_bridge, bridge, upload_after}
use Rattle.rules.proofs.Limits.{Probe, full, computing_probe}
use Rattle.rules.proofs.Traps.{set_uni, get_uni, link, signal_lost, upload, upload_next, bridge_number, port, bridges, told, outcome, computing_traps}

-- ---- both products

-- the same of each
unfoldable pub twice : {A : Type 0} → A → List A
twice a = a ∷ a ∷ []

-- ---- messages and what they leave

unfoldable pub state_after : Catalogue → List Input → State
state_after cat l = after cat (fresh cat) l

unfoldable pub counter_after : Catalogue → List Input → ℕ
counter_after cat l = counter cat (state_after cat l).table

-- the whole table: the counter, and all that an upload shows
unfoldable pub table_bytes : Catalogue → List Input → List ℕ
table_bytes cat l = counter_after cat l ∷ gather (λ v. v) (upload_after cat l)

-- what each of these calls sends, each after the same others from power-on
unfoldable pub each_told : Catalogue → List Input → List Input → List (List ℕ)
each_told cat before l = let s : State = state_after cat before in map (λ p. shown (step cat s p).1) l

-- a Delete: id, class, instance
unfoldable pub delete : ℕ → ℕ → ℕ → Input
delete id c i = command id 0x46 c i []

unfoldable pub reset : ℕ → Input
reset id = command id 0x4F 2 0 []

unfoldable pub all_alarms : ℕ → Input
all_alarms id = command id 0x4B 2 0 []

unfoldable pub alarms_next : ℕ → ℕ → Input
alarms_next id n = command id 0x4C 2 0 (bytes 2 n)

-- what port 1 of bridge 1 is created with
abbrev pub good_port : List ℕ
good_port = 0 ∷ 1 ∷ 1 ∷ 1 ∷ 0x01 ∷ 0x01 ∷ 0 ∷ 0x80 ∷ 0 ∷ 1 ∷ 0 ∷ 0 ∷ 0 ∷ []

-- bridge 1 and its port 1
unfoldable pub built : List Input
built = bridge ∷ command 2 0x44 47 1 good_port ∷ []

-- ports 1 to n of bridge 1
unfoldable pub ports : ℕ → List Input
ports zero = []
ports (suc n) = port (suc n) 1 ∷ ports n

abbrev pub zero_contents : List ℕ
zero_contents = replicate 32 0

-- a reply's contents that are a result alone
unfoldable pub result : ℕ → List ℕ
result n = n ∷ replicate 31 0

unfoldable pub computing_shown : ℕ
unfolding computing_traps computing_probe twice state_after counter_after table_bytes each_told delete reset all_alarms alarms_next built ports result
computing_shown = 0

-- ---- the counter

pub counter_moves_by_create_and_delete :
    both_products (λ cat. map (λ n. counter_after cat (take n (built ++ delete 3 47 1 ∷ delete 4 45 1 ∷ []))) (0 ∷ 1 ∷ 2 ∷ 3 ∷ 4 ∷ []))
    ≡ twice (0 ∷ 1 ∷ 2 ∷ 3 ∷ 4 ∷ [])
unfolding computing_shown
counter_moves_by_create_and_delete = refl

pub counter_goes_round_by_create_and_delete :
    both_products (λ cat. map (λ n. counter_after cat (command 1 0x48 2 0 (0x80 ∷ 0 ∷ 254 ∷ []) ∷ take n (bridge ∷ delete 2 45 1 ∷ bridge ∷ []))) (0 ∷ 1 ∷ 2 ∷ 3 ∷ []))
    ≡ twice (254 ∷ 255 ∷ 1 ∷ 2 ∷ [])
unfolding computing_shown
counter_goes_round_by_create_and_delete = refl

-- with bridge 1 and port 1 there: what exists, bad contents, classes whose instances can't be created, an unknown class
unfoldable pub refused_creates : List Input
refused_creates =
    command 9 0x44 45 1 good_bridge ∷ command 9 0x44 47 1 good_port ∷ command 9 0x44 45 2 (2 ∷ drop 1 good_bridge) ∷ command 9 0x44 47 2 (0 ∷ 9 ∷ drop 2 good_port)
    ∷ command 9 0x44 2 1 [] ∷ command 9 0x44 11 0x0105 [] ∷ command 9 0x44 46 2 [] ∷ command 9 0x44 99 1 [] ∷ []

-- what isn't there, classes whose instances can't be deleted, an unknown class
unfoldable pub refused_deletes : List Input
refused_deletes = delete 9 45 2 ∷ delete 9 47 2 ∷ delete 9 2 0 ∷ delete 9 11 0x0101 ∷ delete 9 46 1 ∷ delete 9 99 1 ∷ []

-- what isn't there, mask zero, an unsupported attribute, one that can't be written, bad contents, an unknown class
unfoldable pub refused_sets : List Input
refused_sets =
    command 9 0x48 45 2 (0x80 ∷ 0 ∷ 1 ∷ []) ∷ command 9 0x48 2 1 (0x80 ∷ 0 ∷ 1 ∷ []) ∷ set_uni 9 [] ∷ set_uni 9 (0x80 ∷ 1 ∷ 7 ∷ [])
    ∷ set_uni 9 (0xC0 ∷ 0 ∷ 7 ∷ 7 ∷ []) ∷ command 9 0x48 2 0 (0xC0 ∷ 0 ∷ 7 ∷ 7 ∷ []) ∷ command 9 0x48 46 1 (0x80 ∷ 0 ∷ []) ∷ set_uni 9 (0x88 ∷ 0 ∷ 7 ∷ 2 ∷ [])
    ∷ command 9 0x48 99 0 (0x80 ∷ 0 ∷ 1 ∷ []) ∷ []

-- a reset of another instance, of another class and of an unknown one
unfoldable pub refused_resets : List Input
refused_resets = command 9 0x4F 2 1 [] ∷ command 9 0x4F 11 0x0101 [] ∷ command 9 0x4F 99 0 [] ∷ []

unfoldable pub refused_commands : List Input
refused_commands = refused_creates ++ refused_deletes ++ refused_sets ++ refused_resets

unfoldable pub computing_refused : ℕ
unfolding computing_shown refused_creates refused_deletes refused_sets refused_resets refused_commands
computing_refused = 0

pub refused_commands_have_these_results :
    both_products (λ cat. map (take 1) (told cat built refused_commands))
    ≡ twice (map (λ n. n ∷ []) (7 ∷ 7 ∷ 3 ∷ 3 ∷ 2 ∷ 2 ∷ 2 ∷ 4 ∷ 5 ∷ 5 ∷ 2 ∷ 2 ∷ 2 ∷ 4 ∷ 5 ∷ 5 ∷ 3 ∷ 9 ∷ 9 ∷ 9 ∷ 9 ∷ 9 ∷ 4 ∷ 5 ∷ 2 ∷ 4 ∷ []))
unfolding computing_refused
refused_commands_have_these_results = refl

-- the counter is 2 before them, and after each of them
pub refused_commands_leave_the_counter :
    both_products (λ cat. map (λ (r : State × Outcome). counter cat r.0.table) (drop 1 (run_from_power_on cat (built ++ refused_commands)))) ≡ twice (replicate 27 2)
unfolding computing_refused
refused_commands_leave_the_counter = refl

-- after all of them
pub refused_commands_leave_the_table :
    both_products (λ cat. same (table_bytes cat (built ++ refused_commands)) (table_bytes cat built)) ≡ twice true
unfolding computing_refused
refused_commands_leave_the_table = refl

-- ---- Delete and MIB reset

-- the whole replies, the second to a Delete of what has gone
pub delete_answers_0_and_then_5 :
    both_products (λ cat. map (λ l. sent (outcome cat (built ++ l) (delete 4 45 1))) ([] ∷ (delete 3 45 1 ∷ []) ∷ []))
    ≡ twice (
    (0 ∷ 4 ∷ 0x26 ∷ 0x0A ∷ 0 ∷ 45 ∷ 0 ∷ 1 ∷ 0 ∷ replicate 31 0 ++ 0 ∷ 0 ∷ 0 ∷ 0x28 ∷ 0 ∷ 0 ∷ 0 ∷ 0 ∷ [])
    ∷ (0 ∷ 4 ∷ 0x26 ∷ 0x0A ∷ 0 ∷ 45 ∷ 0 ∷ 1 ∷ 5 ∷ replicate 31 0 ++ 0 ∷ 0 ∷ 0 ∷ 0x28 ∷ 0 ∷ 0 ∷ 0 ∷ 0 ∷ []) ∷ [])
unfolding computing_shown
delete_answers_0_and_then_5 = refl

pub delete_of_a_port_answers_0_and_then_5 : both_products (λ cat. told cat built (delete 3 47 1 ∷ delete 4 47 1 ∷ [])) ≡ twice (result 0 ∷ result 5 ∷ [])
unfolding computing_shown
delete_of_a_port_answers_0_and_then_5 = refl

pub reset_answers_0 :
    both_products (λ cat. sent (outcome cat built (reset 4)))
    ≡ twice (0 ∷ 4 ∷ 0x2F ∷ 0x0A ∷ 0 ∷ 2 ∷ 0 ∷ 0 ∷ 0 ∷ replicate 31 0 ++ 0 ∷ 0 ∷ 0 ∷ 0x28 ∷ 0 ∷ 0 ∷ 0 ∷ 0 ∷ [])
unfolding computing_shown
reset_answers_0 = refl

-- class 2 has no instance 1; reset isn't for class 11; class 99 is unknown
pub reset_answers_5_2_and_4 : both_products (λ cat. told cat built refused_resets) ≡ twice (result 5 ∷ result 2 ∷ result 4 ∷ [])
unfolding computing_refused
reset_answers_5_2_and_4 = refl

-- ---- alarm walks

-- an alarm that was frozen and has been cleared since, so that the alarm number is 1
unfoldable pub walking : List Input
walking = signal_lost true ∷ all_alarms 1 ∷ signal_lost false ∷ []

-- a Next of another class, of another instance, of an unknown class, at the count and past it
unfoldable pub stray_alarms_nexts : List Input
stray_alarms_nexts = command 11 0x4C 11 0x0101 [] ∷ command 12 0x4C 2 1 [] ∷ command 13 0x4C 99 0 [] ∷ alarms_next 14 1 ∷ alarms_next 15 0xFFFF ∷ []

-- Get all alarms of another class, of another instance and of an unknown class
unfoldable pub stray_all_alarms : List Input
stray_all_alarms = command 16 0x4B 11 0x0101 [] ∷ command 17 0x4B 2 1 [] ∷ command 18 0x4B 99 0 [] ∷ []

unfoldable pub walk_and_number : State → Option (Map Alarms) × ℕ
walk_and_number s = (s.walk, s.alarm_number)

unfoldable pub computing_walking : ℕ
unfolding computing_shown walking stray_alarms_nexts stray_all_alarms walk_and_number
computing_walking = 0

-- the last Next still shows the frozen alarm
pub stray_alarm_walks_show_nothing :
    both_products (λ cat. told cat walking (stray_alarms_nexts ++ stray_all_alarms ++ alarms_next 20 0 ∷ []))
    ≡ twice (replicate 8 zero_contents ++ (0x00 ∷ 0x0B ∷ 0x01 ∷ 0x01 ∷ 0x80 ∷ replicate 27 0) ∷ [])
unfolding computing_walking
stray_alarm_walks_show_nothing = refl

pub stray_alarm_walks_change_no_walk_and_no_alarm_number :
    both_products (λ cat. map (λ p. walk_and_number (state_after cat (walking ++ p ∷ []))) (stray_alarms_nexts ++ stray_all_alarms))
    ≡ twice (replicate 8 (some ((key 11 0x0101, true ∷ replicate 223 false) ∷ []), 1))
unfolding computing_walking
stray_alarm_walks_change_no_walk_and_no_alarm_number = refl

-- the notification after them has number 2, after the right Get all alarms it has number 1
pub stray_get_all_alarms_leaves_the_alarm_number :
    both_products (λ cat. map (λ p. drop 28 (tell cat (walking ++ p ∷ []) (signal_lost true))) (stray_all_alarms ++ all_alarms 19 ∷ []))
    ≡ twice (map (λ n. 0 ∷ 0 ∷ 0 ∷ n ∷ []) (2 ∷ 2 ∷ 2 ∷ 1 ∷ []))
unfolding computing_walking
stray_get_all_alarms_leaves_the_alarm_number = refl

-- there is an alarm, but no walk
pub alarms_next_with_no_walk_begun_shows_nothing : both_products (λ cat. tell cat (signal_lost true ∷ []) (alarms_next 1 0)) ≡ twice zero_contents
unfolding computing_walking
alarms_next_with_no_walk_begun_shows_nothing = refl

pub alarms_next_begins_no_walk : both_products (λ cat. walk_and_number (state_after cat (signal_lost true ∷ alarms_next 1 0 ∷ []))) ≡ twice (none, 1)
unfolding computing_walking
alarms_next_begins_no_walk = refl

-- no alarm is on: the count is 0, and index 0 is at it
pub walk_of_no_alarm : both_products (λ cat. told cat [] (all_alarms 1 ∷ alarms_next 2 0 ∷ [])) ≡ twice (zero_contents ∷ zero_contents ∷ [])
unfolding computing_walking
walk_of_no_alarm = refl

-- by number, not in the order in which they came; the third index is at the count
pub two_alarms_are_walked_in_order :
    told Large (call (alarm_report 11 0x0103 0 true) ∷ call (alarm_report 11 0x0102 0 true) ∷ []) (all_alarms 1 ∷ alarms_next 2 0 ∷ alarms_next 3 1 ∷ alarms_next 4 2 ∷ [])
    ≡ (0 ∷ 2 ∷ replicate 30 0)
    ∷ (0x00 ∷ 0x0B ∷ 0x01 ∷ 0x02 ∷ 0x80 ∷ replicate 27 0)
    ∷ (0x00 ∷ 0x0B ∷ 0x01 ∷ 0x03 ∷ 0x80 ∷ replicate 27 0)
    ∷ zero_contents
    ∷ []
unfolding computing_walking
two_alarms_are_walked_in_order = refl

-- both show something before the reset (the counts are 1 and 1 or 4)
pub reset_ends_both_walks :
    both_products (λ cat. told cat (signal_lost true ∷ []) (all_alarms 1 ∷ upload 2 ∷ reset 3 ∷ alarms_next 4 0 ∷ upload_next 5 0 ∷ []))
    ≡ map (λ n. (0 ∷ 1 ∷ replicate 30 0) ∷ (0 ∷ n ∷ replicate 30 0) ∷ result 0 ∷ zero_contents ∷ zero_contents ∷ []) (1 ∷ 4 ∷ [])
unfolding computing_walking
reset_ends_both_walks = refl

unfoldable pub walks : State → Option Table × Option (Map Alarms)
walks s = (s.upload, s.walk)

pub reset_leaves_no_walk : both_products (λ cat. walks (state_after cat (signal_lost true ∷ all_alarms 1 ∷ upload 2 ∷ reset 3 ∷ []))) ≡ twice (none, none)
unfolding computing_walking walks
reset_leaves_no_walk = refl

-- ---- uploads

-- the first UNI's section as it is fresh, Small's and Large's
unfoldable pub fresh_uni_sections : List (List ℕ)
fresh_uni_sections =
    (0x00 ∷ 0x0B ∷ 0x01 ∷ 0x01 ∷ 0xFC ∷ 0x00 ∷ replicate 26 0)
    ∷ (0x00 ∷ 0x0B ∷ 0x01 ∷ 0x01 ∷ 0xFF ∷ 0xF8 ∷ replicate 7 0 ++ 0x05 ∷ 0xEE ∷ 0 ∷ 0 ∷ 0 ∷ 2 ∷ replicate 13 0)
    ∷ []

-- a Next of another class, of another instance, of an unknown class, past both products' counts; uploads of another class, of
-- another instance and of an unknown class
unfoldable pub stray_uploads : List Input
stray_uploads =
    command 11 0x4E 11 0x0101 [] ∷ command 12 0x4E 2 1 [] ∷ command 13 0x4E 99 0 [] ∷ upload_next 14 5 ∷ upload_next 15 0xFFFF
    ∷ command 16 0x4D 11 0x0101 [] ∷ command 17 0x4D 2 1 [] ∷ command 18 0x4D 99 0 [] ∷ []

unfoldable pub computing_uploads : ℕ
unfolding computing_shown fresh_uni_sections stray_uploads
computing_uploads = 0

-- the last Next still shows the copy from before the Set
pub stray_uploads_show_nothing :
    both_products (λ cat. told cat (upload 1 ∷ set_uni 2 (0x80 ∷ 0 ∷ 9 ∷ []) ∷ []) (stray_uploads ++ upload_next 20 0 ∷ []))
    ≡ map (λ v. replicate 8 zero_contents ++ v ∷ []) fresh_uni_sections
unfolding computing_uploads
stray_uploads_show_nothing = refl

pub stray_uploads_change_no_walk :
    both_products (λ cat. map (λ p. (state_after cat (upload 1 ∷ set_uni 2 (0x80 ∷ 0 ∷ 9 ∷ []) ∷ p ∷ [])).upload) stray_uploads)
    ≡ both_products (λ cat. replicate 8 (state_after cat (upload 1 ∷ [])).upload)
unfolding computing_uploads
stray_uploads_change_no_walk = refl

-- Small's count is 1, Large's is 4
pub upload_next_at_the_count_shows_nothing :
    told Small (upload 1 ∷ []) (upload_next 2 1 ∷ []) ++ told Large (upload 1 ∷ []) (upload_next 2 4 ∷ []) ≡ zero_contents ∷ zero_contents ∷ []
unfolding computing_uploads
upload_next_at_the_count_shows_nothing = refl

pub upload_next_with_no_upload_begun_shows_nothing : both_products (λ cat. tell cat built (upload_next 3 0)) ≡ twice zero_contents
unfolding computing_uploads
upload_next_with_no_upload_begun_shows_nothing = refl

pub upload_next_begins_no_upload : both_products (λ cat. (state_after cat (built ++ upload_next 3 0 ∷ [])).upload) ≡ twice none
unfolding computing_uploads
upload_next_begins_no_upload = refl

-- ---- whole notifications

-- all that is sent in a run from power-on
unfoldable pub all_sent : Catalogue → List Input → List (List ℕ)
all_sent cat l = map (λ r. sent r.1) (run_from_power_on cat l)

-- the signal is lost and found: numbers 1 and 2
pub alarm_notification_whole :
    both_products (λ cat. all_sent cat (signal_lost true ∷ signal_lost false ∷ []))
    ≡ twice (
    (0 ∷ 0 ∷ 0x10 ∷ 0x0A ∷ 0x00 ∷ 0x0B ∷ 0x01 ∷ 0x01 ∷ 0x80 ∷ replicate 27 0 ++ 0 ∷ 0 ∷ 0 ∷ 1 ∷ 0 ∷ 0 ∷ 0 ∷ 0x28 ∷ 0 ∷ 0 ∷ 0 ∷ 0 ∷ [])
    ∷ (0 ∷ 0 ∷ 0x10 ∷ 0x0A ∷ 0x00 ∷ 0x0B ∷ 0x01 ∷ 0x01 ∷ 0x00 ∷ replicate 27 0 ++ 0 ∷ 0 ∷ 0 ∷ 2 ∷ 0 ∷ 0 ∷ 0 ∷ 0x28 ∷ 0 ∷ 0 ∷ 0 ∷ 0 ∷ [])
    ∷ [])
unfolding computing_shown all_sent
alarm_notification_whole = refl

-- attributes 2 and 6: bits 4000 and 0400
pub avc_whole :
    both_products (λ cat. all_sent cat (call (attribute_report 11 0x0101 2 (0x2F ∷ [])) ∷ link 1 ∷ link 0 ∷ []))
    ≡ twice (
    (0 ∷ 0 ∷ 0x11 ∷ 0x0A ∷ 0x00 ∷ 0x0B ∷ 0x01 ∷ 0x01 ∷ 0x40 ∷ 0x00 ∷ 0x2F ∷ replicate 29 0 ++ 0 ∷ 0 ∷ 0 ∷ 0x28 ∷ 0 ∷ 0 ∷ 0 ∷ 0 ∷ [])
    ∷ (0 ∷ 0 ∷ 0x11 ∷ 0x0A ∷ 0x00 ∷ 0x0B ∷ 0x01 ∷ 0x01 ∷ 0x04 ∷ 0x00 ∷ 0x01 ∷ replicate 29 0 ++ 0 ∷ 0 ∷ 0 ∷ 0x28 ∷ 0 ∷ 0 ∷ 0 ∷ 0 ∷ [])
    ∷ (0 ∷ 0 ∷ 0x11 ∷ 0x0A ∷ 0x00 ∷ 0x0B ∷ 0x01 ∷ 0x01 ∷ 0x04 ∷ 0x00 ∷ 0x00 ∷ replicate 29 0 ++ 0 ∷ 0 ∷ 0 ∷ 0x28 ∷ 0 ∷ 0 ∷ 0 ∷ 0 ∷ [])
    ∷ [])
unfolding computing_shown all_sent
avc_whole = refl

-- Large's last UNI
pub notifications_name_their_instance :
    all_sent Large (call (attribute_report 11 0x0104 6 (1 ∷ [])) ∷ call (alarm_report 11 0x0104 0 true) ∷ [])
    ≡ (0 ∷ 0 ∷ 0x11 ∷ 0x0A ∷ 0x00 ∷ 0x0B ∷ 0x01 ∷ 0x04 ∷ 0x04 ∷ 0x00 ∷ 0x01 ∷ replicate 29 0 ++ 0 ∷ 0 ∷ 0 ∷ 0x28 ∷ 0 ∷ 0 ∷ 0 ∷ 0 ∷ [])
    ∷ (0 ∷ 0 ∷ 0x10 ∷ 0x0A ∷ 0x00 ∷ 0x0B ∷ 0x01 ∷ 0x04 ∷ 0x80 ∷ replicate 27 0 ++ 0 ∷ 0 ∷ 0 ∷ 1 ∷ 0 ∷ 0 ∷ 0 ∷ 0x28 ∷ 0 ∷ 0 ∷ 0 ∷ 0 ∷ [])
    ∷ []
unfolding computing_shown all_sent
notifications_name_their_instance = refl

-- ---- unnamed contents of a command are ignored

unfoldable pub junk : ℕ → List ℕ
junk n = replicate n 0xFF

-- behind a Get's mask, a Set's values and a Create's values (11 bytes of a bridge, 13 of a port); the Gets show what was stored
pub junk_behind_what_is_named_is_ignored :
    both_products (λ cat. told cat [] (
    get_uni 1 (0x80 ∷ 0 ∷ junk 30)
    ∷ set_uni 2 (0x80 ∷ 0 ∷ 7 ∷ junk 29)
    ∷ get_uni 3 (0xBC ∷ 0 ∷ junk 30)
    ∷ command 4 0x44 45 1 (good_bridge ++ junk 21)
    ∷ command 5 0x49 45 1 (0xFE ∷ 0 ∷ junk 30)
    ∷ command 6 0x44 47 1 (good_port ++ junk 19)
    ∷ command 7 0x49 47 1 (0xFF ∷ 0 ∷ junk 30)
    ∷ []))
    ≡ twice (
    fill 32 (0 ∷ 0x80 ∷ 0 ∷ 0 ∷ [])
    ∷ result 0
    ∷ fill 32 (0 ∷ 0xBC ∷ 0 ∷ 7 ∷ [])
    ∷ result 0
    ∷ fill 32 (0 ∷ 0xFE ∷ 0 ∷ good_bridge)
    ∷ result 0
    ∷ fill 32 (0 ∷ 0xFF ∷ 0 ∷ take 12 good_port)
    ∷ [])
unfolding computing_shown junk
junk_behind_what_is_named_is_ignored = refl

-- of a Delete and of a reset, which name no contents
pub junk_of_delete_and_reset_is_ignored :
    both_products (λ cat. told cat built (command 3 0x46 47 1 (junk 32) ∷ delete 4 47 1 ∷ command 5 0x4F 2 0 (junk 32) ∷ delete 6 45 1 ∷ []))
    ≡ twice (result 0 ∷ result 5 ∷ result 0 ∷ result 5 ∷ [])
unfolding computing_shown junk
junk_of_delete_and_reset_is_ignored = refl

-- with junk and without: a Delete, a Create, a Set, a reset
pub junk_changes_no_table :
    both_products (λ cat. map (λ (e : Input × Input). same (table_bytes cat (built ++ e.0 ∷ [])) (table_bytes cat (built ++ e.1 ∷ []))) (
    (command 3 0x46 45 1 (junk 32), delete 3 45 1)
    ∷ (command 3 0x44 45 2 (good_bridge ++ junk 21), command 3 0x44 45 2 good_bridge)
    ∷ (set_uni 3 (0x80 ∷ 0 ∷ 7 ∷ junk 29), set_uni 3 (0x80 ∷ 0 ∷ 7 ∷ []))
    ∷ (command 3 0x4F 2 0 (junk 32), reset 3)
    ∷ []))
    ≡ twice (replicate 4 true)
unfolding computing_shown junk
junk_changes_no_table = refl

-- and of walks, behind the index
pub junk_of_walks_is_ignored :
    both_products (λ cat. told cat (signal_lost true ∷ [])
    (command 1 0x4B 2 0 (junk 32) ∷ command 2 0x4C 2 0 (0 ∷ 0 ∷ junk 30) ∷ command 3 0x4D 2 0 (junk 32) ∷ command 4 0x4E 2 0 (0 ∷ 0 ∷ junk 30) ∷ []))
    ≡ both_products (λ cat. told cat (signal_lost true ∷ []) (all_alarms 1 ∷ alarms_next 2 0 ∷ upload 3 ∷ upload_next 4 0 ∷ []))
unfolding computing_shown junk
junk_of_walks_is_ignored = refl

-- ---- first contents

-- bit n of sixteen, attribute 1 at the top
unfoldable pub attribute_bits : List ℕ
attribute_bits =
    0x8000 ∷ 0x4000 ∷ 0x2000 ∷ 0x1000 ∷ 0x0800 ∷ 0x0400 ∷ 0x0200 ∷ 0x0100 ∷ 0x0080 ∷ 0x0040 ∷ 0x0020 ∷ 0x0010 ∷ 0x0008 ∷ 0x0004 ∷ 0x0002 ∷ 0x0001 ∷ []

-- attribute 8 is 05EE and attribute 11 is 02, on each of the four; the others are zero
pub first_contents_of_large_unis :
    each_told Large [] (map (λ i. command 1 0x49 11 i (0xFF ∷ 0xF8 ∷ [])) (0x0101 ∷ 0x0102 ∷ 0x0103 ∷ 0x0104 ∷ []))
    ≡ replicate 4 (fill 32 (0 ∷ 0xFF ∷ 0xF8 ∷ replicate 7 0 ++ 0x05 ∷ 0xEE ∷ 0 ∷ 0 ∷ 0 ∷ 2 ∷ 0 ∷ 0 ∷ []))
unfolding computing_shown
first_contents_of_large_unis = refl

-- one attribute after another: each Get shows its own, and those past 13 are unsupported
pub first_contents_of_a_large_uni_one_by_one :
    each_told Large [] (map (λ m. get_uni 1 (bytes 2 m)) attribute_bits)
    ≡ map (λ m. fill 32 (0 ∷ bytes 2 m)) (take 7 attribute_bits)
    ++ fill 32 (0 ∷ 0x01 ∷ 0x00 ∷ 0x05 ∷ 0xEE ∷ [])
    ∷ fill 32 (0 ∷ 0x00 ∷ 0x80 ∷ 0 ∷ [])
    ∷ fill 32 (0 ∷ 0x00 ∷ 0x40 ∷ 0 ∷ 0 ∷ [])
    ∷ fill 32 (0 ∷ 0x00 ∷ 0x20 ∷ 2 ∷ [])
    ∷ fill 32 (0 ∷ 0x00 ∷ 0x10 ∷ 0 ∷ [])
    ∷ fill 32 (0 ∷ 0x00 ∷ 0x08 ∷ 0 ∷ [])
    ∷ map (λ m. fill 32 (9 ∷ replicate 27 0 ++ bytes 2 m)) (0x0004 ∷ 0x0002 ∷ 0x0001 ∷ [])
unfolding computing_shown attribute_bits
first_contents_of_a_large_uni_one_by_one = refl

pub first_contents_of_a_small_uni_one_by_one :
    each_told Small [] (map (λ m. get_uni 1 (bytes 2 m)) attribute_bits)
    ≡ map (λ m. fill 32 (0 ∷ bytes 2 m)) (take 6 attribute_bits) ++ map (λ m. fill 32 (9 ∷ replicate 27 0 ++ bytes 2 m)) (drop 6 attribute_bits)
unfolding computing_shown attribute_bits
first_contents_of_a_small_uni_one_by_one = refl

-- Small has one UNI, and neither product has a 0x0100 or a 0x0105
pub unis_that_are_there :
    both_products (λ cat. map (take 1) (each_told cat [] (map (λ i. command 1 0x49 11 i (0x80 ∷ 0 ∷ [])) (0x0100 ∷ 0x0101 ∷ 0x0102 ∷ 0x0103 ∷ 0x0104 ∷ 0x0105 ∷ []))))
    ≡ map (map (λ n. n ∷ [])) ((5 ∷ 0 ∷ 5 ∷ 5 ∷ 5 ∷ 5 ∷ []) ∷ (5 ∷ 0 ∷ 0 ∷ 0 ∷ 0 ∷ 5 ∷ []) ∷ [])
unfolding computing_shown
unis_that_are_there = refl

-- ---- bounds

-- Sets of one attribute to one number after another, with bridge 1 and port 1 there: class, instance, the attribute's bit and size
unfoldable pub sets : ℕ → ℕ → ℕ → ℕ → List ℕ → Catalogue → List (List ℕ)
sets c i m size l cat = each_told cat built (map (λ n. command 9 0x48 c i (bytes 2 m ++ bytes size n)) l)

-- the replies where so many are too low, so many are legal and so many too high: refused with 9 and the bit in the failed mask
unfoldable pub below_in_above : ℕ → ℕ → ℕ → ℕ → List (List ℕ)
below_in_above m low good high =
    replicate low (fill 32 (9 ∷ 0 ∷ 0 ∷ bytes 2 m)) ++ replicate good (result 0) ++ replicate high (fill 32 (9 ∷ 0 ∷ 0 ∷ bytes 2 m))

unfoldable pub computing_bounds : ℕ
unfolding computing_shown sets below_in_above
computing_bounds = 0

-- loopback is 0 or 3
pub bounds_of_uni_4 :
    both_products (sets 11 0x0101 0x1000 1 (0 ∷ 1 ∷ 2 ∷ 3 ∷ 4 ∷ 255 ∷ [])) ≡ twice (below_in_above 0x1000 0 1 2 ++ below_in_above 0x1000 0 1 2)
unfolding computing_bounds
bounds_of_uni_4 = refl

-- admin state
pub bounds_of_uni_5 : both_products (sets 11 0x0101 0x0800 1 (0 ∷ 1 ∷ 2 ∷ 255 ∷ [])) ≡ twice (below_in_above 0x0800 0 2 2)
unfolding computing_bounds
bounds_of_uni_5 = refl

-- DTE/DCE
pub bounds_of_uni_9 : sets 11 0x0101 0x0080 1 (0 ∷ 1 ∷ 2 ∷ 3 ∷ 255 ∷ []) Large ≡ below_in_above 0x0080 0 3 2
unfolding computing_bounds
bounds_of_uni_9 = refl

-- bridged or IP
pub bounds_of_uni_11 : sets 11 0x0101 0x0020 1 (0 ∷ 1 ∷ 2 ∷ 3 ∷ 255 ∷ []) Large ≡ below_in_above 0x0020 0 3 2
unfolding computing_bounds
bounds_of_uni_11 = refl

-- ARC
pub bounds_of_uni_12 : sets 11 0x0101 0x0010 1 (0 ∷ 1 ∷ 2 ∷ 255 ∷ []) Large ≡ below_in_above 0x0010 0 2 2
unfolding computing_bounds
bounds_of_uni_12 = refl

-- expected type and auto detection
pub uni_attributes_of_any_content :
    both_products (λ cat. map (λ m. sets 11 0x0101 m 1 (0 ∷ 255 ∷ []) cat) (0x8000 ∷ 0x2000 ∷ [])) ≡ twice (replicate 2 (replicate 2 (result 0)))
unfolding computing_bounds
uni_attributes_of_any_content = refl

-- ARC interval, max frame and pause
pub large_uni_attributes_of_any_content :
    sets 11 0x0101 0x0008 1 (0 ∷ 255 ∷ []) Large ++ sets 11 0x0101 0x0100 2 (0 ∷ 0xFFFF ∷ []) Large ++ sets 11 0x0101 0x0040 2 (0 ∷ 0xFFFF ∷ []) Large ≡ replicate 6 (result 0)
unfolding computing_bounds
large_uni_attributes_of_any_content = refl

-- spanning tree, learning and ATM port bridging
pub bounds_of_45_1_to_3 :
    both_products (λ cat. map (λ m. sets 45 1 m 1 (0 ∷ 1 ∷ 2 ∷ 255 ∷ []) cat) (0x8000 ∷ 0x4000 ∷ 0x2000 ∷ []))
    ≡ twice (map (λ m. below_in_above m 0 2 2) (0x8000 ∷ 0x4000 ∷ 0x2000 ∷ []))
unfolding computing_bounds
bounds_of_45_1_to_3 = refl

pub priority_of_45_is_any : both_products (sets 45 1 0x1000 2 (0 ∷ 0xFFFF ∷ [])) ≡ twice (below_in_above 0x1000 0 2 0)
unfolding computing_bounds
priority_of_45_is_any = refl

pub bounds_of_45_max_age : both_products (sets 45 1 0x0800 2 (0 ∷ 0x05FF ∷ 0x0600 ∷ 0x2800 ∷ 0x2801 ∷ 0xFFFF ∷ [])) ≡ twice (below_in_above 0x0800 2 2 2)
unfolding computing_bounds
bounds_of_45_max_age = refl

pub bounds_of_45_hello_time : both_products (sets 45 1 0x0400 2 (0 ∷ 0x00FF ∷ 0x0100 ∷ 0x0A00 ∷ 0x0A01 ∷ 0xFFFF ∷ [])) ≡ twice (below_in_above 0x0400 2 2 2)
unfolding computing_bounds
bounds_of_45_hello_time = refl

pub bounds_of_45_forward_delay : both_products (sets 45 1 0x0200 2 (0 ∷ 0x03FF ∷ 0x0400 ∷ 0x1E00 ∷ 0x1E01 ∷ 0xFFFF ∷ [])) ≡ twice (below_in_above 0x0200 2 2 2)
unfolding computing_bounds
bounds_of_45_forward_delay = refl

pub bounds_of_47_port_priority : both_products (sets 47 1 0x0800 2 (0 ∷ 255 ∷ 256 ∷ 0xFFFF ∷ [])) ≡ twice (below_in_above 0x0800 0 2 2)
unfolding computing_bounds
bounds_of_47_port_priority = refl

pub bounds_of_47_port_path_cost : both_products (sets 47 1 0x0400 2 (0 ∷ 1 ∷ 0xFFFF ∷ [])) ≡ twice (below_in_above 0x0400 1 2 0)
unfolding computing_bounds
bounds_of_47_port_path_cost = refl

-- spanning tree and encapsulation
pub bounds_of_47_7_and_8 :
    both_products (λ cat. map (λ m. sets 47 1 m 1 (0 ∷ 1 ∷ 2 ∷ 255 ∷ []) cat) (0x0200 ∷ 0x0100 ∷ [])) ≡ twice (map (λ m. below_in_above m 0 2 2) (0x0200 ∷ 0x0100 ∷ []))
unfolding computing_bounds
bounds_of_47_7_and_8 = refl

pub bounds_of_47_lan_fcs_ind : sets 47 1 0x0080 1 (0 ∷ 1 ∷ 2 ∷ 255 ∷ []) Large ≡ below_in_above 0x0080 0 2 2
unfolding computing_bounds
bounds_of_47_lan_fcs_ind = refl

-- Creates of bridge 2 and of port 2 with one number after another at a place of what they carry
unfoldable pub creates : ℕ → List ℕ → ℕ → ℕ → List ℕ → Catalogue → List (List ℕ)
creates c good at size l cat = each_told cat built (map (λ n. command 9 0x44 c 2 (take at good ++ bytes size n ++ drop (at + size) good)) l)

-- the same with the bit in the bad-value mask
unfoldable pub bad_good_bad : ℕ → ℕ → ℕ → ℕ → List (List ℕ)
bad_good_bad m low good high = replicate low (fill 32 (3 ∷ bytes 2 m)) ++ replicate good (result 0) ++ replicate high (fill 32 (3 ∷ bytes 2 m))

unfoldable pub computing_creates : ℕ
unfolding computing_bounds creates bad_good_bad
computing_creates = 0

pub create_bounds_of_45 :
    both_products (λ cat.
    creates 45 good_bridge 0 1 (0 ∷ 1 ∷ 2 ∷ []) cat
    ++ creates 45 good_bridge 1 1 (0 ∷ 1 ∷ 2 ∷ []) cat
    ++ creates 45 good_bridge 2 1 (0 ∷ 1 ∷ 2 ∷ []) cat
    ++ creates 45 good_bridge 3 2 (0 ∷ 0xFFFF ∷ []) cat
    ++ creates 45 good_bridge 5 2 (0x05FF ∷ 0x0600 ∷ 0x2800 ∷ 0x2801 ∷ []) cat
    ++ creates 45 good_bridge 7 2 (0x00FF ∷ 0x0100 ∷ 0x0A00 ∷ 0x0A01 ∷ []) cat
    ++ creates 45 good_bridge 9 2 (0x03FF ∷ 0x0400 ∷ 0x1E00 ∷ 0x1E01 ∷ []) cat)
    ≡ twice (
    bad_good_bad 0x8000 0 2 1
    ++ bad_good_bad 0x4000 0 2 1
    ++ bad_good_bad 0x2000 0 2 1
    ++ bad_good_bad 0x1000 0 2 0
    ++ bad_good_bad 0x0800 1 2 1
    ++ bad_good_bad 0x0400 1 2 1
    ++ bad_good_bad 0x0200 1 2 1)
unfolding computing_creates
create_bounds_of_45 = refl

-- bridge 1 is there, bridges 0 and 2 aren't; PortNum is any; TPType is 1 or 2; TPPointer names UNI 0x0101, here by TPType 1
pub create_bounds_of_47 :
    both_products (λ cat.
    creates 47 good_port 0 2 (0 ∷ 1 ∷ 2 ∷ []) cat
    ++ creates 47 good_port 2 1 (0 ∷ 255 ∷ []) cat
    ++ creates 47 good_port 3 1 (0 ∷ 1 ∷ 2 ∷ 3 ∷ []) cat
    ++ creates 47 good_port 4 2 (0x0100 ∷ 0x0101 ∷ 0x0105 ∷ []) cat
    ++ creates 47 good_port 6 2 (0 ∷ 255 ∷ 256 ∷ []) cat
    ++ creates 47 good_port 8 2 (0 ∷ 1 ∷ 0xFFFF ∷ []) cat
    ++ creates 47 good_port 10 1 (0 ∷ 1 ∷ 2 ∷ []) cat
    ++ creates 47 good_port 11 1 (0 ∷ 1 ∷ 2 ∷ []) cat)
    ≡ twice (
    bad_good_bad 0x8000 1 1 1
    ++ bad_good_bad 0x4000 0 2 0
    ++ bad_good_bad 0x2000 1 2 1
    ++ bad_good_bad 0x1000 1 1 1
    ++ bad_good_bad 0x0800 0 2 1
    ++ bad_good_bad 0x0400 1 2 0
    ++ bad_good_bad 0x0200 0 2 1
    ++ bad_good_bad 0x0100 0 2 1)
unfolding computing_creates
create_bounds_of_47 = refl

-- by TPType 1 a port may name each UNI of its own product, and no other
pub ports_name_the_unis_of_their_product :
    both_products (λ cat. map (take 3) (creates 47 good_port 4 2 (0x0101 ∷ 0x0102 ∷ 0x0103 ∷ 0x0104 ∷ []) cat))
    ≡ ((0 ∷ 0 ∷ 0 ∷ []) ∷ replicate 3 (3 ∷ 0x10 ∷ 0 ∷ [])) ∷ replicate 4 (0 ∷ 0 ∷ 0 ∷ []) ∷ []
unfolding computing_creates
ports_name_the_unis_of_their_product = refl

-- ---- rights

-- Sets of each of the sixteen attributes alone, with bridge 1 and port 1 there: class, instance, the content by the attribute's bit
unfoldable pub set_alone : ℕ → ℕ → (ℕ → List ℕ) → Catalogue → List (List ℕ)
set_alone c i value cat = each_told cat built (map (λ m. command 9 0x48 c i (bytes 2 m ++ value m)) attribute_bits)

-- what the replies show of each: done; 9 with the bit in the unsupported mask; 9 with the bit in the failed mask
pub data Right : Type 0 where
  W : Right
  no_W : Right
  absent : Right

unfoldable pub reply_by_right : ℕ → Right → List ℕ
reply_by_right m W = result 0
reply_by_right m absent = fill 32 (9 ∷ bytes 2 m)
reply_by_right m no_W = fill 32 (9 ∷ 0 ∷ 0 ∷ bytes 2 m)

unfoldable pub replies_by_right : List ℕ → List Right → List (List ℕ)
replies_by_right [] l = []
replies_by_right (m ∷ ms) [] = []
replies_by_right (m ∷ ms) (r ∷ l) = reply_by_right m r ∷ replies_by_right ms l

-- legal contents: zeros, 0600 for the times of a bridge, 1 for a port's path cost
unfoldable pub legal_for : ℕ → ℕ → List ℕ
legal_for c m = cond (eqb c 45 and among m (0x0800 ∷ 0x0400 ∷ 0x0200 ∷ [])) (6 ∷ 0 ∷ []) (cond (eqb c 47) (0 ∷ 1 ∷ []) [])

unfoldable pub computing_rights : ℕ
unfolding computing_shown attribute_bits set_alone reply_by_right replies_by_right legal_for
computing_rights = 0

pub rights_of_2 : both_products (set_alone 2 0 (legal_for 2)) ≡ twice (replies_by_right attribute_bits (W ∷ replicate 15 absent))
unfolding computing_rights
rights_of_2 = refl

pub rights_of_small_11 :
    set_alone 11 0x0101 (legal_for 11) Small ≡ replies_by_right attribute_bits (W ∷ no_W ∷ W ∷ W ∷ W ∷ no_W ∷ replicate 10 absent)
unfolding computing_rights
rights_of_small_11 = refl

pub rights_of_large_11 :
    set_alone 11 0x0101 (legal_for 11) Large
    ≡ replies_by_right attribute_bits (W ∷ no_W ∷ W ∷ W ∷ W ∷ no_W ∷ no_W ∷ W ∷ W ∷ W ∷ W ∷ W ∷ W ∷ absent ∷ absent ∷ absent ∷ [])
unfolding computing_rights
rights_of_large_11 = refl

pub rights_of_45 : both_products (set_alone 45 1 (legal_for 45)) ≡ twice (replies_by_right attribute_bits (replicate 7 W ++ replicate 9 absent))
unfolding computing_rights
rights_of_45 = refl

pub rights_of_small_46 : set_alone 46 1 (legal_for 46) Small ≡ replies_by_right attribute_bits (replicate 6 no_W ++ replicate 10 absent)
unfolding computing_rights
rights_of_small_46 = refl

pub rights_of_large_46 : set_alone 46 1 (legal_for 46) Large ≡ replies_by_right attribute_bits (replicate 8 no_W ++ replicate 8 absent)
unfolding computing_rights
rights_of_large_46 = refl

pub rights_of_small_47 : set_alone 47 1 (legal_for 47) Small ≡ replies_by_right attribute_bits (replicate 4 no_W ++ replicate 4 W ++ replicate 8 absent)
unfolding computing_rights
rights_of_small_47 = refl

pub rights_of_large_47 : set_alone 47 1 (legal_for 47) Large ≡ replies_by_right attribute_bits (replicate 4 no_W ++ replicate 5 W ++ replicate 7 absent)
unfolding computing_rights
rights_of_large_47 = refl

-- these with the numbers from n on in front
unfoldable pub numbered : ℕ → List ℕ → Map ℕ
numbered n [] = []
numbered n (x ∷ l) = (n, x) ∷ numbered (n + 1) l

-- Reports of so many bytes 1 for attributes 1 to 9 of class c, instance i: quiet where they are L and have that size (none here has
-- an AVC), 12 where they aren't L, 13 where they have another size.
unfoldable pub report_alone : ℕ → ℕ → List ℕ → Catalogue → List Outcome
report_alone c i sizes cat = map (λ (e : ℕ × ℕ). outcome cat built (call (attribute_report c i e.0 (replicate e.1 1)))) (numbered 1 sizes)

pub L_of_46 :
    both_products (report_alone 46 1 (6 ∷ 2 ∷ 8 ∷ 4 ∷ 1 ∷ 2 ∷ 2 ∷ 2 ∷ 1 ∷ []))
    ≡ (quiet ∷ dropped 12 ∷ quiet ∷ quiet ∷ dropped 12 ∷ quiet ∷ dropped 12 ∷ dropped 12 ∷ dropped 12 ∷ [])
    ∷ (quiet ∷ dropped 12 ∷ quiet ∷ quiet ∷ dropped 12 ∷ quiet ∷ quiet ∷ quiet ∷ dropped 12 ∷ [])
    ∷ []
unfolding computing_rights numbered report_alone
L_of_46 = refl

-- a byte too many for each
pub sizes_of_L_of_46 :
    both_products (report_alone 46 1 (7 ∷ 3 ∷ 9 ∷ 5 ∷ 2 ∷ 3 ∷ 3 ∷ 3 ∷ 2 ∷ []))
    ≡ (dropped 13 ∷ dropped 12 ∷ dropped 13 ∷ dropped 13 ∷ dropped 12 ∷ dropped 13 ∷ dropped 12 ∷ dropped 12 ∷ dropped 12 ∷ [])
    ∷ (dropped 13 ∷ dropped 12 ∷ dropped 13 ∷ dropped 13 ∷ dropped 12 ∷ dropped 13 ∷ dropped 13 ∷ dropped 13 ∷ dropped 12 ∷ [])
    ∷ []
unfolding computing_rights numbered report_alone
sizes_of_L_of_46 = refl

pub no_L_of_2_45_and_47 :
    both_products (λ cat. map (λ (e : ℕ × ℕ). report_alone e.0 e.1 (replicate 9 1) cat) ((2, 0) ∷ (45, 1) ∷ (47, 1) ∷ [])) ≡ twice (replicate 3 (replicate 9 (dropped 12)))
unfolding computing_rights numbered report_alone
no_L_of_2_45_and_47 = refl

-- ---- places

-- 20 bridges and 20 ports use all places: the next of either kind has none; a deleted port's place is taken by a bridge
pub bridges_and_ports_share_the_places :
    both_products (λ cat. told cat (bridges 20 ++ ports 20) (bridge_number 21 ∷ port 21 1 ∷ delete 300 47 7 ∷ bridge_number 21 ∷ port 21 1 ∷ []))
    ≡ twice (result 1 ∷ result 1 ∷ result 0 ∷ result 0 ∷ result 1 ∷ [])
unfolding computing_shown
bridges_and_ports_share_the_places = refl

-- the last of the 40 Creates moves it to 40, and the next two leave it there
pub create_with_no_place_leaves_the_counter :
    both_products (λ cat. map (λ (r : State × Outcome). counter cat r.0.table) (drop 39 (run_from_power_on cat (bridges 20 ++ ports 20 ++ bridge_number 21 ∷ port 21 1 ∷ []))))
    ≡ twice (40 ∷ 40 ∷ 40 ∷ [])
unfolding computing_shown
create_with_no_place_leaves_the_counter = refl

-- ---- the order of Set's results, on the catalogue of the limits

-- Attributes 1 to 4 of class 100 have 31 bytes; beside them 5 is unsupported. Attributes 1, 2, 3 and 16 of class 200 have 32 bytes, of
-- which 1 can't be written; 16 may not be 255, and 4 is unsupported.
pub unsupported_and_unwritable_go_before_30_bytes :
    told Probe (full 0 1 ∷ []) (
    command 2 0x48 100 7 (0xF0 ∷ 0 ∷ [])
    ∷ command 3 0x48 100 7 (0xF8 ∷ 0 ∷ [])
    ∷ command 4 0x48 200 0 (0xE0 ∷ 1 ∷ [])
    ∷ command 5 0x48 200 0 (0xF0 ∷ 1 ∷ [])
    ∷ [])
    ≡ result 3 ∷ fill 32 (9 ∷ 0x08 ∷ 0 ∷ []) ∷ fill 32 (9 ∷ 0 ∷ 0 ∷ 0x80 ∷ 0 ∷ []) ∷ fill 32 (9 ∷ 0x10 ∷ 0 ∷ 0x80 ∷ 0 ∷ []) ∷ []
unfolding computing_shown
unsupported_and_unwritable_go_before_30_bytes = refl

-- 16 is 255: alone it is bad; beside 1 and beside 4 that isn't said
pub unsupported_and_unwritable_go_before_bad_contents :
    told Probe (full 0 1 ∷ []) (
    command 2 0x48 200 0 (0 ∷ 1 ∷ 255 ∷ [])
    ∷ command 3 0x48 200 0 (0x80 ∷ 1 ∷ replicate 26 255)
    ∷ command 4 0x48 200 0 (0x10 ∷ 1 ∷ replicate 26 255)
    ∷ [])
    ≡ fill 32 (9 ∷ 0 ∷ 0 ∷ 0 ∷ 1 ∷ []) ∷ fill 32 (9 ∷ 0 ∷ 0 ∷ 0x80 ∷ 0 ∷ []) ∷ fill 32 (9 ∷ 0x10 ∷ 0 ∷ []) ∷ []
unfolding computing_shown
unsupported_and_unwritable_go_before_bad_contents = refl

-- instance 8 isn't there, nor is 0: 5 goes before mask zero, an unsupported attribute, 31 bytes and bad contents
pub unknown_instance_goes_before_all_other_results_of_set :
    told Probe [] (command 1 0x48 100 8 [] ∷ command 2 0x48 100 8 (0x08 ∷ 0 ∷ []) ∷ command 3 0x48 100 8 (0xF0 ∷ 0 ∷ []) ∷ command 4 0x48 200 0 (0 ∷ 1 ∷ 255 ∷ []) ∷ [])
    ≡ replicate 4 (result 5)
unfolding computing_shown
unknown_instance_goes_before_all_other_results_of_set = refl

-- No writable attributes of Probe have more than 30 bytes and a rule, so one more class: 25, 1 and 5 bytes, the second at most 1.
unfoldable pub judged_class : Class
judged_class = record {
  commands = set_number ∷ get_number ∷ [];
  creation = automatic (7 ∷ []);
  alarms = [];
  attributes = (1, RW 25 any) ∷ (2, RW 1 (from 0 to 1)) ∷ (3, RW 5 any) ∷ [];
  unkept = [];
}

unfoldable pub Judged : Catalogue
Judged = record { places = 0; classes = (2, ont_data_class) ∷ (300, judged_class) ∷ [] }

-- 2 is bad for attribute 2: with 26 bytes its bit shows, with 31 bytes no bit does
pub more_than_30_bytes_goes_before_bad_contents :
    told Judged [] (command 1 0x48 300 7 (0xC0 ∷ 0 ∷ replicate 30 2) ∷ command 2 0x48 300 7 (0xE0 ∷ 0 ∷ replicate 30 2) ∷ [])
    ≡ fill 32 (9 ∷ 0 ∷ 0 ∷ 0x40 ∷ 0 ∷ []) ∷ result 3 ∷ []
unfolding computing_shown judged_class Judged
more_than_30_bytes_goes_before_bad_contents = refl

-- ---- message numbers

-- all from 0 to 31 but 4, 6, 8, 9 and 11 to 15
unfoldable pub not_built : List ℕ
not_built =
    0 ∷ 1 ∷ 2 ∷ 3 ∷ 5 ∷ 7 ∷ 10 ∷ 16 ∷ 17 ∷ 18 ∷ 19 ∷ 20 ∷ 21 ∷ 22 ∷ 23 ∷ 24 ∷ 25 ∷ 26 ∷ 27 ∷ 28 ∷ 29 ∷ 30 ∷ 31 ∷ []

-- the replies whole: c0 is 2 and the other contents are zero
unfoldable pub not_built_reply : ℕ → ℕ → List ℕ
not_built_reply c n = 0 ∷ 9 ∷ (0x20 + n) ∷ 0x0A ∷ 0 ∷ c ∷ 1 ∷ 1 ∷ 2 ∷ replicate 31 0 ++ 0 ∷ 0 ∷ 0 ∷ 0x28 ∷ 0 ∷ 0 ∷ 0 ∷ 0 ∷ []

-- to UNI 0x0101, and to class 99, which is unknown
pub numbers_that_are_not_built_answer_2 :
    both_products (λ cat. map (λ c. map (λ n. sent (outcome cat [] (command 9 (0x40 + n) c 0x0101 (junk 32)))) not_built) (11 ∷ 99 ∷ []))
    ≡ twice (map (λ c. map (not_built_reply c) not_built) (11 ∷ 99 ∷ []))
unfolding computing_shown junk not_built not_built_reply
numbers_that_are_not_built_answer_2 = refl
