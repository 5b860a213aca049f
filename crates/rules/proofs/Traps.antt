-- What is easy to get wrong, and the orders in which results and drops are tried: examples by computation from the rules.
use Prim.Native.Nat.{ℕ, zero, suc, ◌+◌, ◌-◌}
use mathlib.Core.Path.{◌≡◌, refl}
use mathlib.Core.Bool.{Bool, true, false}
use mathlib.Core.List.{List, [], ◌∷◌, ◌++◌, map}
use lib.ListN.{length, take, drop, replicate}
use Rattle.rules.specs.Bytes.{bytes, fill}
use Rattle.rules.specs.Catalogue.{Catalogue}
use Rattle.rules.specs.State.{State, counter, with_alarm_number}
use Rattle.rules.specs.Messages.{framed}
use Rattle.rules.specs.Reports.{Outcome, dropped, quiet, answered}
use Rattle.rules.specs.Run.{Input, message, attribute_report, alarm_report, step, store_length, fresh, after, run_from_power_on}
use Rattle.rules.specs.Products.{Small, Large}
use Rattle.rules.proofs.Examples.{call, command, shown, tell, good_bridge, bridge, upload_after, computing}

-- ---- messages

-- a Set and a Get of the first UNI: id and contents
unfoldable pub set_uni : ℕ → List ℕ → Input
set_uni id v = command id 0x48 11 0x0101 v

unfoldable pub get_uni : ℕ → List ℕ → Input
get_uni id v = command id 0x49 11 0x0101 v

-- the first UNI's operational state is reported: 0 the link is up, 1 it is down
unfoldable pub link : ℕ → Input
link state = call (attribute_report 11 0x0101 6 (state ∷ []))

-- its signal is lost or found
unfoldable pub signal_lost : Bool → Input
signal_lost on = call (alarm_report 11 0x0101 0 on)

unfoldable pub upload : ℕ → Input
upload id = command id 0x4D 2 0 []

unfoldable pub upload_next : ℕ → ℕ → Input
upload_next id n = command id 0x4E 2 0 (bytes 2 n)

-- a Create of bridge i
unfoldable pub bridge_number : ℕ → Input
bridge_number i = command (i + 1) 0x44 45 i good_bridge

-- a Create of port i of bridge b
unfoldable pub port : ℕ → ℕ → Input
port i b = command (i + 100) 0x44 47 i (bytes 2 b ++ 1 ∷ 1 ∷ 0x01 ∷ 0x01 ∷ 0 ∷ 0x80 ∷ 0 ∷ 1 ∷ 0 ∷ 0 ∷ 0 ∷ [])

-- bridges 1 to n
unfoldable pub bridges : ℕ → List Input
bridges zero = []
bridges (suc n) = bridge_number (suc n) ∷ bridges n

-- what each call sends, after some others from power-on
unfoldable pub told : Catalogue → List Input → List Input → List (List ℕ)
told cat before l = map (λ r. shown r.1) (drop (length before) (run_from_power_on cat (before ++ l)))

unfoldable pub outcome : Catalogue → List Input → Input → Outcome
outcome cat before p = (step cat (after cat (fresh cat) before) p).1

unfoldable pub computing_traps : ℕ
unfolding computing set_uni get_uni link signal_lost upload upload_next bridge_number port bridges told outcome
computing_traps = 0

-- ---- repeats

pub same_id_with_another_command_is_no_repeat :
    tell Small (set_uni 5 (0x80 ∷ 0 ∷ 7 ∷ []) ∷ []) (get_uni 5 (0x80 ∷ 0 ∷ [])) ≡ fill 32 (0 ∷ 0x80 ∷ 0 ∷ 7 ∷ [])
unfolding computing_traps
same_id_with_another_command_is_no_repeat = refl

pub same_id_with_other_contents_is_no_repeat :
    tell Small (set_uni 5 (0x80 ∷ 0 ∷ 7 ∷ []) ∷ set_uni 5 (0x80 ∷ 0 ∷ 8 ∷ []) ∷ []) (get_uni 6 (0x80 ∷ 0 ∷ [])) ≡ fill 32 (0 ∷ 0x80 ∷ 0 ∷ 8 ∷ [])
unfolding computing_traps
same_id_with_other_contents_is_no_repeat = refl

-- a Create of bridge 1 that is no repeat is answered 7
pub repeat_gets_the_old_reply : told Small [] (bridge ∷ bridge ∷ command 2 0x44 45 1 good_bridge ∷ [])
    ≡ fill 32 (0 ∷ []) ∷ fill 32 (0 ∷ []) ∷ fill 32 (7 ∷ []) ∷ []
unfolding computing_traps
repeat_gets_the_old_reply = refl

pub repeat_changes_nothing : after Small (fresh Small) (bridge ∷ bridge ∷ []) ≡ after Small (fresh Small) (bridge ∷ [])
unfolding computing_traps
repeat_changes_nothing = refl

-- the checksum doesn't count; and the reply is the old one, though the link went down since
pub repeat_is_by_the_first_40_bytes :
    outcome Small (get_uni 5 (0x04 ∷ 0 ∷ []) ∷ link 1 ∷ [])
    (call (message (take 44 (framed (bytes 2 5) 0x49 (bytes 2 11 ++ bytes 2 0x0101) (0x04 ∷ 0 ∷ [])) ++ 1 ∷ 2 ∷ 3 ∷ 4 ∷ [])))
    ≡ outcome Small [] (get_uni 5 (0x04 ∷ 0 ∷ []))
unfolding computing_traps
repeat_is_by_the_first_40_bytes = refl

-- type 0x04 is dropped (5); the Create before it is still the last answered command
pub dropped_message_is_not_remembered :
    told Small (bridge ∷ command 1 0x04 45 1 good_bridge ∷ []) (bridge ∷ []) ≡ fill 32 (0 ∷ []) ∷ []
unfolding computing_traps
dropped_message_is_not_remembered = refl

-- a refused Get is now the last answered command, so the Create is no repeat
pub refused_command_is_remembered :
    told Small (bridge ∷ command 2 0x49 45 2 (0x80 ∷ 0 ∷ []) ∷ []) (bridge ∷ []) ≡ fill 32 (7 ∷ []) ∷ []
unfolding computing_traps
refused_command_is_remembered = refl

-- ---- walks

-- a Set and a link report after the upload don't show; a later upload shows them
pub upload_shows_the_frozen_table :
    told Small (upload 1 ∷ set_uni 2 (0x80 ∷ 0 ∷ 9 ∷ []) ∷ link 1 ∷ []) (upload_next 3 0 ∷ upload 4 ∷ upload_next 5 0 ∷ [])
    ≡ fill 32 (0x00 ∷ 0x0B ∷ 0x01 ∷ 0x01 ∷ 0xFC ∷ 0x00 ∷ [])
    ∷ fill 32 (0 ∷ 1 ∷ [])
    ∷ fill 32 (0x00 ∷ 0x0B ∷ 0x01 ∷ 0x01 ∷ 0xFC ∷ 0x00 ∷ 9 ∷ 0 ∷ 0 ∷ 0 ∷ 0 ∷ 1 ∷ [])
    ∷ []
unfolding computing_traps
upload_shows_the_frozen_table = refl

pub upload_has_no_section_of_class_2 : map (take 4) (upload_after Large [])
    ≡ (0 ∷ 11 ∷ 1 ∷ 1 ∷ []) ∷ (0 ∷ 11 ∷ 1 ∷ 2 ∷ []) ∷ (0 ∷ 11 ∷ 1 ∷ 3 ∷ []) ∷ (0 ∷ 11 ∷ 1 ∷ 4 ∷ []) ∷ []
unfolding computing_traps
upload_has_no_section_of_class_2 = refl

-- by class, then by number, not in the order in which they came
pub upload_goes_by_class_then_number : map (take 4) (upload_after Small (bridge_number 2 ∷ port 9 2 ∷ bridge_number 1 ∷ port 3 2 ∷ []))
    ≡ (0 ∷ 11 ∷ 1 ∷ 1 ∷ []) ∷ (0 ∷ 45 ∷ 0 ∷ 1 ∷ []) ∷ (0 ∷ 45 ∷ 0 ∷ 2 ∷ []) ∷ (0 ∷ 46 ∷ 0 ∷ 1 ∷ []) ∷ (0 ∷ 46 ∷ 0 ∷ 2 ∷ [])
    ∷ (0 ∷ 47 ∷ 0 ∷ 3 ∷ []) ∷ (0 ∷ 47 ∷ 0 ∷ 9 ∷ []) ∷ []
unfolding computing_traps
upload_goes_by_class_then_number = refl

-- no walk begun; the index at the count; an upload of another instance, of another class and of an unknown one, which
-- change no walk: the last Next still shows the section
pub walks_that_show_nothing :
    told Small [] (upload_next 1 0 ∷ upload 2 ∷ upload_next 3 1 ∷ command 4 0x4D 2 1 [] ∷ command 5 0x4E 11 0x0101 [] ∷ command 6 0x4D 99 0 []
    ∷ upload_next 7 0 ∷ [])
    ≡ replicate 32 0 ∷ fill 32 (0 ∷ 1 ∷ []) ∷ replicate 32 0 ∷ replicate 32 0 ∷ replicate 32 0 ∷ replicate 32 0
    ∷ fill 32 (0x00 ∷ 0x0B ∷ 0x01 ∷ 0x01 ∷ 0xFC ∷ 0x00 ∷ []) ∷ []
unfolding computing_traps
walks_that_show_nothing = refl

-- the alarm is cleared after it was frozen
pub alarm_walk_shows_the_frozen_bitmaps :
    told Small (signal_lost true ∷ []) (command 1 0x4B 2 0 [] ∷ signal_lost false ∷ command 2 0x4C 2 0 (0 ∷ 0 ∷ []) ∷ command 3 0x4B 2 0 [] ∷ [])
    ≡ fill 32 (0 ∷ 1 ∷ []) ∷ (replicate 31 0 ++ 1 ∷ []) ∷ fill 32 (0x00 ∷ 0x0B ∷ 0x01 ∷ 0x01 ∷ 0x80 ∷ []) ∷ fill 32 [] ∷ []
unfolding computing_traps
alarm_walk_shows_the_frozen_bitmaps = refl

-- ---- the order of results

-- message 5 isn't built; class 99 is unknown; Create isn't for class 11, nor is MIB reset
pub first_results_in_order : told Small [] (command 1 0x45 99 0 [] ∷ command 2 0x44 99 0 [] ∷ command 3 0x44 11 0x0101 [] ∷ command 4 0x4F 11 0x0101 [] ∷ [])
    ≡ fill 32 (2 ∷ []) ∷ fill 32 (4 ∷ []) ∷ fill 32 (2 ∷ []) ∷ fill 32 (2 ∷ []) ∷ []
unfolding computing_traps
first_results_in_order = refl

pub create_of_what_exists_answers_7_though_its_contents_are_bad : tell Small (bridge ∷ []) (command 2 0x44 45 1 (2 ∷ [])) ≡ fill 32 (7 ∷ [])
unfolding computing_traps
create_of_what_exists_answers_7_though_its_contents_are_bad = refl

-- 40 places are in use: what exists, what is bad, and what has no place
pub create_with_all_places_in_use :
    told Small (bridges 40) (command 50 0x44 45 40 (2 ∷ []) ∷ command 51 0x44 45 41 (2 ∷ drop 1 good_bridge) ∷ command 52 0x44 45 41 good_bridge ∷ [])
    ≡ fill 32 (7 ∷ []) ∷ fill 32 (3 ∷ 0x80 ∷ 0 ∷ []) ∷ fill 32 (1 ∷ []) ∷ []
unfolding computing_traps
create_with_all_places_in_use = refl

-- attribute 2 can't be written, attribute 7 isn't supported
pub set_fails_with_each_bit_in_its_own_mask : tell Small [] (set_uni 1 (0xC2 ∷ 0 ∷ [])) ≡ fill 32 (9 ∷ 0x02 ∷ 0 ∷ 0x40 ∷ 0 ∷ [])
unfolding computing_traps
set_fails_with_each_bit_in_its_own_mask = refl

-- loopback 1 is bad: the good expected type isn't stored, nor does the counter move
pub refused_set_stores_nothing :
    told Small [] (set_uni 1 (0x90 ∷ 0 ∷ 7 ∷ 1 ∷ []) ∷ get_uni 2 (0x90 ∷ 0 ∷ []) ∷ command 3 0x49 2 0 (0x80 ∷ 0 ∷ []) ∷ [])
    ≡ fill 32 (9 ∷ 0 ∷ 0 ∷ 0x10 ∷ 0 ∷ []) ∷ fill 32 (0 ∷ 0x90 ∷ 0 ∷ []) ∷ fill 32 (0 ∷ 0x80 ∷ 0 ∷ []) ∷ []
unfolding computing_traps
refused_set_stores_nothing = refl

-- an instance that isn't there, with mask zero; mask zero; an unsupported bit beside bad content
pub set_results_in_order :
    told Small [] (command 1 0x48 11 1 [] ∷ set_uni 2 [] ∷ set_uni 3 (0x11 ∷ 0 ∷ 1 ∷ []) ∷ [])
    ≡ fill 32 (5 ∷ []) ∷ fill 32 (3 ∷ []) ∷ fill 32 (9 ∷ 0x01 ∷ 0 ∷ []) ∷ []
unfolding computing_traps
set_results_in_order = refl

-- loopback 1 and admin state 2 are bad, expected type 7 isn't; each alone, and both
pub set_fails_with_every_bad_bit :
    told Small [] (set_uni 1 (0x90 ∷ 0 ∷ 7 ∷ 1 ∷ []) ∷ set_uni 2 (0x88 ∷ 0 ∷ 7 ∷ 2 ∷ []) ∷ set_uni 3 (0x98 ∷ 0 ∷ 7 ∷ 1 ∷ 2 ∷ []) ∷ [])
    ≡ map (λ b. fill 32 (9 ∷ 0 ∷ 0 ∷ b ∷ 0 ∷ [])) (0x10 ∷ 0x08 ∷ 0x18 ∷ [])
unfolding computing_traps
set_fails_with_every_bad_bit = refl

-- loopback 1 is bad: beside attribute 2, which can't be written, beside 7, which isn't supported, and beside both it doesn't show
pub bad_contents_do_not_show_beside_other_failures :
    told Small [] (set_uni 1 (0x50 ∷ 0 ∷ 7 ∷ 1 ∷ []) ∷ set_uni 2 (0x12 ∷ 0 ∷ 1 ∷ []) ∷ set_uni 3 (0x52 ∷ 0 ∷ 7 ∷ 1 ∷ []) ∷ [])
    ≡ fill 32 (9 ∷ 0 ∷ 0 ∷ 0x40 ∷ 0 ∷ []) ∷ fill 32 (9 ∷ 0x02 ∷ 0 ∷ []) ∷ fill 32 (9 ∷ 0x02 ∷ 0 ∷ 0x40 ∷ 0 ∷ []) ∷ []
unfolding computing_traps
bad_contents_do_not_show_beside_other_failures = refl

-- the same, and an unsupported bit beside 27 bytes of values; a refused Get shows zero mask and values
pub get_results_in_order :
    told Large (bridge ∷ []) (command 2 0x49 46 2 [] ∷ command 3 0x49 46 1 [] ∷ command 4 0x49 46 1 (0xFF ∷ 0x80 ∷ []) ∷ [])
    ≡ fill 32 (5 ∷ []) ∷ fill 32 (3 ∷ []) ∷ fill 32 (9 ∷ replicate 27 0 ++ 0x00 ∷ 0x80 ∷ []) ∷ []
unfolding computing_traps
get_results_in_order = refl

-- ---- numbers that go round

-- the counter is set to 253 by class 2's own Set, which doesn't move it; then three Sets do
pub counter_goes_254_255_1 :
    map (λ n. counter Small (after Small (fresh Small) (command 1 0x48 2 0 (0x80 ∷ 0 ∷ 253 ∷ []) ∷ take n (set_uni 2 (0x80 ∷ 0 ∷ 1 ∷ []) ∷ set_uni 3 (0x80 ∷ 0 ∷ 2 ∷ [])
    ∷ set_uni 4 (0x80 ∷ 0 ∷ 3 ∷ []) ∷ []))).table) (0 ∷ 1 ∷ 2 ∷ 3 ∷ [])
    ≡ 253 ∷ 254 ∷ 255 ∷ 1 ∷ []
unfolding computing_traps
counter_goes_254_255_1 = refl

-- a fresh Small that has sent so many alarms
unfoldable pub alarmed : ℕ → State
alarmed n = with_alarm_number n (fresh Small)

pub alarm_number_goes_254_255_1 : map (λ n. (step Small (alarmed n) (signal_lost true)).0.alarm_number) (0 ∷ 254 ∷ 255 ∷ []) ≡ 1 ∷ 255 ∷ 1 ∷ []
unfolding computing_traps alarmed
alarm_number_goes_254_255_1 = refl

-- the sequence number is the last of the contents
pub get_all_alarms_sets_the_alarm_number_to_0 :
    map (λ o. drop 31 o) (told Small [] (signal_lost true ∷ signal_lost false ∷ command 1 0x4B 2 0 [] ∷ signal_lost true ∷ []))
    ≡ (1 ∷ []) ∷ (2 ∷ []) ∷ (0 ∷ []) ∷ (1 ∷ []) ∷ []
unfolding computing_traps
get_all_alarms_sets_the_alarm_number_to_0 = refl

-- ---- drops

-- a Get of the counter, with room for a reply of so many bytes and a store of so many, so long, with this id, type, device and
-- last of the bytes 40 to 43
unfoldable pub faulty : ℕ → ℕ → ℕ → ℕ → ℕ → ℕ → ℕ → Input
faulty reply_room store_room length id type device trailer = record {
  reply_room = reply_room;
  store_room = store_room;
  call = message (fill length (0 ∷ id ∷ type ∷ device ∷ 0 ∷ 2 ∷ 0 ∷ 0 ∷ 0x80 ∷ replicate 34 0 ++ trailer ∷ []));
}

-- wrong in every way; then one fault after another is mended
pub drops_1_to_7_in_order :
    map (step Small (fresh Small)) (
    faulty 47 (store_length - 1) 47 0 0x09 0x0B 0x29
    ∷ faulty 48 (store_length - 1) 47 0 0x09 0x0B 0x29
    ∷ faulty 48 store_length 47 0 0x09 0x0B 0x29
    ∷ faulty 48 store_length 48 0 0x09 0x0B 0x29
    ∷ faulty 48 store_length 48 0 0x09 0x0A 0x29
    ∷ faulty 48 store_length 48 0 0x49 0x0A 0x29
    ∷ faulty 48 store_length 48 1 0x49 0x0A 0x29
    ∷ [])
    ≡ map (λ n. (fresh Small, dropped n)) (1 ∷ 2 ∷ 3 ∷ 4 ∷ 5 ∷ 6 ∷ 7 ∷ [])
unfolding computing_traps faulty
drops_1_to_7_in_order = refl

pub without_a_fault_it_is_answered : outcome Small [] (faulty 48 store_length 48 1 0x49 0x0A 0x28) ≡ answered (framed (0 ∷ 1 ∷ []) 0x29 (0 ∷ 2 ∷ 0 ∷ 0 ∷ []) (0 ∷ 0x80 ∷ 0 ∷ []))
unfolding computing_traps faulty
without_a_fault_it_is_answered = refl

-- 0x89, 0x69 and 0x09 have other top bits than 0x49
pub top_three_type_bits_are_0_1_0 : map (λ type. outcome Small [] (faulty 48 store_length 48 1 type 0x0A 0x28)) (0x89 ∷ 0x69 ∷ 0x09 ∷ []) ≡ dropped 5 ∷ dropped 5 ∷ dropped 5 ∷ []
unfolding computing_traps faulty
top_three_type_bits_are_0_1_0 = refl

-- too little room for a reply, and a store that is too short; no such instance; attribute 1 isn't L, and Small has no 7;
-- content too long, and not legal
pub attribute_report_drops_in_order :
    map (step Small (fresh Small)) (
    record { reply_room = 47; store_room = store_length - 1; call = attribute_report 11 1 1 [] }
    ∷ record { reply_room = 48; store_room = store_length - 1; call = attribute_report 11 1 1 [] }
    ∷ call (attribute_report 11 1 1 [])
    ∷ call (attribute_report 45 1 1 [])
    ∷ call (attribute_report 11 0x0101 1 [])
    ∷ call (attribute_report 11 0x0101 7 [])
    ∷ call (attribute_report 11 0x0101 6 (0 ∷ 1 ∷ []))
    ∷ link 2
    ∷ [])
    ≡ map (λ n. (fresh Small, dropped n)) (1 ∷ 2 ∷ 11 ∷ 11 ∷ 12 ∷ 12 ∷ 13 ∷ 13 ∷ [])
unfolding computing_traps
attribute_report_drops_in_order = refl

pub alarm_report_drops_in_order :
    map (outcome Small []) (call (alarm_report 11 1 9 true) ∷ call (alarm_report 2 0 0 true) ∷ call (alarm_report 11 0x0101 1 true) ∷ [])
    ≡ dropped 11 ∷ dropped 12 ∷ dropped 12 ∷ []
unfolding computing_traps
alarm_report_drops_in_order = refl

-- ---- reports

-- the link goes down, and says so once; a configuration report is stored and says nothing, as no AVC is named
pub report_is_sent_only_if_something_changed :
    map (λ r. r.1) (run_from_power_on Large (link 0 ∷ link 1 ∷ link 1 ∷ call (attribute_report 11 0x0101 7 (5 ∷ [])) ∷ signal_lost false ∷ []))
    ≡ quiet ∷ answered (framed (0 ∷ 0 ∷ []) 0x11 (0 ∷ 11 ∷ 1 ∷ 1 ∷ []) (0x04 ∷ 0 ∷ 1 ∷ [])) ∷ quiet ∷ quiet ∷ quiet ∷ []
unfolding computing_traps
report_is_sent_only_if_something_changed = refl

pub quiet_report_is_stored : tell Large (call (attribute_report 11 0x0101 7 (5 ∷ [])) ∷ []) (get_uni 1 (0x02 ∷ 0 ∷ [])) ≡ fill 32 (0 ∷ 0x02 ∷ 0 ∷ 5 ∷ [])
unfolding computing_traps
quiet_report_is_stored = refl

-- ---- bridges and ports

-- TPType 3 is bad (attribute 3), so TPPointer 0909 isn't judged; PortPriority 0120, PortPathCost 0000, spanning tree 02 and the
-- ninth byte 05 are bad (attributes 5, 6, 7 and 9), in either product
pub port_with_every_bad_bit :
    map (λ cat. tell cat (bridge ∷ []) (command 2 0x44 47 1 (0x00 ∷ 0x01 ∷ 0x01 ∷ 0x03 ∷ 0x09 ∷ 0x09 ∷ 0x01 ∷ 0x20 ∷ 0x00 ∷ 0x00 ∷ 0x02 ∷ 0x00 ∷ 0x05 ∷ [])))
    (Small ∷ Large ∷ [])
    ≡ fill 32 (3 ∷ 0x2E ∷ 0x80 ∷ []) ∷ fill 32 (3 ∷ 0x2E ∷ 0x80 ∷ []) ∷ []
unfolding computing_traps
port_with_every_bad_bit = refl

-- with TPType 1 the pointer names a UNI, with 2 it may be anything; bridge 2 isn't there
pub port_pointers :
    map (λ v. take 3 (tell Small (bridge ∷ []) (command 2 0x44 47 1 (v ++ 0 ∷ 0 ∷ 0 ∷ 1 ∷ []))))
    ((0 ∷ 1 ∷ 1 ∷ 1 ∷ 9 ∷ 9 ∷ []) ∷ (0 ∷ 1 ∷ 1 ∷ 2 ∷ 9 ∷ 9 ∷ []) ∷ (0 ∷ 1 ∷ 1 ∷ 1 ∷ 1 ∷ 1 ∷ []) ∷ (0 ∷ 2 ∷ 1 ∷ 1 ∷ 1 ∷ 2 ∷ []) ∷ [])
    ≡ (3 ∷ 0x10 ∷ 0 ∷ []) ∷ (0 ∷ 0 ∷ 0 ∷ []) ∷ (0 ∷ 0 ∷ 0 ∷ []) ∷ (3 ∷ 0x90 ∷ 0 ∷ []) ∷ []
unfolding computing_traps
port_pointers = refl

-- attribute 9's byte: Large keeps 1, in Small it must be zero
pub ninth_byte_is_carried_in_both_products :
    map (λ cat. map (λ x. take 3 (tell cat (bridge ∷ []) (command 2 0x44 47 1 (0 ∷ 1 ∷ 1 ∷ 2 ∷ 0 ∷ 0 ∷ 0 ∷ 0 ∷ 0 ∷ 1 ∷ 0 ∷ 0 ∷ x ∷ [])))) (0 ∷ 1 ∷ 2 ∷ []))
    (Small ∷ Large ∷ [])
    ≡ ((0 ∷ 0 ∷ 0 ∷ []) ∷ (3 ∷ 0 ∷ 0x80 ∷ []) ∷ (3 ∷ 0 ∷ 0x80 ∷ []) ∷ []) ∷ ((0 ∷ 0 ∷ 0 ∷ []) ∷ (0 ∷ 0 ∷ 0 ∷ []) ∷ (3 ∷ 0 ∷ 0x80 ∷ []) ∷ []) ∷ []
unfolding computing_traps
ninth_byte_is_carried_in_both_products = refl

-- two ports name bridge 1, one names bridge 2; BridgePriority is the profile's Priority, also after a Set of it
pub bridge_counts_its_ports_and_reads_its_profile :
    tell Small (bridge_number 1 ∷ bridge_number 2 ∷ port 1 1 ∷ port 2 2 ∷ port 3 1 ∷ command 200 0x48 45 1 (0x10 ∷ 0 ∷ 0x12 ∷ 0x34 ∷ []) ∷ [])
    (command 201 0x49 46 1 (0x48 ∷ 0 ∷ []))
    ≡ fill 32 (0 ∷ 0x48 ∷ 0 ∷ 0x12 ∷ 0x34 ∷ 2 ∷ [])
unfolding computing_traps
bridge_counts_its_ports_and_reads_its_profile = refl

-- the configuration goes with its profile, the port stays, and counts again for a new bridge of that number
pub ports_of_a_deleted_bridge_stay :
    told Small (bridge_number 1 ∷ port 1 1 ∷ command 200 0x46 45 1 [] ∷ [])
    (command 201 0x49 46 1 (0x08 ∷ 0 ∷ []) ∷ command 202 0x49 47 1 (0x80 ∷ 0 ∷ []) ∷ bridge_number 1 ∷ command 203 0x49 46 1 (0x08 ∷ 0 ∷ []) ∷ [])
    ≡ fill 32 (5 ∷ []) ∷ fill 32 (0 ∷ 0x80 ∷ 0 ∷ 0 ∷ 1 ∷ []) ∷ fill 32 (0 ∷ []) ∷ fill 32 (0 ∷ 0x08 ∷ 0 ∷ 1 ∷ []) ∷ []
unfolding computing_traps
ports_of_a_deleted_bridge_stay = refl

-- Large's HelloTime and ForwardDelay of the configuration start as the Create carried them, and no Set of the profile moves them
pub first_content_is_copied_from_the_create :
    tell Large (bridge ∷ command 2 0x48 45 1 (0x04 ∷ 0 ∷ 3 ∷ 0 ∷ []) ∷ []) (command 3 0x49 46 1 (0x03 ∷ 0 ∷ [])) ≡ fill 32 (0 ∷ 0x03 ∷ 0 ∷ 2 ∷ 0 ∷ 0x0F ∷ 0 ∷ [])
unfolding computing_traps
first_content_is_copied_from_the_create = refl

-- ---- MIB reset

-- a bridge, a written W attribute, a link that is down, an alarm, an upload
unfoldable pub before_reset : List Input
before_reset = bridge ∷ set_uni 2 (0x80 ∷ 0 ∷ 7 ∷ []) ∷ link 1 ∷ signal_lost true ∷ upload 3 ∷ []

-- the counter is 0, the bridge is gone, W is zero again and L stays, the upload has ended, the alarm stays and the next one is number 2
pub reset_keeps_L_and_alarms :
    told Small before_reset (command 4 0x4F 2 0 [] ∷ command 5 0x49 2 0 (0x80 ∷ 0 ∷ []) ∷ command 6 0x49 45 1 (0x80 ∷ 0 ∷ []) ∷ get_uni 7 (0x84 ∷ 0 ∷ []) ∷ upload_next 8 0
    ∷ signal_lost false ∷ [])
    ≡ fill 32 (0 ∷ []) ∷ fill 32 (0 ∷ 0x80 ∷ 0 ∷ []) ∷ fill 32 (5 ∷ []) ∷ fill 32 (0 ∷ 0x84 ∷ 0 ∷ 0 ∷ 1 ∷ []) ∷ replicate 32 0 ∷ (replicate 31 0 ++ 2 ∷ []) ∷ []
unfolding computing_traps before_reset
reset_keeps_L_and_alarms = refl
