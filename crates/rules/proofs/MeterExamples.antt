-- Meter, the product of document 02's ticket 10, by computation from the rules.
use Prim.Native.Nat.{ℕ}
use mathlib.Core.Path.{◌≡◌, refl}
use mathlib.Core.Bool.{true, false}
use mathlib.Core.List.{List, [], ◌∷◌, ◌++◌, map}
use lib.ListN.{replicate}
use Rattle.rules.specs.Bytes.{byte, fill}
use Rattle.rules.specs.Maps.{keys}
use Rattle.rules.specs.Catalogue.{automatic_numbers, class, attribute}
use Rattle.rules.specs.State.{State, read, counter, overwrite, change, with_table}
use Rattle.rules.specs.Messages.{framed}
use Rattle.rules.specs.Reports.{dropped, quiet, answered}
use Rattle.rules.specs.Run.{Input, attribute_report, step, fresh, run_from_power_on}
use Rattle.rules.specs.Products.{Small, Meter}
use Rattle.rules.proofs.Examples.{call, command, shown, tell, good_bridge, computing}
use Rattle.rules.proofs.Traps.{get_uni, link, signal_lost, upload, upload_next, told, computing_traps}

-- ---- the catalogue

-- class 2 and the UNI; one UNI; its attributes 1, 2, 5 and 6; 40 places
pub meter_has :
    keys Meter.classes ∷ automatic_numbers (class Meter 11).creation ∷ keys (class Meter 11).attributes ∷ (Meter.places ∷ []) ∷ []
    ≡ (2 ∷ 11 ∷ []) ∷ (0x0101 ∷ []) ∷ (1 ∷ 2 ∷ 5 ∷ 6 ∷ []) ∷ (40 ∷ []) ∷ []
unfolding computing
meter_has = refl

-- they are Small's own: size, rights, rule and AVC; so is the counter, and the UNI's alarm
pub its_attributes_are_small_s : map (λ n. attribute (class Meter 11) n) (1 ∷ 2 ∷ 5 ∷ 6 ∷ []) ≡ map (λ n. attribute (class Small 11) n) (1 ∷ 2 ∷ 5 ∷ 6 ∷ [])
unfolding computing
its_attributes_are_small_s = refl

pub its_counter_is_small_s : (class Meter 2).attributes ≡ (class Small 2).attributes
unfolding computing
its_counter_is_small_s = refl

pub its_alarm_is_small_s : (class Meter 11).alarms ≡ (class Small 11).alarms
unfolding computing
its_alarm_is_small_s = refl

-- ---- commands

-- the results of these commands, each after power-on
unfoldable pub results : List Input → List ℕ
results l = map (λ p. byte (tell Meter [] p) 0) l

-- a Create, a Delete and a Set of this instance
unfoldable pub changes : ℕ → ℕ → List Input
changes c i = command 1 0x44 c i good_bridge ∷ command 2 0x46 c i [] ∷ command 3 0x48 c i (0x80 ∷ 0 ∷ 1 ∷ []) ∷ []

-- 2 for every known class, also of an instance that isn't there
pub create_delete_and_set_are_not_supported : results (changes 2 0 ++ changes 11 0x0101 ++ changes 11 7) ≡ replicate 9 2
unfolding computing results changes
create_delete_and_set_are_not_supported = refl

-- 4 for any other: bridges and ports are among them
pub other_classes_are_unknown : results (changes 45 1 ++ changes 46 1 ++ changes 47 1 ++ command 1 0x49 45 1 (0x80 ∷ 0 ∷ []) ∷ []) ≡ replicate 10 4
unfolding computing results changes
other_classes_are_unknown = refl

-- Gets of the counter and of all that the UNI has; of attribute 3, which it hasn't; of an instance that isn't there
pub get_works :
    map (tell Meter (link 1 ∷ []))
    (command 1 0x49 2 0 (0x80 ∷ 0 ∷ []) ∷ get_uni 2 (0xCC ∷ 0 ∷ []) ∷ get_uni 3 (0xEC ∷ 0 ∷ []) ∷ command 4 0x49 11 0x0102 (0x80 ∷ 0 ∷ []) ∷ [])
    ≡ fill 32 (0 ∷ 0x80 ∷ 0 ∷ 0 ∷ [])
    ∷ fill 32 (0 ∷ 0xCC ∷ 0 ∷ 0 ∷ 0 ∷ 0 ∷ 1 ∷ [])
    ∷ (9 ∷ replicate 27 0 ++ 0x20 ∷ 0 ∷ 0 ∷ 0 ∷ [])
    ∷ fill 32 (5 ∷ [])
    ∷ []
unfolding computing_traps
get_works = refl

-- ---- reset

-- no Set writes them, but a store may hold this: expected type 7, admin state 1, and the counter at 9
unfoldable pub written : State
written = with_table
    (change Meter 2 0 (overwrite ((1, 9 ∷ []) ∷ [])) (change Meter 11 0x0101 (overwrite ((1, 7 ∷ []) ∷ (5, 1 ∷ []) ∷ [])) (fresh Meter).table))
    (fresh Meter)

-- what the UNI and the counter hold
unfoldable pub held : State → List (List ℕ)
held s = (counter Meter s.table ∷ []) ∷ map (read Meter s.table 11 0x0101) (1 ∷ 2 ∷ 5 ∷ 6 ∷ [])

unfoldable pub reset : Input
reset = command 1 0x4F 2 0 []

-- 1 and 5 are W, so a reset writes them; what was reported stays
pub reset_writes_what_is_W :
    let s : State = (step Meter written (link 1)).0 in
    held s ++ (byte (shown (step Meter s reset).1) 0 ∷ []) ∷ held (step Meter s reset).0
    ≡ (9 ∷ []) ∷ (7 ∷ []) ∷ (0 ∷ []) ∷ (1 ∷ []) ∷ (1 ∷ []) ∷ (0 ∷ []) ∷ (0 ∷ []) ∷ (0 ∷ []) ∷ (0 ∷ []) ∷ (0 ∷ []) ∷ (1 ∷ []) ∷ []
unfolding computing_traps written held reset
reset_writes_what_is_W = refl

-- ---- walks and reports

-- one section, of the four attributes, as they stood when the upload was asked for
pub upload_works :
    told Meter (link 1 ∷ upload 1 ∷ link 0 ∷ []) (upload_next 2 0 ∷ upload_next 3 1 ∷ upload 4 ∷ [])
    ≡ fill 32 (0x00 ∷ 0x0B ∷ 0x01 ∷ 0x01 ∷ 0xCC ∷ 0x00 ∷ 0 ∷ 0 ∷ 0 ∷ 1 ∷ []) ∷ replicate 32 0 ∷ fill 32 (0 ∷ 1 ∷ []) ∷ []
unfolding computing_traps
upload_works = refl

-- the alarm is told, and is in the walk
pub alarms_work :
    told Meter [] (signal_lost true ∷ command 1 0x4B 2 0 [] ∷ signal_lost false ∷ command 2 0x4C 2 0 (0 ∷ 0 ∷ []) ∷ [])
    ≡ (0x80 ∷ replicate 30 0 ++ 1 ∷ []) ∷ fill 32 (0 ∷ 1 ∷ []) ∷ (replicate 31 0 ++ 1 ∷ []) ∷ fill 32 (0x00 ∷ 0x0B ∷ 0x01 ∷ 0x01 ∷ 0x80 ∷ []) ∷ []
unfolding computing_traps
alarms_work = refl

-- the sensed type and the link are told, each once; 3 isn't there, 5 isn't L, and 2 is no legal link
pub reports_work :
    map (λ r. r.1) (run_from_power_on Meter (call (attribute_report 11 0x0101 2 (9 ∷ [])) ∷ link 1 ∷ link 1
    ∷ call (attribute_report 11 0x0101 3 (1 ∷ [])) ∷ call (attribute_report 11 0x0101 5 (1 ∷ [])) ∷ link 2 ∷ []))
    ≡ answered (framed (0 ∷ 0 ∷ []) 0x11 (0 ∷ 11 ∷ 1 ∷ 1 ∷ []) (0x40 ∷ 0 ∷ 9 ∷ []))
    ∷ answered (framed (0 ∷ 0 ∷ []) 0x11 (0 ∷ 11 ∷ 1 ∷ 1 ∷ []) (0x04 ∷ 0 ∷ 1 ∷ []))
    ∷ quiet ∷ dropped 12 ∷ dropped 12 ∷ dropped 13 ∷ []
unfolding computing_traps
reports_work = refl
