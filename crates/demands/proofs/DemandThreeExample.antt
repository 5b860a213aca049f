-- Demand 3's assumption is met by a run that does something, and neither half of it can be left out.
use Prim.Native.Nat.{ℕ, ◌+◌}
use native.Mathlib.Omega.{arith}
use mathlib.Core.Path.{◌≡◌, refl, ap}
use mathlib.Core.Bool.{true, false}
use mathlib.Core.List.{List, [], ◌∷◌, map}
use lib.ListN.{take}
use Rattle.rules.specs.Bytes.{byte}
use Rattle.rules.specs.Reports.{Outcome}
use Rattle.rules.specs.Run.{Input, attribute_report, alarm_report, fresh, run}
use Rattle.rules.specs.Products.{Small, Large}
use Rattle.rules.proofs.Laws.{◌&◌}
use Rattle.rules.proofs.Examples.{call, command, bridge, sent, shown, computing}
use Rattle.products.proofs.WellFormed.{small_is_well_formed, large_is_well_formed}
use Rattle.products.proofs.Extends.{large_extends_small}
use Rattle.legality.proofs.Kept.{AllOfBytes}
use Rattle.extending.specs.Promise.{within_the_promise, SameRun, computing_promise}
use Rattle.extending.proofs.Runs.{an_extension_has_the_same_run}

-- ---- it is met

-- a Create of a port of bridge 1: its number, and the type of what it ends on
unfoldable pub port : ℕ → ℕ → Input
port n type = command (0x10 + n) 0x44 47 n (0 ∷ 1 ∷ n ∷ type ∷ 0x01 ∷ 0x01 ∷ 0 ∷ 0x80 ∷ 0 ∷ 1 ∷ 0 ∷ 0 ∷ 0 ∷ [])

-- A bridge with two ports; Sets of the UNI and of a port; an upload, and the link goes down while it is fetched; an alarm walk; a Get of the
-- bridge; a port is deleted; all is reset.
unfoldable pub a_bridge_with_two_ports : List Input
a_bridge_with_two_ports =
    bridge
    ∷ port 1 1
    ∷ port 2 2
    -- again: a repeat; the bridge once more: it exists; a Get of what Small lacks; a message that isn't built; too little room for the reply, and a store that is too short
    ∷ port 2 2
    ∷ command 0x20 0x44 45 1 (1 ∷ 1 ∷ 0 ∷ 0x80 ∷ 0 ∷ 0x14 ∷ 0 ∷ 2 ∷ 0 ∷ 0x0F ∷ 0 ∷ [])
    ∷ command 0x2B 0x49 11 0x0101 (0x01 ∷ 0 ∷ [])
    ∷ command 0x2C 0x40 2 0 []
    ∷ record { store_room = 3344; reply_room = 47; call = alarm_report 11 0x0101 0 true }
    ∷ record { store_room = 3343; reply_room = 48; call = alarm_report 11 0x0101 0 true }
    ∷ command 0x21 0x48 11 0x0101 (0x08 ∷ 0 ∷ 1 ∷ [])
    ∷ command 0x22 0x48 47 2 (0x0C ∷ 0 ∷ 0 ∷ 7 ∷ 0 ∷ 9 ∷ [])
    ∷ command 0x23 0x4D 2 0 []
    ∷ command 0x24 0x4E 2 0 (0 ∷ 0 ∷ [])
    ∷ call (attribute_report 11 0x0101 6 (1 ∷ []))
    ∷ call (alarm_report 11 0x0101 0 true)
    ∷ command 0x25 0x4E 2 0 (0 ∷ 1 ∷ [])
    ∷ command 0x26 0x4B 2 0 []
    ∷ command 0x27 0x4C 2 0 (0 ∷ 0 ∷ [])
    ∷ command 0x28 0x49 46 1 (0x48 ∷ 0 ∷ [])
    ∷ command 0x29 0x46 47 2 []
    ∷ command 0x2A 0x4F 2 0 []
    ∷ []

pub the_assumption_is_met : within_the_promise Small (fresh Small) a_bridge_with_two_ports ≡ true
unfolding computing computing_promise port a_bridge_with_two_ports
the_assumption_is_met = refl

-- what Small sends: type, and the first three bytes of the contents
unfoldable pub told : Outcome → List ℕ
told o = byte (sent o) 2 ∷ take 3 (shown o)

-- everything is done; the upload has five sections, the first shows the UNI; the link change and the alarm are told; the walk has one instance;
-- the Get's mask comes back
pub small_does_it : map (λ x. told x.1) (run Small (fresh Small) a_bridge_with_two_ports)
    ≡ (0x24 ∷ 0 ∷ 0 ∷ 0 ∷ [])
    ∷ (0x24 ∷ 0 ∷ 0 ∷ 0 ∷ [])
    ∷ (0x24 ∷ 0 ∷ 0 ∷ 0 ∷ [])
    ∷ (0x24 ∷ 0 ∷ 0 ∷ 0 ∷ [])
    ∷ (0x24 ∷ 7 ∷ 0 ∷ 0 ∷ [])
    ∷ (0x29 ∷ 9 ∷ 0 ∷ 0 ∷ [])
    ∷ (0x20 ∷ 2 ∷ 0 ∷ 0 ∷ [])
    ∷ (0 ∷ [])
    ∷ (0 ∷ [])
    ∷ (0x28 ∷ 0 ∷ 0 ∷ 0 ∷ [])
    ∷ (0x28 ∷ 0 ∷ 0 ∷ 0 ∷ [])
    ∷ (0x2D ∷ 0 ∷ 5 ∷ 0 ∷ [])
    ∷ (0x2E ∷ 0 ∷ 11 ∷ 1 ∷ [])
    ∷ (0x11 ∷ 0x04 ∷ 0 ∷ 1 ∷ [])
    ∷ (0x10 ∷ 0x80 ∷ 0 ∷ 0 ∷ [])
    ∷ (0x2E ∷ 0 ∷ 45 ∷ 0 ∷ [])
    ∷ (0x2B ∷ 0 ∷ 1 ∷ 0 ∷ [])
    ∷ (0x2C ∷ 0 ∷ 11 ∷ 1 ∷ [])
    ∷ (0x29 ∷ 0 ∷ 0x48 ∷ 0 ∷ [])
    ∷ (0x26 ∷ 0 ∷ 0 ∷ 0 ∷ [])
    ∷ (0x2F ∷ 0 ∷ 0 ∷ 0 ∷ [])
    ∷ []
unfolding computing port a_bridge_with_two_ports told
small_does_it = refl

of_bytes : AllOfBytes a_bridge_with_two_ports
unfolding computing port a_bridge_with_two_ports
of_bytes = refl & refl & refl & refl & refl & refl & refl & tt & tt & refl & refl & refl & refl & refl & tt & refl & refl & refl & refl & refl & refl & tt

-- so Large does it too
pub large_does_it_too : SameRun Small Large (fresh Small) (fresh Large) a_bridge_with_two_ports
large_does_it_too = an_extension_has_the_same_run Small Large small_is_well_formed large_is_well_formed large_extends_small
    a_bridge_with_two_ports of_bytes the_assumption_is_met

-- ---- it can't be left out

-- a Set of the UNI's max frame, which Small refuses and Large accepts; then a Get of the counter
unfoldable pub a_set_that_small_refuses : List Input
a_set_that_small_refuses = command 1 0x48 11 0x0101 (0x01 ∷ 0 ∷ 0x05 ∷ 0xDC ∷ []) ∷ command 2 0x49 2 0 (0x80 ∷ 0 ∷ []) ∷ []

pub it_is_outside_the_promise : within_the_promise Small (fresh Small) a_set_that_small_refuses ≡ false
unfolding computing computing_promise a_set_that_small_refuses
it_is_outside_the_promise = refl

-- the counter then shows 0 in Small and 1 in Large
pub large_then_differs : SameRun Small Large (fresh Small) (fresh Large) a_set_that_small_refuses → ⊥
unfolding computing computing_promise a_set_that_small_refuses SameRun
large_then_differs r =
    let same = r.2.0.same_replies _ _ refl refl refl in
    let one_is_none : ◌≡◌ {A = ℕ} 1 0 = ap (λ o. byte (sent o) 11) same in
    omega arith

-- an alarm of the second UNI, which only Large has
unfoldable pub an_alarm_of_what_small_lacks : List Input
an_alarm_of_what_small_lacks = call (alarm_report 11 0x0102 0 true) ∷ []

pub this_is_outside_the_promise_too : within_the_promise Small (fresh Small) an_alarm_of_what_small_lacks ≡ false
unfolding computing computing_promise an_alarm_of_what_small_lacks
this_is_outside_the_promise_too = refl

-- Small drops it, Large tells of it
pub large_then_differs_too : SameRun Small Large (fresh Small) (fresh Large) an_alarm_of_what_small_lacks → ⊥
unfolding computing an_alarm_of_what_small_lacks SameRun
large_then_differs_too r =
    let same = (r.0.same_drops 11).0 refl in
    let something_is_nothing : ◌≡◌ {A = ℕ} 16 0 = ap (λ o. byte (sent o) 2) same in
    omega arith
