-- Demand 3's assumption where no class has Create, Delete or Set: a run of Meter that meets it does something, Small and Large do the same, and
-- what it asks of answers can't be left out.
use Prim.Native.Nat.{ℕ}
use native.Mathlib.Omega.{arith}
use mathlib.Core.Path.{◌≡◌, refl, ap}
use mathlib.Core.Bool.{true, false}
use mathlib.Core.List.{List, [], ◌∷◌, map}
use Rattle.rules.specs.Bytes.{byte}
use Rattle.rules.specs.Run.{Input, attribute_report, alarm_report, fresh, run}
use Rattle.rules.specs.Products.{Small, Large, Meter}
use Rattle.rules.proofs.Laws.{◌&◌}
use Rattle.rules.proofs.Examples.{call, command, sent, computing}
use Rattle.legality.proofs.Kept.{AllOfBytes}
use Rattle.extending.specs.Promise.{within_the_promise, SameRun, computing_promise}
use Rattle.demands.proofs.DemandThreeExample.{told}
use Rattle.demands.proofs.ProductPairs.{Promised, small_does_all_of_meter, large_does_all_of_meter}

-- ---- it is met

-- Gets of the counter and of the UNI; the sensed type is reported, and the link goes down; an upload, and the link comes up while it is fetched;
-- an alarm and an alarm walk; a Get of what Meter lacks, which is refused; too little room for a reply; all is reset, and the UNI read again.
unfoldable pub a_meter_is_read : List Input
a_meter_is_read =
    command 1 0x49 2 0 (0x80 ∷ 0 ∷ [])
    ∷ command 2 0x49 11 0x0101 (0xCC ∷ 0 ∷ [])
    ∷ call (attribute_report 11 0x0101 2 (9 ∷ []))
    ∷ call (attribute_report 11 0x0101 6 (1 ∷ []))
    ∷ command 3 0x4D 2 0 []
    ∷ call (attribute_report 11 0x0101 6 (0 ∷ []))
    ∷ command 4 0x4E 2 0 (0 ∷ 0 ∷ [])
    ∷ call (alarm_report 11 0x0101 0 true)
    ∷ command 5 0x4B 2 0 []
    ∷ command 6 0x4C 2 0 (0 ∷ 0 ∷ [])
    ∷ command 7 0x49 11 0x0101 (0x20 ∷ 0 ∷ [])
    ∷ record { store_room = 3344; reply_room = 47; call = alarm_report 11 0x0101 0 false }
    ∷ command 8 0x4F 2 0 []
    ∷ command 9 0x49 11 0x0101 (0xCC ∷ 0 ∷ [])
    ∷ []

pub the_assumption_is_met : within_the_promise Meter (fresh Meter) a_meter_is_read ≡ true
unfolding computing computing_promise a_meter_is_read
the_assumption_is_met = refl

-- The Gets' masks come back; both reports are told; the upload has one section, the UNI's; the alarm is told, and its walk has one instance; what
-- Meter lacks is refused with 9; the reset is done.
pub meter_does_it : map (λ x. told x.1) (run Meter (fresh Meter) a_meter_is_read)
    ≡ (0x29 ∷ 0 ∷ 0x80 ∷ 0 ∷ [])
    ∷ (0x29 ∷ 0 ∷ 0xCC ∷ 0 ∷ [])
    ∷ (0x11 ∷ 0x40 ∷ 0 ∷ 9 ∷ [])
    ∷ (0x11 ∷ 0x04 ∷ 0 ∷ 1 ∷ [])
    ∷ (0x2D ∷ 0 ∷ 1 ∷ 0 ∷ [])
    ∷ (0x11 ∷ 0x04 ∷ 0 ∷ 0 ∷ [])
    ∷ (0x2E ∷ 0 ∷ 11 ∷ 1 ∷ [])
    ∷ (0x10 ∷ 0x80 ∷ 0 ∷ 0 ∷ [])
    ∷ (0x2B ∷ 0 ∷ 1 ∷ 0 ∷ [])
    ∷ (0x2C ∷ 0 ∷ 11 ∷ 1 ∷ [])
    ∷ (0x29 ∷ 9 ∷ 0 ∷ 0 ∷ [])
    ∷ (0 ∷ [])
    ∷ (0x2F ∷ 0 ∷ 0 ∷ 0 ∷ [])
    ∷ (0x29 ∷ 0 ∷ 0xCC ∷ 0 ∷ [])
    ∷ []
unfolding computing a_meter_is_read told
meter_does_it = refl

promised : Promised Meter a_meter_is_read
unfolding computing a_meter_is_read
promised = record {
  of_bytes = refl & refl & refl & refl & refl & refl & refl & tt & refl & refl & refl & tt & refl & refl & tt;
  promised = the_assumption_is_met;
}

-- so Small and Large do it too
pub small_does_it_too : SameRun Meter Small (fresh Meter) (fresh Small) a_meter_is_read
small_does_it_too = small_does_all_of_meter.on_states a_meter_is_read promised

pub large_does_it_too : SameRun Meter Large (fresh Meter) (fresh Large) a_meter_is_read
large_does_it_too = large_does_all_of_meter.on_states a_meter_is_read promised

-- ---- what it asks of answers can't be left out

-- a Set of the counter, which Meter refuses with 2 and Small accepts; then a Get of it
unfoldable pub a_set_that_meter_refuses : List Input
a_set_that_meter_refuses = command 1 0x48 2 0 (0x80 ∷ 0 ∷ 7 ∷ []) ∷ command 2 0x49 2 0 (0x80 ∷ 0 ∷ []) ∷ []

pub it_is_outside_the_promise : within_the_promise Meter (fresh Meter) a_set_that_meter_refuses ≡ false
unfolding computing computing_promise a_set_that_meter_refuses
it_is_outside_the_promise = refl

-- the counter then shows 0 in Meter and 7 in Small
pub small_then_differs : SameRun Meter Small (fresh Meter) (fresh Small) a_set_that_meter_refuses → ⊥
unfolding computing computing_promise a_set_that_meter_refuses SameRun
small_then_differs r =
    let same = r.2.0.same_replies _ _ refl refl refl in
    let seven_is_none : ◌≡◌ {A = ℕ} 7 0 = ap (λ o. byte (sent o) 11) same in
    omega arith
