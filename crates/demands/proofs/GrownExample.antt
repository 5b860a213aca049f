-- Demand 3 on a pair of catalogues of which everything that may grow does: a run that the first answers, and what the second does beyond it.
use Prim.Native.Nat.{ℕ}
use mathlib.Core.Path.{◌≡◌, refl}
use mathlib.Core.Bool.{true}
use mathlib.Core.List.{List, [], ◌∷◌, map}
use Rattle.rules.specs.Bytes.{byte}
use Rattle.rules.specs.Run.{Input, attribute_report, alarm_report, fresh, run}
use Rattle.rules.proofs.Laws.{◌&◌}
use Rattle.rules.proofs.Examples.{call, command, tell, computing}
use Rattle.products.proofs.Grown.{Young, Grown, young_is_well_formed, grown_is_well_formed, grown_extends_young, computing_grown}
use Rattle.legality.proofs.Kept.{AllOfBytes}
use Rattle.extending.specs.Promise.{within_the_promise, SameRun, computing_promise}
use Rattle.extending.proofs.Runs.{an_extension_has_the_same_run}
use Rattle.demands.proofs.DemandThreeExample.{told}

-- a Create of a timer: id, number, mode, the socket it switches, hour and zone
unfoldable pub timer : ℕ → ℕ → ℕ → ℕ → ℕ → ℕ → Input
timer id n mode socket hour zone = command id 0x44 70 n (mode ∷ 0 ∷ socket ∷ 5 ∷ hour ∷ zone ∷ 0 ∷ 0 ∷ [])

-- a Create of a link from timer 1 to a socket
unfoldable pub link : ℕ → ℕ → Input
link id socket = command id 0x44 80 1 (0 ∷ 1 ∷ 0 ∷ socket ∷ [])

-- Two timers and a link of the first; one of them again; a fourth finds no place. A Set; something is plugged in, and an alarm; an upload, an
-- alarm walk, a Get; a timer is deleted; all is reset.
unfoldable pub two_timers_and_a_link : List Input
two_timers_and_a_link =
    timer 1 1 3 1 8 0
    ∷ timer 2 2 0 1 0 0
    ∷ link 3 1
    ∷ timer 4 1 3 1 8 0
    ∷ timer 5 3 3 1 8 0
    ∷ command 6 0x48 70 1 (0x90 ∷ 0 ∷ 2 ∷ 9 ∷ [])
    ∷ call (attribute_report 60 1 2 (1 ∷ []))
    ∷ call (alarm_report 60 1 0 true)
    ∷ command 7 0x4D 2 0 []
    ∷ command 8 0x4E 2 0 (0 ∷ 1 ∷ [])
    ∷ command 9 0x4B 2 0 []
    ∷ command 10 0x4C 2 0 (0 ∷ 0 ∷ [])
    ∷ command 11 0x49 70 1 (0xF0 ∷ 0 ∷ [])
    ∷ command 12 0x46 70 2 []
    ∷ command 13 0x4F 2 0 []
    ∷ []

pub the_assumption_is_met : within_the_promise Young (fresh Young) two_timers_and_a_link ≡ true
unfolding computing computing_promise computing_grown timer link two_timers_and_a_link
the_assumption_is_met = refl

-- What the first sends: all is done but for the timer that exists, 7, and the one without a place, 1; the upload has four sections, the second
-- shows a timer; what is plugged in and the alarm are told; the walk has one instance; the Get's mask comes back.
pub the_first_does_it : map (λ x. told x.1) (run Young (fresh Young) two_timers_and_a_link)
    ≡ (0x24 ∷ 0 ∷ 0 ∷ 0 ∷ [])
    ∷ (0x24 ∷ 0 ∷ 0 ∷ 0 ∷ [])
    ∷ (0x24 ∷ 0 ∷ 0 ∷ 0 ∷ [])
    ∷ (0x24 ∷ 7 ∷ 0 ∷ 0 ∷ [])
    ∷ (0x24 ∷ 1 ∷ 0 ∷ 0 ∷ [])
    ∷ (0x28 ∷ 0 ∷ 0 ∷ 0 ∷ [])
    ∷ (0x11 ∷ 0x40 ∷ 0 ∷ 1 ∷ [])
    ∷ (0x10 ∷ 0x80 ∷ 0 ∷ 0 ∷ [])
    ∷ (0x2D ∷ 0 ∷ 4 ∷ 0 ∷ [])
    ∷ (0x2E ∷ 0 ∷ 70 ∷ 0 ∷ [])
    ∷ (0x2B ∷ 0 ∷ 1 ∷ 0 ∷ [])
    ∷ (0x2C ∷ 0 ∷ 60 ∷ 0 ∷ [])
    ∷ (0x29 ∷ 0 ∷ 0xF0 ∷ 0 ∷ [])
    ∷ (0x26 ∷ 0 ∷ 0 ∷ 0 ∷ [])
    ∷ (0x2F ∷ 0 ∷ 0 ∷ 0 ∷ [])
    ∷ []
unfolding computing computing_grown timer link two_timers_and_a_link told
the_first_does_it = refl

of_bytes : AllOfBytes two_timers_and_a_link
unfolding computing timer link two_timers_and_a_link
of_bytes = refl & refl & refl & refl & refl & refl & refl & tt & refl & refl & refl & refl & refl & refl & refl & tt

-- so the second does it too
pub the_second_does_it_too : SameRun Young Grown (fresh Young) (fresh Grown) two_timers_and_a_link
the_second_does_it_too = an_extension_has_the_same_run Young Grown young_is_well_formed grown_is_well_formed grown_extends_young
    two_timers_and_a_link of_bytes the_assumption_is_met

-- ---- beyond it

-- the results of a command, from the first and from the second, after some others from power-on
unfoldable pub results : List Input → Input → List ℕ
results before p = map (λ cat. byte (tell cat before p) 0) (Young ∷ Grown ∷ [])

-- a socket's level: the first has no Set for sockets, and the level isn't W; a timer's day, which isn't W either
pub more_can_be_set :
    results [] (command 1 0x48 60 1 (0x80 ∷ 0 ∷ 7 ∷ [])) ∷ results (timer 1 1 0 1 0 0 ∷ []) (command 2 0x48 70 1 (0x20 ∷ 0 ∷ 6 ∷ [])) ∷ []
    ≡ (2 ∷ 0 ∷ []) ∷ (9 ∷ 0 ∷ []) ∷ []
unfolding computing computing_grown timer results
more_can_be_set = refl

-- mode 7; a timer of socket 9, which isn't there; a zone, where the first demands zero; a link to socket 2
pub more_is_legal :
    results [] (timer 1 1 7 1 0 0)
    ∷ results [] (timer 1 1 0 9 0 0)
    ∷ results [] (timer 1 1 0 1 0 1)
    ∷ results (timer 1 1 0 1 0 0 ∷ []) (link 2 2)
    ∷ []
    ≡ (3 ∷ 0 ∷ []) ∷ (3 ∷ 0 ∷ []) ∷ (3 ∷ 0 ∷ []) ∷ (3 ∷ 0 ∷ []) ∷ []
unfolding computing computing_grown timer link results
more_is_legal = refl

-- Gets of socket 2, of a timer's display and of the clock
pub more_is_there :
    results [] (command 1 0x49 60 2 (0x80 ∷ 0 ∷ []))
    ∷ results (timer 1 1 0 1 0 0 ∷ []) (command 2 0x49 71 1 (0x80 ∷ 0 ∷ []))
    ∷ results [] (command 1 0x49 90 0 (0x80 ∷ 0 ∷ []))
    ∷ []
    ≡ (5 ∷ 0 ∷ []) ∷ (4 ∷ 0 ∷ []) ∷ (4 ∷ 0 ∷ []) ∷ []
unfolding computing computing_grown timer results
more_is_there = refl

-- In a zone that isn't zero the second refuses an hour that the first takes: but then the first has refused the timer.
pub what_is_added_was_zero : map (λ zone. results (timer 1 1 0 1 0 zone ∷ []) (command 2 0x48 70 1 (0x10 ∷ 0 ∷ 9 ∷ []))) (0 ∷ 1 ∷ []) ≡ (0 ∷ 0 ∷ []) ∷ (5 ∷ 9 ∷ []) ∷ []
unfolding computing computing_grown timer results
what_is_added_was_zero = refl
