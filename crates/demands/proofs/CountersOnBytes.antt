-- The sync counter and the alarm number on lent bytes: what moves one of them moves it by one law, below 255 one more, 255 to 1, and never to 0.
use Prim.Native.Nat.{ℕ}
use native.Mathlib.Omega.{arith}
use mathlib.Core.Path.{◌≡◌, refl, sym, ◌∙◌, ap}
use mathlib.Core.Bool.{Bool, true, false, not}
use mathlib.Core.Option.{some}
use mathlib.Core.Logic.{◌≢◌}
use mathlib.Core.List.{List, [], ◌∷◌, ◌++◌}
use lib.ListN.{get_or}
use Rattle.rules.specs.Maps.{◌and◌, ◌or◌, among, first_that_applies}
use Rattle.rules.specs.Bytes.{byte, bytes, bit_bytes}
use Rattle.rules.specs.Catalogue.{Catalogue, key}
use Rattle.rules.specs.State.{Alarms, State, alarms_of}
use Rattle.rules.specs.Messages.{alarm_type, framed, notification, next_number}
use Rattle.rules.specs.Walks.{bitmap}
use Rattle.rules.specs.Reports.{Outcome, answered, alarm_drops, turned, report_alarm}
use Rattle.rules.specs.Run.{message, alarm_report, perform, taken}
use Rattle.rules.specs.Products.{Products}
use Rattle.rules.proofs.Laws.{cases, each_among}
use Rattle.store.specs.Decode.{Held, decode}
use Rattle.store.specs.Entries.{enter}
use Rattle.store.specs.Fitting.{AllFit}
use Rattle.legality.proofs.Refusals.{unless_dropped_is}
use Rattle.legality.proofs.Outcomes.{sent}
use Rattle.demands.specs.Sent.{number_at}
use Rattle.demands.specs.Counting.{OneOn, sync_counter}
use Rattle.demands.proofs.Counting.{the_next_number_is_one_on}
use Rattle.demands.proofs.LentMemories.{an_answered_call_has_room_and_a_state}
use Rattle.demands.proofs.DemandOne.{the_outcome_is_the_rules, the_store_holds_what_the_rules_leave}
use Rattle.demands.proofs.AnsweredOnBytes.{AnsweredAnew, LeavesAStateThat}
use Rattle.demands.proofs.SetsOnBytes.{an_accepted_set_does_what_its_bytes_say}
use Rattle.demands.proofs.CreatesOnBytes.{what_an_accepted_create_does, what_an_accepted_delete_does}

pub record BothNumbersGoOneOn (products : Products) : Type 0 where
  -- after a Create (4), a Delete (6) or a Set (8) of another class than 2 that is accepted (byte 8 of its reply is 0), the sync counter is one on
  pub the_sync_counter : (number : ℕ) (store m buffer r : List ℕ) (h : Held) → AnsweredAnew products number store m buffer r h → byte r 8 ≡ 0
      → among number (4 ∷ 6 ∷ 8 ∷ []) ≡ true → (number ≡ 8 → number_at m 4 ≢ 2)
      → LeavesAStateThat products (message m) store buffer h (λ after. OneOn (sync_counter h.catalogue h.state) (sync_counter h.catalogue after))
  -- after an alarm report that sends a message, the alarm number is one on; and it is c31 of that message, which is byte 39
  pub the_alarm_number : (c i n : ℕ) (on : Bool) (store buffer r : List ℕ) (h : Held) → decode products store ≡ some h
      → (enter products (alarm_report c i n on) store buffer).outcome ≡ answered r
      → LeavesAStateThat products (alarm_report c i n on) store buffer h (λ after. OneOn h.state.alarm_number after.alarm_number × (byte r 39 ≡ after.alarm_number))

-- the last of an alarm's contents
c31_of_an_alarm : (c i x : ℕ) (b : Alarms) → byte (notification alarm_type c i (bitmap b ++ 0 ∷ 0 ∷ 0 ∷ x ∷ [])) 39 ≡ x
unfolding notification framed bytes bit_bytes
c31_of_an_alarm c i x b = refl

-- One law for both numbers: below 255 one more, 255 to 1, never 0. An accepted Create, Delete, or Set of another class than 2 moves the sync counter by
-- it. An alarm report that sends a message moves the alarm number by it, and the message has the new number at c31.
pub both_numbers_go_one_on : (products : Products) → AllFit products → BothNumbersGoOneOn products
unfolding perform first_that_applies taken report_alarm turned
both_numbers_go_one_on products fit =
    let by_the_rules : (cat : Catalogue) (s : State) (c i n : ℕ) (on : Bool) (r : List ℕ) → (taken cat s (alarm_report c i n on)).1 ≡ answered r
    → OneOn s.alarm_number (taken cat s (alarm_report c i n on)).0.alarm_number × (byte r 39 ≡ (taken cat s (alarm_report c i n on)).0.alarm_number) =
    λ cat s c i n on r. unless_dropped_is (λ x. x.1 ≡ answered r → OneOn s.alarm_number x.0.alarm_number × (byte r 39 ≡ x.0.alarm_number)) s
    (alarm_drops cat s c i n) _
    (λ k e y. absurd (let z : ◌≡◌ {A = ℕ} 0 1 = cc in omega arith))
    (λ clear.
    let is_on : Bool = get_or (alarms_of (key c i) s.alarms) n false in
    cases ((is_on and on) or not (is_on or on))
    (λ e. rw e (λ y. absurd (let z : ◌≡◌ {A = ℕ} 0 1 = cc in omega arith)))
    (λ e. rw e (λ y. (the_next_number_is_one_on s.alarm_number, ap (λ (o : Outcome). byte (sent o) 39) (sym y) ∙ c31_of_an_alarm c i (next_number s.alarm_number) _)))) in
    record {
      the_sync_counter = λ number store m buffer r h a zero moves other. each_among
          (λ k. AnsweredAnew products k store m buffer r h → (k ≡ 8 → number_at m 4 ≢ 2)
          → LeavesAStateThat products (message m) store buffer h (λ after. OneOn (sync_counter h.catalogue h.state) (sync_counter h.catalogue after)))
          (4 ∷ 6 ∷ 8 ∷ []) (
            (λ b any. let done = what_an_accepted_create_does products fit store m buffer r h b zero in (_, done.1, done.2.the_rest.the_counter_is_one_on)),
            (
              (λ b any. let done = what_an_accepted_delete_does products fit store m buffer r h b zero in (_, done.1, done.2.the_rest.the_counter_is_one_on)),
              (
                (λ b differs. let done = an_accepted_set_does_what_its_bytes_say products fit store m buffer r h b zero in
                    (_, done.1, done.2.the_counter_is_one_on (differs refl))),
                tt,
              ),
            ),
          ) number moves a other;
      the_alarm_number = λ c i n on store buffer r h held told.
          let room = (an_answered_call_has_room_and_a_state products (alarm_report c i n on) store buffer r told).room in (
            _,
            the_store_holds_what_the_rules_leave products fit (alarm_report c i n on) tt store buffer h held room,
            by_the_rules h.catalogue h.state c i n on r (sym (the_outcome_is_the_rules products (alarm_report c i n on) store buffer room h held) ∙ told),
          );
    }
