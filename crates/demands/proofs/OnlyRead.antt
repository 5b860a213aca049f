-- Products whose classes have neither Create nor Delete nor Set, as Meter's: what such commands are answered, what a run within demand 3's
-- promise then holds, and that the sync counter stays 0.
use Prim.Native.Nat.{ℕ, ◌%◌}
use native.Mathlib.Omega.{arith}
use mathlib.Core.Path.{◌≡◌, refl, sym, ◌∙◌, ap}
use mathlib.Core.Bool.{Bool, true, false, not, cond}
use mathlib.Core.Option.{Option, none, some}
use mathlib.Core.List.{List, [], ◌∷◌}
use lib.ListN.{length, take, get_or}
use lib.Seq.{get_or-take}
use lib.Dec.{eqb}
use Rattle.rules.specs.Maps.{◌and◌, ◌or◌, given, find, every, among, all, same, first_that_applies}
use Rattle.rules.specs.Bytes.{byte, number}
use Rattle.rules.specs.Catalogue.{Class, Catalogue, class, known, no_class, attribute, supported, is_stored, lead, leader, family, key, ont_data}
use Rattle.rules.specs.State.{Memory, State, entry, contents, counter, alarms_of}
use Rattle.rules.specs.Messages.{message_number, class_in, instance_in, contents_in, message_drops, create_number, delete_number, set_number, with_result, reply_to}
use Rattle.rules.specs.Messages.{not_supported, unknown_class, unless_refused, Answer}
use Rattle.rules.specs.Reports.{Outcome, dropped, quiet, answered, attribute_drops, report_attribute, alarm_drops, turned, report_alarm}
use Rattle.rules.specs.Run.{perform, first_results, answer, is_repeat, remember, answer_anew, answer_again, handle, Call, message, attribute_report, alarm_report, Input, taken}
use Rattle.rules.specs.Run.{room_drops, step, fresh_table, fresh, after, computing_rules}
use Rattle.rules.specs.Commands.{first_content, new_contents, new_entry, reset}
use Rattle.rules.specs.Walks.{if_ont_data, upload, upload_next, all_alarms, alarms_next}
use Rattle.rules.specs.WellFormed.{implies, WellFormed}
use Rattle.rules.specs.Products.{Meter, computing_products}
use Rattle.rules.proofs.Laws.{cases, never, true_false, not-true, false_not, not-false, both, and_true, or_none, all_among, same_eq, eqb_true, eqb_eq, eqb_false, same?, find_each}
use Rattle.rules.proofs.MapLaws.{none_some, find_kept, first_has}
use Rattle.rules.proofs.Lookups as lookups
use Rattle.rules.proofs.Lookups.{class_says, known_class, supported_known, W_supported}
use Rattle.products.proofs.WellFormed.{meter_is_well_formed}
use Rattle.legality.proofs.Refusals.{unless_refused_is, unless_dropped_is}
use Rattle.legality.proofs.NewContents.{content_of_new}
use Rattle.legality.proofs.LegalStates.{LegalState, open_state, close_state}
use Rattle.legality.proofs.Kept.{AllOfBytes, step_fine, the_fresh_state_is_legal}
use Rattle.legality.proofs.ReplyBytes.{the_result_is_byte_8}
use Rattle.demands.proofs.Refused.{a_get_changes_nothing, a_refused_reset_changes_nothing}
use Rattle.demands.proofs.Sets.{others_stay, number_one}
use Rattle.demands.proofs.Resets.{a_reset_sets_the_counter_to_0}
use Rattle.extending.specs.Promise.{is_0_1_or_7, is_create_delete_or_set, answered_with_0_1_or_7, within_the_promise}

-- ---- what is said

abbrev pub changing : List ℕ
changing = create_number ∷ delete_number ∷ set_number ∷ []

-- no class has Create, Delete or Set
unfoldable pub only_read : Catalogue → Bool
only_read cat = every (λ c k. all (λ n. not (among n k.commands)) changing) cat.classes

-- a Create, Delete or Set that is answered
unfoldable pub is_an_answered_change : Call → Outcome → Bool
is_an_answered_change (message m) (dropped n) = false
is_an_answered_change (message m) quiet = false
is_an_answered_change (message m) (answered r) = is_create_delete_or_set m
is_an_answered_change (attribute_report c i n v) o = false
is_an_answered_change (alarm_report c i n on) o = false

-- a run in which none is
unfoldable pub answers_no_change : Catalogue → State → List Input → Bool
answers_no_change cat s [] = true
answers_no_change cat s (p ∷ l) = not (is_an_answered_change p.call (step cat s p).1) and answers_no_change cat (step cat s p).0 l

-- ---- commands

module _ (cat : Catalogue) (read : only_read cat ≡ true) where
  not_for_it : (n c : ℕ) → among n changing ≡ true → among n (class cat c).commands ≡ false
  unfolding only_read
  not_for_it n c h = cases (known cat c)
      (λ k. not-true (all_among (λ m. not (among m (class cat c).commands)) changing
      (class_says (λ c k. all (λ m. not (among m k.commands)) changing) cat read c k) n h))
      (λ k. rw (lookups.unknown_class cat c k) (unfold no_class among in refl))

  -- A Create, Delete or Set is answered 2 for every class that is known, 4 for any other, and nothing changes.
  pub every_change_is_refused : (s : State) (n c i : ℕ) (v : List ℕ) → among n changing ≡ true
      → answer cat s n c i v ≡ (s, cond (known cat c) not_supported unknown_class ∷ [])
  unfolding answer unless_refused first_results first_that_applies ◌and◌ ◌or◌
  every_change_is_refused s n c i v h =
      let has_result : among n with_result ≡ true = all_among (λ m. among m with_result) changing (unfold all among ◌and◌ ◌or◌ in refl) n h in
      rw (has_result, not_for_it n c h) (cases (known cat c) (λ k. rw k refl) (λ k. rw k refl))

  -- ---- a run within the promise

  -- what is remembered is none
  abbrev RemembersNone : State → Type 0
  RemembersNone s = (r : Memory) → s.remembered ≡ some r → is_create_delete_or_set r.command ≡ false

  -- what a call comes to: no answered change, and none is remembered
  record Harmless (c : Call) (r : State × Outcome) : Type 0 where
    no_change : is_an_answered_change c r.1 ≡ false
    still : RemembersNone r.0

  refused_is_none_of_them : (b : Bool) → is_0_1_or_7 (cond b not_supported unknown_class) ≡ false
  unfolding among ◌or◌
  refused_is_none_of_them true = refl
  refused_is_none_of_them false = refl

  -- the first 40 bytes have the message's number
  same_number : (m : List ℕ) → message_number (take 40 m) ≡ message_number m
  same_number m = ap (λ (x : ℕ). x % 32) (get_or-take 40 m 2 0 (omega arith))

  module _ (s : State) (m : List ℕ) (h : RemembersNone s) where
    anew : length m ≡ 48 → answered_with_0_1_or_7 (message m) (answer_anew cat s m).1 ≡ true → Harmless (message m) (answer_anew cat s m)
    unfolding answered_with_0_1_or_7 is_an_answered_change answer_anew remember implies ◌or◌
    anew long ok = cases (is_create_delete_or_set m)
        (λ t.
        let x : ℕ = cond (known cat (class_in m)) not_supported unknown_class in
        let a : answer cat s (message_number m) (class_in m) (instance_in m) (contents_in m) ≡ (s, x ∷ []) =
        every_change_is_refused s (message_number m) (class_in m) (instance_in m) (contents_in m) t in
        let result : byte (reply_to m (answer cat s (message_number m) (class_in m) (instance_in m) (contents_in m)).1) 8 ≡ x =
        the_result_is_byte_8 m (answer cat s (message_number m) (class_in m) (instance_in m) (contents_in m)).1 long ∙ ap (λ (y : Answer). byte y.1 0) a in
        true_false (rw (t, result) at ok) (refused_is_none_of_them (known cat (class_in m))))
        (λ t. record {
          no_change = t;
          still = λ r e. ap (λ (o : Option Memory). is_create_delete_or_set (given o [] (λ r. r.command))) (sym e)
              ∙ ap (λ (n : ℕ). among n changing) (same_number m) ∙ t;
        })

    of_a_message : answered_with_0_1_or_7 (message m) (handle cat s m).1 ≡ true → Harmless (message m) (handle cat s m)
    unfolding handle answer_again is_repeat message_drops is_an_answered_change
    of_a_message = unless_dropped_is (λ x. answered_with_0_1_or_7 (message m) x.1 ≡ true → Harmless (message m) x) s (message_drops m) _
        (λ n e ok. record { no_change = refl; still = h })
        (λ clear. go s.remembered refl (eqb_eq (length m) 48 (not-false clear.0)))
      where
        go : (o : Option Memory) → s.remembered ≡ o → length m ≡ 48 → answered_with_0_1_or_7 (message m) (given o (answer_anew cat s m) (answer_again cat s m)).1 ≡ true
            → Harmless (message m) (given o (answer_anew cat s m) (answer_again cat s m))
        go none e long = anew long
        go (some k) e long = cases (same (take 40 m) k.command)
            (λ t. rw t (λ ok. record {
              no_change = ap (λ (n : ℕ). among n changing) (sym (same_number m)) ∙ ap is_create_delete_or_set (same_eq (take 40 m) k.command t) ∙ h k e;
              still = h;
            }))
            (λ t. rw t (anew long))

  of_a_call : (s : State) (c : Call) → RemembersNone s → answered_with_0_1_or_7 c (taken cat s c).1 ≡ true → Harmless c (taken cat s c)
  unfolding taken report_attribute report_alarm turned is_an_answered_change
  of_a_call s (message m) h ok = of_a_message s m h ok
  of_a_call s (attribute_report c i n v) h ok = record {
    no_change = refl;
    still = unless_dropped_is (λ x. RemembersNone x.0) s (attribute_drops cat s c i n v) _ (λ n e. h) (λ clear. h);
  }
  of_a_call s (alarm_report c i n on) h ok =
      let is_on : Bool = get_or (alarms_of (key c i) s.alarms) n false in
      record {
        no_change = refl;
        still = unless_dropped_is (λ x. RemembersNone x.0) s (alarm_drops cat s c i n) _ (λ n e. h)
            (λ clear. cases ((is_on and on) or not (is_on or on)) (λ t. rw t h) (λ t. rw t h));
      }

  of_a_step : (s : State) (p : Input) → RemembersNone s → answered_with_0_1_or_7 p.call (step cat s p).1 ≡ true → Harmless p.call (step cat s p)
  unfolding step is_an_answered_change
  of_a_step s p h = unless_dropped_is (λ x. answered_with_0_1_or_7 p.call x.1 ≡ true → Harmless p.call x) s (room_drops p) _
      (λ n e ok. record { no_change = dropped_is_none p.call n; still = h })
      (λ clear. of_a_call s p.call h)
    where
      dropped_is_none : (c : Call) (n : ℕ) → is_an_answered_change c (dropped n) ≡ false
      dropped_is_none (message m) n = refl
      dropped_is_none (attribute_report c i k v) n = refl
      dropped_is_none (alarm_report c i k on) n = refl

  of_a_run : (s : State) (l : List Input) → RemembersNone s → within_the_promise cat s l ≡ true → answers_no_change cat s l ≡ true
  unfolding within_the_promise answers_no_change
  of_a_run s [] h w = refl
  of_a_run s (p ∷ l) h w =
      let x = of_a_step s p h (both (both w).1).0 in
      and_true (false_not x.no_change) (of_a_run (step cat s p).0 l x.still (both (both w).1).1)

  -- Every Create, Delete and Set that is answered is refused, so a run from power-on that is within demand 3's promise has none.
  pub a_run_within_the_promise_answers_no_change : (l : List Input) → within_the_promise cat (fresh cat) l ≡ true → answers_no_change cat (fresh cat) l ≡ true
  unfolding fresh
  a_run_within_the_promise_answers_no_change l w = of_a_run (fresh cat) l (λ r e. none_some e) w

-- ---- the counter

module _ (cat : Catalogue) (wf : WellFormed cat) (read : only_read cat ≡ true) (s : State) (legal : LegalState cat wf s) (zero : counter cat s.table ≡ 0) where
  abbrev At0 : State → Type 0
  At0 t = counter cat t.table ≡ 0

  -- a reset is refused, or sets the counter to 0
  after_a_reset : (c i : ℕ) → At0 (reset cat s c i).0
  after_a_reset c i = same? (byte (reset cat s c i).1 0) 0
      (λ y. a_reset_sets_the_counter_to_0 cat wf s (close_state cat wf s legal) c i y)
      (λ y. ap (λ (t : State). counter cat t.table) (a_refused_reset_changes_nothing cat s c i [] y) ∙ zero)

  after_a_walk : (c i : ℕ) (a : Answer) → At0 a.0 → At0 (if_ont_data c i s a).0
  unfolding if_ont_data
  after_a_walk c i a h = cases (eqb c ont_data and eqb i 0) (λ t. rw t h) (λ t. rw t zero)

  after_another : (n c i : ℕ) (v : List ℕ) → among n changing ≡ false → At0 (given (perform cat s n c i v) (s, []) (λ a. a)).0
  unfolding perform among upload upload_next all_alarms alarms_next
  after_another n c i v other = pick (perform cat s n c i v) refl
    where
      pick : (o : Option Answer) → perform cat s n c i v ≡ o → At0 (given o (s, []) (λ a. a)).0
      pick none e = zero
      pick (some a) e =
          let f = or_none other in
          let g = or_none f.1 in
          let k = or_none g.1 in
          first_has (λ a. At0 a.0) _ (
            (λ y. true_false y f.0),
            (
              (λ y. true_false y g.0),
              (
                (λ y. true_false y k.0),
                (
                  (λ y. ap (λ (t : State). counter cat t.table) (a_get_changes_nothing cat s c i v) ∙ zero),
                  (
                    (λ y. after_a_reset c i),
                    ((λ y. after_a_walk c i _ zero), ((λ y. after_a_walk c i _ zero), ((λ y. after_a_walk c i _ zero), ((λ y. after_a_walk c i _ zero), tt)))),
                  ),
                ),
              ),
            ),
          ) a e

  after_an_answer : (n c i : ℕ) (v : List ℕ) → At0 (answer cat s n c i v).0
  after_an_answer n c i v = cases (among n changing)
      (λ t. ap (λ (a : Answer). counter cat a.0.table) (every_change_is_refused cat read s n c i v t) ∙ zero)
      (λ t. unfold answer in unless_refused_is (λ a. At0 a.0) s (first_results cat n c) _ (λ r e. zero) (λ clear. after_another n c i v t))

  after_a_message : (m : List ℕ) → At0 (handle cat s m).0
  unfolding handle answer_again answer_anew remember
  after_a_message m = unless_dropped_is (λ x. At0 x.0) s (message_drops m) _ (λ n e. zero) (λ clear. go s.remembered)
    where
      go : (o : Option Memory) → At0 (given o (answer_anew cat s m) (answer_again cat s m)).0
      go none = after_an_answer (message_number m) (class_in m) (instance_in m) (contents_in m)
      go (some k) = cases (is_repeat m k) (λ t. rw t zero) (λ t. rw t (after_an_answer (message_number m) (class_in m) (instance_in m) (contents_in m)))

  -- the counter is no L attribute, so no report writes it
  after_a_report : (c i n : ℕ) (v : List ℕ) → At0 (report_attribute cat s c i n v).0
  unfolding report_attribute attribute_drops counter find
  after_a_report c i n v = unless_dropped_is (λ x. At0 x.0) s (attribute_drops cat s c i n v) _ (λ k e. zero)
      (λ clear. ap number (others_stay cat s.table c i ((n, v) ∷ []) ont_data 0 1 (λ p q. rw (eqb_false 1 n (λ e. another p e (not-false clear.1.0))) refl)) ∙ zero)
    where
      another : ont_data ≡ c → 1 ≡ n → (attribute (class cat c) n).L ≡ true → ⊥
      another p q L = never (sym wf.class_2_has_the_counter.not_L ∙ (λ k. (attribute (class cat (p k)) (q k)).L) ∙ L)

  after_an_alarm : (c i n : ℕ) (on : Bool) → At0 (report_alarm cat s c i n on).0
  unfolding report_alarm turned
  after_an_alarm c i n on =
      let is_on : Bool = get_or (alarms_of (key c i) s.alarms) n false in
      unless_dropped_is (λ x. At0 x.0) s (alarm_drops cat s c i n) _ (λ n e. zero)
      (λ clear. cases ((is_on and on) or not (is_on or on)) (λ t. rw t zero) (λ t. rw t zero))

  after_a_call : (c : Call) → At0 (taken cat s c).0
  unfolding taken
  after_a_call (message m) = after_a_message m
  after_a_call (attribute_report c i n v) = after_a_report c i n v
  after_a_call (alarm_report c i n on) = after_an_alarm c i n on

  after_a_step : (p : Input) → At0 (step cat s p).0
  unfolding step
  after_a_step p = unless_dropped_is (λ x. At0 x.0) s (room_drops p) _ (λ n e. zero) (λ clear. after_a_call p.call)

found_in_its_family : (cat : Catalogue) (c : ℕ) → known cat c ≡ true → leader cat c ≡ c → find c (family cat c) ≡ some (class cat c)
unfolding family
found_in_its_family cat c k l =
    find_kept (λ d k. eqb (lead d k.creation) c) c (class cat c) cat.classes (known_class cat c k) (eqb_true (leader cat c) c l)

-- a product starts with the counter at 0
starts_at_0 : (cat : Catalogue) → WellFormed cat → counter cat (fresh cat).table ≡ 0
unfolding counter contents entry fresh fresh_table new_entry find first_content
starts_at_0 cat wf =
    let k : Class = class cat ont_data in
    let a = wf.class_2_has_the_counter in
    let leads : leader cat ont_data ≡ ont_data = rw wf.class_2_has_instance_0_alone refl in
    let there : supported k 1 ≡ true = W_supported k 1 a.is_W in
    let found = found_in_its_family cat ont_data (supported_known cat ont_data 1 there) leads in
    let stored_one : is_stored (attribute k 1).source ≡ true = rw a.starts_at_0 refl in
    rw (leads, find_each (λ d k. new_contents [] k) ont_data (family cat ont_data), found, content_of_new k [] 1 there stored_one, a.not_C, a.starts_at_0) (number_one 0)

module _ (cat : Catalogue) (wf : WellFormed cat) (read : only_read cat ≡ true) where
  at_0_after : (s : State) → LegalState cat wf s → counter cat s.table ≡ 0 → (l : List Input) → AllOfBytes l → counter cat (after cat s l).table ≡ 0
  unfolding after
  at_0_after s h zero [] b = zero
  at_0_after s h zero (p ∷ l) b = at_0_after (step cat s p).0 (step_fine cat wf s h p b.0).its_state (after_a_step cat wf read s h zero p) l b.1

  -- The counter is 0 after power-on, and stays 0 through every run, within the promise or not.
  pub the_counter_stays_0 : (l : List Input) → AllOfBytes l → counter cat (after cat (fresh cat) l).table ≡ 0
  the_counter_stays_0 l b = at_0_after (fresh cat) (open_state cat wf (fresh cat) (the_fresh_state_is_legal cat wf)) (starts_at_0 cat wf) l b

-- ---- Meter

pub meter_is_only_read : only_read Meter ≡ true
unfolding computing_rules computing_products only_read
meter_is_only_read = refl

-- Meter answers every Create, Delete and Set with 2 for class 2 and class 11, with 4 for any other
pub meter_refuses_every_change : (s : State) (n c i : ℕ) (v : List ℕ) → among n changing ≡ true
    → answer Meter s n c i v ≡ (s, cond (known Meter c) not_supported unknown_class ∷ [])
meter_refuses_every_change = every_change_is_refused Meter meter_is_only_read

pub meter_s_runs_within_the_promise_answer_no_change : (l : List Input) → within_the_promise Meter (fresh Meter) l ≡ true → answers_no_change Meter (fresh Meter) l ≡ true
meter_s_runs_within_the_promise_answer_no_change = a_run_within_the_promise_answers_no_change Meter meter_is_only_read

pub meter_s_counter_stays_0 : (l : List Input) → AllOfBytes l → counter Meter (after Meter (fresh Meter) l).table ≡ 0
meter_s_counter_stays_0 = the_counter_stays_0 Meter meter_is_well_formed meter_is_only_read
