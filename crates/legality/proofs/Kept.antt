-- The fresh state is legal, and every call takes a legal state to a legal state.
use Prim.Native.Nat.{ℕ, ◌<◌}
use native.Mathlib.Omega.{arith}
use mathlib.Core.Path.{◌≡◌, refl}
use mathlib.Core.Bool.{Bool, true, false, not}
use mathlib.Core.Option.{Option, none, some}
use mathlib.Core.List.{List, [], ◌∷◌, ◌++◌}
use lib.ListN.{length, drop, set, get_or, length-drop}
use lib.Seq.{length-take-le}
use lib.Dec.{eqb}
use Rattle.rules.specs.Maps.{◌and◌, ◌or◌, given, among, same, first_that_applies}
use Rattle.rules.specs.Bytes.{bytes, are_bytes}
use Rattle.rules.specs.Masks.{mask}
use Rattle.rules.specs.Catalogue.{Catalogue, class, known, attribute, size_of, is_created, key}
use Rattle.rules.specs.State.{Table, Alarms, Memory, State, class_of, number_of, holds, contents, content, alarms_of, overwrite, change}
use Rattle.rules.specs.Legal.{legal_bitmaps, legal_memory, legal_state, header_drops}
use Rattle.rules.specs.Messages.{message_number, class_in, instance_in, contents_in, message_drops, create_number, delete_number, reply_to, next_number, alarm_type, avc_type}
use Rattle.rules.specs.Messages.{Answer}
use Rattle.rules.specs.Walks.{bitmap}
use Rattle.rules.specs.Reports.{Outcome, dropped, quiet, answered, attribute_drops, report_attribute, alarm_drops, turned, report_alarm}
use Rattle.rules.specs.Run.{perform, first_results, answer, is_repeat, remember, answer_anew, answer_again, handle, Call, message, attribute_report, alarm_report, Input, taken}
use Rattle.rules.specs.Run.{room_drops, step, fresh_table, fresh, after}
use Rattle.rules.specs.WellFormed.{WellFormed, created_by_Create}
use Rattle.rules.proofs.Laws.{cases, true_false, not-false, false_not, both, and_true, or_left, eqb_eq, among_here}
use Rattle.rules.proofs.Lookups.{implied, class_says}
use Rattle.rules.proofs.ByteLaws.{bytes_append, bytes_cons, bytes_none, bytes_take, bytes_drop, bytes_of_number, bytes_of_bits, two_small}
use Rattle.legality.proofs.Refusals.{NoneApplies, unless_refused_is, unless_dropped_is}
use Rattle.rules.proofs.Standing.{key_class, key_number}
use Rattle.legality.proofs.Tables.{fresh_legal}
use Rattle.legality.proofs.Holds.{holds_known, holds_change}
use Rattle.legality.proofs.Counter.{next_small}
use Rattle.legality.proofs.Written.{report_legal}
use Rattle.legality.proofs.AlarmsKept.{Bitmap, bitmap_of, turned_bitmap, turned_legal}
use Rattle.legality.proofs.ReplyBytes.{Message, reply_is_a_message, notification_is_a_message, memory_legal}
use Rattle.legality.proofs.LegalStates.{LegalState, open_state, close_state, with_table_legal, Good, with_number_legal, with_memory_legal, with_alarms_legal}
use Rattle.legality.proofs.CommandsKept.{create_good, delete_good, set_good, get_good, reset_good, upload_good, upload_next_good, all_alarms_good, alarms_next_good}
use Rattle.rules.proofs.MapLaws.{first_has}

-- what is handed to a call is bytes
abbrev pub OfBytes : Call → Type 0
OfBytes (message m) = are_bytes m ≡ true
OfBytes (attribute_report c i n v) = are_bytes v ≡ true
OfBytes (alarm_report c i n on) = Unit {0}

-- every input of a run is bytes
abbrev pub AllOfBytes : List Input → Type 0
AllOfBytes [] = Unit {0}
AllOfBytes (p ∷ l) = OfBytes p.call × AllOfBytes l

-- an outcome that leaves a legal state, and sends 48 bytes or nothing
abbrev pub SentIsAMessage : Outcome → Type 0
SentIsAMessage (dropped n) = Unit {0}
SentIsAMessage quiet = Unit {0}
SentIsAMessage (answered r) = Message r

module _ (cat : Catalogue) (wf : WellFormed cat) where
  pub record Fine (r : State × Outcome) : Type 0 where
    pub its_state : LegalState cat wf r.0
    pub its_message : SentIsAMessage r.1

  -- ---- commands

  module _ (s : State) (h : LegalState cat wf s) (c i : ℕ) (v : List ℕ) (lt : i < 65536) (long : length v ≡ 32) (b : are_bytes v ≡ true) where
    created_here : (n : ℕ) → NoneApplies (first_results cat n c) → eqb n create_number ≡ true → is_created (class cat c).creation ≡ true
    unfolding first_results created_by_Create
    created_here n clear e =
        let z : n ≡ create_number = eqb_eq n create_number e in
        let a = rw z at clear in
        let known_one : known cat c ≡ true = cases (known cat c) (λ y. y) (λ y. true_false (and_true (among_here create_number _) (false_not y)) a.1.0) in
        let allowed : among create_number (class cat c).commands ≡ true = cases (among create_number (class cat c).commands) (λ y. y)
        (λ y. true_false (and_true (among_here create_number _) (false_not y)) a.1.1.0) in
        implied (class_says created_by_Create cat wf.create_if_created c known_one) (or_left (among delete_number (class cat c).commands) allowed)

    pub answer_good : (n : ℕ) → Good cat wf (answer cat s n c i v)
    unfolding answer first_results perform
    answer_good n = unless_refused_is (Good cat wf) s (first_results cat n c) (given (perform cat s n c i v) (s, []) (λ a. a))
        (λ r f. record {
          its_state = h;
          its_contents = first_has (λ r. are_bytes r ≡ true) (first_results cat n c) (
            (λ y. bytes_cons 2 [] (omega arith) bytes_none),
            ((λ y. bytes_cons 4 [] (omega arith) bytes_none), ((λ y. bytes_cons 2 [] (omega arith) bytes_none), tt)),
          ) r f;
        })
        (λ none. pick (perform cat s n c i v) refl none)
      where
        pick : (o : Option Answer) → perform cat s n c i v ≡ o → NoneApplies (first_results cat n c) → Good cat wf (given o (s, []) (λ a. a))
        pick none e f = record { its_state = h; its_contents = bytes_none }
        pick (some a) e f = first_has (Good cat wf) _ (
          (λ y. create_good cat wf s h c i v (created_here n f y) lt long b),
          (
            (λ y. delete_good cat wf s h c i lt),
            (
              (λ y. set_good cat wf s h c i v lt long b),
              (
                (λ y. get_good cat wf s h c i v),
                (
                  (λ y. reset_good cat wf s h c i),
                  (
                    (λ y. all_alarms_good cat wf s h c i),
                    ((λ y. alarms_next_good cat wf s h c i v), ((λ y. upload_good cat wf s h c i), ((λ y. upload_next_good cat wf s h c i v), tt))),
                  ),
                ),
              ),
            ),
          ),
        ) a e

  -- ---- messages

  module _ (s : State) (h : LegalState cat wf s) (m : List ℕ) (b : are_bytes m ≡ true) where
    -- a message that passed drops 3 to 7
    passed_length : NoneApplies (message_drops m) → length m ≡ 48
    unfolding message_drops
    passed_length clear = eqb_eq (length m) 48 (not-false clear.0)

    passed_header : NoneApplies (message_drops m) → first_that_applies (header_drops m) ≡ none
    unfolding message_drops header_drops first_that_applies
    passed_header clear = rw (clear.1.0, clear.1.1.0, clear.1.1.1.0) refl

    pub anew_fine : NoneApplies (message_drops m) → Fine (answer_anew cat s m)
    unfolding answer_anew remember
    anew_fine clear =
        let msg : Message m = record { its_length = passed_length clear; its_bytes = b } in
        let v : List ℕ = contents_in m in
        let long : length v ≡ 32 = length-take-le 32 (drop 8 m) (Prim.simp length-drop (omega (arith, msg.its_length))) in
        let g = answer_good s h (class_in m) (instance_in m) v (two_small m 6 b) long (bytes_take 32 (drop 8 m) (bytes_drop 8 m b)) (message_number m) in
        let a : Answer = answer cat s (message_number m) (class_in m) (instance_in m) v in
        let r : Message (reply_to m a.1) = reply_is_a_message m a.1 msg g.its_contents in
        let l = g.its_state in
        record {
          its_state = with_memory_legal cat wf a.0 _ l (memory_legal m (reply_to m a.1) msg r (passed_header clear));
          its_message = r;
        }

    remembered_message : (r : Memory) → legal_memory r ≡ true → Message r.reply
    unfolding legal_memory
    remembered_message r l =
        let t = both (both (both (both l).1).1).1 in
        record { its_length = eqb_eq (length r.reply) 48 t.0; its_bytes = t.1 }

    again_fine : NoneApplies (message_drops m) → (r : Memory) → legal_memory r ≡ true → Fine (answer_again cat s m r)
    unfolding answer_again
    again_fine clear r l = cases (is_repeat m r)
        (λ e. rw e (record { its_state = h; its_message = remembered_message r l }))
        (λ e. rw e (anew_fine clear))

    pub handle_fine : Fine (handle cat s m)
    unfolding handle
    handle_fine = unless_dropped_is Fine s (message_drops m) (given s.remembered (answer_anew cat s m) (answer_again cat s m))
        (λ n e. record { its_state = h; its_message = tt })
        (λ clear. go s.remembered h.its_memory clear)
      where
        go : (o : Option Memory) → given o true legal_memory ≡ true → NoneApplies (message_drops m) → Fine (given o (answer_anew cat s m) (answer_again cat s m))
        go none l clear = anew_fine clear
        go (some r) l clear = again_fine clear r l

  -- ---- reports

  module _ (s : State) (h : LegalState cat wf s) (c i n : ℕ) where
    pub report_attribute_fine : (v : List ℕ) → are_bytes v ≡ true → Fine (report_attribute cat s c i n v)
    unfolding report_attribute attribute_drops
    report_attribute_fine v b =
        let t : Table = change cat c i (overwrite ((n, v) ∷ [])) s.table in
        unless_dropped_is Fine s (attribute_drops cat s c i n v) _
        (λ n e. record { its_state = h; its_message = tt })
        (λ clear.
        let k = holds_known cat wf s.table h.its_table c i (not-false clear.0) in
        let right = both (not-false clear.1.1.0) in
        let l = report_legal cat wf s.table h.its_table c i n v (holds cat s.table) (contents cat s.table c i) k.small (not-false clear.1.0)
        (eqb_eq (length v) (size_of (class cat c) n) right.0) b right.1 in
        record {
          its_state = with_table_legal cat wf s t h l (λ d j y. holds_change cat wf s.table h.its_table c i (overwrite ((n, v) ∷ [])) d j y);
          its_message = cases (not (same v (content n (contents cat s.table c i))) and (attribute (class cat c) n).avc)
              (λ e. rw e (notification_is_a_message avc_type c i (bytes 2 (mask (n ∷ [])) ++ v) (omega arith)
              (bytes_append (bytes 2 (mask (n ∷ []))) v (bytes_of_number 2 (mask (n ∷ []))) b)))
              (λ e. rw e tt);
        })

    turned_fine : (on : Bool) → holds cat s.table c i ≡ true → among n (class cat c).alarms ≡ true → Fine (turned s c i n on)
    unfolding turned
    turned_fine on here declared =
        let k = holds_known cat wf s.table h.its_table c i here in
        let z : class_of (key c i) ≡ c = key_class c i k.small in
        let y : number_of (key c i) ≡ i = key_number c i k.small in
        let b : Alarms = set (alarms_of (key c i) s.alarms) n on in
        let bm : Bitmap (class cat (class_of (key c i))) b = turned_bitmap (class cat (class_of (key c i))) (alarms_of (key c i) s.alarms) n on (rw z declared)
        (bitmap_of cat (holds cat s.table) (key c i) s.alarms h.its_alarms) in
        let seq : next_number s.alarm_number < 256 = next_small cat wf s.alarm_number h.its_number in
        record {
          its_state = with_number_legal cat wf _ (next_number s.alarm_number) (with_alarms_legal cat wf s s.table _ h h.its_table
              (turned_legal cat (holds cat s.table) (key c i) b s.alarms (rw (z, y) here) bm h.its_alarms)) seq;
          its_message = notification_is_a_message alarm_type c i _ (omega arith)
              (bytes_append (bitmap b) _ (bytes_of_bits 28 b)
              (bytes_cons 0 _ (omega arith) (bytes_cons 0 _ (omega arith) (bytes_cons 0 _ (omega arith) (bytes_cons (next_number s.alarm_number) [] seq bytes_none)))));
        }

    pub report_alarm_fine : (on : Bool) → Fine (report_alarm cat s c i n on)
    unfolding report_alarm alarm_drops
    report_alarm_fine on =
        let is_on : Bool = get_or (alarms_of (key c i) s.alarms) n false in
        unless_dropped_is Fine s (alarm_drops cat s c i n) _
        (λ n e. record { its_state = h; its_message = tt })
        (λ clear. cases ((is_on and on) or not (is_on or on))
        (λ e. rw e (record { its_state = h; its_message = tt }))
        (λ e. rw e (turned_fine on (not-false clear.0) (not-false clear.1.0))))

  -- ---- calls

  pub taken_fine : (s : State) → LegalState cat wf s → (c : Call) → OfBytes c → Fine (taken cat s c)
  unfolding taken
  taken_fine s h (message m) b = handle_fine s h m b
  taken_fine s h (attribute_report c i n v) b = report_attribute_fine s h c i n v b
  taken_fine s h (alarm_report c i n on) b = report_alarm_fine s h c i n on

  pub step_fine : (s : State) → LegalState cat wf s → (p : Input) → OfBytes p.call → Fine (step cat s p)
  unfolding step
  step_fine s h p b = unless_dropped_is Fine s (room_drops p) (taken cat s p.call) (λ n e. record { its_state = h; its_message = tt }) (λ clear. taken_fine s h p.call b)

  -- ---- the theorems

  pub the_fresh_state_is_legal : legal_state cat (fresh cat) ≡ true
  unfolding fresh legal_bitmaps Rattle.rules.specs.Maps.rising Rattle.rules.specs.Maps.keys Rattle.rules.specs.Maps.every
  the_fresh_state_is_legal = close_state cat wf (fresh cat) (record {
    its_table = fresh_legal cat wf;
    its_alarms = nothing_on;
    its_number = omega arith;
    its_memory = refl;
    its_upload = refl;
    its_walk = refl;
  })
    where
      nothing_on : legal_bitmaps cat (holds cat (fresh_table cat)) [] ≡ true
      nothing_on = and_true refl refl

  pub every_call_keeps_the_state_legal : (s : State) → legal_state cat s ≡ true → (p : Input) → OfBytes p.call → legal_state cat (step cat s p).0 ≡ true
  every_call_keeps_the_state_legal s h p b = close_state cat wf (step cat s p).0 (step_fine s (open_state cat wf s h) p b).its_state

  pub every_answer_is_48_bytes : (s : State) → legal_state cat s ≡ true → (p : Input) → OfBytes p.call → SentIsAMessage (step cat s p).1
  every_answer_is_48_bytes s h p b = (step_fine s (open_state cat wf s h) p b).its_message

  pub every_run_keeps_the_state_legal : (s : State) (l : List Input) → legal_state cat s ≡ true → AllOfBytes l → legal_state cat (after cat s l) ≡ true
  unfolding after
  every_run_keeps_the_state_legal s [] h b = h
  every_run_keeps_the_state_legal s (p ∷ l) h b =
      every_run_keeps_the_state_legal (step cat s p).0 l (every_call_keeps_the_state_legal s h p b.0) b.1
