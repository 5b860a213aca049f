-- Every message takes matched states to matched states, and is answered alike: also where it is a repeat.
use Prim.Native.Nat.{ℕ, ◌%◌}
use native.Mathlib.Omega.{arith}
use mathlib.Core.Path.{◌≡◌, refl, ◌∙◌, ap}
use mathlib.Core.Bool.{true}
use mathlib.Core.Option.{Option, none, some}
use mathlib.Core.List.{List, []}
use lib.ListN.{length, take, drop, length-drop}
use lib.Seq.{length-take-le, get_or-take}
use Rattle.rules.specs.Maps.{given, same, first_that_applies}
use Rattle.rules.specs.Bytes.{byte, are_bytes}
use Rattle.rules.specs.Catalogue.{Catalogue}
use Rattle.rules.specs.State.{Memory, State}
use Rattle.rules.specs.Messages.{message_number, class_in, instance_in, contents_in, message_drops, reply_to, Answer}
use Rattle.rules.specs.Reports.{Outcome, dropped, answered, unless_dropped}
use Rattle.rules.specs.Run.{answer, is_repeat, remember, answer_anew, answer_again, handle, Call, message, attribute_report, alarm_report}
use Rattle.rules.specs.WellFormed.{WellFormed}
use Rattle.rules.specs.Extends.{Extends}
use Rattle.rules.proofs.Laws.{cases, never, not-false, same_eq, eqb_eq}
use Rattle.rules.proofs.MapLaws.{none_some}
use Rattle.rules.proofs.Lookups.{implied}
use Rattle.rules.proofs.ByteLaws.{bytes_take, bytes_drop, two_small}
use Rattle.legality.proofs.Outcomes.{drop_of, sent}
use Rattle.legality.proofs.Refusals.{none_applies}
use Rattle.legality.proofs.ReplyBytes.{the_result_is_byte_8}
use Rattle.legality.proofs.LegalStates.{LegalState}
use Rattle.extending.specs.Promise.{answered_with_0_1_or_7, must_be_the_same, SameOutcome}
use Rattle.extending.specs.Matched.{BothMatch, MatchedMemory, MatchedState}
use Rattle.extending.proofs.Answers.{answer_matched}

-- ---- outcomes

-- the message of a call, by which two of them are told apart
abbrev message_of : Call → List ℕ
message_of (message m) = m
message_of (attribute_report c i n v) = v
message_of (alarm_report c i n on) = []

-- two replies that are the same where they must be
both_answered : (m r q : List ℕ) → (must_be_the_same m r ≡ true → q ≡ r) → SameOutcome (message m) (answered r) (answered q)
both_answered m r q f = record {
  same_drops = λ n. ((λ e. none_some (ap drop_of e)), (λ e. none_some (ap drop_of e)));
  same_replies = λ m' r' e o y. ap answered (f (rw (ap message_of e, ap sent o) y) ∙ ap sent o);
  same_notifications = λ y. never y;
}

-- the same outcome
pub the_same : (c : Call) (o : Outcome) → SameOutcome c o o
the_same c o = record { same_drops = λ n. ((λ e. e), (λ e. e)); same_replies = λ m r e x y. x; same_notifications = λ y. refl }

-- the number of a message is in its first 40 bytes
same_number : (m : List ℕ) → length m ≡ 48 → message_number (take 40 m) ≡ message_number m
same_number m long = ap (λ x. x % 32) (get_or-take 40 m 2 0 (omega arith))

-- what must be the same is told by the first 40 bytes
same_must : (m r : List ℕ) → length m ≡ 48 → must_be_the_same (take 40 m) r ≡ must_be_the_same m r
unfolding must_be_the_same
same_must m r long = rw (same_number m long) refl

-- ---- messages

module _ (first second : Catalogue) (wf : WellFormed first) (wf' : WellFormed second) (ext : Extends first second) where
  -- what a call makes of two matched states
  pub record MatchedResult (c : Call) (x y : State × Outcome) : Type 0 where
    pub states : MatchedState first second x.0 y.0
    pub outcomes : SameOutcome c x.1 y.1

  module _ (s z : State) (h : LegalState first wf s) (h' : LegalState second wf' z) (mt : MatchedState first second s z) (m : List ℕ) (b : are_bytes m ≡ true) (long : length m ≡ 48) where
    anew_matched : answered_with_0_1_or_7 (message m) (answer_anew first s m).1 ≡ true → MatchedResult (message m) (answer_anew first s m) (answer_anew second z m)
    unfolding answer_anew remember answered_with_0_1_or_7 must_be_the_same
    anew_matched ok =
        let n : ℕ = message_number m in
        let v : List ℕ = contents_in m in
        let a : Answer = answer first s n (class_in m) (instance_in m) v in
        let a' : Answer = answer second z n (class_in m) (instance_in m) v in
        let result : byte (reply_to m a.1) 8 ≡ byte a.1 0 = the_result_is_byte_8 m a.1 long in
        let x = answer_matched first second wf wf' ext s z h h' mt (class_in m) (instance_in m) v (two_small m 6 b)
        (length-take-le 32 (drop 8 m) (Prim.simp length-drop (omega (arith, long)))) (bytes_take 32 (drop 8 m) (bytes_drop 8 m b)) n
        (λ y. rw result at (implied ok y)) in
        let same_reply : must_be_the_same m (reply_to m a.1) ≡ true → reply_to m a'.1 ≡ reply_to m a.1 =
        λ y. ap (reply_to m) (x.same_contents (rw result at y)) in
        let g = x.states in
        record {
          states = record {
            tables = g.tables;
            untouched = g.untouched;
            same_alarms = g.same_alarms;
            same_alarm_number = g.same_alarm_number;
            memories = record { same_command = refl; same_reply = λ y. same_reply (rw (same_must m (reply_to m a.1) long) at y) };
            uploads = g.uploads;
            same_walk = g.same_walk;
          };
          outcomes = both_answered m (reply_to m a.1) (reply_to m a'.1) same_reply;
        }

    again_matched : (r q : Memory) → MatchedMemory first second r q
        → answered_with_0_1_or_7 (message m) (answer_again first s m r).1 ≡ true → MatchedResult (message m) (answer_again first s m r) (answer_again second z m q)
    unfolding answer_again is_repeat
    again_matched r q x = rw x.same_command (cases (same (take 40 m) r.command)
        (λ e. rw e (λ ok. record {
          states = mt;
          outcomes = both_answered m r.reply q.reply (λ y. x.same_reply (rw (← same_eq (take 40 m) r.command e, same_must m r.reply long) y));
        }))
        (λ e. rw e (λ ok. anew_matched ok)))

    unrepeated_matched : (o p : Option Memory) → BothMatch (MatchedMemory first second) o p
        → answered_with_0_1_or_7 (message m) (given o (answer_anew first s m) (answer_again first s m)).1 ≡ true
        → MatchedResult (message m) (given o (answer_anew first s m) (answer_again first s m)) (given p (answer_anew second z m) (answer_again second z m))
    unrepeated_matched none none x = anew_matched
    unrepeated_matched none (some q) x = absurd x
    unrepeated_matched (some r) none x = absurd x
    unrepeated_matched (some r) (some q) x = again_matched r q x

  pub handle_matched : (s z : State) → LegalState first wf s → LegalState second wf' z → MatchedState first second s z → (m : List ℕ) → are_bytes m ≡ true
      → answered_with_0_1_or_7 (message m) (handle first s m).1 ≡ true → MatchedResult (message m) (handle first s m) (handle second z m)
  unfolding handle unless_dropped message_drops
  handle_matched s z h h' mt m b = go (first_that_applies (message_drops m)) refl
    where
      go : (o : Option ℕ) → first_that_applies (message_drops m) ≡ o
          → answered_with_0_1_or_7 (message m) (given o (given s.remembered (answer_anew first s m) (answer_again first s m)) (λ n. (s, dropped n))).1 ≡ true
          → MatchedResult (message m) (given o (given s.remembered (answer_anew first s m) (answer_again first s m)) (λ n. (s, dropped n)))
          (given o (given z.remembered (answer_anew second z m) (answer_again second z m)) (λ n. (z, dropped n)))
      go none e = unrepeated_matched s z h h' mt m b (eqb_eq (length m) 48 (not-false (none_applies (message_drops m) e).0)) s.remembered z.remembered mt.memories
      go (some n) e = λ ok. record { states = mt; outcomes = the_same (message m) (dropped n) }
