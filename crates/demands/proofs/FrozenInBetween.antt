-- Last year's accident can't happen, with the weakest condition on what comes in between: dropped messages and repeats of an upload's request, or of a
-- reset, ask for nothing. Every run in which no call asks for a new walk or resets leaves the frozen copy as it was.
use Prim.Native.Nat.{ℕ}
use mathlib.Core.Path.{◌≡◌, refl, sym, ◌∙◌, ap}
use mathlib.Core.Bool.{Bool, false}
use mathlib.Core.Option.{Option, none, some}
use mathlib.Core.List.{List, []}
use lib.ListN.{take}
use Rattle.rules.specs.Maps.{◌and◌, given, same, nth, first_that_applies}
use Rattle.rules.specs.Bytes.{two}
use Rattle.rules.specs.Catalogue.{Catalogue}
use Rattle.rules.specs.State.{Memory, State}
use Rattle.rules.specs.Messages.{message_drops}
use Rattle.rules.specs.Walks.{if_ont_data, sections, section_contents, frozen, upload, upload_next, all_alarms, alarms_contents, alarms_next}
use Rattle.rules.specs.Reports.{Outcome, unless_dropped}
use Rattle.rules.specs.Run.{is_repeat, answer_anew, answer_again, handle, Call, message, attribute_report, alarm_report, Input, taken}
use Rattle.rules.specs.Run.{after}
use Rattle.rules.proofs.Laws.{cases, true_false, eq_same, same_eq}
use Rattle.rules.proofs.MapLaws.{none_some, some_eq}
use Rattle.demands.specs.Between.{EachStep, is_dropped, asks_for_an_upload, asks_for_an_alarm_walk, is_a_reset, LeavesWalks, LeavesUploads, LeavesAlarmWalks}
use Rattle.demands.specs.Repeating.{IsNoRepeat}
use Rattle.demands.proofs.Between.{kept_by_a_run}
use Rattle.demands.proofs.Accident.{an_attribute_report_keeps_both_walks, an_alarm_report_keeps_both_walks, a_section_is_of_the_frozen_copy_alone, an_alarm_section_is_of_the_frozen_copy_alone}
use Rattle.demands.proofs.Accident as accident

-- ---- messages

-- a message that is no repeat is answered anew
pub answered_anew : (cat : Catalogue) (s : State) (m : List ℕ) → first_that_applies (message_drops m) ≡ none → IsNoRepeat s m → handle cat s m ≡ answer_anew cat s m
unfolding handle unless_dropped answer_again is_repeat
answered_anew cat s m e h = rw e (go s.remembered refl)
  where
    go : (o : Option Memory) → s.remembered ≡ o → given o (answer_anew cat s m) (answer_again cat s m) ≡ answer_anew cat s m
    go none x = refl
    go (some r) x = cases (same (take 40 m) r.command) (λ t. absurd (h r x (same_eq (take 40 m) r.command t))) (λ t. rw t refl)

-- A part of the state that every message keeps that asks for nothing of the kind and is no reset, is kept by every message that leaves such walks alone:
-- dropped ones and repeats keep all of it.
module _ {A : Type 0} (part : State → Option A) (asks : List ℕ → Bool) (cat : Catalogue) (s : State) (m : List ℕ)
    (by_its_bytes : asks m ≡ false → is_a_reset m ≡ false → part (handle cat s m).0 ≡ part s) where
  kept_by_a_message : LeavesWalks asks s (message m) (handle cat s m).1 → part (handle cat s m).0 ≡ part s
  unfolding handle unless_dropped answer_anew answer_again is_repeat
  kept_by_a_message leaves = listed (first_that_applies (message_drops m)) refl
    where
      anew : first_that_applies (message_drops m) ≡ none → IsNoRepeat s m → part (handle cat s m).0 ≡ part s
      anew clear new = let x = leaves (ap (λ (y : State × Outcome). is_dropped y.1) (answered_anew cat s m clear new)) new in by_its_bytes x.0 x.1

      remembered_one : first_that_applies (message_drops m) ≡ none → (o : Option Memory) → s.remembered ≡ o → part (handle cat s m).0 ≡ part s
      remembered_one clear none e = anew clear (λ k f. none_some (sym e ∙ f))
      remembered_one clear (some r) e = cases (same (take 40 m) r.command)
          (λ t. rw (clear, e, t) refl)
          (λ t. anew clear (λ k f y. true_false (eq_same (take 40 m) r.command (y ∙ ap (λ (j : Memory). j.command) (some_eq (sym f ∙ e)))) t))

      listed : (o : Option ℕ) → first_that_applies (message_drops m) ≡ o → part (handle cat s m).0 ≡ part s
      listed none e = remembered_one e s.remembered refl
      listed (some n) e = rw e refl

-- a message that leaves uploads alone keeps the frozen table
pub a_message_keeps_the_upload : (cat : Catalogue) (s : State) (m : List ℕ) → LeavesUploads s (message m) (handle cat s m).1 → (handle cat s m).0.upload ≡ s.upload
a_message_keeps_the_upload cat s m = kept_by_a_message (λ t. t.upload) asks_for_an_upload cat s m (accident.a_message_keeps_the_upload cat s m)

-- a message that leaves alarm walks alone keeps the frozen bitmaps
pub a_message_keeps_the_alarm_walk : (cat : Catalogue) (s : State) (m : List ℕ) → LeavesAlarmWalks s (message m) (handle cat s m).1 → (handle cat s m).0.walk ≡ s.walk
a_message_keeps_the_alarm_walk cat s m = kept_by_a_message (λ t. t.walk) asks_for_an_alarm_walk cat s m (accident.a_message_keeps_the_alarm_walk cat s m)

-- ---- runs

module _ (cat : Catalogue) where
  -- any call that leaves uploads alone keeps the frozen table
  pub a_call_keeps_the_upload : (s : State) (c : Call) → LeavesUploads s c (taken cat s c).1 → (taken cat s c).0.upload ≡ s.upload
  unfolding taken
  a_call_keeps_the_upload s (message m) h = a_message_keeps_the_upload cat s m h
  a_call_keeps_the_upload s (attribute_report c i n v) h = (an_attribute_report_keeps_both_walks cat s c i n v).0
  a_call_keeps_the_upload s (alarm_report c i n on) h = (an_alarm_report_keeps_both_walks cat s c i n on).0

  -- any call that leaves alarm walks alone keeps the frozen bitmaps
  pub a_call_keeps_the_alarm_walk : (s : State) (c : Call) → LeavesAlarmWalks s c (taken cat s c).1 → (taken cat s c).0.walk ≡ s.walk
  unfolding taken
  a_call_keeps_the_alarm_walk s (message m) h = a_message_keeps_the_alarm_walk cat s m h
  a_call_keeps_the_alarm_walk s (attribute_report c i n v) h = (an_attribute_report_keeps_both_walks cat s c i n v).1
  a_call_keeps_the_alarm_walk s (alarm_report c i n on) h = (an_alarm_report_keeps_both_walks cat s c i n on).1

  -- Whatever comes in between, in lent sizes of any length, as long as no new upload is asked for and nothing is reset: the frozen table stays. Dropped
  -- messages and repeats ask for nothing.
  pub whatever_comes_in_between_the_upload_stays : (s : State) (l : List Input) → EachStep LeavesUploads cat s l → (after cat s l).upload ≡ s.upload
  whatever_comes_in_between_the_upload_stays = kept_by_a_run cat (λ t. t.upload) LeavesUploads a_call_keeps_the_upload

  -- The same of an alarm walk, as long as no new one is asked for and nothing is reset.
  pub whatever_comes_in_between_the_alarm_walk_stays : (s : State) (l : List Input) → EachStep LeavesAlarmWalks cat s l → (after cat s l).walk ≡ s.walk
  whatever_comes_in_between_the_alarm_walk_stays = kept_by_a_run cat (λ t. t.walk) LeavesAlarmWalks a_call_keeps_the_alarm_walk

  -- So each section, at every index, is what it would have been without the calls in between.
  pub whatever_comes_in_between_no_section_changes : (s : State) (l : List Input) (w : List ℕ) → EachStep LeavesUploads cat s l
      → (upload_next cat (after cat s l) 2 0 w).1 ≡ (upload_next cat s 2 0 w).1
  whatever_comes_in_between_no_section_changes s l w h = a_section_is_of_the_frozen_copy_alone cat s (after cat s l) 2 0 w (whatever_comes_in_between_the_upload_stays s l h)

  -- The same of the sections of an alarm walk.
  pub whatever_comes_in_between_no_alarm_section_changes : (s : State) (l : List Input) (w : List ℕ) → EachStep LeavesAlarmWalks cat s l
      → (alarms_next (after cat s l) 2 0 w).1 ≡ (alarms_next s 2 0 w).1
  whatever_comes_in_between_no_alarm_section_changes s l w h = an_alarm_section_is_of_the_frozen_copy_alone s (after cat s l) 2 0 w (whatever_comes_in_between_the_alarm_walk_stays s l h)

  -- Demand 2's last sentence: an upload is asked for; whatever comes in between, the section at index n is the n-th of the table as it
  -- stood when the upload was asked for.
  pub an_upload_shows_the_table_as_it_stood : (s : State) (l : List Input) (w : List ℕ) → EachStep LeavesUploads cat (upload cat s 2 0).0 l
      → (upload_next cat (after cat (upload cat s 2 0).0 l) 2 0 w).1
      ≡ given (nth (sections cat (frozen s.table)) (two w 0)) [] (section_contents cat (frozen s.table))
  unfolding upload upload_next if_ont_data ◌and◌
  an_upload_shows_the_table_as_it_stood s l w h = whatever_comes_in_between_no_section_changes (upload cat s 2 0).0 l w h

  -- the same of the alarms
  pub an_alarm_walk_shows_the_alarms_as_they_stood : (s : State) (l : List Input) (w : List ℕ) → EachStep LeavesAlarmWalks cat (all_alarms s 2 0).0 l
      → (alarms_next (after cat (all_alarms s 2 0).0 l) 2 0 w).1 ≡ given (nth s.alarms (two w 0)) [] alarms_contents
  unfolding all_alarms alarms_next if_ont_data ◌and◌
  an_alarm_walk_shows_the_alarms_as_they_stood s l w h = whatever_comes_in_between_no_alarm_section_changes (all_alarms s 2 0).0 l w h
