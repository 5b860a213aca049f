-- Last year's accident can't happen: whatever comes in while an upload or an alarm walk is half sent, its sections stay as they were
-- when it was asked for.
use Prim.Native.Nat.{ℕ}
use mathlib.Core.Path.{◌≡◌, refl, ◌∙◌}
use mathlib.Core.Bool.{Bool, false, not}
use mathlib.Core.Option.{Option, none, some}
use mathlib.Core.List.{List, [], ◌∷◌}
use lib.ListN.{get_or}
use lib.Dec.{eqb}
use Rattle.rules.specs.Maps.{◌and◌, ◌or◌, given, nth}
use Rattle.rules.specs.Bytes.{two}
use Rattle.rules.specs.Catalogue.{Catalogue, class, key, ont_data}
use Rattle.rules.specs.State.{Memory, State, holds, alarms_of}
use Rattle.rules.specs.Messages.{message_number, class_in, instance_in, contents_in, message_drops, all_alarms_number, upload_number, reset_number, Answer}
use Rattle.rules.specs.Commands.{create_results, create, without, delete_results, delete, bad_in_set, set_results, set, get_results, get}
use Rattle.rules.specs.Walks.{if_ont_data, sections, section_contents, frozen, upload, upload_next, all_alarms, alarms_contents, alarms_next}
use Rattle.rules.specs.Reports.{attribute_drops, report_attribute, alarm_drops, turned, report_alarm}
use Rattle.rules.specs.Run.{perform, first_results, answer, is_repeat, remember, answer_anew, answer_again, handle, Call, message, attribute_report, alarm_report, Input, taken}
use Rattle.rules.specs.Run.{room_drops, step, after}
use Rattle.rules.proofs.Laws.{cases, true_false, and_true}
use Rattle.legality.proofs.Refusals.{unless_refused_is, unless_dropped_is}
use Rattle.rules.proofs.MapLaws.{first_has}

-- ---- one report

-- an attribute report keeps the frozen copies of both walks
pub an_attribute_report_keeps_both_walks : (cat : Catalogue) (s : State) (c i n : ℕ) (v : List ℕ)
    → ((report_attribute cat s c i n v).0.upload ≡ s.upload) × ((report_attribute cat s c i n v).0.walk ≡ s.walk)
unfolding report_attribute
an_attribute_report_keeps_both_walks cat s c i n v = unless_dropped_is (λ r. (r.0.upload ≡ s.upload) × (r.0.walk ≡ s.walk)) s (attribute_drops cat s c i n v) _
    (λ n e. (refl, refl))
    (λ clear. (refl, refl))

-- an alarm report keeps the frozen copies of both walks
pub an_alarm_report_keeps_both_walks : (cat : Catalogue) (s : State) (c i n : ℕ) (on : Bool)
    → ((report_alarm cat s c i n on).0.upload ≡ s.upload) × ((report_alarm cat s c i n on).0.walk ≡ s.walk)
unfolding report_alarm turned
an_alarm_report_keeps_both_walks cat s c i n on =
    let is_on : Bool = get_or (alarms_of (key c i) s.alarms) n false in
    unless_dropped_is (λ r. (r.0.upload ≡ s.upload) × (r.0.walk ≡ s.walk)) s (alarm_drops cat s c i n) _
    (λ n e. (refl, refl))
    (λ clear. cases ((is_on and on) or not (is_on or on)) (λ e. rw e (refl, refl)) (λ e. rw e (refl, refl)))

-- the sections of an upload are those of its frozen copy: nothing else of the state is looked at
pub a_section_is_of_the_frozen_copy_alone : (cat : Catalogue) (s t : State) (c i : ℕ) (w : List ℕ) → t.upload ≡ s.upload
    → (upload_next cat t c i w).1 ≡ (upload_next cat s c i w).1
unfolding upload_next if_ont_data
a_section_is_of_the_frozen_copy_alone cat s t c i w e = cases (eqb c ont_data and eqb i 0) (λ y. rw (y, e)) (λ y. rw y)

-- the same of an alarm walk
pub an_alarm_section_is_of_the_frozen_copy_alone : (s t : State) (c i : ℕ) (w : List ℕ) → t.walk ≡ s.walk
    → (alarms_next t c i w).1 ≡ (alarms_next s c i w).1
unfolding alarms_next if_ont_data
an_alarm_section_is_of_the_frozen_copy_alone s t c i w e = cases (eqb c ont_data and eqb i 0) (λ y. rw (y, e)) (λ y. rw y)

-- Last year's accident: an attribute of any instance (a link's state, say) is reported while an upload is half sent. Every section
-- of the upload, at every index, is what it would have been without the report.
pub a_link_change_during_an_upload_changes_no_section : (cat : Catalogue) (s : State) (c i n : ℕ) (v w : List ℕ)
    → (upload_next cat (report_attribute cat s c i n v).0 2 0 w).1 ≡ (upload_next cat s 2 0 w).1
a_link_change_during_an_upload_changes_no_section cat s c i n v w =
    a_section_is_of_the_frozen_copy_alone cat s (report_attribute cat s c i n v).0 2 0 w (an_attribute_report_keeps_both_walks cat s c i n v).0

-- the same of an alarm that is raised or cleared meanwhile
pub an_alarm_during_an_upload_changes_no_section : (cat : Catalogue) (s : State) (c i n : ℕ) (on : Bool) (w : List ℕ)
    → (upload_next cat (report_alarm cat s c i n on).0 2 0 w).1 ≡ (upload_next cat s 2 0 w).1
an_alarm_during_an_upload_changes_no_section cat s c i n on w =
    a_section_is_of_the_frozen_copy_alone cat s (report_alarm cat s c i n on).0 2 0 w (an_alarm_report_keeps_both_walks cat s c i n on).0

-- an alarm that is raised or cleared during an alarm walk changes none of the walk's sections
pub an_alarm_during_an_alarm_walk_changes_no_section : (cat : Catalogue) (s : State) (c i n : ℕ) (on : Bool) (w : List ℕ)
    → (alarms_next (report_alarm cat s c i n on).0 2 0 w).1 ≡ (alarms_next s 2 0 w).1
an_alarm_during_an_alarm_walk_changes_no_section cat s c i n on w =
    an_alarm_section_is_of_the_frozen_copy_alone s (report_alarm cat s c i n on).0 2 0 w (an_alarm_report_keeps_both_walks cat s c i n on).1

-- ---- any messages and reports

-- a MIB upload of the ONT data, which freezes a new copy
abbrev pub asks_for_an_upload : List ℕ → Bool
asks_for_an_upload m = eqb (message_number m) upload_number and (eqb (class_in m) ont_data and eqb (instance_in m) 0)

-- a Get all alarms of the ONT data
abbrev pub asks_for_an_alarm_walk : List ℕ → Bool
asks_for_an_alarm_walk m = eqb (message_number m) all_alarms_number and (eqb (class_in m) ont_data and eqb (instance_in m) 0)

-- a MIB reset, which ends both walks
abbrev pub is_a_reset : List ℕ → Bool
is_a_reset m = eqb (message_number m) reset_number

-- any report, and any message that is neither a new upload nor a reset
abbrev pub LeavesUploads : Call → Type 0
LeavesUploads (message m) = (asks_for_an_upload m ≡ false) × (is_a_reset m ≡ false)
LeavesUploads (attribute_report c i n v) = Unit {0}
LeavesUploads (alarm_report c i n on) = Unit {0}

-- any report, and any message that is neither a new alarm walk nor a reset
abbrev pub LeavesAlarmWalks : Call → Type 0
LeavesAlarmWalks (message m) = (asks_for_an_alarm_walk m ≡ false) × (is_a_reset m ≡ false)
LeavesAlarmWalks (attribute_report c i n v) = Unit {0}
LeavesAlarmWalks (alarm_report c i n on) = Unit {0}

module _ (cat : Catalogue) (s : State) (c i : ℕ) (v : List ℕ) where
  -- both frozen copies are kept
  abbrev KeepsBoth : Answer → Type 0
  KeepsBoth a = (a.0.upload ≡ s.upload) × (a.0.walk ≡ s.walk)

  create_keeps : KeepsBoth (create cat s c i v)
  unfolding create
  create_keeps = unless_refused_is KeepsBoth s (create_results cat s c i v) _ (λ r e. (refl, refl)) (λ clear. (refl, refl))

  delete_keeps : KeepsBoth (delete cat s c i)
  unfolding delete without
  delete_keeps = unless_refused_is KeepsBoth s (delete_results cat s c i) _ (λ r e. (refl, refl)) (λ clear. (refl, refl))

  set_keeps : KeepsBoth (set cat s c i v)
  unfolding set
  set_keeps = unless_refused_is KeepsBoth s (set_results (holds cat s.table c i) (class cat c) (two v 0) (bad_in_set cat s c i v)) _ (λ r e. (refl, refl)) (λ clear. (refl, refl))

  get_keeps : KeepsBoth (get cat s c i v)
  unfolding get
  get_keeps = unless_refused_is KeepsBoth s (get_results (holds cat s.table c i) (class cat c) (two v 0)) _ (λ r e. (refl, refl)) (λ clear. (refl, refl))

  upload_next_keeps : KeepsBoth (upload_next cat s c i v)
  unfolding upload_next if_ont_data
  upload_next_keeps = cases (eqb c ont_data and eqb i 0) (λ e. rw e (refl, refl)) (λ e. rw e (refl, refl))

  alarms_next_keeps : KeepsBoth (alarms_next s c i v)
  unfolding alarms_next if_ont_data
  alarms_next_keeps = cases (eqb c ont_data and eqb i 0) (λ e. rw e (refl, refl)) (λ e. rw e (refl, refl))

  all_alarms_keeps : (all_alarms s c i).0.upload ≡ s.upload
  unfolding all_alarms if_ont_data
  all_alarms_keeps = cases (eqb c ont_data and eqb i 0) (λ e. rw e refl) (λ e. rw e refl)

  upload_keeps : (upload cat s c i).0.walk ≡ s.walk
  unfolding upload if_ont_data
  upload_keeps = cases (eqb c ont_data and eqb i 0) (λ e. rw e refl) (λ e. rw e refl)

  answer_keeps_the_upload : (n : ℕ) → (eqb n upload_number and (eqb c ont_data and eqb i 0)) ≡ false → eqb n reset_number ≡ false → (answer cat s n c i v).0.upload ≡ s.upload
  unfolding answer perform upload if_ont_data
  answer_keeps_the_upload n other no_reset = unless_refused_is (λ a. a.0.upload ≡ s.upload) s (first_results cat n c) (given (perform cat s n c i v) (s, []) (λ a. a))
      (λ r e. refl)
      (λ clear. pick (perform cat s n c i v) refl)
    where
      pick : (o : Option Answer) → perform cat s n c i v ≡ o → (given o (s, []) (λ a. a)).0.upload ≡ s.upload
      pick none e = refl
      pick (some a) e = first_has (λ a. a.0.upload ≡ s.upload) _ (
        (λ y. create_keeps.0),
        (
          (λ y. delete_keeps.0),
          (
            (λ y. set_keeps.0),
            (
              (λ y. get_keeps.0),
              (
                (λ y. true_false y no_reset),
                (
                  (λ y. all_alarms_keeps),
                  (
                    (λ y. alarms_next_keeps.0),
                    ((λ y. cases (eqb c ont_data and eqb i 0) (λ t. true_false (and_true y t) other) (λ t. rw t refl)), ((λ y. upload_next_keeps.0), tt)),
                  ),
                ),
              ),
            ),
          ),
        ),
      ) a e

  answer_keeps_the_alarm_walk : (n : ℕ) → (eqb n all_alarms_number and (eqb c ont_data and eqb i 0)) ≡ false → eqb n reset_number ≡ false
      → (answer cat s n c i v).0.walk ≡ s.walk
  unfolding answer perform all_alarms if_ont_data
  answer_keeps_the_alarm_walk n other no_reset = unless_refused_is (λ a. a.0.walk ≡ s.walk) s (first_results cat n c) (given (perform cat s n c i v) (s, []) (λ a. a))
      (λ r e. refl)
      (λ clear. pick (perform cat s n c i v) refl)
    where
      pick : (o : Option Answer) → perform cat s n c i v ≡ o → (given o (s, []) (λ a. a)).0.walk ≡ s.walk
      pick none e = refl
      pick (some a) e = first_has (λ a. a.0.walk ≡ s.walk) _ (
        (λ y. create_keeps.1),
        (
          (λ y. delete_keeps.1),
          (
            (λ y. set_keeps.1),
            (
              (λ y. get_keeps.1),
              (
                (λ y. true_false y no_reset),
                (
                  (λ y. cases (eqb c ont_data and eqb i 0) (λ t. true_false (and_true y t) other) (λ t. rw t refl)),
                  ((λ y. alarms_next_keeps.1), ((λ y. upload_keeps), ((λ y. upload_next_keeps.1), tt))),
                ),
              ),
            ),
          ),
        ),
      ) a e

-- a message that is neither an upload nor a reset keeps the frozen table
pub a_message_keeps_the_upload : (cat : Catalogue) (s : State) (m : List ℕ) → asks_for_an_upload m ≡ false → is_a_reset m ≡ false → (handle cat s m).0.upload ≡ s.upload
unfolding handle answer_anew answer_again remember
a_message_keeps_the_upload cat s m other no_reset = unless_dropped_is (λ r. r.0.upload ≡ s.upload) s (message_drops m) _
    (λ n e. refl)
    (λ clear. go s.remembered)
  where
    go : (o : Option Memory) → (given o (answer_anew cat s m) (answer_again cat s m)).0.upload ≡ s.upload
    go none = answer_keeps_the_upload cat s (class_in m) (instance_in m) (contents_in m) (message_number m) other no_reset
    go (some r) = cases (is_repeat m r) (λ e. rw e refl) (λ e. rw e (answer_keeps_the_upload cat s (class_in m) (instance_in m) (contents_in m) (message_number m) other no_reset))

-- a message that is neither a Get all alarms nor a reset keeps the frozen bitmaps
pub a_message_keeps_the_alarm_walk : (cat : Catalogue) (s : State) (m : List ℕ) → asks_for_an_alarm_walk m ≡ false → is_a_reset m ≡ false → (handle cat s m).0.walk ≡ s.walk
unfolding handle answer_anew answer_again remember
a_message_keeps_the_alarm_walk cat s m other no_reset = unless_dropped_is (λ r. r.0.walk ≡ s.walk) s (message_drops m) _
    (λ n e. refl)
    (λ clear. go s.remembered)
  where
    go : (o : Option Memory) → (given o (answer_anew cat s m) (answer_again cat s m)).0.walk ≡ s.walk
    go none = answer_keeps_the_alarm_walk cat s (class_in m) (instance_in m) (contents_in m) (message_number m) other no_reset
    go (some r) = cases (is_repeat m r) (λ e. rw e refl) (λ e. rw e (answer_keeps_the_alarm_walk cat s (class_in m) (instance_in m) (contents_in m) (message_number m) other no_reset))

module _ (cat : Catalogue) where
  -- any call but a new upload or a reset keeps the frozen table
  pub a_call_keeps_the_upload : (s : State) (c : Call) → LeavesUploads c → (taken cat s c).0.upload ≡ s.upload
  unfolding taken
  a_call_keeps_the_upload s (message m) h = a_message_keeps_the_upload cat s m h.0 h.1
  a_call_keeps_the_upload s (attribute_report c i n v) h = (an_attribute_report_keeps_both_walks cat s c i n v).0
  a_call_keeps_the_upload s (alarm_report c i n on) h = (an_alarm_report_keeps_both_walks cat s c i n on).0

  -- any call but a new alarm walk or a reset keeps the frozen bitmaps
  pub a_call_keeps_the_alarm_walk : (s : State) (c : Call) → LeavesAlarmWalks c → (taken cat s c).0.walk ≡ s.walk
  unfolding taken
  a_call_keeps_the_alarm_walk s (message m) h = a_message_keeps_the_alarm_walk cat s m h.0 h.1
  a_call_keeps_the_alarm_walk s (attribute_report c i n v) h = (an_attribute_report_keeps_both_walks cat s c i n v).1
  a_call_keeps_the_alarm_walk s (alarm_report c i n on) h = (an_alarm_report_keeps_both_walks cat s c i n on).1

  -- each call of a run
  abbrev pub EachCall : (Call → Type 0) → List Input → Type 0
  EachCall P [] = Unit {0}
  EachCall P (p ∷ l) = P p.call × EachCall P l

  -- Whatever comes in between, in lent sizes of any length, as long as it is no new upload and no reset: the frozen table stays.
  pub whatever_comes_in_between_the_upload_stays : (s : State) (l : List Input) → EachCall LeavesUploads l → (after cat s l).upload ≡ s.upload
  unfolding after step
  whatever_comes_in_between_the_upload_stays s [] h = refl
  whatever_comes_in_between_the_upload_stays s (p ∷ l) h = whatever_comes_in_between_the_upload_stays (step cat s p).0 l h.1
      ∙ unless_dropped_is (λ r. r.0.upload ≡ s.upload) s (room_drops p) (taken cat s p.call) (λ n e. refl) (λ clear. a_call_keeps_the_upload s p.call h.0)

  -- The same of an alarm walk, as long as no new one is asked for and nothing is reset.
  pub whatever_comes_in_between_the_alarm_walk_stays : (s : State) (l : List Input) → EachCall LeavesAlarmWalks l → (after cat s l).walk ≡ s.walk
  unfolding after step
  whatever_comes_in_between_the_alarm_walk_stays s [] h = refl
  whatever_comes_in_between_the_alarm_walk_stays s (p ∷ l) h = whatever_comes_in_between_the_alarm_walk_stays (step cat s p).0 l h.1
      ∙ unless_dropped_is (λ r. r.0.walk ≡ s.walk) s (room_drops p) (taken cat s p.call) (λ n e. refl) (λ clear. a_call_keeps_the_alarm_walk s p.call h.0)

  -- So each section, at every index, is what it would have been without the calls in between.
  pub whatever_comes_in_between_no_section_changes : (s : State) (l : List Input) (w : List ℕ) → EachCall LeavesUploads l
      → (upload_next cat (after cat s l) 2 0 w).1 ≡ (upload_next cat s 2 0 w).1
  whatever_comes_in_between_no_section_changes s l w h = a_section_is_of_the_frozen_copy_alone cat s (after cat s l) 2 0 w (whatever_comes_in_between_the_upload_stays s l h)

  -- The same of the sections of an alarm walk.
  pub whatever_comes_in_between_no_alarm_section_changes : (s : State) (l : List Input) (w : List ℕ) → EachCall LeavesAlarmWalks l
      → (alarms_next (after cat s l) 2 0 w).1 ≡ (alarms_next s 2 0 w).1
  whatever_comes_in_between_no_alarm_section_changes s l w h = an_alarm_section_is_of_the_frozen_copy_alone s (after cat s l) 2 0 w (whatever_comes_in_between_the_alarm_walk_stays s l h)

  -- Demand 2's last sentence: an upload is asked for; whatever comes in between, the section at index n is the n-th of the table as it
  -- stood when the upload was asked for.
  pub an_upload_shows_the_table_as_it_stood : (s : State) (l : List Input) (w : List ℕ) → EachCall LeavesUploads l
      → (upload_next cat (after cat (upload cat s 2 0).0 l) 2 0 w).1
      ≡ given (nth (sections cat (frozen s.table)) (two w 0)) [] (section_contents cat (frozen s.table))
  unfolding upload upload_next if_ont_data ◌and◌
  an_upload_shows_the_table_as_it_stood s l w h = whatever_comes_in_between_no_section_changes (upload cat s 2 0).0 l w h

  -- the same of the alarms
  pub an_alarm_walk_shows_the_alarms_as_they_stood : (s : State) (l : List Input) (w : List ℕ) → EachCall LeavesAlarmWalks l
      → (alarms_next (after cat (all_alarms s 2 0).0 l) 2 0 w).1 ≡ given (nth s.alarms (two w 0)) [] alarms_contents
  unfolding all_alarms alarms_next if_ont_data ◌and◌
  an_alarm_walk_shows_the_alarms_as_they_stood s l w h = whatever_comes_in_between_no_alarm_section_changes (all_alarms s 2 0).0 l w h
