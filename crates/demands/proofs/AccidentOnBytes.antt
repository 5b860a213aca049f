-- The same on the bytes of a store: an upload is asked for, any calls come in between in any buffers, and a section is fetched. It is a
-- section of the table as it stood when the upload was asked for.
use Prim.Native.Nat.{ℕ, ◌≤◌}
use mathlib.Core.Path.{◌≡◌, refl, ◌∙◌, ap}
use mathlib.Core.Bool.{true, false}
use mathlib.Core.Option.{Option, none, some}
use mathlib.Core.List.{List, [], ◌∷◌}
use lib.ListN.{length}
use lib.Dec.{ltb}
use Rattle.rules.specs.Maps.{◌and◌, ◌or◌, Map, given, nth, among, first_that_applies}
use Rattle.rules.specs.Bytes.{two, bytes, are_bytes}
use Rattle.rules.specs.Catalogue.{Catalogue}
use Rattle.rules.specs.State.{Table, Alarms, Memory, State}
use Rattle.rules.specs.Messages.{message_number, class_in, instance_in, contents_in, message_drops, reply_to, Answer, unless_refused}
use Rattle.rules.specs.Walks.{if_ont_data, sections, section_contents, frozen, upload, upload_next, all_alarms, alarms_contents, alarms_next}
use Rattle.rules.specs.Reports.{Outcome, answered, unless_dropped}
use Rattle.rules.specs.Run.{perform, first_results, answer, is_repeat, remember, answer_anew, answer_again, handle, Call, message, taken}
use Rattle.rules.specs.Products.{Products}
use Rattle.rules.proofs.Laws.{cases, ltb_lt, ltb_le}
use Rattle.store.specs.Decode.{Held, decode}
use Rattle.store.specs.Entries.{enter}
use Rattle.store.specs.Fitting.{AllFit}
use Rattle.legality.proofs.Kept.{OfBytes}
use Rattle.demands.proofs.DemandOne.{Lent, store_after, RunOfBytes, drop_1_if_the_buffer_is_short, a_drop_changes_nothing, the_outcome_is_the_rules}
use Rattle.demands.proofs.DemandOne.{the_store_holds_what_the_rules_leave}
use Rattle.demands.proofs.Accident.{LeavesUploads, LeavesAlarmWalks, a_call_keeps_the_upload, a_call_keeps_the_alarm_walk}

-- ---- an upload and an Upload Next that pass the drops and are no repeats

-- a message of this number to the ONT data, that passes drops 3 to 7
pub record Passes (number : ℕ) (m : List ℕ) : Type 0 where
  pub its_bytes : are_bytes m ≡ true
  pub no_drop : first_that_applies (message_drops m) ≡ none
  pub its_number : message_number m ≡ number
  pub its_class : class_in m ≡ 2
  pub its_instance : instance_in m ≡ 0

-- a message that isn't what the state remembers as the last answered command
abbrev pub IsNoRepeat : State → List ℕ → Type 0
IsNoRepeat s m = given s.remembered false (is_repeat m) ≡ false

-- such a message is answered anew
pub answered_anew : (cat : Catalogue) (s : State) (m : List ℕ) → first_that_applies (message_drops m) ≡ none → IsNoRepeat s m → handle cat s m ≡ answer_anew cat s m
unfolding handle unless_dropped answer_again
answered_anew cat s m e h = rw e (go s.remembered h)
  where
    go : (o : Option Memory) → given o false (is_repeat m) ≡ false → given o (answer_anew cat s m) (answer_again cat s m) ≡ answer_anew cat s m
    go none h = refl
    go (some r) h = rw h refl

upload_is_done : (cat : Catalogue) (s : State) (n c i : ℕ) (v : List ℕ) → n ≡ 13 → c ≡ 2 → i ≡ 0 → answer cat s n c i v ≡ upload cat s 2 0
unfolding answer unless_refused first_results perform first_that_applies among ◌or◌ ◌and◌
upload_is_done cat s n c i v e f g = λ j. answer cat s (e j) (f j) (g j) v

upload_next_is_done : (cat : Catalogue) (s : State) (n c i : ℕ) (v : List ℕ) → n ≡ 14 → c ≡ 2 → i ≡ 0 → answer cat s n c i v ≡ upload_next cat s 2 0 v
unfolding answer unless_refused first_results perform first_that_applies among ◌or◌ ◌and◌
upload_next_is_done cat s n c i v e f g = λ j. answer cat s (e j) (f j) (g j) v

-- the reply to an upload has the number of sections of the table as it stands, and that table is frozen
pub an_upload_counts_the_sections_and_freezes_the_table : (cat : Catalogue) (s : State) (m : List ℕ) → Passes 13 m → IsNoRepeat s m
    → ((handle cat s m).1 ≡ answered (reply_to m (bytes 2 (length (sections cat (frozen s.table)))))) × ((handle cat s m).0.upload ≡ some (frozen s.table))
unfolding answer_anew remember upload if_ont_data ◌and◌
an_upload_counts_the_sections_and_freezes_the_table cat s m p h =
    let a = answered_anew cat s m p.no_drop h in
    let u = upload_is_done cat s (message_number m) (class_in m) (instance_in m) (contents_in m) p.its_number p.its_class p.its_instance in (
      ap (λ (x : State × Outcome). x.1) a ∙ ap (λ (x : Answer). answered (reply_to m x.1)) u,
      ap (λ (x : State × Outcome). x.0.upload) a ∙ ap (λ (x : Answer). x.0.upload) u,
    )

-- the reply to an Upload Next has the section of the frozen table
pub an_upload_next_is_answered_from_the_frozen_table : (cat : Catalogue) (s : State) (m : List ℕ) → Passes 14 m → IsNoRepeat s m
    → (handle cat s m).1 ≡ answered (reply_to m (upload_next cat s 2 0 (contents_in m)).1)
unfolding answer_anew
an_upload_next_is_answered_from_the_frozen_table cat s m p h =
    let a = answered_anew cat s m p.no_drop h in
    let u = upload_next_is_done cat s (message_number m) (class_in m) (instance_in m) (contents_in m) p.its_number p.its_class p.its_instance in
    ap (λ (x : State × Outcome). x.1) a ∙ ap (λ (x : Answer). answered (reply_to m x.1)) u

-- ---- a run of calls in between

-- each call of a run
abbrev pub EachLent : (Call → Type 0) → List Lent → Type 0
EachLent P [] = Unit {0}
EachLent P (x ∷ l) = P x.0 × EachLent P l

-- the store holds a state of this product and catalogue, with this frozen table
pub record HoldsUpload (products : Products) (product : ℕ) (cat : Catalogue) (copy : Option Table) (store : List ℕ) : Type 0 where
  pub state : State
  pub held : decode products store ≡ some (record { product = product; catalogue = cat; state = state })
  pub frozen_table : state.upload ≡ copy

module _ (products : Products) (fit : AllFit products) (product : ℕ) (cat : Catalogue) (copy : Option Table) where
  one_call : (c : Call) (buffer store : List ℕ) → OfBytes c → LeavesUploads c → HoldsUpload products product cat copy store
      → HoldsUpload products product cat copy (enter products c store buffer).store
  one_call c buffer store b leaves h = cases (ltb (length buffer) 48)
      (λ y. record {
        state = h.state;
        held = ap (decode products) (a_drop_changes_nothing products c store buffer 1 (drop_1_if_the_buffer_is_short products c store buffer (ltb_lt (length buffer) 48 y))).0 ∙ h.held;
        frozen_table = h.frozen_table;
      })
      (λ y. record {
        state = (taken cat h.state c).0;
        held = the_store_holds_what_the_rules_leave products fit c b store buffer (record { product = product; catalogue = cat; state = h.state }) h.held (ltb_le (length buffer) 48 y);
        frozen_table = a_call_keeps_the_upload cat h.state c leaves ∙ h.frozen_table;
      })

  -- Whatever is called in between, in any buffers, as long as it is no new upload and no reset: the store still holds the frozen table.
  pub whatever_is_called_in_between_the_frozen_table_stays : (l : List Lent) (store : List ℕ) → RunOfBytes l → EachLent LeavesUploads l
      → HoldsUpload products product cat copy store → HoldsUpload products product cat copy (store_after products l store)
  unfolding store_after
  whatever_is_called_in_between_the_frozen_table_stays [] store b leaves h = h
  whatever_is_called_in_between_the_frozen_table_stays (x ∷ l) store b leaves h =
      whatever_is_called_in_between_the_frozen_table_stays l (enter products x.0 store x.1).store b.1 leaves.1 (one_call x.0 x.1 store b.0 leaves.0 h)

-- ---- asked for, whatever comes in between, fetched

-- the contents of the reply to an Upload Next with these contents, where this table is frozen: its section of that index, or none
abbrev pub section_of : Catalogue → Table → List ℕ → List ℕ
section_of cat t v = given (nth (sections cat t) (two v 0)) [] (section_contents cat t)

shown_section : (cat : Catalogue) (s : State) (t : Table) (v : List ℕ) → s.upload ≡ some t → (upload_next cat s 2 0 v).1 ≡ section_of cat t v
unfolding upload_next if_ont_data ◌and◌
shown_section cat s t v e = rw e refl

module _ (products : Products) (fit : AllFit products) (store : List ℕ) (h : Held) (held : decode products store ≡ some h) where
  -- the table as it stands, without class 2
  abbrev pub table_as_it_stood : Table
  table_as_it_stood = frozen h.state.table

  -- Demand 2's last sentence, on bytes. A store holds a state; an upload u is asked for and answered; then come any calls l, with any
  -- buffers, that are no new upload and no reset; then a section is fetched by m, which is no repeat. The reply to u has the number of
  -- sections of the table as it stood, and the reply to m has the section of that table.
  pub an_upload_on_bytes_shows_the_table_as_it_stood : (u m buffer room : List ℕ) (l : List Lent)
      → Passes 13 u → IsNoRepeat h.state u → 48 ≤ length buffer
      → RunOfBytes l → EachLent LeavesUploads l
      → Passes 14 m → 48 ≤ length room
      → ((s : State) → decode products (store_after products l (enter products (message u) store buffer).store) ≡ some (record { product = h.product; catalogue = h.catalogue; state = s })
      → IsNoRepeat s m)
      → ((enter products (message u) store buffer).outcome ≡ answered (reply_to u (bytes 2 (length (sections h.catalogue table_as_it_stood)))))
      × ((enter products (message m) (store_after products l (enter products (message u) store buffer).store) room).outcome
      ≡ answered (reply_to m (section_of h.catalogue table_as_it_stood (contents_in m))))
  unfolding taken
  an_upload_on_bytes_shows_the_table_as_it_stood u m buffer room l pu nu lu bl ll pm lm nm =
      let first = an_upload_counts_the_sections_and_freezes_the_table h.catalogue h.state u pu nu in
      let asked : HoldsUpload products h.product h.catalogue (some table_as_it_stood) (enter products (message u) store buffer).store = record {
        state = (handle h.catalogue h.state u).0;
        held = the_store_holds_what_the_rules_leave products fit (message u) pu.its_bytes store buffer h held lu;
        frozen_table = first.1;
      } in
      let later = whatever_is_called_in_between_the_frozen_table_stays products fit h.product h.catalogue (some table_as_it_stood) l
      (enter products (message u) store buffer).store bl ll asked in (
        the_outcome_is_the_rules products (message u) store buffer lu h held ∙ first.0,
        the_outcome_is_the_rules products (message m) (store_after products l (enter products (message u) store buffer).store) room lm
            (record { product = h.product; catalogue = h.catalogue; state = later.state }) later.held
            ∙ an_upload_next_is_answered_from_the_frozen_table h.catalogue later.state m pm (nm later.state later.held)
            ∙ ap (λ (v : List ℕ). answered (reply_to m v)) (shown_section h.catalogue later.state table_as_it_stood (contents_in m) later.frozen_table),
      )

-- ---- the same of an alarm walk

all_alarms_is_done : (cat : Catalogue) (s : State) (n c i : ℕ) (v : List ℕ) → n ≡ 11 → c ≡ 2 → i ≡ 0 → answer cat s n c i v ≡ all_alarms s 2 0
unfolding answer unless_refused first_results perform first_that_applies among ◌or◌ ◌and◌
all_alarms_is_done cat s n c i v e f g = λ j. answer cat s (e j) (f j) (g j) v

alarms_next_is_done : (cat : Catalogue) (s : State) (n c i : ℕ) (v : List ℕ) → n ≡ 12 → c ≡ 2 → i ≡ 0 → answer cat s n c i v ≡ alarms_next s 2 0 v
unfolding answer unless_refused first_results perform first_that_applies among ◌or◌ ◌and◌
alarms_next_is_done cat s n c i v e f g = λ j. answer cat s (e j) (f j) (g j) v

-- the reply to a Get all alarms has the number of bitmaps that aren't all zero, they are frozen, and the alarm number is set to 0
pub a_get_all_alarms_counts_the_bitmaps_and_freezes_them : (cat : Catalogue) (s : State) (m : List ℕ) → Passes 11 m → IsNoRepeat s m
    → ((handle cat s m).1 ≡ answered (reply_to m (bytes 2 (length s.alarms)))) × ((handle cat s m).0.walk ≡ some s.alarms) × ((handle cat s m).0.alarm_number ≡ 0)
unfolding answer_anew remember all_alarms if_ont_data ◌and◌
a_get_all_alarms_counts_the_bitmaps_and_freezes_them cat s m p h =
    let a = answered_anew cat s m p.no_drop h in
    let u = all_alarms_is_done cat s (message_number m) (class_in m) (instance_in m) (contents_in m) p.its_number p.its_class p.its_instance in (
      ap (λ (x : State × Outcome). x.1) a ∙ ap (λ (x : Answer). answered (reply_to m x.1)) u,
      ap (λ (x : State × Outcome). x.0.walk) a ∙ ap (λ (x : Answer). x.0.walk) u,
      ap (λ (x : State × Outcome). x.0.alarm_number) a ∙ ap (λ (x : Answer). x.0.alarm_number) u,
    )

-- the reply to an Alarms Next has the bitmap of the frozen ones
pub an_alarms_next_is_answered_from_the_frozen_bitmaps : (cat : Catalogue) (s : State) (m : List ℕ) → Passes 12 m → IsNoRepeat s m
    → (handle cat s m).1 ≡ answered (reply_to m (alarms_next s 2 0 (contents_in m)).1)
unfolding answer_anew
an_alarms_next_is_answered_from_the_frozen_bitmaps cat s m p h =
    let a = answered_anew cat s m p.no_drop h in
    let u = alarms_next_is_done cat s (message_number m) (class_in m) (instance_in m) (contents_in m) p.its_number p.its_class p.its_instance in
    ap (λ (x : State × Outcome). x.1) a ∙ ap (λ (x : Answer). answered (reply_to m x.1)) u

-- the store holds a state of this product and catalogue, with these frozen bitmaps
pub record HoldsAlarmWalk (products : Products) (product : ℕ) (cat : Catalogue) (copy : Option (Map Alarms)) (store : List ℕ) : Type 0 where
  pub state : State
  pub held : decode products store ≡ some (record { product = product; catalogue = cat; state = state })
  pub frozen_bitmaps : state.walk ≡ copy

module _ (products : Products) (fit : AllFit products) (product : ℕ) (cat : Catalogue) (copy : Option (Map Alarms)) where
  one_call_of_a_walk : (c : Call) (buffer store : List ℕ) → OfBytes c → LeavesAlarmWalks c → HoldsAlarmWalk products product cat copy store
      → HoldsAlarmWalk products product cat copy (enter products c store buffer).store
  one_call_of_a_walk c buffer store b leaves h = cases (ltb (length buffer) 48)
      (λ y. record {
        state = h.state;
        held = ap (decode products) (a_drop_changes_nothing products c store buffer 1 (drop_1_if_the_buffer_is_short products c store buffer (ltb_lt (length buffer) 48 y))).0 ∙ h.held;
        frozen_bitmaps = h.frozen_bitmaps;
      })
      (λ y. record {
        state = (taken cat h.state c).0;
        held = the_store_holds_what_the_rules_leave products fit c b store buffer (record { product = product; catalogue = cat; state = h.state }) h.held (ltb_le (length buffer) 48 y);
        frozen_bitmaps = a_call_keeps_the_alarm_walk cat h.state c leaves ∙ h.frozen_bitmaps;
      })

  -- whatever is called in between, as long as it is no new alarm walk and no reset: the store still holds the frozen bitmaps
  pub whatever_is_called_in_between_the_frozen_bitmaps_stay : (l : List Lent) (store : List ℕ) → RunOfBytes l → EachLent LeavesAlarmWalks l
      → HoldsAlarmWalk products product cat copy store → HoldsAlarmWalk products product cat copy (store_after products l store)
  unfolding store_after
  whatever_is_called_in_between_the_frozen_bitmaps_stay [] store b leaves h = h
  whatever_is_called_in_between_the_frozen_bitmaps_stay (x ∷ l) store b leaves h =
      whatever_is_called_in_between_the_frozen_bitmaps_stay l (enter products x.0 store x.1).store b.1 leaves.1 (one_call_of_a_walk x.0 x.1 store b.0 leaves.0 h)

-- the contents of the reply to an Alarms Next with these contents, where these bitmaps are frozen
abbrev pub bitmap_of : Map Alarms → List ℕ → List ℕ
bitmap_of w v = given (nth w (two v 0)) [] alarms_contents

shown_bitmap : (s : State) (w : Map Alarms) (v : List ℕ) → s.walk ≡ some w → (alarms_next s 2 0 v).1 ≡ bitmap_of w v
unfolding alarms_next if_ont_data ◌and◌
shown_bitmap s w v e = rw e refl

module _ (products : Products) (fit : AllFit products) (store : List ℕ) (h : Held) (held : decode products store ≡ some h) where
  -- A store holds a state; a Get all alarms u is answered; then come any calls l, with any buffers, that are no new alarm walk and no reset;
  -- then a bitmap is fetched by m, which is no repeat. The reply to u has the number of bitmaps as they stood, and the reply to m has the
  -- bitmap of that index among them.
  pub an_alarm_walk_on_bytes_shows_the_alarms_as_they_stood : (u m buffer room : List ℕ) (l : List Lent)
      → Passes 11 u → IsNoRepeat h.state u → 48 ≤ length buffer
      → RunOfBytes l → EachLent LeavesAlarmWalks l
      → Passes 12 m → 48 ≤ length room
      → ((s : State) → decode products (store_after products l (enter products (message u) store buffer).store) ≡ some (record { product = h.product; catalogue = h.catalogue; state = s })
      → IsNoRepeat s m)
      → ((enter products (message u) store buffer).outcome ≡ answered (reply_to u (bytes 2 (length h.state.alarms))))
      × ((enter products (message m) (store_after products l (enter products (message u) store buffer).store) room).outcome
      ≡ answered (reply_to m (bitmap_of h.state.alarms (contents_in m))))
  unfolding taken
  an_alarm_walk_on_bytes_shows_the_alarms_as_they_stood u m buffer room l pu nu lu bl ll pm lm nm =
      let first = a_get_all_alarms_counts_the_bitmaps_and_freezes_them h.catalogue h.state u pu nu in
      let began : HoldsAlarmWalk products h.product h.catalogue (some h.state.alarms) (enter products (message u) store buffer).store = record {
        state = (handle h.catalogue h.state u).0;
        held = the_store_holds_what_the_rules_leave products fit (message u) pu.its_bytes store buffer h held lu;
        frozen_bitmaps = first.1;
      } in
      let later = whatever_is_called_in_between_the_frozen_bitmaps_stay products fit h.product h.catalogue (some h.state.alarms) l
      (enter products (message u) store buffer).store bl ll began in (
        the_outcome_is_the_rules products (message u) store buffer lu h held ∙ first.0,
        the_outcome_is_the_rules products (message m) (store_after products l (enter products (message u) store buffer).store) room lm
            (record { product = h.product; catalogue = h.catalogue; state = later.state }) later.held
            ∙ an_alarms_next_is_answered_from_the_frozen_bitmaps h.catalogue later.state m pm (nm later.state later.held)
            ∙ ap (λ (v : List ℕ). answered (reply_to m v)) (shown_bitmap later.state h.state.alarms (contents_in m) later.frozen_bitmaps),
      )
