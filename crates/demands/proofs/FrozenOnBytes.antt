-- What FrozenInBetween says of states, on the bytes of a store: an upload or an alarm walk is asked for, any calls come in between, and a section is
-- fetched. It is a section of the table, or of the alarms, as they stood when the walk was asked for.
use Prim.Native.Nat.{ℕ, ◌%◌, ◌≤◌}
use mathlib.Core.Path.{◌≡◌, refl, ◌∙◌, ap, sym}
use mathlib.Core.Bool.{Bool, true, false}
use mathlib.Core.Option.{Option, none, some}
use mathlib.Core.List.{List}
use lib.ListN.{length}
use lib.Seq.{get_or-take}
use lib.Dec.{eqb}
use native.Mathlib.Omega.{arith}
use Rattle.rules.specs.Maps.{◌and◌, ◌or◌, Map, given, among, first_that_applies}
use Rattle.rules.specs.Bytes.{byte, bytes, are_bytes}
use Rattle.rules.specs.Catalogue.{Catalogue}
use Rattle.rules.specs.State.{Table, Alarms, Memory, State}
use Rattle.rules.specs.Messages.{contents_in, message_drops, reply_to, Answer, unless_refused}
use Rattle.rules.specs.Walks.{if_ont_data, sections, frozen, upload, upload_next, all_alarms, alarms_next}
use Rattle.rules.specs.Reports.{Outcome, answered}
use Rattle.rules.specs.Run.{perform, first_results, answer, remember, answer_anew, handle, message, Input, taken, after}
use Rattle.rules.specs.Products.{Products}
use Rattle.rules.proofs.Laws.{eqb_ne}
use Rattle.store.specs.Decode.{Held, decode}
use Rattle.store.specs.Entries.{enter}
use Rattle.store.specs.Fitting.{AllFit}
use Rattle.legality.proofs.Kept.{AllOfBytes}
use Rattle.demands.specs.Sent.{number_at}
use Rattle.demands.specs.Lending.{memory_after_all}
use Rattle.demands.specs.Between.{EachStep, EachLent, asks_for_an_upload, asks_for_an_alarm_walk, LeavesWalks, RepeatsNothingIn, LeavesWalksOn}
use Rattle.demands.specs.Repeating.{IsNoRepeat}
use Rattle.demands.proofs.DemandOne.{the_outcome_is_the_rules, the_store_holds_what_the_rules_leave}
use Rattle.demands.proofs.RunsOnBytes.{a_run_on_bytes_leaves_the_rules_state}
use Rattle.demands.proofs.Between.{each_lent_call_is_a_step, leaves_walks_on_its_state}
use Rattle.demands.proofs.FrozenInBetween.{answered_anew, whatever_comes_in_between_the_upload_stays, whatever_comes_in_between_the_alarm_walk_stays}
use Rattle.demands.proofs.AccidentOnBytes.{section_of, bitmap_of}

-- ---- an upload and an Upload Next that pass the drops and are no repeats

-- a message of this number to the ONT data, that passes drops 3 to 7
pub record Passes (number : ℕ) (m : List ℕ) : Type 0 where
  pub its_bytes : are_bytes m ≡ true
  pub no_drop : first_that_applies (message_drops m) ≡ none
  pub its_number : byte m 2 % 32 ≡ number
  pub its_class : number_at m 4 ≡ 2
  pub its_instance : number_at m 6 ≡ 0

-- a message whose id ends in another byte than the remembered command's is no repeat
pub another_id : (s : State) (m : List ℕ) → given s.remembered false (λ k. eqb (byte m 1) (byte k.command 1)) ≡ false → IsNoRepeat s m
another_id s m other k e y = eqb_ne (byte m 1) (byte k.command 1)
    (ap (λ (o : Option Memory). given o false (λ j. eqb (byte m 1) (byte j.command 1))) (sym e) ∙ other)
    (sym (get_or-take 40 m 1 0 (omega arith)) ∙ ap (λ (l : List ℕ). byte l 1) y)

-- the answer a is told, and remembered as the answer to m
abbrev pub told : List ℕ → Answer → State × Outcome
told m a = (remember m (reply_to m a.1) a.0, answered (reply_to m a.1))

-- a command to the ONT data that passes its drops and is no repeat: it is answered by the rules of its number
pub command_is_done : (cat : Catalogue) (s : State) (m : List ℕ) (n : ℕ) (a : Answer) → Passes n m → IsNoRepeat s m → answer cat s n 2 0 (contents_in m) ≡ a → handle cat s m ≡ told m a
unfolding answer_anew
command_is_done cat s m n a p h e =
    answered_anew cat s m p.no_drop h
    ∙ (λ i. told m (answer cat s (p.its_number i) (p.its_class i) (p.its_instance i) (contents_in m)))
    ∙ ap (told m) e

-- the four commands to the ONT data are never refused
module _ (cat : Catalogue) (s : State) (v : List ℕ) where
  pub walks_are_done : (answer cat s 13 2 0 v ≡ upload cat s 2 0)
      × (answer cat s 14 2 0 v ≡ upload_next cat s 2 0 v)
      × (answer cat s 11 2 0 v ≡ all_alarms s 2 0)
      × (answer cat s 12 2 0 v ≡ alarms_next s 2 0 v)
  unfolding answer unless_refused first_results perform first_that_applies among ◌or◌ ◌and◌
  walks_are_done = (refl, refl, refl, refl)

module _ (cat : Catalogue) (s : State) (m : List ℕ) where
  -- the reply to an upload has the number of sections of the table as it stands, and that table is frozen
  pub an_upload_counts_the_sections_and_freezes_the_table : Passes 13 m → IsNoRepeat s m
      → ((handle cat s m).1 ≡ answered (reply_to m (bytes 2 (length (sections cat (frozen s.table)))))) × ((handle cat s m).0.upload ≡ some (frozen s.table))
  unfolding remember upload if_ont_data ◌and◌
  an_upload_counts_the_sections_and_freezes_the_table p h =
      let a = command_is_done cat s m 13 (upload cat s 2 0) p h (walks_are_done cat s (contents_in m)).0 in
      (ap (λ (x : State × Outcome). x.1) a, ap (λ (x : State × Outcome). x.0.upload) a)

  -- an Upload Next is answered by its own rule; that this shows the frozen table alone is `Accident.a_section_is_of_the_frozen_copy_alone`
  pub an_upload_next_is_answered_from_the_frozen_table : Passes 14 m → IsNoRepeat s m
      → (handle cat s m).1 ≡ answered (reply_to m (upload_next cat s 2 0 (contents_in m)).1)
  an_upload_next_is_answered_from_the_frozen_table p h =
      ap (λ (x : State × Outcome). x.1) (command_is_done cat s m 14 (upload_next cat s 2 0 (contents_in m)) p h (walks_are_done cat s (contents_in m)).1)

  -- the reply to a Get all alarms has the number of bitmaps that aren't all zero, they are frozen, and the alarm number is set to 0
  pub a_get_all_alarms_counts_the_bitmaps_and_freezes_them : Passes 11 m → IsNoRepeat s m
      → ((handle cat s m).1 ≡ answered (reply_to m (bytes 2 (length s.alarms)))) × ((handle cat s m).0.walk ≡ some s.alarms) × ((handle cat s m).0.alarm_number ≡ 0)
  unfolding remember all_alarms if_ont_data ◌and◌
  a_get_all_alarms_counts_the_bitmaps_and_freezes_them p h =
      let a = command_is_done cat s m 11 (all_alarms s 2 0) p h (walks_are_done cat s (contents_in m)).2 in
      (ap (λ (x : State × Outcome). x.1) a, ap (λ (x : State × Outcome). x.0.walk) a, ap (λ (x : State × Outcome). x.0.alarm_number) a)

  -- an Alarms Next is answered by its own rule; that this shows the frozen bitmaps alone is `Accident.an_alarm_section_is_of_the_frozen_copy_alone`
  pub an_alarms_next_is_answered_from_the_frozen_bitmaps : Passes 12 m → IsNoRepeat s m
      → (handle cat s m).1 ≡ answered (reply_to m (alarms_next s 2 0 (contents_in m)).1)
  an_alarms_next_is_answered_from_the_frozen_bitmaps p h =
      ap (λ (x : State × Outcome). x.1) (command_is_done cat s m 12 (alarms_next s 2 0 (contents_in m)) p h (walks_are_done cat s (contents_in m)).3)

-- ---- a run of calls in between

-- the store holds a state of this product and catalogue, of which this part is this frozen copy
pub record HoldsFrozen {A : Type 0} (products : Products) (product : ℕ) (cat : Catalogue) (part : State → Option A) (copy : Option A) (store : List ℕ) : Type 0 where
  pub state : State
  pub held : decode products store ≡ some (record { product = product; catalogue = cat; state = state })
  pub frozen_copy : part state ≡ copy

-- a part of the state that every run of the rules keeps which leaves such walks alone, stays in the store too
what_is_frozen_stays : {A : Type 0} (products : Products) → AllFit products → (product : ℕ) (cat : Catalogue) (part : State → Option A) (copy : Option A) (asks : List ℕ → Bool)
    → ((s : State) (l : List Input) → EachStep (LeavesWalks asks) cat s l → part (after cat s l) ≡ part s)
    → (l : List Input) (store : List ℕ) → AllOfBytes l → EachLent (LeavesWalksOn asks products) products store l
    → HoldsFrozen products product cat part copy store → HoldsFrozen products product cat part copy (memory_after_all products store l)
what_is_frozen_stays products fit product cat part copy asks stays l store b leaves h = record {
  state = after cat h.state l;
  held = a_run_on_bytes_leaves_the_rules_state products fit l b store (record { product = product; catalogue = cat; state = h.state }) h.held;
  frozen_copy = stays h.state l (each_lent_call_is_a_step products fit (LeavesWalksOn asks products) (LeavesWalks asks) (leaves_walks_on_its_state asks products) l b store _ h.held leaves)
      ∙ h.frozen_copy;
}

module _ (products : Products) (fit : AllFit products) (product : ℕ) (cat : Catalogue) (l : List Input) (store : List ℕ) (b : AllOfBytes l) where
  -- Whatever is called in between, with any lent sizes of store and buffer, as long as no new upload is asked for and nothing is reset: the store still
  -- holds the frozen table. (Dropped messages and repeats ask for nothing.)
  pub whatever_is_called_in_between_the_frozen_table_stays : (copy : Option Table) → EachLent (LeavesWalksOn asks_for_an_upload products) products store l
      → HoldsFrozen products product cat (λ s. s.upload) copy store → HoldsFrozen products product cat (λ s. s.upload) copy (memory_after_all products store l)
  whatever_is_called_in_between_the_frozen_table_stays copy =
      what_is_frozen_stays products fit product cat (λ s. s.upload) copy asks_for_an_upload (whatever_comes_in_between_the_upload_stays cat) l store b

  -- whatever is called in between, with any lent sizes, as long as no new alarm walk is asked for and nothing is reset: the store still holds the frozen
  -- bitmaps
  pub whatever_is_called_in_between_the_frozen_bitmaps_stay : (copy : Option (Map Alarms)) → EachLent (LeavesWalksOn asks_for_an_alarm_walk products) products store l
      → HoldsFrozen products product cat (λ s. s.walk) copy store → HoldsFrozen products product cat (λ s. s.walk) copy (memory_after_all products store l)
  whatever_is_called_in_between_the_frozen_bitmaps_stay copy =
      what_is_frozen_stays products fit product cat (λ s. s.walk) copy asks_for_an_alarm_walk (whatever_comes_in_between_the_alarm_walk_stays cat) l store b

-- ---- asked for, whatever comes in between, fetched

-- A store holds a state; a walk is asked for by the message of this number; then come any calls, with any lent sizes of store and buffer, that
-- leave such walks alone; then a part is fetched by the message of that number. Neither is a repeat, and both have room in their buffers.
pub record AskedThenFetched (products : Products) (asks fetches : ℕ) (asks_for_one : List ℕ → Bool) (store : List ℕ) : Type 0 where
  pub held_one : Held
  pub holds_it : decode products store ≡ some held_one
  pub ask : List ℕ
  pub ask_buffer : List ℕ
  pub ask_passes : Passes asks ask
  pub ask_is_no_repeat : RepeatsNothingIn products store ask
  pub ask_has_room : 48 ≤ length ask_buffer
  pub between : List Input
  pub between_is_bytes : AllOfBytes between
  pub between_leaves_it : EachLent (LeavesWalksOn asks_for_one products) products (enter products (message ask) store ask_buffer).store between
  pub fetch : List ℕ
  pub fetch_buffer : List ℕ
  pub fetch_passes : Passes fetches fetch
  pub fetch_is_no_repeat : RepeatsNothingIn products (memory_after_all products (enter products (message ask) store ask_buffer).store between) fetch
  pub fetch_has_room : 48 ≤ length fetch_buffer

-- an upload is asked for (13), and a section is fetched by an Upload Next (14)
abbrev pub UploadThenFetch : Products → List ℕ → Type 0
UploadThenFetch products store = AskedThenFetched products 13 14 asks_for_an_upload store

-- a Get all alarms asks for an alarm walk (11), and a bitmap is fetched by an Alarms Next (12)
abbrev pub AlarmWalkThenFetch : Products → List ℕ → Type 0
AlarmWalkThenFetch products store = AskedThenFetched products 11 12 asks_for_an_alarm_walk store

module _ {products : Products} {asks fetches : ℕ} {asks_for_one : List ℕ → Bool} {store : List ℕ} (q : AskedThenFetched products asks fetches asks_for_one store) where
  -- the store that the ask leaves
  abbrev pub store_asked : List ℕ
  store_asked = (enter products (message q.ask) store q.ask_buffer).store

  -- what is told to the ask, and what to the fetch
  abbrev pub asked : Outcome
  asked = (enter products (message q.ask) store q.ask_buffer).outcome

  abbrev pub fetched : Outcome
  fetched = (enter products (message q.fetch) (memory_after_all products store_asked q.between) q.fetch_buffer).outcome

  -- the table, without class 2, and the alarms, as they stood when the walk was asked for
  abbrev pub table_as_it_stood : Table
  table_as_it_stood = frozen q.held_one.state.table

  abbrev pub alarms_as_they_stood : Map Alarms
  alarms_as_they_stood = q.held_one.state.alarms

  asked_is_the_rules : asked ≡ (handle q.held_one.catalogue q.held_one.state q.ask).1
  unfolding taken
  asked_is_the_rules = the_outcome_is_the_rules products (message q.ask) store q.ask_buffer q.ask_has_room q.held_one q.holds_it

  module _ {A : Type 0} (part : State → Option A) (copy : A) where
    frozen_by_the_ask : AllFit products → part (handle q.held_one.catalogue q.held_one.state q.ask).0 ≡ some copy
        → HoldsFrozen products q.held_one.product q.held_one.catalogue part (some copy) store_asked
    unfolding taken
    frozen_by_the_ask fit freezes = record {
      state = (handle q.held_one.catalogue q.held_one.state q.ask).0;
      held = the_store_holds_what_the_rules_leave products fit (message q.ask) q.ask_passes.its_bytes store q.ask_buffer q.held_one q.holds_it q.ask_has_room;
      frozen_copy = freezes;
    }

    fetched_is_the_rules : (h : HoldsFrozen products q.held_one.product q.held_one.catalogue part (some copy) (memory_after_all products store_asked q.between))
        → fetched ≡ (handle q.held_one.catalogue h.state q.fetch).1
    unfolding taken
    fetched_is_the_rules h = the_outcome_is_the_rules products (message q.fetch) (memory_after_all products store_asked q.between) q.fetch_buffer q.fetch_has_room
        (record { product = q.held_one.product; catalogue = q.held_one.catalogue; state = h.state }) h.held

module _ (products : Products) (fit : AllFit products) (store : List ℕ) where
  -- when the section is fetched, the store holds the table as it stood
  pub the_fetch_finds_the_table_as_it_stood : (q : UploadThenFetch products store)
      → HoldsFrozen products q.held_one.product q.held_one.catalogue (λ s. s.upload) (some (table_as_it_stood q)) (memory_after_all products (store_asked q) q.between)
  the_fetch_finds_the_table_as_it_stood q =
      let first = an_upload_counts_the_sections_and_freezes_the_table q.held_one.catalogue q.held_one.state q.ask q.ask_passes (q.ask_is_no_repeat _ q.holds_it) in
      whatever_is_called_in_between_the_frozen_table_stays products fit q.held_one.product q.held_one.catalogue q.between (store_asked q) q.between_is_bytes
      (some (table_as_it_stood q)) q.between_leaves_it (frozen_by_the_ask q (λ s. s.upload) (table_as_it_stood q) fit first.1)

  -- Demand 2's last sentence, on bytes. A store holds a state; an upload is asked for; then come any calls, with any lent sizes of store and buffer, that
  -- ask for no new upload and reset nothing; then a section is fetched, by no repeat. Both have room in their buffers. The reply to the first has the number of
  -- sections of the table as it stood, and the reply to the last has the section of that table. (`UploadsOnBytes` says at which bytes.)
  pub an_upload_on_bytes_shows_the_table_as_it_stood : (q : UploadThenFetch products store)
      → (asked q ≡ answered (reply_to q.ask (bytes 2 (length (sections q.held_one.catalogue (table_as_it_stood q))))))
      × (fetched q ≡ answered (reply_to q.fetch (section_of q.held_one.catalogue (table_as_it_stood q) (contents_in q.fetch))))
  unfolding upload_next if_ont_data ◌and◌
  an_upload_on_bytes_shows_the_table_as_it_stood q =
      let cat : Catalogue = q.held_one.catalogue in
      let shown : (s : State) → s.upload ≡ some (table_as_it_stood q) → (upload_next cat s 2 0 (contents_in q.fetch)).1
      ≡ section_of cat (table_as_it_stood q) (contents_in q.fetch) = λ s e. rw e refl in
      let first = an_upload_counts_the_sections_and_freezes_the_table cat q.held_one.state q.ask q.ask_passes (q.ask_is_no_repeat _ q.holds_it) in
      let later = the_fetch_finds_the_table_as_it_stood q in (
        asked_is_the_rules q ∙ first.0,
        fetched_is_the_rules q (λ s. s.upload) (table_as_it_stood q) later
            ∙ an_upload_next_is_answered_from_the_frozen_table cat later.state q.fetch q.fetch_passes (q.fetch_is_no_repeat _ later.held)
            ∙ ap (λ (v : List ℕ). answered (reply_to q.fetch v)) (shown later.state later.frozen_copy),
      )

  -- A store holds a state; a Get all alarms is answered; then come any calls, with any lent sizes of store and buffer, that ask for no new alarm walk and
  -- reset nothing; then a bitmap is fetched, by no repeat. Both have room in their buffers. The reply to the first has the number of bitmaps as they stood, and
  -- the reply to the last has the bitmap of that index among them.
  pub an_alarm_walk_on_bytes_shows_the_alarms_as_they_stood : (q : AlarmWalkThenFetch products store)
      → (asked q ≡ answered (reply_to q.ask (bytes 2 (length (alarms_as_they_stood q)))))
      × (fetched q ≡ answered (reply_to q.fetch (bitmap_of (alarms_as_they_stood q) (contents_in q.fetch))))
  unfolding alarms_next if_ont_data ◌and◌
  an_alarm_walk_on_bytes_shows_the_alarms_as_they_stood q =
      let cat : Catalogue = q.held_one.catalogue in
      let shown : (s : State) → s.walk ≡ some (alarms_as_they_stood q) → (alarms_next s 2 0 (contents_in q.fetch)).1
      ≡ bitmap_of (alarms_as_they_stood q) (contents_in q.fetch) = λ s e. rw e refl in
      let first = a_get_all_alarms_counts_the_bitmaps_and_freezes_them cat q.held_one.state q.ask q.ask_passes (q.ask_is_no_repeat _ q.holds_it) in
      let later = whatever_is_called_in_between_the_frozen_bitmaps_stay products fit q.held_one.product cat q.between (store_asked q) q.between_is_bytes
      (some (alarms_as_they_stood q)) q.between_leaves_it (frozen_by_the_ask q (λ s. s.walk) (alarms_as_they_stood q) fit first.1) in (
        asked_is_the_rules q ∙ first.0,
        fetched_is_the_rules q (λ s. s.walk) (alarms_as_they_stood q) later
            ∙ an_alarms_next_is_answered_from_the_frozen_bitmaps cat later.state q.fetch q.fetch_passes (q.fetch_is_no_repeat _ later.held)
            ∙ ap (λ (v : List ℕ). answered (reply_to q.fetch v)) (shown later.state later.frozen_copy),
      )
