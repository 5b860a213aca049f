-- Demand 2: what an accepted Create and an accepted Delete do to the table, and what they leave as it was.
use Prim.Native.Nat.{ℕ, suc, ◌<◌}
use native.Mathlib.Omega.{arith}
use mathlib.Core.Path.{◌≡◌, refl, sym, ◌∙◌, ap}
use mathlib.Core.Bool.{Bool, true, false, not, cond}
use mathlib.Core.Option.{Option, none, some}
use mathlib.Core.Logic.{◌≢◌}
use mathlib.Core.List.{List, [], ◌∷◌, ◌++◌}
use lib.ListN.{length, replicate}
use lib.Dec.{eqb}
use Rattle.rules.specs.Maps.{◌and◌, ◌or◌, Map, given, find, has, keys, keep, put, remove, at_key, among, gather, all, first_that_applies}
use Rattle.rules.specs.Bytes.{byte, two, bytes, number, number_from}
use Rattle.rules.specs.Catalogue.{Class, Catalogue, class, known, attribute, family, is_stored, is_created, leader, key, ont_data}
use Rattle.rules.specs.State.{Alarms, alarms_of, class_of, number_of, Contents, Entry, Table, State, entries, entry, holds, contents, content, read, counter, overwrite, change}
use Rattle.rules.specs.State.{with_counter, with_table}
use Rattle.rules.specs.Legal.{legal_bitmap, legal_bitmaps, legal_state}
use Rattle.rules.specs.Messages.{message_number, class_in, instance_in, contents_in, message_drops, create_number, delete_number, reply_to, next_number, with_result, Answer}
use Rattle.rules.specs.Reports.{Outcome, answered}
use Rattle.rules.specs.Run.{perform, first_results, answer, remember, answer_anew, handle}
use Rattle.rules.specs.Commands.{move_counter, first_content, new_contents, new_entry, carried_by, create_results, with_created, create, goes_with, without, delete_results}
use Rattle.rules.specs.Commands.{delete, asked, get}
use Rattle.rules.specs.WellFormed.{WellFormed, created_by_Create}
use Rattle.rules.proofs.Laws.{cases, true_false, both, not-false, false_not, and_true, or_left, or_right, eqb_true, eqb_false, eqb_eq, eqb_ne, find_each, every_find, has_among}
use Rattle.rules.proofs.MapLaws.{find_append, find_put, find_remove, find_kept, find_keep, find_lost, first_has}
use Rattle.rules.proofs.Lookups.{implied, known_class, known_attribute, C_supported, created_known, class_says, leads_itself}
use Rattle.rules.proofs.Families.{family_has}
use Rattle.rules.proofs.Standing.{key_class, key_number}
use Rattle.legality.proofs.Refusals.{NoneApplies, none_applies, unless_refused_is}
use Rattle.legality.proofs.LegalStates.{LegalState, open_state, close_state}
use Rattle.legality.proofs.Tables.{LegalEntry, LegalLive}
use Rattle.legality.proofs.Holds.{There, holds_there, there_holds, entry_legal, has_each, created_alone}
use Rattle.legality.proofs.NewContents.{C_is_stored}
use Rattle.legality.proofs.CommandsKept.{delete_good}
use Rattle.legality.proofs.Outcomes.{sent}
use Rattle.demands.proofs.Gets.{read_stored, values_are, an_accepted_get_replies_what_it_names}
use Rattle.legality.proofs.ReplyBytes.{the_result_is_byte_8}
use Rattle.demands.proofs.AccidentOnBytes.{IsNoRepeat, answered_anew}
use Rattle.demands.proofs.Sets.{changed_entries, others_stay, named_change, number_one, counter_is_there}

-- what an entry says of an instance
abbrev pub in_entry : ℕ → Entry → Contents
in_entry c e = given (find c e) [] (λ r. r)

pub contents_in_entry : (cat : Catalogue) (t u : Table) (c i : ℕ) → entry (key (leader cat c) i) t ≡ entry (key (leader cat c) i) u → contents cat t c i ≡ contents cat u c i
unfolding contents
contents_in_entry cat t u c i e = ap (in_entry c) e

pub holds_in_entry : (cat : Catalogue) (t u : Table) (c i : ℕ) → entry (key (leader cat c) i) t ≡ entry (key (leader cat c) i) u → holds cat t c i ≡ holds cat u c i
unfolding holds
holds_in_entry cat t u c i e = ap (has c) e

-- ---- the entries after a change

pub entry_elsewhere : (cat : Catalogue) (t : Table) (c i : ℕ) (f : Contents → Contents) (k : ℕ) → k ≢ key (leader cat c) i → entry k (change cat c i f t) ≡ entry k t
unfolding entry
entry_elsewhere cat t c i f k ne =
    let g : ℕ → Entry → Entry = λ n a. cond (eqb n (key (leader cat c) i)) (at_key c f a) a in
    rw (changed_entries cat t c i f, find_each g k (entries t), eqb_false k (key (leader cat c) i) ne) (go (find k (entries t)))
  where
    go : (o : Option Entry) → given (given {B = Option Entry} o none (λ a. some a)) [] (λ e. e) ≡ given o [] (λ e. e)
    go none = refl
    go (some e) = refl

-- which instances are there doesn't change with their contents
pub holds_changed : (cat : Catalogue) (t : Table) (c i : ℕ) (f : Contents → Contents) (d j : ℕ) → holds cat (change cat c i f t) d j ≡ holds cat t d j
unfolding holds entry
holds_changed cat t c i f d j =
    let kk : ℕ = key (leader cat d) j in
    let g : ℕ → Entry → Entry = λ n a. cond (eqb n (key (leader cat c) i)) (at_key c f a) a in
    rw (changed_entries cat t c i f, find_each g kk (entries t)) (go (find kk (entries t)))
  where
    go : (o : Option Entry)
        → has d (given (given {B = Option Entry} o none (λ a. some (cond (eqb (key (leader cat d) j) (key (leader cat c) i)) (at_key c f a) a))) [] (λ e. e)) ≡ has d (given o [] (λ e. e))
    go none = refl
    go (some e) = cases (eqb (key (leader cat d) j) (key (leader cat c) i))
        (λ u. rw u (has_each (λ n a. cond (eqb n c) (f a) a) d e))
        (λ u. rw u refl)

module _ (t : Table) (m : Map Entry) where
  -- where another list of created entries has the same under a key, so has the table
  pub entry_with : (k : ℕ) → find k m ≡ find k t.created → entry k (with_created m t) ≡ entry k t
  unfolding entry with_created
  entry_with k e = ap (λ (o : Option Entry). given o [] (λ e. e))
      (find_append k t.automatic m ∙ ap (λ (o : Option Entry). given (find k t.automatic) o some) e ∙ sym (find_append k t.automatic t.created))

  -- a key that no automatic entry has
  pub entry_created : (k : ℕ) (o : Option Entry) → find k t.automatic ≡ none → find k m ≡ o → entry k (with_created m t) ≡ given o [] (λ e. e)
  unfolding entry with_created
  entry_created k o a e = ap (λ (o : Option Entry). given o [] (λ e. e)) (find_append k t.automatic m ∙ ap (λ (o : Option Entry). given o (find k m) some) a ∙ e)

pub removed : {A : Type 0} (k : ℕ) (m : Map A) → find k (remove k m) ≡ none
unfolding find keep
removed k [] = refl
removed k (x ∷ m) = cases (eqb x.0 k)
    (λ u. rw u (removed k m))
    (λ u. rw (u, eqb_false k x.0 (λ z. eqb_ne x.0 k u (sym z))) (removed k m))

-- ---- the counter's move

module _ (cat : Catalogue) (wf : WellFormed cat) (t : Table) where
  -- it leaves every entry but class 2's
  pub moved_entry : (k : ℕ) → k ≢ key ont_data 0 → entry k (move_counter cat t) ≡ entry k t
  unfolding with_counter
  moved_entry k ne =
      let leads : leader cat ont_data ≡ ont_data = rw wf.class_2_has_instance_0_alone refl in
      entry_elsewhere cat t ont_data 0 (overwrite ((1, next_number (counter cat t) ∷ []) ∷ [])) k (λ z. ne (z ∙ ap (λ (d : ℕ). key d 0) leads))

  pub moved_holds : (d j : ℕ) → holds cat (move_counter cat t) d j ≡ holds cat t d j
  unfolding with_counter
  moved_holds d j = holds_changed cat t ont_data 0 (overwrite ((1, next_number (counter cat t) ∷ []) ∷ [])) d j

  -- it changes no content but the counter
  pub moved_content : (d j n : ℕ) → (d ≡ 2 → j ≡ 0 → n ≢ 1) → content n (contents cat (move_counter cat t) d j) ≡ content n (contents cat t d j)
  unfolding with_counter find
  moved_content d j n h = others_stay cat t ont_data 0 ((1, next_number (counter cat t) ∷ []) ∷ []) d j n (λ p q. rw (eqb_false n 1 (h p q)) refl)

  pub moved_on : (u : Table) → LegalLive cat wf u → contents cat t ont_data 0 ≡ contents cat u ont_data 0 → counter cat (move_counter cat t) ≡ next_number (counter cat u)
  unfolding with_counter counter number_from find
  moved_on u l same =
      let there : has 1 (contents cat t ont_data 0) ≡ true = ap (has 1) same ∙ counter_is_there cat wf u l in
      let x : ℕ = next_number (counter cat t) in
      ap number (named_change cat t ont_data 0 ((1, x ∷ []) ∷ []) 1 (x ∷ []) refl there)
      ∙ number_one x
      ∙ ap (λ (r : Contents). next_number (number (content 1 r))) same

-- ---- a class that can be created

module _ (cat : Catalogue) (wf : WellFormed cat) (c i : ℕ) (cr : is_created (class cat c).creation ≡ true) (small : i < 65536) where
  pub leads : leader cat c ≡ c
  leads = leads_itself c (class cat c).creation cr

  not_ont_data : c ≢ ont_data
  not_ont_data e = true_false cr (ap (λ (d : ℕ). is_created (class cat d).creation) e ∙ ap is_created wf.class_2_has_instance_0_alone)

  pub not_its_key : key c i ≢ key ont_data 0
  not_its_key e = not_ont_data (omega arith)

  -- its instance's entry isn't among those that are there by themselves
  pub stands_alone : (t : Table) → LegalLive cat wf t → find (key c i) t.automatic ≡ none
  stands_alone t l = created_alone cat wf t l (key c i) (rw (key_class c i small) cr)

-- ---- an accepted Create

module _ (cat : Catalogue) (s : State) (c i : ℕ) (v : List ℕ) where
  -- the result in its reply is 0
  abbrev pub CreateAccepted : Type 0
  CreateAccepted = byte (create cat s c i v).1 0 ≡ 0

  -- the table after it
  abbrev pub table_after_create : Table
  table_after_create = (create cat s c i v).0.table

  abbrev with_new : Table
  with_new = with_created (put (key c i) (new_entry cat c (carried_by (class cat c) v)) s.table.created) s.table

  pub above_0 : (n : ℕ) → suc n ≢ 0
  above_0 n q = absurd (omega arith)

  create_accepted_is : CreateAccepted → NoneApplies (create_results cat s c i v) × (create cat s c i v ≡ (with_table (move_counter cat with_new) s, 0 ∷ []))
  unfolding create create_results
  create_accepted_is = unless_refused_is (λ a. byte a.1 0 ≡ 0 → NoneApplies (create_results cat s c i v) × (a ≡ (with_table (move_counter cat with_new) s, 0 ∷ []))) s
      (create_results cat s c i v) _
      (λ r e y. absurd (first_has (λ r. byte r 0 ≢ 0) (create_results cat s c i v)
      ((λ y. above_0 6), ((λ y. above_0 2), ((λ y. above_0 0), tt))) r e y))
      (λ clear y. (clear, refl))

  created_table_is : CreateAccepted → table_after_create ≡ move_counter cat with_new
  created_table_is h = ap (λ (a : Answer). a.0.table) (create_accepted_is h).1

-- In a legal state of any well-formed catalogue, for a class that can be created and a number of two bytes:
module _ (cat : Catalogue) (wf : WellFormed cat) (s : State) (legal : legal_state cat s ≡ true) (c i : ℕ) (v : List ℕ)
    (cr : is_created (class cat c).creation ≡ true) (small : i < 65536) (yes : CreateAccepted cat s c i v) where
  before_create : LegalLive cat wf s.table
  before_create = (open_state cat wf s legal).its_table

  -- After an accepted Create, the entry of the new instance is the new entry that the rules make of what was sent, and nothing else.
  pub an_accepted_create_leaves_a_new_entry : entry (key c i) (table_after_create cat s c i v) ≡ new_entry cat c (carried_by (class cat c) v)
  an_accepted_create_leaves_a_new_entry =
      let e : Entry = new_entry cat c (carried_by (class cat c) v) in
      ap (entry (key c i)) (created_table_is cat s c i v yes)
      ∙ moved_entry cat wf (with_new cat s c i v) (key c i) (not_its_key cat wf c i cr small)
      ∙ entry_created s.table (put (key c i) e s.table.created) (key c i) (some e) (stands_alone cat wf c i cr small s.table before_create)
      (find_put (key c i) (key c i) e s.table.created ∙ ap (λ (b : Bool). cond b (some e) (find (key c i) s.table.created)) (eqb_true (key c i) (key c i) refl))

  new_here : contents cat (table_after_create cat s c i v) c i ≡ new_contents (carried_by (class cat c) v) (class cat c)
  unfolding contents new_entry family
  new_here =
      let carried : Contents = carried_by (class cat c) v in
      let led : eqb (leader cat c) c ≡ true = eqb_true (leader cat c) c (leads cat wf c i cr small) in
      let found : find c (family cat c) ≡ some (class cat c) =
      find_kept _ c (class cat c) cat.classes (known_class cat c (created_known cat c cr)) led in
      ap (λ (d : ℕ). in_entry c (entry (key d i) (table_after_create cat s c i v))) (leads cat wf c i cr small)
      ∙ ap (in_entry c) an_accepted_create_leaves_a_new_entry
      ∙ ap (λ (o : Option Contents). given o [] (λ r. r)) (find_each (λ d k. new_contents carried k) c (family cat c))
      ∙ ap (λ (o : Option Class). given (given {B = Option Contents} o none (λ k. some (new_contents carried k))) [] (λ r. r)) found

  carried_content : (n : ℕ) → (attribute (class cat c) n).C ≡ true
      → content n (new_contents (carried_by (class cat c) v) (class cat c)) ≡ content n (carried_by (class cat c) v)
  unfolding content new_contents
  carried_content n h = rw (
    find_each (λ n a. cond a.C (content n (carried_by (class cat c) v)) (first_content (carried_by (class cat c) v) a.source)) n
        (keep (λ n a. is_stored a.source) (class cat c).attributes),
    find_kept (λ n a. is_stored a.source) n (attribute (class cat c) n) (class cat c).attributes (known_attribute (class cat c) n (C_supported (class cat c) n h)) (C_is_stored cat wf c n h),
    h,
  )
      refl

  -- After an accepted Create, each set-by-create attribute of the new instance reads what the Create carried for it.
  pub get_after_create_gives_what_was_sent : (n : ℕ) → (attribute (class cat c) n).C ≡ true
      → read cat (table_after_create cat s c i v) c i n ≡ content n (carried_by (class cat c) v)
  get_after_create_gives_what_was_sent n h =
      read_stored cat (table_after_create cat s c i v) c i n (C_is_stored cat wf c n h)
      ∙ ap (content n) new_here
      ∙ carried_content n h

  -- So an accepted Get, with mask and contents w, of set-by-create attributes of the new instance replies 0, its mask and what the Create
  -- carried for them, one after another.
  pub the_reply_to_a_get_after_create_is_what_was_sent : (w : List ℕ) → byte (get cat (create cat s c i v).0 c i w).1 0 ≡ 0
      → all (λ n. (attribute (class cat c) n).C) (asked w) ≡ true
      → (get cat (create cat s c i v).0 c i w).1 ≡ 0 ∷ bytes 2 (two w 0) ++ gather (λ n. content n (carried_by (class cat c) v)) (asked w)
  the_reply_to_a_get_after_create_is_what_was_sent w ok carried =
      an_accepted_get_replies_what_it_names cat (create cat s c i v).0 c i w ok
      ∙ ap (λ (l : List ℕ). 0 ∷ bytes 2 (two w 0) ++ l) (values_are cat (table_after_create cat s c i v) c i (λ n. content n (carried_by (class cat c) v))
      (λ n. (attribute (class cat c) n).C) get_after_create_gives_what_was_sent (asked w) carried)

  -- After an accepted Create, the new instance is there.
  pub a_created_instance_is_there : holds cat (table_after_create cat s c i v) c i ≡ true
  unfolding holds new_entry
  a_created_instance_is_there =
      let carried : Contents = carried_by (class cat c) v in
      let l : leader cat c ≡ c = leads cat wf c i cr small in
      ap (λ (d : ℕ). has c (entry (key d i) (table_after_create cat s c i v))) l
      ∙ ap (has c) an_accepted_create_leaves_a_new_entry
      ∙ has_each (λ d k. new_contents carried k) c (family cat c)
      ∙ has_among c (family cat c)
      ∙ ap (λ (d : ℕ). among c (keys (family cat d))) (sym l)
      ∙ family_has cat wf c (created_known cat c cr)

  new_elsewhere : (k : ℕ) → k ≢ key c i → entry k (with_new cat s c i v) ≡ entry k s.table
  new_elsewhere k ne =
      let e : Entry = new_entry cat c (carried_by (class cat c) v) in
      entry_with s.table (put (key c i) e s.table.created) k
      (find_put k (key c i) e s.table.created ∙ ap (λ (b : Bool). cond b (some e) (find k s.table.created)) (eqb_false k (key c i) ne))

  -- An accepted Create changes no other instance: every stored attribute, but the sync counter, of every instance that neither is the new one
  -- nor came with it, reads as before.
  pub a_create_changes_no_other_instance : (d j n : ℕ) → j < 65536 → (leader cat d ≡ c → j ≡ i → ⊥) → is_stored (attribute (class cat d) n).source ≡ true
      → (d ≡ 2 → j ≡ 0 → n ≢ 1) → read cat (table_after_create cat s c i v) d j n ≡ read cat s.table d j n
  a_create_changes_no_other_instance d j n small_too other st no_counter =
      let differs : key (leader cat d) j ≢ key c i = λ z. other (omega arith) (omega arith) in
      read_stored cat (table_after_create cat s c i v) d j n st
      ∙ ap (λ (t : Table). content n (contents cat t d j)) (created_table_is cat s c i v yes)
      ∙ moved_content cat wf (with_new cat s c i v) d j n no_counter
      ∙ ap (content n) (contents_in_entry cat (with_new cat s c i v) s.table d j (new_elsewhere (key (leader cat d) j) differs))
      ∙ sym (read_stored cat s.table d j n st)

  -- An accepted Create brings no other instance, and takes none: every other instance is there after it exactly if it was there before.
  pub a_create_brings_no_other_instance : (d j : ℕ) → j < 65536 → (leader cat d ≡ c → j ≡ i → ⊥) → holds cat (table_after_create cat s c i v) d j ≡ holds cat s.table d j
  a_create_brings_no_other_instance d j small_too other =
      let differs : key (leader cat d) j ≢ key c i = λ z. other (omega arith) (omega arith) in
      ap (λ (t : Table). holds cat t d j) (created_table_is cat s c i v yes)
      ∙ moved_holds cat wf (with_new cat s c i v) d j
      ∙ holds_in_entry cat (with_new cat s c i v) s.table d j (new_elsewhere (key (leader cat d) j) differs)

  -- An accepted Create leaves every alarm, the alarm number and both walks as they were.
  pub a_create_leaves_alarms_and_walks : ((create cat s c i v).0.alarms ≡ s.alarms) × ((create cat s c i v).0.alarm_number ≡ s.alarm_number)
      × ((create cat s c i v).0.upload ≡ s.upload) × ((create cat s c i v).0.walk ≡ s.walk)
  a_create_leaves_alarms_and_walks =
      let e = (create_accepted_is cat s c i v yes).1 in (
        ap (λ (a : Answer). a.0.alarms) e,
        ap (λ (a : Answer). a.0.alarm_number) e,
        ap (λ (a : Answer). a.0.upload) e,
        ap (λ (a : Answer). a.0.walk) e,
      )

  -- before it, neither the instance nor one that comes with it is there
  was_not_there : (d : ℕ) → leader cat d ≡ c → holds cat s.table d i ≡ false
  unfolding create_results
  was_not_there d l = cases (holds cat s.table d i)
      (λ y.
      let k : ℕ = key (leader cat d) i in
      let x : There cat s.table d i = holds_there cat s.table d i y in
      let le : LegalEntry cat k x.its_entry = entry_legal cat wf s.table before_create k x.its_entry x.found in
      let led : leader cat c ≡ c = leads cat wf c i cr small in
      let same_class : class_of k ≡ leader cat c = key_class (leader cat d) i small ∙ l ∙ sym led in
      let has_it : has c x.its_entry ≡ true = has_among c x.its_entry ∙ ap (among c) le.its_keys
      ∙ ap (λ (b : ℕ). among c (keys (family cat b))) same_class ∙ family_has cat wf c (created_known cat c cr) in
      true_false (there_holds cat s.table c i (record { its_entry = x.its_entry; found = ap (λ (b : ℕ). find (key b i) (entries s.table)) (led ∙ sym l) ∙ x.found; has_class = has_it }))
      (create_accepted_is cat s c i v yes).0.0)
      (λ y. y)

  -- After an accepted Create, the new instance, and each that comes with it, has no alarm.
  pub a_created_instance_has_no_alarm : (d : ℕ) → leader cat d ≡ c → alarms_of (key d i) (create cat s c i v).0.alarms ≡ replicate 224 false
  unfolding alarms_of legal_bitmaps
  a_created_instance_has_no_alarm d l =
      ap (alarms_of (key d i)) a_create_leaves_alarms_and_walks.0
      ∙ go (find (key d i) s.alarms) refl
    where
      go : (o : Option Alarms) → find (key d i) s.alarms ≡ o → given o (replicate 224 false) (λ b. b) ≡ replicate 224 false
      go none e = refl
      go (some b) e =
          let there = (both (every_find (λ k b. holds cat s.table (class_of k) (number_of k) and legal_bitmap (class cat (class_of k)) b) s.alarms
          (both (open_state cat wf s legal).its_alarms).1 (key d i) b e)).0 in
          true_false ((λ k. holds cat s.table (sym (key_class d i small) k) (sym (key_number d i small) k)) ∙ there) (was_not_there d l)

  -- An accepted Create moves the sync counter on.
  pub an_accepted_create_moves_the_counter_on : counter cat (table_after_create cat s c i v) ≡ next_number (counter cat s.table)
  an_accepted_create_moves_the_counter_on =
      let l : leader cat ont_data ≡ ont_data = rw wf.class_2_has_instance_0_alone refl in
      ap (counter cat) (created_table_is cat s c i v yes)
      ∙ moved_on cat wf (with_new cat s c i v) s.table before_create
      (contents_in_entry cat (with_new cat s c i v) s.table ont_data 0
      (new_elsewhere (key (leader cat ont_data) 0) (λ z. not_its_key cat wf c i cr small (sym z ∙ ap (λ (d : ℕ). key d 0) l))))

-- ---- an accepted Delete

module _ (cat : Catalogue) (s : State) (c i : ℕ) where
  -- the result in its reply is 0
  abbrev pub DeleteAccepted : Type 0
  DeleteAccepted = byte (delete cat s c i).1 0 ≡ 0

  -- the table after it
  abbrev pub table_after_delete : Table
  table_after_delete = (delete cat s c i).0.table

  abbrev with_less : Table
  with_less = with_created (remove (key c i) s.table.created) s.table

  delete_accepted_is : DeleteAccepted → NoneApplies (delete_results cat s c i) × (delete cat s c i ≡ (without cat c i s, 0 ∷ []))
  unfolding delete delete_results
  delete_accepted_is = unless_refused_is (λ a. byte a.1 0 ≡ 0 → NoneApplies (delete_results cat s c i) × (a ≡ (without cat c i s, 0 ∷ []))) s (delete_results cat s c i) _
      (λ r e y. absurd (first_has (λ r. byte r 0 ≢ 0) (delete_results cat s c i) ((λ y. above_0 cat s c i [] 4), tt) r e y))
      (λ clear y. (clear, refl))

  deleted_table_is : DeleteAccepted → table_after_delete ≡ move_counter cat with_less
  unfolding without
  deleted_table_is h = ap (λ (a : Answer). a.0.table) (delete_accepted_is h).1

-- In a legal state of any well-formed catalogue, for a class that can be created and a number of two bytes:
module _ (cat : Catalogue) (wf : WellFormed cat) (s : State) (legal : legal_state cat s ≡ true) (c i : ℕ)
    (cr : is_created (class cat c).creation ≡ true) (small : i < 65536) (yes : DeleteAccepted cat s c i) where
  before_delete : LegalLive cat wf s.table
  before_delete = (open_state cat wf s legal).its_table

  no_entry : entry (key c i) (table_after_delete cat s c i) ≡ []
  no_entry =
      ap (entry (key c i)) (deleted_table_is cat s c i yes)
      ∙ moved_entry cat wf (with_less cat s c i) (key c i) (not_its_key cat wf c i cr small)
      ∙ entry_created s.table (remove (key c i) s.table.created) (key c i) none (stands_alone cat wf c i cr small s.table before_delete)
      (removed (key c i) s.table.created)

  -- After an accepted Delete, the instance is gone, and so is every one that came with it.
  pub a_deleted_instance_is_gone : (d : ℕ) → leader cat d ≡ c → holds cat (table_after_delete cat s c i) d i ≡ false
  unfolding holds find
  a_deleted_instance_is_gone d l = ap (λ (b : ℕ). has d (entry (key b i) (table_after_delete cat s c i))) l ∙ ap (has d) no_entry

  less_elsewhere : (k : ℕ) → k ≢ key c i → entry k (with_less cat s c i) ≡ entry k s.table
  less_elsewhere k ne = entry_with s.table (remove (key c i) s.table.created) k (find_remove k (key c i) s.table.created ne)

  -- An accepted Delete changes no other instance: every stored attribute, but the sync counter, of every instance that neither is the deleted
  -- one nor came with it, reads as before.
  pub a_delete_changes_no_other_instance : (d j n : ℕ) → j < 65536 → (leader cat d ≡ c → j ≡ i → ⊥) → is_stored (attribute (class cat d) n).source ≡ true
      → (d ≡ 2 → j ≡ 0 → n ≢ 1) → read cat (table_after_delete cat s c i) d j n ≡ read cat s.table d j n
  a_delete_changes_no_other_instance d j n small_too other st no_counter =
      let differs : key (leader cat d) j ≢ key c i = λ z. other (omega arith) (omega arith) in
      read_stored cat (table_after_delete cat s c i) d j n st
      ∙ ap (λ (t : Table). content n (contents cat t d j)) (deleted_table_is cat s c i yes)
      ∙ moved_content cat wf (with_less cat s c i) d j n no_counter
      ∙ ap (content n) (contents_in_entry cat (with_less cat s c i) s.table d j (less_elsewhere (key (leader cat d) j) differs))
      ∙ sym (read_stored cat s.table d j n st)

  -- An accepted Delete takes no other instance, and brings none: every other instance is there after it exactly if it was there before.
  pub a_delete_takes_no_other_instance : (d j : ℕ) → j < 65536 → (leader cat d ≡ c → j ≡ i → ⊥) → holds cat (table_after_delete cat s c i) d j ≡ holds cat s.table d j
  a_delete_takes_no_other_instance d j small_too other =
      let differs : key (leader cat d) j ≢ key c i = λ z. other (omega arith) (omega arith) in
      ap (λ (t : Table). holds cat t d j) (deleted_table_is cat s c i yes)
      ∙ moved_holds cat wf (with_less cat s c i) d j
      ∙ holds_in_entry cat (with_less cat s c i) s.table d j (less_elsewhere (key (leader cat d) j) differs)

  -- An accepted Delete leaves the alarm number and both walks as they were.
  pub a_delete_leaves_the_alarm_number_and_walks : ((delete cat s c i).0.alarm_number ≡ s.alarm_number) × ((delete cat s c i).0.upload ≡ s.upload) × ((delete cat s c i).0.walk ≡ s.walk)
  unfolding without
  a_delete_leaves_the_alarm_number_and_walks =
      let e = (delete_accepted_is cat s c i yes).1 in (
        ap (λ (a : Answer). a.0.alarm_number) e,
        ap (λ (a : Answer). a.0.upload) e,
        ap (λ (a : Answer). a.0.walk) e,
      )

  -- After an accepted Delete, there is no alarm of the deleted instance, nor of one that came with it.
  pub a_deleted_instance_takes_its_alarms_with_it : (d : ℕ) → leader cat d ≡ c → alarms_of (key d i) (delete cat s c i).0.alarms ≡ replicate 224 false
  unfolding without goes_with alarms_of
  a_deleted_instance_takes_its_alarms_with_it d l =
      ap (λ (a : Answer). alarms_of (key d i) a.0.alarms) (delete_accepted_is cat s c i yes).1
      ∙ ap (λ (o : Option Alarms). given o (replicate 224 false) (λ b. b)) (find_lost (λ j. not (eqb (leader cat (class_of j)) c and eqb (number_of j) i)) (key d i) s.alarms
      (ap not (and_true (eqb_true (leader cat (class_of (key d i))) c (ap (leader cat) (key_class d i small) ∙ l)) (eqb_true (number_of (key d i)) i (key_number d i small)))))

  -- After an accepted Delete, the alarms of every other instance are as before.
  pub a_delete_changes_no_other_alarms : (d j : ℕ) → j < 65536 → (leader cat d ≡ c → j ≡ i → ⊥)
      → alarms_of (key d j) (delete cat s c i).0.alarms ≡ alarms_of (key d j) s.alarms
  unfolding without goes_with alarms_of
  a_delete_changes_no_other_alarms d j small_too other =
      ap (λ (a : Answer). alarms_of (key d j) a.0.alarms) (delete_accepted_is cat s c i yes).1
      ∙ ap (λ (o : Option Alarms). given o (replicate 224 false) (λ b. b)) (find_keep (λ j. not (eqb (leader cat (class_of j)) c and eqb (number_of j) i)) (key d j) s.alarms
      (cases (eqb (leader cat (class_of (key d j))) c and eqb (number_of (key d j)) i)
      (λ y. absurd (other (ap (leader cat) (sym (key_class d j small_too)) ∙ eqb_eq (leader cat (class_of (key d j))) c (both y).0)
      (sym (key_number d j small_too) ∙ eqb_eq (number_of (key d j)) i (both y).1)))
      (λ y. false_not y)))

  -- An accepted Delete moves the sync counter on.
  pub an_accepted_delete_moves_the_counter_on : counter cat (table_after_delete cat s c i) ≡ next_number (counter cat s.table)
  an_accepted_delete_moves_the_counter_on =
      let l : leader cat ont_data ≡ ont_data = rw wf.class_2_has_instance_0_alone refl in
      ap (counter cat) (deleted_table_is cat s c i yes)
      ∙ moved_on cat wf (with_less cat s c i) s.table before_delete
      (contents_in_entry cat (with_less cat s c i) s.table ont_data 0
      (less_elsewhere (key (leader cat ont_data) 0) (λ z. not_its_key cat wf c i cr small (sym z ∙ ap (λ (d : ℕ). key d 0) l))))

  -- After a Delete and then an accepted Create of the same number, the entry is the new entry that the rules make of what was sent: nothing of
  -- the deleted instance is left in it.
  pub delete_then_create_finds_a_fresh_instance : (v : List ℕ) → CreateAccepted cat (delete cat s c i).0 c i v
      → entry (key c i) (table_after_create cat (delete cat s c i).0 c i v) ≡ new_entry cat c (carried_by (class cat c) v)
  delete_then_create_finds_a_fresh_instance v y =
      let l : LegalState cat wf (delete cat s c i).0 = (delete_good cat wf s (open_state cat wf s legal) c i small).its_state in
      an_accepted_create_leaves_a_new_entry cat wf (delete cat s c i).0 (close_state cat wf (delete cat s c i).0 l) c i v cr small y

-- ---- messages

pub only : {a : Bool} (b : Bool) → a ≡ true → (a and not b) ≡ false → b ≡ true
only b h g = cases b (λ e. e) (λ e. true_false (and_true h (false_not e)) g)

create_has_a_result : among create_number with_result ≡ true
unfolding among ◌or◌
create_has_a_result = refl

delete_has_a_result : among delete_number with_result ≡ true
unfolding among ◌or◌
delete_has_a_result = refl

module _ (cat : Catalogue) (wf : WellFormed cat) (s : State) (c i : ℕ) (v : List ℕ) where
  -- a command that the lines before its own refuse has another result than 0
  create_or_refused : byte (answer cat s create_number c i v).1 0 ≡ 0
      → NoneApplies (first_results cat create_number c) × (answer cat s create_number c i v ≡ create cat s c i v)
  unfolding answer perform first_that_applies first_results
  create_or_refused = unless_refused_is (λ a. byte a.1 0 ≡ 0 → NoneApplies (first_results cat create_number c) × (a ≡ create cat s c i v)) s (first_results cat create_number c)
      (create cat s c i v)
      (λ r e y. absurd (first_has (λ r. byte r 0 ≢ 0) (first_results cat create_number c)
      ((λ y. above_0 cat s c i v 1), ((λ y. above_0 cat s c i v 3), ((λ y. above_0 cat s c i v 1), tt))) r e y))
      (λ clear y. (clear, refl))

  delete_or_refused : byte (answer cat s delete_number c i v).1 0 ≡ 0
      → NoneApplies (first_results cat delete_number c) × (answer cat s delete_number c i v ≡ delete cat s c i)
  unfolding answer perform first_that_applies first_results
  delete_or_refused = unless_refused_is (λ a. byte a.1 0 ≡ 0 → NoneApplies (first_results cat delete_number c) × (a ≡ delete cat s c i)) s (first_results cat delete_number c)
      (delete cat s c i)
      (λ r e y. absurd (first_has (λ r. byte r 0 ≢ 0) (first_results cat delete_number c)
      ((λ y. above_0 cat s c i v 1), ((λ y. above_0 cat s c i v 3), ((λ y. above_0 cat s c i v 1), tt))) r e y))
      (λ clear y. (clear, refl))

  -- they are for the classes that can be created
  pub created_if_create : NoneApplies (first_results cat create_number c) → is_created (class cat c).creation ≡ true
  unfolding first_results created_by_Create
  created_if_create clear = implied (class_says created_by_Create cat wf.create_if_created c (only (known cat c) create_has_a_result clear.1.0))
      (or_left (among delete_number (class cat c).commands) (only (among create_number (class cat c).commands) create_has_a_result clear.1.1.0))

  pub created_if_delete : NoneApplies (first_results cat delete_number c) → is_created (class cat c).creation ≡ true
  unfolding first_results created_by_Create
  created_if_delete clear = implied (class_says created_by_Create cat wf.create_if_created c (only (known cat c) delete_has_a_result clear.1.0))
      (or_right (among create_number (class cat c).commands) (only (among delete_number (class cat c).commands) delete_has_a_result clear.1.1.0))

module _ (cat : Catalogue) (wf : WellFormed cat) (s : State) (m r : List ℕ) (d : first_that_applies (message_drops m) ≡ none) (n : IsNoRepeat s m)
    (e : (handle cat s m).1 ≡ answered r) (z : byte r 8 ≡ 0) where
  abbrev pub its_answer : Answer
  its_answer = answer cat s (message_number m) (class_in m) (instance_in m) (contents_in m)

  pub answer_0 : byte its_answer.1 0 ≡ 0
  unfolding answer_anew message_drops
  answer_0 =
      let long : length m ≡ 48 = eqb_eq (length m) 48 (not-false (none_applies (message_drops m) d).0) in
      let sent_is : reply_to m its_answer.1 ≡ r = ap (λ (x : State × Outcome). sent x.1) (sym (answered_anew cat s m d n)) ∙ ap sent e in
      sym (the_result_is_byte_8 m its_answer.1 long) ∙ ap (λ (l : List ℕ). byte l 8) sent_is ∙ z

  its_table_after : (handle cat s m).0.table ≡ its_answer.0.table
  unfolding answer_anew remember
  its_table_after = ap (λ (x : State × Outcome). x.0.table) (answered_anew cat s m d n)

  -- A Create as a message, that isn't dropped and is no repeat: if the result in its reply (byte 8) is 0, then its class can be created, it was
  -- accepted by the rules of Create, and the state after it has the table that they leave; so what is proved above holds of the message.
  pub a_create_that_is_answered_0_does_what_the_rules_of_create_say : message_number m ≡ 4
      → (is_created (class cat (class_in m)).creation ≡ true)
      × CreateAccepted cat s (class_in m) (instance_in m) (contents_in m)
      × ((handle cat s m).0.table ≡ table_after_create cat s (class_in m) (instance_in m) (contents_in m))
  a_create_that_is_answered_0_does_what_the_rules_of_create_say four =
      let c : ℕ = class_in m in
      let i : ℕ = instance_in m in
      let v : List ℕ = contents_in m in
      let is_4 : its_answer ≡ answer cat s create_number c i v = ap (λ (x : ℕ). answer cat s x c i v) four in
      let o = create_or_refused cat wf s c i v (ap (λ (x : Answer). byte x.1 0) (sym is_4) ∙ answer_0) in
      let done_is : its_answer ≡ create cat s c i v = is_4 ∙ o.1 in (
        created_if_create cat wf s c i v o.0,
        ap (λ (x : Answer). byte x.1 0) (sym done_is) ∙ answer_0,
        its_table_after ∙ ap (λ (x : Answer). x.0.table) done_is,
      )

  -- A Delete as a message, likewise.
  pub a_delete_that_is_answered_0_does_what_the_rules_of_delete_say : message_number m ≡ 6
      → (is_created (class cat (class_in m)).creation ≡ true)
      × DeleteAccepted cat s (class_in m) (instance_in m)
      × ((handle cat s m).0.table ≡ table_after_delete cat s (class_in m) (instance_in m))
  a_delete_that_is_answered_0_does_what_the_rules_of_delete_say six =
      let c : ℕ = class_in m in
      let i : ℕ = instance_in m in
      let v : List ℕ = contents_in m in
      let is_6 : its_answer ≡ answer cat s delete_number c i v = ap (λ (x : ℕ). answer cat s x c i v) six in
      let o = delete_or_refused cat wf s c i v (ap (λ (x : Answer). byte x.1 0) (sym is_6) ∙ answer_0) in
      let done_is : its_answer ≡ delete cat s c i = is_6 ∙ o.1 in (
        created_if_delete cat wf s c i v o.0,
        ap (λ (x : Answer). byte x.1 0) (sym done_is) ∙ answer_0,
        its_table_after ∙ ap (λ (x : Answer). x.0.table) done_is,
      )
