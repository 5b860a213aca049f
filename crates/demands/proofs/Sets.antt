-- Demand 2: an accepted Set changes the named attributes of one instance and no other stored attribute, and moves the sync counter on; a
-- Set of that counter stores just what it was sent.
use Prim.Native.Nat.{ℕ, suc}
use native.Mathlib.Omega.{arith}
use mathlib.Core.Path.{◌≡◌, refl, sym, ◌∙◌, ap}
use mathlib.Core.Bool.{Bool, true, false, not, cond}
use mathlib.Core.Option.{Option, none, some}
use mathlib.Core.Logic.{◌≢◌}
use mathlib.Core.List.{List, [], ◌∷◌}
use lib.ListN.{length, drop}
use lib.Dec.{eqb}
use Rattle.rules.specs.Maps.{◌and◌, ◌or◌, given, find, has, keys, keep, each, at_key, among, first_that_applies}
use Rattle.rules.specs.Bytes.{byte, two, number, number_from}
use Rattle.rules.specs.Catalogue.{Class, Catalogue, class, known, attribute, supported, family, size_of, is_stored, stored_numbers, leader, key, ont_data}
use Rattle.rules.specs.State.{Contents, Entry, Table, State, entries, entry, holds, contents, content, counter, overwrite, change, with_counter, with_table}
use Rattle.rules.specs.Legal.{automatic_keys, legal_state}
use Rattle.rules.specs.Messages.{message_number, class_in, instance_in, contents_in, message_drops, set_number, reply_to, next_number, Answer}
use Rattle.rules.specs.Reports.{Outcome, answered}
use Rattle.rules.specs.Run.{perform, first_results, answer, remember, answer_anew, handle}
use Rattle.rules.specs.Commands.{cut, asked, unsupported, unwritable, set_by, bad_in_set, set_results, moved_by_set, set}
use Rattle.rules.specs.WellFormed.{WellFormed, rights_only_if_stored}
use Rattle.rules.proofs.Laws.{cases, true_false, not-true, not-false, false_not, both, and_true, or_left, eqb_true, eqb_false, eqb_eq, eqb_ne, same?, all_among, find_each}
use Rattle.rules.proofs.Laws.{find_some, has_among, among_here}
use Rattle.rules.proofs.MapLaws.{each_append, find_kept, first_has}
use Rattle.rules.proofs.ByteLaws.{keys_cut}
use Rattle.rules.proofs.Lookups.{implied, known_attribute, W_supported, supported_known, attribute_says}
use Rattle.rules.proofs.Families.{family_has}
use Rattle.legality.proofs.Refusals.{NoneApplies, none_applies, unless_refused_is, none_of_those}
use Rattle.legality.proofs.LegalStates.{open_state}
use Rattle.legality.proofs.Tables.{LegalEntry, LegalLive}
use Rattle.legality.proofs.Contents.{LegalContents, content_kept, content_put}
use Rattle.legality.proofs.Holds.{There, holds_there, find_in_automatic, entry_legal}
use Rattle.legality.proofs.Counter.{contents_legal}
use Rattle.legality.proofs.ReplyBytes.{the_result_is_byte_8}
use Rattle.extending.proofs.Cuts.{cut_none}
use Rattle.legality.proofs.Outcomes.{sent}
use Rattle.demands.proofs.AccidentOnBytes.{IsNoRepeat, answered_anew}

-- ---- the contents after a change of one instance

module _ (cat : Catalogue) (t : Table) (c i : ℕ) (f : Contents → Contents) where
  pub changed_entries : entries (change cat c i f t) ≡ at_key (key (leader cat c) i) (at_key c f) (entries t)
  unfolding change
  changed_entries = sym (each_append (λ j a. cond (eqb j (key (leader cat c) i)) (at_key c f a) a) t.automatic t.created)

  -- another instance's contents stay
  pub contents_elsewhere : (d j : ℕ) → (d ≡ c → j ≡ i → ⊥) → contents cat (change cat c i f t) d j ≡ contents cat t d j
  unfolding contents entry
  contents_elsewhere d j apart =
      let k : ℕ = key (leader cat c) i in
      let kk : ℕ = key (leader cat d) j in
      let g : ℕ → Entry → Entry = λ n a. cond (eqb n k) (at_key c f a) a in
      rw (changed_entries, find_each g kk (entries t)) (go (find kk (entries t)))
    where
      inner : (e : Entry) → eqb d c ≡ false → given (find d (at_key c f e)) [] (λ r. r) ≡ given (find d e) [] (λ r. r)
      inner e y = rw (find_each (λ n a. cond (eqb n c) (f a) a) d e) (pick (find d e))
        where
          pick : (o : Option Contents) → given (given {B = Option Contents} o none (λ a. some (cond (eqb d c) (f a) a))) [] (λ r. r) ≡ given o [] (λ r. r)
          pick none = refl
          pick (some r) = rw y refl

      go : (o : Option Entry)
          → given (find d (given (given {B = Option Entry} o none (λ a. some (cond (eqb (key (leader cat d) j) (key (leader cat c) i)) (at_key c f a) a))) [] (λ e. e))) [] (λ r. r)
          ≡ given (find d (given o [] (λ e. e))) [] (λ r. r)
      go none = refl
      go (some e) = cases (eqb (key (leader cat d) j) (key (leader cat c) i))
          (λ u. rw u (inner e (eqb_false d c (λ x. apart x (
          let z : key (leader cat d) j ≡ key (leader cat c) i = eqb_eq (key (leader cat d) j) (key (leader cat c) i) u in
          let w : leader cat d ≡ leader cat c = ap (leader cat) x in
          omega arith)))))
          (λ u. rw u refl)

  -- the instance's own are changed
  pub contents_here : f [] ≡ [] → contents cat (change cat c i f t) c i ≡ f (contents cat t c i)
  unfolding contents entry find
  contents_here fe =
      let k : ℕ = key (leader cat c) i in
      let g : ℕ → Entry → Entry = λ n a. cond (eqb n k) (at_key c f a) a in
      rw (changed_entries, find_each g k (entries t), eqb_true k k refl) (go (find k (entries t)))
    where
      pick : (o : Option Contents) → given (given {B = Option Contents} o none (λ a. some (f a))) [] (λ r. r) ≡ f (given o [] (λ r. r))
      pick none = sym fe
      pick (some r) = refl

      go : (o : Option Entry)
          → given (find c (given (given {B = Option Entry} o none (λ a. some (at_key c f a))) [] (λ e. e))) [] (λ r. r) ≡ f (given (find c (given o [] (λ e. e))) [] (λ r. r))
      go none = sym fe
      go (some e) = rw (find_each (λ n a. cond (eqb n c) (f a) a) c e, eqb_true c c refl) (pick (find c e))

-- ---- the contents after new ones are put over them

module _ (cat : Catalogue) (t : Table) (c i : ℕ) (new : Contents) where
  -- what isn't among the new contents stays, in every instance
  pub others_stay : (d j n : ℕ) → (d ≡ c → j ≡ i → find n new ≡ none) → content n (contents cat (change cat c i (overwrite new) t) d j) ≡ content n (contents cat t d j)
  unfolding overwrite each
  others_stay d j n h = same? d c
      (λ x. same? j i
      (λ y. (λ k. content n (contents cat (change cat c i (overwrite new) t) (x k) (y k)))
      ∙ ap (content n) (contents_here cat t c i (overwrite new) refl)
      ∙ content_kept new (contents cat t c i) n (h x y)
      ∙ (λ k. content n (contents cat t (sym x k) (sym y k))))
      (λ y. ap (content n) (contents_elsewhere cat t c i (overwrite new) d j (λ p q. y q))))
      (λ x. ap (content n) (contents_elsewhere cat t c i (overwrite new) d j (λ p q. x p)))

  -- what is among them takes its new content
  pub named_change : (n : ℕ) (w : List ℕ) → find n new ≡ some w → has n (contents cat t c i) ≡ true → content n (contents cat (change cat c i (overwrite new) t) c i) ≡ w
  unfolding overwrite each
  named_change n w e h = ap (content n) (contents_here cat t c i (overwrite new) refl) ∙ content_put new (contents cat t c i) n w e h

-- ---- what a Set carries

pub cut_some : (size : ℕ → ℕ) (l v : List ℕ) (n : ℕ) → among n l ≡ true → has n (cut size l v) ≡ true
cut_some size l v n h = has_among n (cut size l v) ∙ ap (among n) (keys_cut size l v) ∙ h

pub number_one : (x : ℕ) → number (x ∷ []) ≡ x
unfolding number_from
number_one x = omega arith

-- ---- an accepted Set

module _ (cat : Catalogue) (s : State) (c i : ℕ) (v : List ℕ) where
  -- the result in its reply is 0
  abbrev pub Accepted : Type 0
  Accepted = byte (set cat s c i v).1 0 ≡ 0

  -- the table after it
  abbrev pub table_after : Table
  table_after = (set cat s c i v).0.table

  overwritten : Table
  overwritten = change cat c i (overwrite (set_by (class cat c) v)) s.table

  over_0 : (n : ℕ) → suc n ≢ 0
  over_0 n q = absurd (omega arith)

  -- the lines that could have refused it
  abbrev results : List (Bool × List ℕ)
  results = set_results (holds cat s.table c i) (class cat c) (two v 0) (bad_in_set cat s c i v)

  accepted_is : Accepted → NoneApplies results × (set cat s c i v ≡ (with_table (moved_by_set cat c overwritten) s, 0 ∷ []))
  unfolding set set_results overwritten
  accepted_is = unless_refused_is (λ a. byte a.1 0 ≡ 0 → NoneApplies results × (a ≡ (with_table (moved_by_set cat c overwritten) s, 0 ∷ []))) s results _
      (λ r e y. absurd (first_has (λ r. byte r 0 ≢ 0) results
      ((λ y. over_0 4), ((λ y. over_0 2), ((λ y. over_0 8), ((λ y. over_0 2), ((λ y. over_0 8), tt))))) r e y))
      (λ clear y. (clear, refl))

  table_is : Accepted → table_after ≡ moved_by_set cat c overwritten
  table_is h = ap (λ (a : Answer). a.0.table) (accepted_is h).1

  -- moving the counter changes nothing else
  moved_others : (t : Table) (d j n : ℕ) → (d ≡ 2 → j ≡ 0 → n ≢ 1) → content n (contents cat (moved_by_set cat c t) d j) ≡ content n (contents cat t d j)
  unfolding moved_by_set with_counter find
  moved_others t d j n h = cases (eqb c ont_data)
      (λ e. rw e refl)
      (λ e. rw e (others_stay cat t ont_data 0 ((1, next_number (counter cat t) ∷ []) ∷ []) d j n (λ p q. rw (eqb_false n 1 (h p q)) refl)))

  -- An accepted Set changes no other stored attribute: any attribute n of any instance j of any class d, but those of this instance that
  -- the mask names and the sync counter, has the content that it had.
  pub an_accepted_set_changes_no_other_stored_attribute : Accepted → (d j n : ℕ) → (d ≡ c → j ≡ i → among n (asked v) ≡ false) → (d ≡ 2 → j ≡ 0 → n ≢ 1)
      → content n (contents cat table_after d j) ≡ content n (contents cat s.table d j)
  unfolding set_by overwritten
  an_accepted_set_changes_no_other_stored_attribute h d j n other no_counter =
      ap (λ (t : Table). content n (contents cat t d j)) (table_is h)
      ∙ moved_others overwritten d j n no_counter
      ∙ others_stay cat s.table c i (set_by (class cat c) v) d j n (λ p q. cut_none (size_of (class cat c)) (asked v) (drop 2 v) n (other p q))

-- ---- legal states

module _ (cat : Catalogue) (wf : WellFormed cat) (t : Table) (h : LegalLive cat wf t) where
  -- a stored attribute of an instance that is there has a content
  pub stored_is_there : (c i n : ℕ) → There cat t c i → supported (class cat c) n ≡ true → is_stored (attribute (class cat c) n).source ≡ true → has n (contents cat t c i) ≡ true
  unfolding contents entry stored_numbers
  stored_is_there c i n x sup st =
      let f = find_some c x.its_entry x.has_class in
      let l : LegalContents cat (class cat c) f.0 = contents_legal cat wf _ t h c i x.its_entry f.0 x.found f.1 in
      let kept : find n (keep (λ m a. is_stored a.source) (class cat c).attributes) ≡ some (attribute (class cat c) n) =
      find_kept (λ m a. is_stored a.source) n (attribute (class cat c) n) (class cat c).attributes (known_attribute (class cat c) n sup) st in
      let q : has n (keep (λ m a. is_stored a.source) (class cat c).attributes) ≡ true = rw kept refl in
      rw (x.found, f.1)
      (has_among n f.0 ∙ ap (among n) l.its_keys ∙ sym (has_among n (keep (λ m a. is_stored a.source) (class cat c).attributes)) ∙ q)

  -- what can be written is stored
  pub written_is_there : (c i n : ℕ) → There cat t c i → (attribute (class cat c) n).W ≡ true → has n (contents cat t c i) ≡ true
  unfolding rights_only_if_stored
  written_is_there c i n x w =
      let sup : supported (class cat c) n ≡ true = W_supported (class cat c) n w in
      stored_is_there c i n x sup (implied (attribute_says rights_only_if_stored cat wf.rights_if_stored c n sup)
      (or_left ((attribute (class cat c) n).C or (attribute (class cat c) n).L) w))

  -- the ONT data is there
  pub ont_data_is_there : There cat t ont_data 0
  ont_data_is_there =
      let k : ℕ = key ont_data 0 in
      let here : has k t.automatic ≡ true = has_among k t.automatic ∙ ap (among k) h.automatic_keys ∙ among_here k (automatic_keys cat) in
      let f = find_some k t.automatic here in
      let found : find k (entries t) ≡ some f.0 = find_in_automatic k t.automatic t.created f.0 f.1 in
      let leads : leader cat ont_data ≡ ont_data = rw wf.class_2_has_instance_0_alone refl in
      let l : LegalEntry cat k f.0 = entry_legal cat wf t h k f.0 found in
      let c = wf.class_2_has_the_counter in
      let knows : known cat ont_data ≡ true = supported_known cat ont_data 1 (W_supported (class cat ont_data) 1 c.is_W) in
      record {
        its_entry = f.0;
        found = ap (λ (d : ℕ). find (key d 0) (entries t)) leads ∙ found;
        has_class = has_among ont_data f.0 ∙ ap (among ont_data) l.its_keys
            ∙ ap (λ (d : ℕ). among ont_data (keys (family cat d))) (sym leads) ∙ family_has cat wf ont_data knows;
      }

  pub counter_is_there : has 1 (contents cat t ont_data 0) ≡ true
  counter_is_there = written_is_there ont_data 0 1 ont_data_is_there wf.class_2_has_the_counter.is_W

module _ (cat : Catalogue) (wf : WellFormed cat) (s : State) (legal : legal_state cat s ≡ true) (c i : ℕ) (v : List ℕ) (yes_it_is : Accepted cat s c i v) where
  its_live : LegalLive cat wf s.table
  its_live = (open_state cat wf s legal).its_table

  clear : NoneApplies (results cat s c i v)
  clear = (accepted_is cat s c i v yes_it_is).0

  is_there : There cat s.table c i
  unfolding set_results
  is_there = holds_there cat s.table c i (not-false clear.0)

  -- every attribute that the mask names can be written
  pub what_an_accepted_set_names_can_be_written : (n : ℕ) → among n (asked v) ≡ true → (attribute (class cat c) n).W ≡ true
  unfolding set_results unsupported unwritable
  what_an_accepted_set_names_can_be_written n named =
      let k : Class = class cat c in
      let e = both (not-false clear.1.1.0) in
      let sup : supported k n ≡ true = not-false (not-true (all_among (λ n. not (not (supported k n))) (asked v) (none_of_those (λ n. not (supported k n)) (asked v) e.0) n named)) in
      let w : (supported k n and not (attribute k n).W) ≡ false =
      not-true (all_among (λ n. not (supported k n and not (attribute k n).W)) (asked v) (none_of_those (λ n. supported k n and not (attribute k n).W) (asked v) e.1) n named) in
      cases (attribute k n).W (λ y. y) (λ y. true_false (and_true sup (false_not y)) w)

  -- An accepted Set changes the named attributes: each attribute that the mask names has the content that the Set carries for it. (Of class
  -- 2 too: a Set of the counter stores just what it was sent.)
  pub an_accepted_set_stores_what_it_names : (n : ℕ) → among n (asked v) ≡ true
      → content n (contents cat (table_after cat s c i v) c i) ≡ content n (set_by (class cat c) v)
  unfolding set_by overwritten moved_by_set with_counter content
  an_accepted_set_stores_what_it_names n named =
      let new : Contents = set_by (class cat c) v in
      let f = find_some n new (cut_some (size_of (class cat c)) (asked v) (drop 2 v) n named) in
      let here = written_is_there cat wf s.table its_live c i n is_there (what_an_accepted_set_names_can_be_written n named) in
      let t : Table = overwritten cat s c i v in
      let moved : contents cat (moved_by_set cat c t) c i ≡ contents cat t c i = cases (eqb c ont_data)
      (λ e. rw e refl)
      (λ e. rw e (contents_elsewhere cat t ont_data 0 (overwrite ((1, next_number (counter cat t) ∷ []) ∷ [])) c i (λ p q. eqb_ne c ont_data e p))) in
      ap (λ (x : Table). content n (contents cat x c i)) (table_is cat s c i v yes_it_is)
      ∙ ap (content n) moved
      ∙ named_change cat s.table c i new n f.0 f.1 here
      ∙ sym (ap (λ (o : Option (List ℕ)). given o [] (λ w. w)) f.1)

  -- An accepted Set of another class than 2 moves the sync counter on.
  pub an_accepted_set_moves_the_counter_on : c ≢ 2 → counter cat (table_after cat s c i v) ≡ next_number (counter cat s.table)
  unfolding overwritten moved_by_set with_counter counter number_from find
  an_accepted_set_moves_the_counter_on ne =
      let t : Table = overwritten cat s c i v in
      let same : contents cat t ont_data 0 ≡ contents cat s.table ont_data 0 =
      contents_elsewhere cat s.table c i (overwrite (set_by (class cat c) v)) ont_data 0 (λ p q. ne (sym p)) in
      let there : has 1 (contents cat t ont_data 0) ≡ true = ap (has 1) same ∙ counter_is_there cat wf s.table its_live in
      let x : ℕ = next_number (counter cat t) in
      let moved : moved_by_set cat c t ≡ with_counter cat x t = rw (eqb_false c ont_data ne) refl in
      ap (counter cat) (table_is cat s c i v yes_it_is)
      ∙ ap (counter cat) moved
      ∙ ap number (named_change cat t ont_data 0 ((1, x ∷ []) ∷ []) 1 (x ∷ []) refl there)
      ∙ number_one x
      ∙ ap (λ (r : Contents). next_number (number (content 1 r))) same

  -- A Set of the counter stores just what it was sent.
  pub a_set_of_the_counter_stores_just_what_it_was_sent : c ≡ 2 → i ≡ 0 → among 1 (asked v) ≡ true
      → counter cat (table_after cat s c i v) ≡ number (content 1 (set_by (class cat c) v))
  unfolding counter
  a_set_of_the_counter_stores_just_what_it_was_sent p q named =
      (λ k. number (content 1 (contents cat (table_after cat s c i v) (sym p k) (sym q k)))) ∙ ap number (an_accepted_set_stores_what_it_names 1 named)

-- 254 to 255, 255 to 1
pub the_counter_goes_from_255_to_1 : (next_number 254 ≡ 255) × (next_number 255 ≡ 1)
unfolding next_number
the_counter_goes_from_255_to_1 = (refl, refl)

-- ---- messages

module _ (cat : Catalogue) (s : State) (m : List ℕ) where
  set_or_refused : (c i : ℕ) (v : List ℕ) → byte (answer cat s set_number c i v).1 0 ≡ 0 → answer cat s set_number c i v ≡ set cat s c i v
  unfolding answer perform first_that_applies first_results
  set_or_refused c i v = unless_refused_is (λ a. byte a.1 0 ≡ 0 → a ≡ set cat s c i v) s (first_results cat set_number c) (set cat s c i v)
      (λ r e y. absurd (first_has (λ r. byte r 0 ≢ 0) (first_results cat set_number c)
      ((λ y. over_0 cat s c i v 1), ((λ y. over_0 cat s c i v 3), ((λ y. over_0 cat s c i v 1), tt))) r e y))
      (λ clear y. refl)

  -- A Set as a message, that isn't dropped and is no repeat: if the result in its reply (byte 8) is 0, then it was accepted by the rules of
  -- Set, and the state after it has the table that they leave; so what is proved of an accepted Set holds of the message.
  pub a_set_that_is_answered_0_does_what_the_rules_of_set_say : (r : List ℕ) → first_that_applies (message_drops m) ≡ none → IsNoRepeat s m → message_number m ≡ 8
      → (handle cat s m).1 ≡ answered r → byte r 8 ≡ 0
      → Accepted cat s (class_in m) (instance_in m) (contents_in m)
      × ((handle cat s m).0.table ≡ table_after cat s (class_in m) (instance_in m) (contents_in m))
  unfolding answer_anew remember message_drops
  a_set_that_is_answered_0_does_what_the_rules_of_set_say r d n eight e z =
      let c : ℕ = class_in m in
      let i : ℕ = instance_in m in
      let v : List ℕ = contents_in m in
      let a : Answer = answer cat s (message_number m) c i v in
      let long : length m ≡ 48 = eqb_eq (length m) 48 (not-false (none_applies (message_drops m) d).0) in
      let anew : handle cat s m ≡ answer_anew cat s m = answered_anew cat s m d n in
      let sent_is : reply_to m a.1 ≡ r = ap (λ (x : State × Outcome). sent x.1) (sym anew) ∙ ap sent e in
      let is_8 : a ≡ answer cat s set_number c i v = ap (λ (x : ℕ). answer cat s x c i v) eight in
      let zero_result : byte a.1 0 ≡ 0 = sym (the_result_is_byte_8 m a.1 long) ∙ ap (λ (l : List ℕ). byte l 8) sent_is ∙ z in
      let done_is : a ≡ set cat s c i v = is_8 ∙ set_or_refused c i v (ap (λ (x : Answer). byte x.1 0) (sym is_8) ∙ zero_result) in (
        ap (λ (x : Answer). byte x.1 0) (sym done_is) ∙ zero_result,
        ap (λ (x : State × Outcome). x.0.table) anew ∙ ap (λ (x : Answer). x.0.table) done_is,
      )
