-- Demand 2: what an accepted MIB reset does, and what it leaves as it was.
use Prim.Native.Nat.{ℕ, ◌<◌}
use native.Mathlib.Omega.{arith}
use mathlib.Core.Path.{◌≡◌, refl, sym, ◌∙◌, ap}
use mathlib.Core.Bool.{true, false, cond}
use mathlib.Core.Option.{Option, none, some}
use mathlib.Core.Logic.{◌≢◌}
use mathlib.Core.List.{List, [], ◌∷◌}
use lib.ListN.{replicate}
use Rattle.rules.specs.Maps.{◌or◌, given, find, has, is_some, each, first_that_applies}
use Rattle.rules.specs.Bytes.{byte, number}
use Rattle.rules.specs.Catalogue.{Class, Catalogue, class, attribute, is_stored, is_created, leader, key, ont_data}
use Rattle.rules.specs.State.{Contents, Entry, Table, Alarms, State, entry, holds, contents, content, read, counter, alarms_of, overwrite, change, with_counter}
use Rattle.rules.specs.Legal.{legal_state}
use Rattle.rules.specs.Messages.{message_number, class_in, instance_in, contents_in, message_drops, reset_number, reply_to, Answer}
use Rattle.rules.specs.Reports.{Outcome, answered}
use Rattle.rules.specs.Run.{perform, first_results, answer, remember, answer_anew, handle}
use Rattle.rules.specs.Commands.{first_content, reset_contents, reset_table, stays, was_reset, reset_results, reset}
use Rattle.rules.specs.WellFormed.{WellFormed, rights_only_if_stored}
use Rattle.rules.proofs.Laws.{never, true_false, false_not, or_left, eqb_false, same?, find_each}
use Rattle.rules.proofs.MapLaws.{find_append, find_keep, find_lost, first_has}
use Rattle.rules.proofs.Lookups.{implied, W_supported, attribute_says}
use Rattle.rules.proofs.Standing.{key_class}
use Rattle.legality.proofs.Refusals.{unless_refused_is}
use Rattle.legality.proofs.LegalStates.{open_state}
use Rattle.legality.proofs.Tables.{LegalLive, reset_legal}
use Rattle.legality.proofs.Holds.{has_each, holds_there, there_known, is_created_one, created_alone}
use Rattle.legality.proofs.Counter.{with_counter_legal}
use Rattle.demands.proofs.AccidentOnBytes.{IsNoRepeat, answered_anew}
use Rattle.demands.proofs.Sets.{others_stay, named_change, number_one, written_is_there, counter_is_there}
use Rattle.demands.proofs.Gets.{read_stored}
use Rattle.demands.proofs.Creates.{holds_changed, above_0, answer_0}

-- ---- the contents after a reset

reset_writable : (k : Class) (r : Contents) (n : ℕ) → (attribute k n).W ≡ true → has n r ≡ true → content n (reset_contents k r) ≡ first_content [] (attribute k n).source
unfolding content reset_contents
reset_writable k r n w h = rw (find_each (λ n v. cond (attribute k n).W (first_content [] (attribute k n).source) v) n r) (go (find n r) h)
  where
    go : (o : Option (List ℕ)) → is_some o ≡ true
        → given (given {B = Option (List ℕ)} o none (λ v. some (cond (attribute k n).W (first_content [] (attribute k n).source) v))) [] (λ v. v)
        ≡ first_content [] (attribute k n).source
    go none h = never h
    go (some v) h = rw w refl

reset_other : (k : Class) (r : Contents) (n : ℕ) → (attribute k n).W ≡ false → content n (reset_contents k r) ≡ content n r
unfolding content reset_contents
reset_other k r n w = rw (find_each (λ n v. cond (attribute k n).W (first_content [] (attribute k n).source) v) n r) (go (find n r))
  where
    go : (o : Option (List ℕ))
        → given (given {B = Option (List ℕ)} o none (λ v. some (cond (attribute k n).W (first_content [] (attribute k n).source) v))) [] (λ v. v) ≡ given o [] (λ v. v)
    go none = refl
    go (some v) = rw w refl

module _ (cat : Catalogue) (t : Table) where
  abbrev reset_entry : Entry → Entry
  reset_entry e = each (λ c r. reset_contents (class cat c) r) e

  entry_after_reset : (k : ℕ) → find k t.created ≡ none → entry k (reset_table cat t) ≡ reset_entry (entry k t)
  unfolding entry reset_table find each
  entry_after_reset k gone =
      ap (λ (o : Option Entry). given o [] (λ e. e))
      (find_append k (each (λ k e. reset_entry e) t.automatic) [] ∙ ap (λ (o : Option Entry). given o none some) (find_each (λ k e. reset_entry e) k t.automatic))
      ∙ go (find k t.automatic)
      ∙ sym (ap (λ (o : Option Entry). reset_entry (given o [] (λ e. e))) (find_append k t.automatic t.created ∙ ap (λ (o : Option Entry). given (find k t.automatic) o some) gone))
    where
      go : (o : Option Entry)
          → given (given {B = Option Entry} (given {B = Option Entry} o none (λ e. some (reset_entry e))) none some) [] (λ e. e)
          ≡ reset_entry (given (given {B = Option Entry} o none some) [] (λ e. e))
      go none = refl
      go (some e) = refl

  contents_after_reset : (d j : ℕ) → find (key (leader cat d) j) t.created ≡ none → contents cat (reset_table cat t) d j ≡ reset_contents (class cat d) (contents cat t d j)
  unfolding contents reset_contents each
  contents_after_reset d j gone =
      let k : ℕ = key (leader cat d) j in
      ap (λ (e : Entry). given (find d e) [] (λ r. r)) (entry_after_reset k gone)
      ∙ ap (λ (o : Option Contents). given o [] (λ r. r)) (find_each (λ c r. reset_contents (class cat c) r) d (entry k t))
      ∙ go (find d (entry k t))
    where
      go : (o : Option Contents)
          → given (given {B = Option Contents} o none (λ r. some (reset_contents (class cat d) r))) [] (λ r. r) ≡ reset_contents (class cat d) (given o [] (λ r. r))
      go none = refl
      go (some r) = refl

-- ---- an accepted reset

module _ (cat : Catalogue) (s : State) (c i : ℕ) where
  -- the result in its reply is 0
  abbrev pub ResetAccepted : Type 0
  ResetAccepted = byte (reset cat s c i).1 0 ≡ 0

  -- the state after it
  abbrev pub after_reset : State
  after_reset = (reset cat s c i).0

  reset_is : ResetAccepted → after_reset ≡ was_reset cat s
  unfolding reset reset_results
  reset_is y = ap (λ (a : Answer). a.0) (unless_refused_is (λ a. byte a.1 0 ≡ 0 → a ≡ (was_reset cat s, 0 ∷ [])) s (reset_results cat s c i) _
      (λ r e y. absurd (first_has (λ r. byte r 0 ≢ 0) (reset_results cat s c i) ((λ y. above_0 cat s c i [] 4), tt) r e y))
      (λ clear y. refl) y)

-- In a legal state of any well-formed catalogue:
module _ (cat : Catalogue) (wf : WellFormed cat) (s : State) (legal : legal_state cat s ≡ true) (c i : ℕ) (yes : ResetAccepted cat s c i) where
  before_reset : LegalLive cat wf s.table
  before_reset = (open_state cat wf s legal).its_table

  reset_is_legal : LegalLive cat wf (reset_table cat s.table)
  reset_is_legal = reset_legal cat wf s.table before_reset

  table_is : (after_reset cat s c i).table ≡ with_counter cat 0 (reset_table cat s.table)
  unfolding was_reset
  table_is = ap (λ (x : State). x.table) (reset_is cat s c i yes)

  -- After an accepted reset, the list of created instances is empty.
  pub a_reset_leaves_no_created_entry : (after_reset cat s c i).table.created ≡ []
  unfolding with_counter change reset_table each
  a_reset_leaves_no_created_entry = ap (λ (t : Table). t.created) table_is

  -- After an accepted reset, no created instance, and none that came with one, is there.
  pub a_reset_leaves_no_created_instance : (d j : ℕ) → j < 65536 → is_created (class cat (leader cat d)).creation ≡ true → holds cat (after_reset cat s c i).table d j ≡ false
  unfolding holds entry find
  a_reset_leaves_no_created_instance d j small cr =
      let k : ℕ = key (leader cat d) j in
      let t : Table = with_counter cat 0 (reset_table cat s.table) in
      let l : LegalLive cat wf t = with_counter_legal cat wf 0 (reset_table cat s.table) (omega arith) reset_is_legal in
      let a : find k t.automatic ≡ none = created_alone cat wf t l k (rw (key_class (leader cat d) j small) cr) in
      let b : find k t.created ≡ none = ap (find k) (ap (λ (t : Table). t.created) (sym table_is) ∙ a_reset_leaves_no_created_entry) in
      ap (λ (t : Table). holds cat t d j) table_is
      ∙ ap (λ (o : Option Entry). has d (given o [] (λ e. e))) (find_append k t.automatic t.created ∙ ap (λ (o : Option Entry). given o (find k t.created) some) a ∙ b)

  module _ (d j : ℕ) (small : j < 65536) (stay : is_created (class cat (leader cat d)).creation ≡ false) where
    not_created : find (key (leader cat d) j) s.table.created ≡ none
    not_created = go (find (key (leader cat d) j) s.table.created) refl
      where
        go : (o : Option Entry) → find (key (leader cat d) j) s.table.created ≡ o → find (key (leader cat d) j) s.table.created ≡ none
        go none e = e
        go (some x) e = true_false (is_created_one cat wf s.table before_reset (key (leader cat d) j) x e) (rw (key_class (leader cat d) j small) stay)

    -- An accepted reset takes no instance that wasn't created, and brings none: each is there after it exactly if it was there before.
    pub a_reset_takes_created_instances_alone : holds cat (after_reset cat s c i).table d j ≡ holds cat s.table d j
    unfolding holds with_counter
    a_reset_takes_created_instances_alone =
        let t : Table = reset_table cat s.table in
        ap (λ (t : Table). holds cat t d j) table_is
        ∙ holds_changed cat t ont_data 0 (overwrite ((1, 0 ∷ []) ∷ [])) d j
        ∙ ap (has d) (entry_after_reset cat s.table (key (leader cat d) j) not_created)
        ∙ has_each (λ c r. reset_contents (class cat c) r) d (entry (key (leader cat d) j) s.table)

    not_the_counter : (n : ℕ) → (d ≡ 2 → j ≡ 0 → n ≢ 1)
        → content n (contents cat (after_reset cat s c i).table d j) ≡ content n (reset_contents (class cat d) (contents cat s.table d j))
    unfolding with_counter find
    not_the_counter n h =
        ap (λ (t : Table). content n (contents cat t d j)) table_is
        ∙ others_stay cat (reset_table cat s.table) ont_data 0 ((1, 0 ∷ []) ∷ []) d j n (λ p q. rw (eqb_false n 1 (h p q)) refl)
        ∙ ap (content n) (contents_after_reset cat s.table d j not_created)

    -- After an accepted reset, every other stored attribute of an instance that stays reads as before: what isn't W.
    pub a_reset_keeps_what_is_not_W : (n : ℕ) → is_stored (attribute (class cat d) n).source ≡ true → (attribute (class cat d) n).W ≡ false
        → read cat (after_reset cat s c i).table d j n ≡ read cat s.table d j n
    a_reset_keeps_what_is_not_W n st w =
        read_stored cat (after_reset cat s c i).table d j n st
        ∙ not_the_counter n (λ p q r. true_false wf.class_2_has_the_counter.is_W ((λ k. (attribute (class cat (sym p k)) (sym r k)).W) ∙ w))
        ∙ reset_other (class cat d) (contents cat s.table d j) n w
        ∙ sym (read_stored cat s.table d j n st)

  counter_content : content 1 (contents cat (after_reset cat s c i).table ont_data 0) ≡ 0 ∷ []
  unfolding with_counter find
  counter_content =
      ap (λ (t : Table). content 1 (contents cat t ont_data 0)) table_is
      ∙ named_change cat (reset_table cat s.table) ont_data 0 ((1, 0 ∷ []) ∷ []) 1 (0 ∷ []) refl (counter_is_there cat wf (reset_table cat s.table) reset_is_legal)

  -- After an accepted reset, the sync counter is 0.
  pub a_reset_sets_the_counter_to_0 : counter cat (after_reset cat s c i).table ≡ 0
  unfolding counter
  a_reset_sets_the_counter_to_0 = ap number counter_content ∙ number_one 0

  -- After an accepted reset, every W attribute of an instance that stays reads its first content.
  pub a_reset_gives_what_is_W_its_first_content : (d j n : ℕ) → is_created (class cat (leader cat d)).creation ≡ false → holds cat s.table d j ≡ true
      → (attribute (class cat d) n).W ≡ true → read cat (after_reset cat s c i).table d j n ≡ first_content [] (attribute (class cat d) n).source
  unfolding rights_only_if_stored first_content
  a_reset_gives_what_is_W_its_first_content d j n stay there w =
      let x = holds_there cat s.table d j there in
      let small : j < 65536 = (there_known cat wf s.table before_reset d j x).small in
      let st : is_stored (attribute (class cat d) n).source ≡ true = implied (attribute_says rights_only_if_stored cat wf.rights_if_stored d n (W_supported (class cat d) n w))
      (or_left ((attribute (class cat d) n).C or (attribute (class cat d) n).L) w) in
      let plain : (d ≡ 2 → j ≡ 0 → n ≢ 1) → content n (contents cat (after_reset cat s c i).table d j) ≡ first_content [] (attribute (class cat d) n).source =
      λ h. not_the_counter d j small stay n h ∙ reset_writable (class cat d) (contents cat s.table d j) n w (written_is_there cat wf s.table before_reset d j n x w) in
      read_stored cat (after_reset cat s c i).table d j n st
      ∙ same? d 2
      (λ p. same? j 0
      (λ q. same? n 1
      (λ r. (λ k. content (r k) (contents cat (after_reset cat s c i).table (p k) (q k)))
      ∙ counter_content
      ∙ ap (first_content []) (sym wf.class_2_has_the_counter.starts_at_0)
      ∙ (λ k. first_content [] (attribute (class cat (sym p k)) (sym r k)).source))
      (λ r. plain (λ u v. r)))
      (λ q. plain (λ u v. absurd (q v))))
      (λ p. plain (λ u. absurd (p u)))

  -- After an accepted reset, neither walk is begun.
  pub a_reset_ends_both_walks : ((after_reset cat s c i).upload ≡ none) × ((after_reset cat s c i).walk ≡ none)
  unfolding was_reset
  a_reset_ends_both_walks = (ap (λ (x : State). x.upload) (reset_is cat s c i yes), ap (λ (x : State). x.walk) (reset_is cat s c i yes))

  -- After an accepted reset, the alarm number is as before.
  pub a_reset_keeps_the_alarm_number : (after_reset cat s c i).alarm_number ≡ s.alarm_number
  unfolding was_reset
  a_reset_keeps_the_alarm_number = ap (λ (x : State). x.alarm_number) (reset_is cat s c i yes)

  -- After an accepted reset, the alarms of an instance that stays are as before.
  pub a_reset_keeps_the_alarms_of_what_stays : (d j : ℕ) → j < 65536 → is_created (class cat (leader cat d)).creation ≡ false
      → alarms_of (key d j) (after_reset cat s c i).alarms ≡ alarms_of (key d j) s.alarms
  unfolding was_reset alarms_of
  a_reset_keeps_the_alarms_of_what_stays d j small stay =
      ap (λ (x : State). alarms_of (key d j) x.alarms) (reset_is cat s c i yes)
      ∙ ap (λ (o : Option Alarms). given o (replicate 224 false) (λ b. b)) (find_keep (stays cat) (key d j) s.alarms (rw (key_class d j small) (false_not stay)))

  -- After an accepted reset, there is no alarm of an instance that went.
  pub a_reset_takes_the_alarms_of_what_goes : (d j : ℕ) → j < 65536 → is_created (class cat (leader cat d)).creation ≡ true
      → alarms_of (key d j) (after_reset cat s c i).alarms ≡ replicate 224 false
  unfolding was_reset alarms_of
  a_reset_takes_the_alarms_of_what_goes d j small goes =
      ap (λ (x : State). alarms_of (key d j) x.alarms) (reset_is cat s c i yes)
      ∙ ap (λ (o : Option Alarms). given o (replicate 224 false) (λ b. b)) (find_lost (stays cat) (key d j) s.alarms (rw (key_class d j small) (rw goes refl)))

-- ---- messages

reset_or_refused : (cat : Catalogue) (s : State) (c i : ℕ) (v : List ℕ) → byte (answer cat s reset_number c i v).1 0 ≡ 0 → answer cat s reset_number c i v ≡ reset cat s c i
unfolding answer perform first_that_applies first_results
reset_or_refused cat s c i v = unless_refused_is (λ a. byte a.1 0 ≡ 0 → a ≡ reset cat s c i) s (first_results cat reset_number c) (reset cat s c i)
    (λ r e y. absurd (first_has (λ r. byte r 0 ≢ 0) (first_results cat reset_number c)
    ((λ y. above_0 cat s c i v 1), ((λ y. above_0 cat s c i v 3), ((λ y. above_0 cat s c i v 1), tt))) r e y))
    (λ clear y. refl)

-- A MIB reset as a message, that isn't dropped and is no repeat: if the result in its reply (byte 8) is 0, then it was accepted by the rules of
-- the reset, and the state after it is what they leave, with the message remembered; so what is proved above holds of the message.
pub a_reset_that_is_answered_0_does_what_the_rules_of_reset_say : (cat : Catalogue) (wf : WellFormed cat) (s : State) (m r : List ℕ)
    → first_that_applies (message_drops m) ≡ none → IsNoRepeat s m → (handle cat s m).1 ≡ answered r → byte r 8 ≡ 0 → message_number m ≡ 15
    → ResetAccepted cat s (class_in m) (instance_in m)
    × ((handle cat s m).0 ≡ remember m (reply_to m (reset cat s (class_in m) (instance_in m)).1) (after_reset cat s (class_in m) (instance_in m)))
unfolding answer_anew
a_reset_that_is_answered_0_does_what_the_rules_of_reset_say cat wf s m r d n e z fifteen =
    let c : ℕ = class_in m in
    let i : ℕ = instance_in m in
    let v : List ℕ = contents_in m in
    let a : Answer = answer cat s (message_number m) c i v in
    let zero_result : byte a.1 0 ≡ 0 = answer_0 cat wf s m r d n e z in
    let is_15 : a ≡ answer cat s reset_number c i v = ap (λ (x : ℕ). answer cat s x c i v) fifteen in
    let done_is : a ≡ reset cat s c i = is_15 ∙ reset_or_refused cat s c i v (ap (λ (x : Answer). byte x.1 0) (sym is_15) ∙ zero_result) in (
      ap (λ (x : Answer). byte x.1 0) (sym done_is) ∙ zero_result,
      ap (λ (x : State × Outcome). x.0) (answered_anew cat s m d n) ∙ ap (λ (x : Answer). remember m (reply_to m x.1) x.0) done_is,
    )
