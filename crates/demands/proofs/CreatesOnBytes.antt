-- Demand 2 on lent bytes: what an accepted Create and an accepted Delete do to the state in a store, and that they change no other stored attribute,
-- instance, alarm, alarm number or walk. (The command is remembered, and an attribute that isn't stored, such as a bridge's port count, may read
-- otherwise.) Class and instance are bytes 4 to 7 of the message, the result is byte 8 of the reply, and what was sent are the message's bytes from
-- byte 8 on.
use Prim.Native.Nat.{ℕ, ◌<◌}
use native.Mathlib.Omega.{arith}
use mathlib.Core.Path.{◌≡◌, refl, sym, ◌∙◌, ap}
use mathlib.Core.Bool.{Bool, true, false, not, cond}
use mathlib.Core.Option.{Option, none, some}
use mathlib.Core.Logic.{◌≢◌}
use mathlib.Core.List.{List, [], ◌∷◌}
use lib.ListN.{replicate}
use lib.Dec.{eqb}
use Rattle.rules.specs.Maps.{◌and◌, Map, given, find, has, keep, remove, among, first_that_applies}
use Rattle.rules.specs.Bytes.{byte}
use Rattle.rules.specs.Catalogue.{constant, copied, Source, stored, Attribute, Class, Catalogue, class, attribute, supported, size_of, is_stored, is_created, carried_numbers, leader, key}
use Rattle.rules.specs.State.{Alarms, Contents, Entry, Table, Memory, State, class_of, number_of, entry, holds, content, read, counter, alarms_of, with_table, with_alarms, with_memory}
use Rattle.rules.specs.Legal.{legal_bitmap, legal_bitmaps}
use Rattle.rules.specs.Messages.{contents_in, reply_to, Answer}
use Rattle.rules.specs.Run.{perform, remember, message}
use Rattle.rules.specs.Commands.{first_content, new_contents, new_entry, carried_by, create_results, create, goes_with, without, delete_results, delete}
use Rattle.rules.specs.Products.{Products}
use Rattle.rules.specs.WellFormed.{WellFormed}
use Rattle.rules.proofs.Laws.{cases, true_false, both, not-false, false_not, and_true, bool_eq, eqb_true, eqb_eq, every_find}
use Rattle.rules.proofs.MapLaws.{Up, rising_up, rising_keep, find_remove, find_keep, find_lost}
use Rattle.rules.proofs.Lookups.{C_supported, created_known}
use Rattle.rules.proofs.ByteLaws.{two_small}
use Rattle.rules.proofs.Standing.{key_class, key_number}
use Rattle.legality.proofs.LegalStates.{open_state}
use Rattle.legality.proofs.Tables.{LegalLive}
use Rattle.legality.proofs.NewContents.{C_is_stored, attributes_in_order}
use Rattle.legality.proofs.Carried.{carried_is_C, C_in_carried}
use Rattle.demands.proofs.Carried.{carried_fits}
use Rattle.store.specs.Decode.{Held}
use Rattle.store.specs.Fitting.{AllFit}
use Rattle.demands.specs.Sent.{number_at, sent_in_create}
use Rattle.demands.specs.Counting.{OneOn, sync_counter}
use Rattle.demands.proofs.SentLaws.{cut_from_a_message}
use Rattle.demands.proofs.AnsweredOnBytes.{AnsweredAnew, LeavesAStateThat, its_catalogue_is_well_formed, its_state_is_legal, its_result, its_store}
use Rattle.demands.proofs.NotRefused.{above_0, not_refused, does_its_own}
use Rattle.demands.proofs.Counting.{one_on_if_next}
use Rattle.demands.proofs.EntryChanged.{none_with_it, changed, its_entry, others_held, others_read, counter_on, with_entry, with_entry_elsewhere, made_is_there, made_reads}
use Rattle.demands.proofs.Creates.{removed, leads, created_if_create, created_if_delete}

-- ---- what is said

-- Instance j of class d is neither the one that the message m names nor one that comes with it. (Every instance's number has two bytes.)
abbrev pub IsAnother : Catalogue → List ℕ → ℕ → ℕ → Type 0
IsAnother cat m d j = (j < 65536) × (leader cat d ≡ number_at m 4 → j ≡ number_at m 6 → ⊥)

-- What a Create and a Delete leave as it was, where the message m makes the state t of the state s; and the counter.
pub record LeavesTheRest (cat : Catalogue) (m : List ℕ) (s t : State) : Type 0 where
  pub no_other_comes_or_goes : (d j : ℕ) → IsAnother cat m d j → holds cat t.table d j ≡ holds cat s.table d j
  -- attribute 1 of instance 0 of class 2 is the counter
  pub others_read_as_before : (d j n : ℕ) → IsAnother cat m d j → is_stored (attribute (class cat d) n).source ≡ true → (d ≡ 2 → j ≡ 0 → n ≢ 1)
      → read cat t.table d j n ≡ read cat s.table d j n
  pub the_counter_is_one_on : OneOn (sync_counter cat s) (sync_counter cat t)
  -- the alarm number and both walks are as they were: all but the table, the alarms and what is remembered
  pub nothing_else_changes : t ≡ with_memory t.remembered (with_table t.table (with_alarms t.alarms s))

-- What an accepted Create m has done: s is the state before it, t the state after it.
pub record Created (cat : Catalogue) (m : List ℕ) (s t : State) : Type 0 where
  pub its_class_can_be_created : is_created (class cat (number_at m 4)).creation ≡ true
  pub it_was_not_there : holds cat s.table (number_at m 4) (number_at m 6) ≡ false
  pub it_is_there : holds cat t.table (number_at m 4) (number_at m 6) ≡ true
  -- it, and each that comes with it
  pub those_with_it_were_not_there : (d : ℕ) → leader cat d ≡ number_at m 4 → holds cat s.table d (number_at m 6) ≡ false
  pub those_with_it_are_there : (d : ℕ) → leader cat d ≡ number_at m 4 → holds cat t.table d (number_at m 6) ≡ true
  -- each set-by-create attribute has what was sent for it
  pub it_has_what_was_sent : (n : ℕ) → (attribute (class cat (number_at m 4)) n).C ≡ true
      → read cat t.table (number_at m 4) (number_at m 6) n ≡ sent_in_create (class cat (number_at m 4)) m n
  -- each other stored attribute, of it and of those that come with it, has its first content: the catalogue's constant, or a copy of
  -- what was sent for attribute p
  pub the_others_have_their_constant : (d n : ℕ) (v : List ℕ) → leader cat d ≡ number_at m 4 → supported (class cat d) n ≡ true → (attribute (class cat d) n).C ≡ false
      → (attribute (class cat d) n).source ≡ stored (constant v) → read cat t.table d (number_at m 6) n ≡ v
  pub the_others_have_their_copy : (d n p : ℕ) → leader cat d ≡ number_at m 4 → supported (class cat d) n ≡ true → (attribute (class cat d) n).C ≡ false
      → (attribute (class cat d) n).source ≡ stored (copied p) → read cat t.table d (number_at m 6) n ≡ sent_in_create (class cat (number_at m 4)) m p
  pub no_alarm_of_them_is_on : (d : ℕ) → leader cat d ≡ number_at m 4 → alarms_of (key d (number_at m 6)) t.alarms ≡ replicate 224 false
  pub the_alarms_stay : t.alarms ≡ s.alarms
  pub the_rest : LeavesTheRest cat m s t

-- What becomes of the alarms when the instance that the message m names goes, with those that came with it.
pub record TakesItsAlarms (cat : Catalogue) (m : List ℕ) (before after : Map Alarms) : Type 0 where
  pub no_alarm_of_them_is_on : (d : ℕ) → leader cat d ≡ number_at m 4 → alarms_of (key d (number_at m 6)) after ≡ replicate 224 false
  pub other_alarms_stay : (d j : ℕ) → IsAnother cat m d j → alarms_of (key d j) after ≡ alarms_of (key d j) before

-- What an accepted Delete m has done: s is the state before it, t the state after it.
pub record Deleted (cat : Catalogue) (m : List ℕ) (s t : State) : Type 0 where
  pub its_class_can_be_created : is_created (class cat (number_at m 4)).creation ≡ true
  pub it_was_there : holds cat s.table (number_at m 4) (number_at m 6) ≡ true
  pub it_is_gone : holds cat t.table (number_at m 4) (number_at m 6) ≡ false
  -- it, and each that came with it
  pub those_with_it_are_gone : (d : ℕ) → leader cat d ≡ number_at m 4 → holds cat t.table d (number_at m 6) ≡ false
  -- in catalogues that fit the store no created instance has alarms, nor one that comes with it: `BeyondTheStore` says it of any catalogue
  pub its_alarms_go : TakesItsAlarms cat m s.alarms t.alarms
  pub the_rest : LeavesTheRest cat m s t

-- ---- laws

module _ (cat : Catalogue) (wf : WellFormed cat) (c : ℕ) where
  -- the numbers that a Create carries are those of the set-by-create attributes, rising
  carried_are : is_created (class cat c).creation ≡ true → (n : ℕ) → among n (carried_numbers (class cat c)) ≡ (attribute (class cat c) n).C
  carried_are cr n = bool_eq (among n (carried_numbers (class cat c))) (attribute (class cat c) n).C
      (carried_is_C (class cat c) (attributes_in_order cat wf c (created_known cat c cr)) n)
      (C_in_carried cat wf (class cat c) n)

  carried_rise : is_created (class cat c).creation ≡ true → Up 0 (carried_numbers (class cat c))
  unfolding carried_numbers
  carried_rise cr = rising_up (carried_numbers (class cat c)) (rising_keep (λ n a. a.C) (class cat c).attributes (attributes_in_order cat wf c (created_known cat c cr)))

  -- what a first content is copied from is set by create
  copied_is_C : (d n p : ℕ) → leader cat d ≡ c → supported (class cat d) n ≡ true → (attribute (class cat d) n).C ≡ false
      → (attribute (class cat d) n).source ≡ stored (copied p) → (attribute (class cat c) p).C ≡ true
  copied_is_C d n p l there not_C src =
      let f = rw src at (wf.first_contents_are_legal d n there not_C) in
      ap (λ (b : ℕ). (attribute (class cat b) p).C) (sym l) ∙ f.1

-- where an instance isn't there, it has no alarm
no_alarm_if_absent : (cat : Catalogue) (s : State) → legal_bitmaps cat (holds cat s.table) s.alarms ≡ true → (d i : ℕ) → i < 65536
    → holds cat s.table d i ≡ false → alarms_of (key d i) s.alarms ≡ replicate 224 false
unfolding alarms_of legal_bitmaps
no_alarm_if_absent cat s legal d i small absent = go (find (key d i) s.alarms) refl
  where
    go : (o : Option Alarms) → find (key d i) s.alarms ≡ o → given o (replicate 224 false) (λ b. b) ≡ replicate 224 false
    go none e = refl
    go (some b) e =
        let there = (both (every_find (λ k b. holds cat s.table (class_of k) (number_of k) and legal_bitmap (class cat (class_of k)) b) s.alarms
        (both legal).1 (key d i) b e)).0 in
        true_false ((λ k. holds cat s.table (sym (key_class d i small) k) (sym (key_number d i small) k)) ∙ there) absent

-- where the alarms are kept of all but the instance that m names and those that come with it
pub their_alarms_go : (cat : Catalogue) (m : List ℕ) → number_at m 6 < 65536 → (a : Map Alarms)
    → TakesItsAlarms cat m a (keep (λ j b. not (goes_with cat (number_at m 4) (number_at m 6) j)) a)
unfolding goes_with alarms_of
their_alarms_go cat m small a = record {
  no_alarm_of_them_is_on = λ d led. ap (λ (o : Option Alarms). given o (replicate 224 false) (λ b. b)) (find_lost (λ j. not (goes j)) (key d i) a
      (ap not (and_true (eqb_true (leader cat (class_of (key d i))) c (ap (leader cat) (key_class d i small) ∙ led)) (eqb_true (number_of (key d i)) i (key_number d i small)))));
  other_alarms_stay = λ d j o. ap (λ (x : Option Alarms). given x (replicate 224 false) (λ b. b)) (find_keep (λ j. not (goes j)) (key d j) a
      (cases (goes (key d j))
      (λ y. absurd (o.1 (ap (leader cat) (sym (key_class d j o.0)) ∙ eqb_eq (leader cat (class_of (key d j))) c (both y).0)
      (sym (key_number d j o.0) ∙ eqb_eq (number_of (key d j)) i (both y).1)))
      (λ y. false_not y)));
}
  where
    c : ℕ
    c = number_at m 4

    i : ℕ
    i = number_at m 6

    goes : ℕ → Bool
    goes j = eqb (leader cat (class_of j)) c and eqb (number_of j) i

-- where an entry is empty, neither its instance is there nor one that comes with it
gone_with_its_entry : (cat : Catalogue) (t : Table) (c i : ℕ) → entry (key c i) t ≡ [] → (d : ℕ) → leader cat d ≡ c → holds cat t d i ≡ false
unfolding holds find
gone_with_its_entry cat t c i e d l = ap (λ (b : ℕ). has d (entry (key b i) t)) l ∙ ap (has d) e

-- what stays, whatever the created entries are under one key, and whatever the alarms and the memory
module _ (cat : Catalogue) (wf : WellFormed cat) (s : State) (legal : LegalLive cat wf s.table) (m : List ℕ) (cr : is_created (class cat (number_at m 4)).creation ≡ true)
    (small : number_at m 6 < 65536) (new : Map Entry) (same : (k : ℕ) → k ≢ key (number_at m 4) (number_at m 6) → find k new ≡ find k s.table.created) where
  rest_stays : (alarms : Map Alarms) (memory : Option Memory)
      → LeavesTheRest cat m s (with_memory memory (with_table (changed cat wf s.table legal (number_at m 4) (number_at m 6) cr small new) (with_alarms alarms s)))
  rest_stays alarms memory = record {
    no_other_comes_or_goes = λ d j o. others_held cat wf s.table legal (number_at m 4) (number_at m 6) cr small new same d j o.0 o.1;
    others_read_as_before = λ d j n o. others_read cat wf s.table legal (number_at m 4) (number_at m 6) cr small new same d j n o.0 o.1;
    the_counter_is_one_on = unfold counter in one_on_if_next (counter cat s.table) _ (counter_on cat wf s.table legal (number_at m 4) (number_at m 6) cr small new same);
    nothing_else_changes = refl;
  }

-- ---- the theorems

-- In both proofs the steps that open the rules stand before `its_store`. Where a rule is wrong `its_store` is lost too, since the laws of legal states
-- open the same rules; the order only decides which of the two the checker names.

-- An accepted Create (its result, byte 8 of the reply, is 0) makes the instance that the message names, with those that come with it, gives each
-- set-by-create attribute the bytes that were sent for it and each other stored one its first content, and moves the counter on; its class is one that
-- can be created. It changes no other stored attribute, instance, alarm, alarm number or walk.
pub what_an_accepted_create_does : (products : Products) (fit : AllFit products) (store m buffer r : List ℕ) (h : Held) → AnsweredAnew products 4 store m buffer r h
    → byte r 8 ≡ 0 → LeavesAStateThat products (message m) store buffer h (Created h.catalogue m h.state)
unfolding perform first_that_applies create create_results carried_by new_entry new_contents first_content remember
what_an_accepted_create_does products fit store m buffer r h a result_0 =
    let cat : Catalogue = h.catalogue in
    let s : State = h.state in
    let c : ℕ = number_at m 4 in
    let i : ℕ = number_at m 6 in
    let k : Class = class cat c in
    let wf : WellFormed cat = its_catalogue_is_well_formed products fit 4 store m buffer r h a in
    let zero_result = sym (its_result products 4 store m buffer r h a) ∙ result_0 in
    let passed = does_its_own cat s 4 c i (contents_in m) (create cat s c i (contents_in m)) refl zero_result in
    let cr : is_created k.creation ≡ true = created_if_create cat wf s c i [] passed.0 in
    let carried : Contents = carried_by k (contents_in m) in
    let make : ℕ → Attribute → List ℕ = λ n b. cond b.C (content n carried) (first_content carried b.source) in
    let legal = open_state cat wf s (its_state_is_legal products 4 store m buffer r h a) in
    let l : LegalLive cat wf s.table = legal.its_table in
    let small : i < 65536 = two_small m 6 a.of_bytes in
    let new : Map Entry = with_entry cat wf s.table l c i cr small make in
    let after : Table = changed cat wf s.table l c i cr small new in
    let done = not_refused s (create_results cat s c i (contents_in m)) (with_table after s, 0 ∷ [])
    ((λ y. above_0 6), ((λ y. above_0 2), ((λ y. above_0 0), tt)))
    (ap (λ (x : Answer). byte x.1 0) (sym passed.1) ∙ zero_result) in
    let t : State = remember m (reply_to m (0 ∷ [])) (with_table after s) in
    let itself : leader cat c ≡ c = leads cat wf c i cr small in
    let same = with_entry_elsewhere cat wf s.table l c i cr small make in
    let absent = none_with_it cat wf s.table l c i cr small done.0.0 in
    let there = made_is_there cat wf s.table l c i cr small make in
    let sent : (n : ℕ) → (attribute k n).C ≡ true → content n carried ≡ sent_in_create k m n =
    λ n y. cut_from_a_message (size_of k) (λ n. (attribute k n).C) 0 (carried_numbers k) m 0 (carried_rise cat wf c cr) (carried_are cat wf c cr)
    (let z = carried_fits cat wf c n y in omega arith) n (carried_are cat wf c cr n ∙ y) in
    let reads = made_reads cat wf s.table l c i cr small make in
    let first : (d n : ℕ) (src : Source) → leader cat d ≡ c → supported (class cat d) n ≡ true → (attribute (class cat d) n).C ≡ false → is_stored src ≡ true
    → (attribute (class cat d) n).source ≡ src → read cat after d i n ≡ first_content carried src =
    λ d n src led sup not_C st e. reads d n led sup (ap is_stored e ∙ st)
    ∙ ap (λ (b : Bool). cond b (content n carried) (first_content carried (attribute (class cat d) n).source)) not_C
    ∙ ap (first_content carried) e in (
      t,
      its_store products fit 4 store m buffer r h a
          ∙ ap (λ (x : Answer). some (record { product = h.product; catalogue = cat; state = remember m (reply_to m x.1) x.0 })) (passed.1 ∙ done.1),
      record {
        its_class_can_be_created = cr;
        it_was_not_there = done.0.0;
        it_is_there = there c itself;
        those_with_it_were_not_there = absent;
        those_with_it_are_there = there;
        it_has_what_was_sent = λ n y. reads c n itself (C_supported k n y) (C_is_stored cat wf c n y)
            ∙ ap (λ (b : Bool). cond b (content n carried) (first_content carried (attribute k n).source)) y ∙ sent n y;
        the_others_have_their_constant = λ d n v led sup not_C e. first d n (stored (constant v)) led sup not_C refl e;
        the_others_have_their_copy = λ d n p led sup not_C e. first d n (stored (copied p)) led sup not_C refl e ∙ sent p (copied_is_C cat wf c d n p led sup not_C e);
        no_alarm_of_them_is_on = λ d led. no_alarm_if_absent cat s legal.its_alarms d i small (absent d led);
        the_alarms_stay = refl {a = s.alarms};
        the_rest = rest_stays cat wf s l m cr small new same s.alarms t.remembered;
      },
    )

-- An accepted Delete takes the instance that the message names, with those that came with it and their alarms, and moves the counter on; its class is one
-- that can be created. It changes no other stored attribute, instance, alarm, alarm number or walk.
pub what_an_accepted_delete_does : (products : Products) (fit : AllFit products) (store m buffer r : List ℕ) (h : Held) → AnsweredAnew products 6 store m buffer r h
    → byte r 8 ≡ 0 → LeavesAStateThat products (message m) store buffer h (Deleted h.catalogue m h.state)
unfolding perform first_that_applies delete delete_results without remember
what_an_accepted_delete_does products fit store m buffer r h a result_0 =
    let cat : Catalogue = h.catalogue in
    let s : State = h.state in
    let c : ℕ = number_at m 4 in
    let i : ℕ = number_at m 6 in
    let wf : WellFormed cat = its_catalogue_is_well_formed products fit 6 store m buffer r h a in
    let zero_result = sym (its_result products 6 store m buffer r h a) ∙ result_0 in
    let passed = does_its_own cat s 6 c i (contents_in m) (delete cat s c i) refl zero_result in
    let cr : is_created (class cat c).creation ≡ true = created_if_delete cat wf s c i [] passed.0 in
    let l : LegalLive cat wf s.table = (open_state cat wf s (its_state_is_legal products 6 store m buffer r h a)).its_table in
    let small : i < 65536 = two_small m 6 a.of_bytes in
    let new : Map Entry = remove (key c i) s.table.created in
    let after : Table = changed cat wf s.table l c i cr small new in
    let left : Map Alarms = keep (λ j b. not (goes_with cat c i j)) s.alarms in
    let done = not_refused s (delete_results cat s c i) (with_table after (with_alarms left s), 0 ∷ []) ((λ y. above_0 4), tt)
    (ap (λ (x : Answer). byte x.1 0) (sym passed.1) ∙ zero_result) in
    let t : State = remember m (reply_to m (0 ∷ [])) (with_table after (with_alarms left s)) in
    let same : (k : ℕ) → k ≢ key c i → find k new ≡ find k s.table.created = λ k ne. find_remove k (key c i) s.table.created ne in
    let gone : (d : ℕ) → leader cat d ≡ c → holds cat after d i ≡ false = gone_with_its_entry cat after c i
    (its_entry cat wf s.table l c i cr small new none (removed (key c i) s.table.created)) in (
      t,
      its_store products fit 6 store m buffer r h a
          ∙ ap (λ (x : Answer). some (record { product = h.product; catalogue = cat; state = remember m (reply_to m x.1) x.0 })) (passed.1 ∙ done.1),
      record {
        its_class_can_be_created = cr;
        it_was_there = not-false done.0.0;
        it_is_gone = gone c (leads cat wf c i cr small);
        those_with_it_are_gone = gone;
        its_alarms_go = their_alarms_go cat m small s.alarms;
        the_rest = rest_stays cat wf s l m cr small new same left t.remembered;
      },
    )
