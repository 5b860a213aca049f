-- A table whose created entries change under one key, and whose counter then moves on: what is there under that key, and that all else is as it
-- was. The laws don't say what is put there: a new entry, or none.
use Prim.Native.Nat.{ℕ, ◌<◌}
use native.Mathlib.Omega.{arith}
use mathlib.Core.Path.{◌≡◌, refl, sym, ◌∙◌, ap}
use mathlib.Core.Bool.{Bool, true, false, cond}
use mathlib.Core.Option.{Option, none, some}
use mathlib.Core.Logic.{◌≢◌}
use mathlib.Core.List.{List, []}
use lib.Dec.{eqb}
use Rattle.rules.specs.Maps.{Map, given, find, has, keys, keep, each, put, among}
use Rattle.rules.specs.Catalogue.{Attribute, Class, Catalogue, class, attribute, supported, family, is_stored, is_created, lead, leader, key, ont_data}
use Rattle.rules.specs.State.{class_of, Contents, Entry, Table, entries, entry, holds, contents, content, read, counter}
use Rattle.rules.specs.Messages.{next_number}
use Rattle.rules.specs.Commands.{move_counter, with_created}
use Rattle.rules.specs.WellFormed.{WellFormed}
use Rattle.rules.proofs.Laws.{cases, true_false, eqb_true, eqb_false, find_each, has_among}
use Rattle.rules.proofs.MapLaws.{find_put, find_kept}
use Rattle.rules.proofs.Lookups.{known_class, known_attribute, led_known}
use Rattle.rules.proofs.Families.{family_has}
use Rattle.rules.proofs.Standing.{key_class}
use Rattle.legality.proofs.Tables.{LegalEntry, LegalLive}
use Rattle.legality.proofs.Holds.{There, holds_there, there_holds, entry_legal}
use Rattle.demands.proofs.Creates.{contents_in_entry, holds_in_entry, entry_with, entry_created, moved_entry, moved_holds, moved_content, moved_on, leads, not_its_key, stands_alone}
use Rattle.demands.proofs.Gets.{read_stored}

-- In a legal table of any well-formed catalogue, for a class that can be created and a number of two bytes:
module _ (cat : Catalogue) (wf : WellFormed cat) (t : Table) (legal : LegalLive cat wf t) (c i : ℕ) (cr : is_created (class cat c).creation ≡ true) (small : i < 65536) where
  -- where its instance isn't there, none of those is there that come with it
  pub none_with_it : holds cat t c i ≡ false → (d : ℕ) → leader cat d ≡ c → holds cat t d i ≡ false
  none_with_it absent d l = cases (holds cat t d i)
      (λ y.
      let k : ℕ = key (leader cat d) i in
      let x : There cat t d i = holds_there cat t d i y in
      let le : LegalEntry cat k x.its_entry = entry_legal cat wf t legal k x.its_entry x.found in
      let led : leader cat c ≡ c = leads cat wf c i cr small in
      let same_class : class_of k ≡ leader cat c = key_class (leader cat d) i small ∙ l ∙ sym led in
      let known_too = led_known cat c (ap (λ (b : ℕ). is_created (class cat b).creation) led ∙ cr) in
      let has_it : has c x.its_entry ≡ true = has_among c x.its_entry ∙ ap (among c) le.its_keys
      ∙ ap (λ (b : ℕ). among c (keys (family cat b))) same_class ∙ family_has cat wf c known_too in
      true_false (there_holds cat t c i (record { its_entry = x.its_entry; found = ap (λ (b : ℕ). find (key b i) (entries t)) (led ∙ sym l) ∙ x.found; has_class = has_it })) absent)
      (λ y. y)

  module _ (new : Map Entry) where
    -- the table after it
    abbrev pub changed : Table
    changed = move_counter cat (with_created new t)

    -- under its key there is what the new entries have there
    pub its_entry : (o : Option Entry) → find (key c i) new ≡ o → entry (key c i) changed ≡ given o [] (λ e. e)
    its_entry o e = moved_entry cat wf (with_created new t) (key c i) (not_its_key cat wf c i cr small)
        ∙ entry_created t new (key c i) o (stands_alone cat wf c i cr small t legal) e

    module _ (same : (k : ℕ) → k ≢ key c i → find k new ≡ find k t.created) where
      others_entry : (d j : ℕ) → j < 65536 → (leader cat d ≡ c → j ≡ i → ⊥) → entry (key (leader cat d) j) (with_created new t) ≡ entry (key (leader cat d) j) t
      others_entry d j small_too other = entry_with t new (key (leader cat d) j) (same (key (leader cat d) j) (λ z. other (omega arith) (omega arith)))

      -- every other instance is there exactly if it was
      pub others_held : (d j : ℕ) → j < 65536 → (leader cat d ≡ c → j ≡ i → ⊥) → holds cat changed d j ≡ holds cat t d j
      others_held d j small_too other = moved_holds cat wf (with_created new t) d j
          ∙ holds_in_entry cat (with_created new t) t d j (others_entry d j small_too other)

      -- and its stored attributes are as they were, but the counter
      pub others_read : (d j n : ℕ) → j < 65536 → (leader cat d ≡ c → j ≡ i → ⊥) → is_stored (attribute (class cat d) n).source ≡ true
          → (d ≡ 2 → j ≡ 0 → n ≢ 1) → read cat changed d j n ≡ read cat t d j n
      others_read d j n small_too other st no_counter =
          read_stored cat changed d j n st
          ∙ moved_content cat wf (with_created new t) d j n no_counter
          ∙ ap (content n) (contents_in_entry cat (with_created new t) t d j (others_entry d j small_too other))
          ∙ sym (read_stored cat t d j n st)

      -- the counter is one on
      pub counter_on : counter cat changed ≡ next_number (counter cat t)
      counter_on =
          let l : leader cat ont_data ≡ ont_data = rw wf.class_2_has_instance_0_alone refl in
          moved_on cat wf (with_created new t) t legal (contents_in_entry cat (with_created new t) t ont_data 0
          (entry_with t new (key (leader cat ont_data) 0)
          (same (key (leader cat ont_data) 0) (λ z. not_its_key cat wf c i cr small (sym z ∙ ap (λ (d : ℕ). key d 0) l)))))

  -- ---- a new entry, with a content that is made for each stored attribute of the family

  module _ (make : ℕ → Attribute → List ℕ) where
    abbrev made_for : Class → Contents
    made_for k = each make (keep (λ n a. is_stored a.source) k.attributes)

    abbrev made_entry : Entry
    made_entry = each (λ d k. made_for k) (family cat c)

    abbrev pub with_entry : Map Entry
    with_entry = put (key c i) made_entry t.created

    pub with_entry_elsewhere : (k : ℕ) → k ≢ key c i → find k with_entry ≡ find k t.created
    with_entry_elsewhere k ne = find_put k (key c i) made_entry t.created
        ∙ ap (λ (b : Bool). cond b (some made_entry) (find k t.created)) (eqb_false k (key c i) ne)

    -- the instance and those that come with it have what was made for them
    made : (d : ℕ) → leader cat d ≡ c → find d (entry (key (leader cat d) i) (changed with_entry)) ≡ some (made_for (class cat d))
    unfolding family
    made d l =
        let here : find (key c i) with_entry ≡ some made_entry = find_put (key c i) (key c i) made_entry t.created
        ∙ ap (λ (b : Bool). cond b (some made_entry) (find (key c i) t.created)) (eqb_true (key c i) (key c i) refl) in
        let known_too = led_known cat d (ap (λ (b : ℕ). is_created (class cat b).creation) l ∙ cr) in
        ap (λ (b : ℕ). find d (entry (key b i) (changed with_entry))) l
        ∙ ap (find d) (its_entry with_entry (some made_entry) here)
        ∙ find_each (λ d k. made_for k) d (family cat c)
        ∙ ap (λ (o : Option Class). given {B = Option Contents} o none (λ k. some (made_for k)))
        (find_kept (λ d k. eqb (lead d k.creation) c) d (class cat d) cat.classes (known_class cat d known_too) (eqb_true (leader cat d) c l))

    pub made_is_there : (d : ℕ) → leader cat d ≡ c → holds cat (changed with_entry) d i ≡ true
    unfolding holds
    made_is_there d l = rw (made d l) refl

    pub made_reads : (d n : ℕ) → leader cat d ≡ c → supported (class cat d) n ≡ true → is_stored (attribute (class cat d) n).source ≡ true
        → read cat (changed with_entry) d i n ≡ make n (attribute (class cat d) n)
    unfolding contents content
    made_reads d n l there st = read_stored cat (changed with_entry) d i n st ∙ rw (
      made d l,
      find_each make n (keep (λ n a. is_stored a.source) (class cat d).attributes),
      find_kept (λ n a. is_stored a.source) n (attribute (class cat d) n) (class cat d).attributes (known_attribute (class cat d) n there) st,
    )
        refl
