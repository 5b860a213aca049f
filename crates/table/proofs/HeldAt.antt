-- An instance is there exactly if its contents have a place.
use Prim.Native.Nat.{ℕ, ◌+◌, ◌<◌}
use native.Mathlib.Omega.{arith}
use mathlib.Core.Path.{◌≡◌, refl, sym, ◌∙◌, ap}
use mathlib.Core.Bool.{true, false}
use mathlib.Core.Option.{Option, none, some}
use mathlib.Core.List.{List}
use lib.Dec.{eqb}
use Rattle.rules.specs.Maps.{◌and◌, is_some, find, keys, among}
use Rattle.rules.specs.Catalogue.{Catalogue, class, is_created, leader, family, key, ont_data}
use Rattle.rules.specs.State.{Table, class_of, entries, holds}
use Rattle.rules.specs.Legal.{automatic_keys}
use Rattle.rules.specs.WellFormed.{WellFormed}
use Rattle.rules.proofs.Laws.{cases, true_false, both, and_true, or_left, false_or, bool_eq, eqb_true, eqb_eq, find_some, has_among, or_right}
use Rattle.rules.proofs.MapLaws.{none_some}
use Rattle.rules.proofs.Lookups.{led_known}
use Rattle.rules.proofs.Families.{family_has, alone}
use Rattle.rules.proofs.Standing.{key_class, standing, Stands, stands_by_itself, standing_leads, standing_not_created}
use Rattle.legality.proofs.Tables.{LegalEntry, LegalLive, open_table}
use Rattle.legality.proofs.Holds.{There, holds_there, there_holds, found_in, find_in_created, find_in_automatic, entry_legal, automatic_stands, is_created_one, created_alone}
use Rattle.store.specs.Positions.{position, inside}
use Rattle.table.specs.Spots.{at_position, spot_among, spot}
use Rattle.store.specs.Layout.{slot_at, place_at, key_length}
use Rattle.table.specs.Places.{keys_in}
use Rattle.store.proofs.Positions.{position_among}
use Rattle.table.proofs.PlaceKeys.{live_keys}
use Rattle.class_tables.specs.Built.{cat_of}
use Rattle.class_tables.proofs.EveryProduct.{well_formed_of, fits_of}
use Rattle.table.specs.Live.{there_in, Holding}
use Rattle.class_tables.specs.declared.Product.{Product}

pub moved_is_some : (f : ℕ → ℕ) (p : Option ℕ) → is_some (at_position f p) ≡ is_some p
moved_is_some f none = refl
moved_is_some f (some j) = refl

-- class 2's own key
ont_data_key : (c i : ℕ) → i < 65536 → (eqb c ont_data and eqb i 0) ≡ eqb (key c i) (key ont_data 0)
ont_data_key c i lt = bool_eq (eqb c ont_data and eqb i 0) (eqb (key c i) (key ont_data 0))
    (λ y.
    let two = eqb_eq c ont_data (both y).0 in
    let none_other = eqb_eq i 0 (both y).1 in
    eqb_true (key c i) (key ont_data 0) (omega arith))
    (λ y.
    let same = eqb_eq (key c i) (key ont_data 0) y in
    and_true (eqb_true c ont_data (omega arith)) (eqb_true i 0 (omega arith)))

module _ (cat : Catalogue) (wf : WellFormed cat) (t : Table) (h : LegalLive cat wf t) (c i : ℕ) (lt : i < 65536) where
  abbrev k : ℕ
  k = key (leader cat c) i

  its_class : class_of k ≡ leader cat c
  its_class = key_class (leader cat c) i lt

  -- ---- an instance whose leader can be created

  made_spot : is_created (class cat (leader cat c)).creation ≡ true → is_some (spot cat t c i) ≡ among k (keys t.created)
  unfolding spot_among
  made_spot cr = rw cr (moved_is_some (λ j. place_at j + key_length + inside cat c) (position k (keys t.created)) ∙ position_among k (keys t.created))

  held_if_made : is_created (class cat (leader cat c)).creation ≡ true → holds cat t c i ≡ is_some (spot cat t c i)
  held_if_made cr =
      let made : is_created (class cat (class_of k)).creation ≡ true = rw its_class cr in
      let not_by_itself : find k t.automatic ≡ none = created_alone cat wf t h k made in
      bool_eq (holds cat t c i) (is_some (spot cat t c i))
      (λ y.
      let x : There cat t c i = holds_there cat t c i y in
      found_in k t.automatic t.created x.its_entry x.found
      (λ p. none_some (sym not_by_itself ∙ p))
      (λ n p. made_spot cr ∙ rw (← has_among k t.created, p) refl))
      (λ y.
      let f = find_some k t.created (has_among k t.created ∙ sym (made_spot cr) ∙ y) in
      let found : find k (entries t) ≡ some f.0 = find_in_created k t.automatic t.created f.0 not_by_itself f.1 in
      let le : LegalEntry cat k f.0 = entry_legal cat wf t h k f.0 found in
      there_holds cat t c i (record {
        its_entry = f.0;
        found = found;
        has_class = rw (has_among c f.0, le.its_keys, its_class) (family_has cat wf c (led_known cat c cr));
      }))

  -- ---- another one

  standing_spot : is_created (class cat (leader cat c)).creation ≡ false → is_some (spot cat t c i) ≡ among (key c i) (standing cat wf)
  unfolding spot_among among
  standing_spot au =
      let e = ont_data_key c i lt in
      let l : List ℕ = automatic_keys cat in
      rw au (cases (eqb c ont_data and eqb i 0)
      (λ y. rw (y, sym e ∙ y) (sym (or_left (among (key c i) l) refl)))
      (λ y. rw (y, sym e ∙ y, false_or (among (key c i) l)) (moved_is_some slot_at (position (key c i) l) ∙ position_among (key c i) l)))

  held_if_standing : is_created (class cat (leader cat c)).creation ≡ false → holds cat t c i ≡ is_some (spot cat t c i)
  held_if_standing au = bool_eq (holds cat t c i) (is_some (spot cat t c i))
      (λ y.
      let x : There cat t c i = holds_there cat t c i y in
      let le : LegalEntry cat k x.its_entry = entry_legal cat wf t h k x.its_entry x.found in
      let inn : among c (keys (family cat (leader cat c))) ≡ true = rw (← its_class, ← le.its_keys, ← has_among c x.its_entry) x.has_class in
      let leads : c ≡ leader cat c = alone cat wf (leader cat c) au c inn in
      found_in k t.automatic t.created x.its_entry x.found
      (λ p. standing_spot au ∙ ap (λ (d : ℕ). among (key d i) (standing cat wf)) leads ∙ automatic_stands cat wf t h k x.its_entry p)
      (λ n p. true_false (is_created_one cat wf t h k x.its_entry p) (rw its_class au)))
      (λ y.
      let inn : among (key c i) (standing cat wf) ≡ true = sym (standing_spot au) ∙ y in
      let s : Stands cat wf (key c i) = stands_by_itself cat wf (key c i) inn in
      let kc : class_of (key c i) ≡ c = key_class c i lt in
      let leads : leader cat c ≡ c = rw kc at (standing_leads cat wf (key c i) inn) in
      let f = find_some (key c i) t.automatic (has_among (key c i) t.automatic ∙ ap (λ (l : List ℕ). among (key c i) l) h.automatic_keys ∙ inn) in
      let found : find k (entries t) ≡ some f.0 = rw leads (find_in_automatic (key c i) t.automatic t.created f.0 f.1) in
      let le : LegalEntry cat k f.0 = entry_legal cat wf t h k f.0 found in
      there_holds cat t c i (record {
        its_entry = f.0;
        found = found;
        has_class = rw (has_among c f.0, le.its_keys, its_class) (family_has cat wf c (rw kc at s.is_known));
      }))

  pub held_at : holds cat t c i ≡ is_some (spot cat t c i)
  held_at = cases (is_created (class cat (leader cat c)).creation) held_if_made held_if_standing

  -- an instance that has a slot is there
  pub slot_held : among (key c i) (automatic_keys cat) ≡ true → holds cat t c i ≡ true
  unfolding among
  slot_held h =
      let inn : among (key c i) (standing cat wf) ≡ true = or_right (eqb (key c i) (key ont_data 0)) h in
      let kc : class_of (key c i) ≡ c = key_class c i lt in
      let leads : leader cat c ≡ c = rw kc at (standing_leads cat wf (key c i) inn) in
      let au : is_created (class cat (leader cat c)).creation ≡ false = rw leads (rw kc at (standing_not_created cat wf (key c i) inn)) in
      held_at ∙ standing_spot au ∙ inn

-- in the bytes of a live table of a product, what has a place is what the rules' table has
pub there_is_held : (pr : Product) (b : List ℕ) (t : Table) → Holding (cat_of pr) b t → (c i : ℕ) → i < 65536 → there_in (cat_of pr) b c i ≡ holds (cat_of pr) t c i
there_is_held pr b t q c i lt =
    let cat : Catalogue = cat_of pr in
    let wf : WellFormed cat = well_formed_of pr in
    let h : LegalLive cat wf t = open_table cat wf (standing cat wf) t q.legal in
    let made : keys_in b ≡ keys t.created = rw q.is (live_keys cat wf (fits_of pr) t h) in
    ap (λ (m : List ℕ). is_some (spot_among cat m c i)) made ∙ sym (held_at cat wf t h c i lt)
