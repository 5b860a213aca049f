-- What a Set writes, and what it leaves of a store and of its reply's contents.
use Prim.Native.Nat.{ℕ, ◌+◌, ◌≤◌, ◌<◌}
use native.Mathlib.Omega.{arith}
use mathlib.Core.Path.{◌≡◌, refl, sym, ◌∙◌, ap}
use mathlib.Core.Bool.{true}
use mathlib.Core.Option.{none}
use mathlib.Core.Logic.{◌≢◌}
use mathlib.Core.List.{List, [], ◌∷◌}
use lib.ListN.{length, drop, replicate, length-drop}
use lib.Seq.{length-take-le}
use lib.Dec.{eqb}
use borrow.Rule.Slice.PartMut.{put_mid}
use Rattle.rules.specs.Maps.{◌and◌, among, all, empty, those}
use Rattle.rules.specs.Bytes.{byte, two, laid}
use Rattle.rules.specs.Masks.{named}
use Rattle.rules.specs.Catalogue.{Class, attribute, supported, size_of, is_stored, stored_numbers, ont_data}
use Rattle.rules.specs.Messages.{next_number}
use Rattle.rules.specs.Commands.{cut, unsupported, unwritable}
use Rattle.rules.specs.WellFormed.{rights_only_if_stored}
use Rattle.rules.proofs.Laws.{cases, never, or_left, eqb_true, eqb_false}
use Rattle.rules.proofs.Lookups.{implied, attribute_says}
use Rattle.store.specs.Layout.{contents_width, block_length, live_at}
use Rattle.octets.proofs.Laid.{laid_part, length_laid}
use Rattle.class_tables.specs.Built.{cat_of, class_for}
use Rattle.class_tables.proofs.EveryProduct.{well_formed_of}
use Rattle.class_tables.proofs.Offsets.{is_among_stored}
use Rattle.attribute_write.specs.Lays.{laid_values, all_stored, Laying}
use Rattle.attribute_write.proofs.Overwritten.{cut_is_sized, length_laid_values}
use Rattle.table.specs.Counts.{moved_on}
use Rattle.set_command.specs.Sets.{bad_at, refusing, counted_by, written, live_in, values_in, SetAt}
use Rattle.set_command.proofs.Refused.{Passed, passed}
use Rattle.class_tables.specs.declared.Product.{Product}

-- ---- what an accepted Set names is stored

module _ (pr : Product) (c : ℕ) where
  stored_if_writable : (n : ℕ) → supported (class_for pr c) n ≡ true → (attribute (class_for pr c) n).W ≡ true → among n (stored_numbers (class_for pr c)) ≡ true
  unfolding rights_only_if_stored
  stored_if_writable n sup w =
      let k : Class = class_for pr c in
      let st : is_stored (attribute k n).source ≡ true = implied (attribute_says rights_only_if_stored (cat_of pr) (well_formed_of pr).rights_if_stored c n sup) (or_left _ w) in
      is_among_stored k n sup st

  pub all_are_stored : (m : List ℕ) → empty (unsupported (class_for pr c) m) ≡ true → empty (unwritable (class_for pr c) m) ≡ true → all_stored (class_for pr c) m ≡ true
  unfolding unsupported unwritable those all ◌and◌
  all_are_stored [] h g = refl
  all_are_stored (n ∷ m) h g = cases (supported (class_for pr c) n)
      (λ s. cases (attribute (class_for pr c) n).W
      (λ w. rw (stored_if_writable n s w) (all_are_stored m (rw s at h) (rw (s, w) at g)))
      (λ w. never (rw (s, w) at g)))
      (λ s. never (rw s at h))

  pub may_lay : {m at : ℕ} {bad v b : List ℕ} → Passed (class_for pr c) m bad → at + contents_width (class_for pr c) ≤ length b → length v ≡ 30
      → Laying (class_for pr c) at (named m) v b
  may_lay {m} {at} {bad} {v} {b} p inside long =
      let r = p.room in
      record { are_stored = all_are_stored (named m) p.all_there p.all_writable; inside = inside; carried = omega arith }

-- ---- the writing

module _ (pr : Product) (c at m : ℕ) (v b : List ℕ) where
  abbrev values : List ℕ
  values = laid_values (class_for pr c) at (cut (size_of (class_for pr c)) (named m) v) b

  pub wrote_counted : {x y : List ℕ} → x ≡ values → c ≢ ont_data → y ≡ moved_on x → y ≡ written pr c at m v b
  unfolding written counted_by
  wrote_counted e n f = f ∙ ap moved_on e ∙ sym (rw (eqb_false c ont_data n) refl)

  pub wrote_alone : {x : List ℕ} → x ≡ values → c ≡ ont_data → x ≡ written pr c at m v b
  unfolding written counted_by
  wrote_alone e two = e ∙ sym (rw (eqb_true c ont_data two) refl)

  module _ (may : Laying (class_for pr c) at (named m) v b) where
    pub length_values : length values ≡ length b
    length_values =
        length_laid_values (class_for pr c) at (cut (size_of (class_for pr c)) (named m) v) b (cut_is_sized (class_for pr c) (named m) v may.are_stored may.carried) may.inside

    pub length_written : 0 < length b → length (written pr c at m v b) ≡ length b
    unfolding written counted_by
    length_written h = cases (eqb c ont_data)
        (λ e. rw e length_values)
        (λ e. let lv = length_values in rw e (length_laid 0 (next_number (byte values 0) ∷ []) values (omega arith) ∙ lv))

-- ---- a Set of an instance that is there

module _ (pr : Product) (c at : ℕ) (v store : List ℕ) {m : ℕ} (is : m ≡ two v 0)
    (e : none ≡ refusing pr c at m (values_in v) (live_in store)) (long : length v ≡ 32) (room : at + contents_width (class_for pr c) ≤ length (live_in store)) where
  pub accepted_lays : Laying (class_for pr c) at (named m) (values_in v) (live_in store)
  unfolding refusing
  accepted_lays =
      may_lay pr c (passed (class_for pr c) m (bad_at pr c at m (values_in v) (live_in store)) (sym e))
      room (length-take-le 30 (drop 2 v) (rw (length-drop 2 v) (omega arith)))

  pub accepted_at : {y : List ℕ} → length (live_in store) ≡ block_length → y ≡ written pr c at m (values_in v) (live_in store)
      → SetAt pr c at v store (put_mid live_at block_length store y) (replicate 32 0)
  accepted_at {y} whole w =
      let none_as_asked : none ≡ refusing pr c at (two v 0) (values_in v) (live_in store) = e ∙ ap (λ (n : ℕ). refusing pr c at n (values_in v) (live_in store)) is in
      let len : length y ≡ block_length = ap length w ∙ length_written pr c at m (values_in v) (live_in store) accepted_lays (omega arith) ∙ whole in
      let w' : y ≡ written pr c at (two v 0) (values_in v) (live_in store) = w ∙ ap (λ (n : ℕ). written pr c at n (values_in v) (live_in store)) is in
      record {
        store = rw (← none_as_asked) (laid_part live_at block_length y store len ∙ ap (λ (x : List ℕ). laid live_at x store) w');
        reply = rw (← none_as_asked) refl;
      }
