-- The slots of a table after a reset: in each, first contents are laid over what may be written.
use Prim.Native.Nat.{ℕ}
use native.Mathlib.Omega.{arith}
use mathlib.Core.Path.{◌≡◌, refl, ◌∙◌, ap}
use mathlib.Core.Bool.{true, false}
use mathlib.Core.List.{List, [], ◌∷◌, ◌++◌, append-nil}
use lib.ListN.{length}
use Rattle.rules.specs.Maps.{Map, keys, every, each, gather, among, all}
use Rattle.rules.specs.State.{Contents, Entry, class_of}
use Rattle.rules.specs.Legal.{legal_contents, legal_entry, automatic_keys}
use Rattle.rules.specs.Commands.{reset_contents}
use Rattle.rules.proofs.Laws.{both}
use Rattle.rules.proofs.MapLaws.{Each}
use Rattle.store.specs.Layout.{contents_bytes, entry_bytes, slot, contents_width}
use Rattle.store.proofs.ContentsBack.{legal_keys, legal_sized, contents_length}
use Rattle.store.proofs.TablesBack.{slot_length}
use Rattle.legality.proofs.Tables.{LegalEntry, open_entry}
use Rattle.class_tables.specs.declared.Product.{Product}
use Rattle.class_tables.specs.Built.{cat_of, class_for}
use Rattle.class_tables.specs.Masks.{writable_numbers}
use Rattle.attribute_write.specs.Lays.{leading_class}
use Rattle.attribute_write.proofs.Overwritten.{overwrite_laid}
use Rattle.reset_command.specs.Resets.{begun_at, slots_begun}
use Rattle.reset_command.proofs.SlotClasses.{begun_rises, SlotClass, slot_class}
use Rattle.reset_command.proofs.FirstContents.{keys_firsts, reset_overwrites}
use Rattle.reset_command.proofs.SlotsBegun.{first_ones, first_ones_sized, slot_filled, SlotBegun, slots_turned}

only_one : (e : Entry) (c : ℕ) → keys e ≡ c ∷ [] → (r : Contents) × (e ≡ (c, r) ∷ [])
unfolding keys
only_one [] c h = absurd (let z : ◌≡◌ {A = ℕ} 0 1 = cc in omega arith)
only_one (x ∷ []) c h = (x.1, (let z : x.0 ≡ c = cc in ap (λ (d : ℕ). (d, x.1) ∷ []) z))
only_one (x ∷ y ∷ e) c h = absurd (let z : ◌≡◌ {A = ℕ} 0 1 = cc in omega arith)

module _ (pr : Product) where
  abbrev pub reset_entry : Entry → Entry
  reset_entry e = each (λ c r. reset_contents (class_for pr c) r) e

  contents_reset : (c : ℕ) (r : Contents) → SlotClass pr c → legal_contents (cat_of pr) (class_for pr c) r ≡ true
      → contents_bytes (reset_contents (class_for pr c) r) ≡ begun_at (cat_of pr) false c 0 (contents_bytes r)
  contents_reset c r s g =
      let ks = legal_keys (cat_of pr) (class_for pr c) r g in
      let kf : keys (first_ones pr false c) ≡ writable_numbers (class_for pr c) = keys_firsts (class_for pr c) (leading_class pr c) [] (writable_numbers (class_for pr c)) in
      ap contents_bytes (reset_overwrites pr c r ks)
      ∙ overwrite_laid (class_for pr c) (begun_rises pr c true) (first_ones pr false c) r (rw kf (begun_rises pr c false)) (first_ones_sized pr false c s) ks
      (legal_sized (cat_of pr) (class_for pr c) r g)

  slot_reset : (k : ℕ) (e : Entry) → among k (automatic_keys (cat_of pr)) ≡ true → LegalEntry (cat_of pr) k e
      → slot (k, reset_entry e) ≡ begun_at (cat_of pr) false (class_of k) 0 (slot (k, e))
  unfolding slot entry_bytes gather keys each every
  slot_reset k e h le =
      let c : ℕ = class_of k in
      let s : SlotClass pr c = slot_class pr k h in
      let one = only_one e c (le.its_keys ∙ ap keys s.its_family) in
      let r : Contents = one.0 in
      let g : legal_contents (cat_of pr) (class_for pr c) r ≡ true = (both (rw one.1 at le.its_contents)).0 in
      let len : length (contents_bytes r) ≡ contents_width (class_for pr c) = contents_length (cat_of pr) (class_for pr c) r g in
      rw (one.1, append-nil (contents_bytes r), append-nil (contents_bytes (reset_contents (class_for pr c) r)))
      (slot_filled pr false c (contents_bytes r) (contents_bytes (reset_contents (class_for pr c) r)) s len (contents_reset c r s g))

  -- ---- the slots, between other bytes

  abbrev pub reset_entries : Map Entry → Map Entry
  reset_entries a = each (λ k e. reset_entry e) a

  abbrev slot_after : ℕ × Entry → List ℕ
  slot_after e = slot (e.0, reset_entry e.1)

  gather_after : (a : Map Entry) → gather slot_after a ≡ gather slot (reset_entries a)
  unfolding gather each
  gather_after [] = refl
  gather_after (e ∷ a) = ap (λ (x : List ℕ). slot_after e ++ x) (gather_after a)

  each_begun : (a : Map Entry) → all (λ k. among k (automatic_keys (cat_of pr))) (keys a) ≡ true → every (legal_entry (cat_of pr)) a ≡ true
      → Each (λ k e. SlotBegun pr false k (slot (k, e)) (slot_after (k, e))) a
  unfolding keys all every
  each_begun [] h g = tt
  each_begun (e ∷ a) h g = (
    record {
      has_slot = (both h).0;
      old_length = slot_length e;
      new_is = slot_reset e.0 e.1 (both h).0 (open_entry (cat_of pr) e.0 e.1 (both g).0);
    },
    each_begun a (both h).1 (both g).1,
  )

  pub slots_reset : (a : Map Entry) (x rest : List ℕ) → all (λ k. among k (automatic_keys (cat_of pr))) (keys a) ≡ true → every (legal_entry (cat_of pr)) a ≡ true
      → slots_begun (cat_of pr) false (keys a) (length x) (x ++ (gather slot a ++ rest)) ≡ x ++ (gather slot (reset_entries a) ++ rest)
  slots_reset a x rest h g = slots_turned pr false slot slot_after a x rest (each_begun a h g) ∙ ap (λ (z : List ℕ). x ++ (z ++ rest)) (gather_after a)
