-- Where the content of an attribute is: as the code works it out, and within a block.
use Prim.Native.Nat.{ℕ, ◌+◌, ◌-◌, ◌≤◌, ◌<◌}
use native.Mathlib.Omega.{arith}
use mathlib.Core.Path.{◌≡◌, refl, sym, ◌∙◌, ap}
use mathlib.Core.Bool.{true}
use mathlib.Core.Option.{some}
use mathlib.Core.List.{List}
use lib.ListN.{length, drop, length-drop}
use lib.Seq.{length-take-le}
use lib.Dec.{eqb}
use Rattle.rules.specs.Maps.{◌and◌}
use Rattle.rules.specs.Bytes.{byte}
use Rattle.rules.specs.Catalogue.{Source, stored, of_creator, count_of, Catalogue, class, attribute, supported, size_of, is_stored, is_created, leader, key, ont_data}
use Rattle.rules.specs.Legal.{automatic_keys}
use Rattle.rules.proofs.Laws.{cases, never}
use Rattle.rules.proofs.MapLaws.{some_eq}
use Rattle.store.specs.Layout.{place_width, slot_at, place_at, block_length, places_at, key_length, place_count, slot_count}
use Rattle.store.specs.Positions.{inside, position}
use Rattle.class_tables.specs.Built.{cat_of, class_for}
use Rattle.class_tables.specs.Describes.{offset_of}
use Rattle.class_tables.proofs.EveryProduct.{well_formed_of}
use Rattle.class_tables.proofs.ClassLaws.{inside_fits}
use Rattle.class_tables.proofs.Offsets.{is_among_stored, offset_fits}
use Rattle.table.specs.Places.{InShape, keys_in, how_many_hold}
use Rattle.table.specs.Spots.{spot_among}
use Rattle.table.proofs.TableLaid.{at_some}
use Rattle.table.proofs.Located.{place_small, slot_small}
use Rattle.attribute_read.specs.declared.Origin.{Origin}
use Rattle.attribute_read.specs.declared.Origin.TheVariants.{At, Count}
use Rattle.attribute_read.specs.declared.Item.{Item}
use Rattle.attribute_read.specs.Values.{in_entry, origin, item_of, shown_from, shown, Within, Placed}
use Rattle.attribute_read.proofs.Sources.{FromCreator, from_creator, Counts, counts}
use Rattle.class_tables.specs.declared.Product.{Product}
use Rattle.class_tables.proofs.Facts.{first_or_made}
use Rattle.rules.proofs.ByteLaws.{length_bytes}

-- ---- as the code works it out

module _ (cat : Catalogue) (c o n : ℕ) {size : ℕ} (sized : size ≡ size_of (class cat c) n) where
  item_is : {s : Source} (x : Origin) → (attribute (class cat c) n).source ≡ s → x ≡ origin cat c o n s → record { size = size; origin = x } ≡ item_of cat c o n
  unfolding item_of
  item_is x f e =
      let y : x ≡ origin cat c o n (attribute (class cat c) n).source = e ∙ ap (origin cat c o n) (sym f) in
      λ i. record { size = sized i; origin = y i }

  pub stored_item : {p : ℕ} → is_stored (attribute (class cat c) n).source ≡ true → p ≡ offset_of (class cat c) n → record { size = size; origin = At (o + p) } ≡ item_of cat c o n
  unfolding origin
  stored_item {p} h e = item_is (At (o + p)) refl (go (attribute (class cat c) n).source h)
    where
      go : (s : Source) → is_stored s ≡ true → At (o + p) ≡ origin cat c o n s
      go (stored f) h = rw e refl
      go (of_creator a) h = never h
      go (count_of d a) h = never h

  pub creator_item : {m e p lead : ℕ} → (attribute (class cat c) n).source ≡ of_creator m → e ≡ inside cat c → lead ≡ leader cat c → p ≡ in_entry cat lead m
      → record { size = size; origin = At (o - e + p) } ≡ item_of cat c o n
  unfolding origin
  creator_item {m} {e} {p} {lead} s f g h = item_is (At (o - e + p)) s (rw (f, h, g) refl)

  pub counted_item : {m e p : ℕ} → (attribute (class cat c) n).source ≡ count_of e m → p ≡ in_entry cat e m → record { size = size; origin = Count e p } ≡ item_of cat c o n
  unfolding origin
  counted_item {m} {e} {p} s h = item_is (Count e p) s (rw h refl)

module _ (pr : Product) (c n : ℕ) (t : supported (class_for pr c) n ≡ true) where
  -- what the creator's attribute is known to be
  pub creator_kept : {m lead : ℕ} → (attribute (class_for pr c) n).source ≡ of_creator m → lead ≡ leader (cat_of pr) c
      → (supported (class_for pr lead) m ≡ true) × (is_stored (attribute (class_for pr lead) m).source ≡ true)
  creator_kept {m} {lead} s g =
      let f : FromCreator (cat_of pr) c n m = from_creator (cat_of pr) (well_formed_of pr) c n t m s in
      rw g (f.there, f.kept)

  -- and the one that is counted by
  pub counted_kept : {e m : ℕ} → (attribute (class_for pr c) n).source ≡ count_of e m → (supported (class_for pr e) m ≡ true) × (is_stored (attribute (class_for pr e) m).source ≡ true)
  counted_kept {e} {m} s =
      let f : Counts (cat_of pr) c n e m = counts (cat_of pr) (well_formed_of pr) c n t e m s in
      (f.there, f.kept)

-- ---- within a block

pub small_entry : (pr : Product) (c n : ℕ) → supported (class_for pr c) n ≡ true → is_stored (attribute (class_for pr c) n).source ≡ true
    → in_entry (cat_of pr) c n ≤ place_width
small_entry pr c n t s =
    let a = offset_fits (class_for pr c) n (is_among_stored (class_for pr c) n t s) in
    let i = inside_fits pr c in
    omega arith

pub within : (pr : Product) (b : List ℕ) (c i o : ℕ) → InShape b → spot_among (cat_of pr) (keys_in b) c i ≡ some o → Within (cat_of pr) c o
unfolding spot_among
within pr b c i o s h = cases (is_created (class (cat_of pr) (leader (cat_of pr) c)).creation)
    (λ cr. at_some (λ j. place_at j + key_length + inside (cat_of pr) c) (position (key (leader (cat_of pr) c) i) (keys_in b)) o (rw cr at h) (λ j p e.
    let few : j < place_count = place_small b s (key (leader (cat_of pr) c) i) p refl in
    record { from_front = omega arith; to_end = omega arith }))
    (λ au.
    let z = first_or_made pr c au in
    cases (eqb c ont_data and eqb i 0)
    (λ t. let e : some 0 ≡ some o = rw (au, t) at h in let y : 0 ≡ o = some_eq e in record { from_front = omega arith; to_end = omega arith })
    (λ t. at_some slot_at (position (key c i) (automatic_keys (cat_of pr))) o (rw (au, t) at h) (λ j p e.
    let few : j < slot_count = slot_small pr (key c i) p refl in
    record { from_front = omega arith; to_end = omega arith })))

module _ (pr : Product) (c n o : ℕ) (w : Within (cat_of pr) c o) (t : supported (class_for pr c) n ≡ true) where
  pub placed_item : Placed (item_of (cat_of pr) c o n).size (item_of (cat_of pr) c o n).origin
  unfolding item_of origin
  placed_item = go (attribute (class_for pr c) n).source refl
    where
      go : (s : Source) → (attribute (class_for pr c) n).source ≡ s → Placed (size_of (class_for pr c) n) (origin (cat_of pr) c o n s)
      go (stored f) e =
          let a = offset_fits (class_for pr c) n (is_among_stored (class_for pr c) n t (rw e refl)) in
          let i = inside_fits pr c in
          let x = w.from_front in
          let y = w.to_end in
          omega arith
      go (of_creator a) e =
          let f : FromCreator (cat_of pr) c n a = from_creator (cat_of pr) (well_formed_of pr) c n t a e in
          let d : ℕ = leader (cat_of pr) c in
          let z = offset_fits (class_for pr d) a f.among_kept in
          let i = inside_fits pr d in
          let x = w.from_front in
          let y = w.to_end in
          let same_size = f.alike in
          omega arith
      go (count_of d a) e =
          let f : Counts (cat_of pr) c n d a = counts (cat_of pr) (well_formed_of pr) c n t d a e in
          let z = offset_fits (class_for pr d) a f.among_kept in
          let i = inside_fits pr d in
          let two = f.two_bytes in
          omega arith

-- ---- how many bytes are shown

pub length_shown : (b : List ℕ) (i : ℕ) (x : Item) → length b ≡ block_length → Placed x.size x.origin → length (shown b i x) ≡ x.size
unfolding shown_from
length_shown b i x lb p = go x.origin p
  where
    go : (r : Origin) → Placed x.size r → length (shown_from b i x.size r) ≡ x.size
    go (At o) h = length-take-le x.size (drop o b) (simp length-drop (omega arith))
    go (Count d o) h = length_bytes x.size (how_many_hold d o i (byte b 1) (drop places_at b))
