-- The answer to a Create of an instance of a created class, and the store that it leaves.
use Prim.Native.Nat.{ℕ, suc, ◌≤◌, ◌<◌}
use native.Mathlib.Omega.{arith}
use mathlib.Core.Path.{◌≡◌, refl, sym, ◌∙◌, ap}
use mathlib.Core.Bool.{Bool, true, false}
use mathlib.Core.Logic.{◌≢◌}
use mathlib.Core.List.{List, [], ◌∷◌, ◌++◌}
use lib.ListN.{length, replicate}
use lib.Dec.{leb}
use borrow.Rule.Slice.PartMut.{put_mid}
use Rattle.rules.specs.Bytes.{byte, bytes, laid, are_bytes, fill}
use Rattle.rules.specs.Catalogue.{Class, Catalogue, is_created, carried_numbers, key}
use Rattle.rules.specs.Commands.{carried_by, new_entry, bad_in_create, create_results, with_created, move_counter, create}
use Rattle.rules.specs.Maps.{is_some, keys, put, among, empty, first_that_applies}
use Rattle.rules.specs.Masks.{mask}
use Rattle.rules.specs.Messages.{done, no_place, bad_parameter, instance_exists, unless_refused}
use Rattle.rules.specs.State.{Entry, Table, State, class_of, holds, with_table}
use Rattle.rules.specs.WellFormed.{WellFormed}
use Rattle.rules.proofs.Laws.{cases, leb_le, le-leb}
use Rattle.rules.proofs.MapLaws.{longer}
use Rattle.rules.proofs.Standing.{key_class}
use Rattle.octets.proofs.Parted.{part}
use Rattle.legality.proofs.Carried.{create_carries_legal}
use Rattle.legality.proofs.Counter.{move_counter_legal}
use Rattle.legality.proofs.Tables.{LegalEntry, LegalLive, new_entry_legal, create_legal}
use Rattle.store.specs.Layout.{place_count, place, live_bytes, place_at, in_use_at, key_length, live_at, block_length}
use Rattle.store.specs.Positions.{position}
use Rattle.store.proofs.Positions.{position_among}
use Rattle.class_tables.specs.Built.{cat_of, class_for}
use Rattle.class_tables.specs.declared.Product.{Product}
use Rattle.class_tables.proofs.ClassLaws.{places_are}
use Rattle.class_tables.proofs.EveryProduct.{well_formed_of, fits_of}
use Rattle.table.specs.Counts.{moved_on}
use Rattle.table.specs.Places.{keys_in}
use Rattle.table.specs.Spots.{rank, inserted}
use Rattle.table.proofs.Counted.{counter_moved}
use Rattle.table.proofs.TableMoved.{put_moved}
use Rattle.sound_store.specs.Held.{state_in, Sound, Leaves}
use Rattle.sound_store.proofs.Held.{told, live_is, live_held, live_opened}
use Rattle.sound_store.proofs.LiveTable.{made_held, live_given_back, created_keys, created_count}
use Rattle.attribute_check.proofs.Held as judged
use Rattle.create_command.specs.New.{unkept_bad, bad_carried, with_place}
use Rattle.create_command.proofs.Bad.{none_masked, some_masked}
use Rattle.create_command.proofs.NewEntry.{fixed_shown}

module _ (pr : Product) (b : List ℕ) (h : Sound pr b) (c i : ℕ) (lt : i < 65536) (cr : is_created (class_for pr c).creation ≡ true) (v : List ℕ) (long : length v ≡ 32) where
  abbrev cat : Catalogue
  cat = cat_of pr

  abbrev wf : WellFormed cat
  wf = well_formed_of pr

  abbrev k : Class
  k = class_for pr c

  abbrev s : State
  s = state_in pr b

  abbrev t : Table
  t = s.table

  abbrev block : List ℕ
  block = part live_at block_length b

  -- the new entry, and its place
  abbrev new : Entry
  new = new_entry cat c (carried_by k v)

  abbrev r : List ℕ
  r = place (key c i, new)

  -- is its key in a place?
  module _ {found : Bool} (p : found ≡ is_some (position (key c i) (keys_in block))) where
    pub held_is : holds cat t c i ≡ found
    held_is = made_held pr block t (live_held pr b h) c i lt cr ∙ sym p

    -- it is there already
    pub exists : found ≡ true → Leaves pr (create cat s c i v) b b (fill 32 (instance_exists ∷ []))
    exists e = rw answer (told pr b h (instance_exists ∷ []))
      where
        answer : create cat s c i v ≡ (s, instance_exists ∷ [])
        answer = unfold create create_results unless_refused first_that_applies in rw (held_is, e) refl

  -- ---- what the code finds bad is what the rules do

  bad_is : bad_carried cat block k r v ≡ bad_in_create cat s c v
  unfolding bad_carried bad_in_create unkept_bad carried_by
  bad_is = ap (λ (x : List ℕ). x ++ unkept_bad k v)
      (judged.bad_is pr block t (live_held pr b h) k r key_length (carried_by k v) (fixed_shown pr c cr v long i) (carried_numbers k) v)

  -- r' is the place as the code made it, and bad what the code found there
  module _ (free : holds cat t c i ≡ false) {r' : List ℕ} (bad : ℕ) (is : r' ≡ r) (found : bad ≡ mask (bad_carried cat block k r' v)) where
    mask_is : bad ≡ mask (bad_in_create cat s c v)
    mask_is = found ∙ ap (λ (x : List ℕ). mask (bad_carried cat block k x v)) is ∙ ap mask bad_is

    pub refused_bad : bad ≢ 0 → Leaves pr (create cat s c i v) b b (fill 32 (bad_parameter ∷ bytes 2 bad))
    refused_bad n = rw answer (told pr b h (bad_parameter ∷ bytes 2 bad))
      where
        answer : create cat s c i v ≡ (s, bad_parameter ∷ bytes 2 bad)
        answer = unfold create create_results unless_refused first_that_applies in
            rw (free, some_masked (bad_in_create cat s c v) (λ e. n (mask_is ∙ e)), ← mask_is) refl

    module _ (fine : bad ≡ 0) where
      none_bad : empty (bad_in_create cat s c v) ≡ true
      none_bad = none_masked (bad_in_create cat s c v) (sym mask_is ∙ fine)

      -- ---- no place is left

      pub refused_full : place_count ≤ byte block in_use_at → Leaves pr (create cat s c i v) b b (fill 32 (no_place ∷ []))
      refused_full g = rw answer (told pr b h (no_place ∷ []))
        where
          full : leb cat.places (length t.created) ≡ true
          full = let m = places_are pr in let n = created_count pr b h in le-leb cat.places (length t.created) (omega arith)

          answer : create cat s c i v ≡ (s, no_place ∷ [])
          answer = unfold create create_results unless_refused first_that_applies in rw (free, none_bad, full) refl

      -- ---- it is made

      module _ (room : byte block in_use_at < place_count) (small : are_bytes v ≡ true) where
        abbrev made : Table
        made = with_created (put (key c i) new t.created) t

        fewer : length t.created < cat.places
        fewer = let m = places_are pr in let n = created_count pr b h in omega arith

        its_class : class_of (key c i) ≡ c
        its_class = key_class c i lt

        made_legal : LegalLive cat wf made
        made_legal =
            let legal_carried = create_carries_legal cat wf s (live_opened pr b h) c v long small none_bad in
            let le : LegalEntry cat (key c i) new = rw its_class at (new_entry_legal cat wf (key c i) (carried_by k v) (rw its_class legal_carried)) in
            create_legal cat wf (key c i) new t (rw its_class cr) fewer le (live_opened pr b h)

        absent : among (key c i) (keys t.created) ≡ false
        absent =
            ap (among (key c i)) (sym (created_keys pr b h)) ∙ sym (position_among (key c i) (keys_in block))
            ∙ sym (made_held pr block t (live_held pr b h) c i lt cr) ∙ free

        put_in : with_place (rank (key c i) (keys_in block)) r block ≡ live_bytes (move_counter cat made)
        unfolding with_place
        put_in =
            let moved : laid in_use_at (suc (byte block in_use_at) ∷ []) (inserted (place_at (rank (key c i) (keys_in block))) r block) ≡ live_bytes made =
            rw (created_keys pr b h, created_count pr b h)
            (ap (λ (x : List ℕ). laid in_use_at (suc (length t.created) ∷ []) (inserted (place_at (rank (key c i) (keys t.created))) r x)) (live_is pr b h)
            ∙ sym (put_moved cat wf (fits_of pr) t (live_opened pr b h) (key c i) new absent fewer (longer (key c i) new t.created absent))) in
            ap moved_on moved ∙ counter_moved pr made made_legal

        answer : create cat s c i v ≡ (with_table (move_counter cat made) s, done ∷ [])
        unfolding create create_results unless_refused first_that_applies
        answer =
            let some_left : leb cat.places (length t.created) ≡ false = not_full cat.places (length t.created) fewer in
            rw (free, none_bad, some_left) refl
          where
            not_full : (n m : ℕ) → m < n → leb n m ≡ false
            not_full n m g = cases (leb n m) (λ y. absurd (let z = leb_le n m y in omega arith)) (λ y. y)

        pub accepted : {j : ℕ} {x : List ℕ} → j ≡ rank (key c i) (keys_in block) → x ≡ with_place j r' block
            → Leaves pr (create cat s c i v) b (put_mid live_at block_length b x) (replicate 32 0)
        accepted e f = rw answer (record {
          store = ap (put_mid live_at block_length b) (f ∙ (λ d. with_place (e d) (is d) block) ∙ put_in)
              ∙ live_given_back pr b h (move_counter cat made) (move_counter_legal cat wf made made_legal);
          reply = refl;
        })
