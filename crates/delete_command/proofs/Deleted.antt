-- The answer to a Delete of an instance of a created class, and the store that it leaves.
use Prim.Native.Nat.{ℕ, suc, ◌-◌, ◌<◌}
use native.Mathlib.Omega.{arith}
use mathlib.Core.Path.{◌≡◌, refl, sym, ◌∙◌, ap}
use mathlib.Core.Bool.{true}
use mathlib.Core.Option.{Option, none, some}
use mathlib.Core.List.{List, [], ◌∷◌}
use lib.ListN.{length, replicate}
use borrow.Rule.Slice.PartMut.{put_mid}
use Rattle.rules.specs.Maps.{Map, is_some, keys, remove, first_that_applies}
use Rattle.rules.specs.Bytes.{byte, laid, fill}
use Rattle.rules.specs.Catalogue.{Catalogue, is_created, key}
use Rattle.rules.specs.State.{Table, Alarms, State, holds, with_table, with_alarms}
use Rattle.rules.specs.Messages.{done, unknown_instance, unless_refused}
use Rattle.rules.specs.Commands.{with_created, move_counter, without, delete_results, delete}
use Rattle.rules.specs.WellFormed.{WellFormed}
use Rattle.rules.proofs.MapLaws.{rising_up, length_keys, shorter}
use Rattle.store.specs.Layout.{place_length, live_bytes, place_at, live_at, block_length}
use Rattle.legality.proofs.Tables.{LegalLive, delete_legal}
use Rattle.legality.proofs.Counter.{move_counter_legal}
use Rattle.legality.proofs.LegalStates.{open_state}
use Rattle.std.specs.declared.option.Option as found
use Rattle.class_tables.specs.Built.{cat_of, class_for}
use Rattle.class_tables.specs.Finding.{found_of}
use Rattle.class_tables.proofs.EveryProduct.{well_formed_of, fits_of}
use Rattle.store.specs.Positions.{position}
use Rattle.table.specs.Spots.{removed}
use Rattle.table.specs.Places.{keys_in}
use Rattle.octets.proofs.Parted.{part}
use Rattle.store.proofs.Positions.{position_among, stands_at}
use Rattle.table.proofs.TableMoved.{remove_moved}
use Rattle.sound_store.specs.Held.{state_in, Sound, stored, Leaves}
use Rattle.sound_store.proofs.Held.{live_is, live_held, live_opened, told}
use Rattle.table.specs.Counts.{moved_on}
use Rattle.table.proofs.Counted.{counter_moved}
use Rattle.store.proofs.AlarmsStay.{alarms_left}
use Rattle.delete_command.specs.Without.{without_place}
use Rattle.sound_store.proofs.LiveTable.{made_held, created_count, created_keys, live_given_back}
use Rattle.class_tables.specs.declared.Product.{Product}

-- a place out, then the counter
pub taken_out_is : (j : ℕ) (b x y : List ℕ) → x ≡ laid 1 ((byte b 1 - 1) ∷ []) (removed (place_at j) place_length b) → y ≡ moved_on x
    → y ≡ without_place j b
unfolding without_place
taken_out_is j b x y e f = f ∙ ap moved_on e

module _ (pr : Product) (b : List ℕ) (h : Sound pr b) (c i : ℕ) (lt : i < 65536) (cr : is_created (class_for pr c).creation ≡ true) where
  abbrev cat : Catalogue
  cat = cat_of pr

  abbrev wf : WellFormed cat
  wf = well_formed_of pr

  abbrev s : State
  s = state_in pr b

  abbrev block : List ℕ
  block = part live_at block_length b

  -- which place has the instance's key
  abbrev sought : Option ℕ
  sought = position (key c i) (keys_in block)

  -- what the code found by this key
  pub as_found : {k : ℕ} {found o : found.Option ℕ} → k ≡ key c i → found_of found ≡ position k (keys_in block) → found ≡ o → sought ≡ found_of o
  as_found is p e = ap (λ (k : ℕ). position k (keys_in block)) (sym is) ∙ sym p ∙ ap found_of e

  held_if_found : {o : Option ℕ} → sought ≡ o → holds cat s.table c i ≡ is_some o
  held_if_found p = made_held pr block s.table (live_held pr b h) c i lt cr ∙ ap is_some p

  -- ---- it isn't there

  refusal : sought ≡ none → delete cat s c i ≡ (s, unknown_instance ∷ [])
  unfolding delete delete_results unless_refused first_that_applies
  refusal p = rw (held_if_found p) refl

  pub refused : sought ≡ none → Leaves pr (delete cat s c i) b b (fill 32 (unknown_instance ∷ []))
  refused p = rw (refusal p) (told pr b h (unknown_instance ∷ []))

  -- ---- it is there

  abbrev left : Table
  left = with_created (remove (key c i) s.table.created) s.table

  left_legal : LegalLive cat wf left
  left_legal = delete_legal cat wf (key c i) s.table (live_opened pr b h)

  -- no alarm goes, so that the table alone changes
  table_alone : without cat c i s ≡ with_table (move_counter cat left) s
  unfolding without
  table_alone =
      let a = alarms_left cat (fits_of pr) (holds cat s.table) s.alarms (open_state cat wf s h.legal).its_alarms c i cr in
      ap (λ (m : Map Alarms). with_table (move_counter cat left) (with_alarms m s)) a

  module _ (j : ℕ) (p : sought ≡ some j) where
    its_place : position (key c i) (keys s.table.created) ≡ some j
    its_place = ap (position (key c i)) (sym (created_keys pr b h)) ∙ p

    one_less : suc (length (remove (key c i) s.table.created)) ≡ length s.table.created
    one_less = shorter (key c i) 0 s.table.created (rising_up (keys s.table.created) (live_opened pr b h).rise)
        (sym (position_among (key c i) (keys s.table.created)) ∙ ap is_some its_place)

    pub place_in_use : j < byte block 1
    place_in_use = rw (created_count pr b h) (rw (length_keys s.table.created) at (stands_at (key c i) j (keys s.table.created) its_place).0)

    taken_out : without_place j block ≡ live_bytes (move_counter cat left)
    unfolding without_place
    taken_out =
        let fewer : byte block 1 - 1 ≡ length (remove (key c i) s.table.created) = omega (arith, created_count pr b h, one_less) in
        let moved : laid 1 ((byte block 1 - 1) ∷ []) (removed (place_at j) place_length block) ≡ live_bytes left =
        rw fewer (ap (λ (x : List ℕ). laid 1 (length (remove (key c i) s.table.created) ∷ []) (removed (place_at j) place_length x)) (live_is pr b h)
        ∙ sym (remove_moved cat wf (fits_of pr) s.table (live_opened pr b h) (key c i) j its_place one_less)) in
        ap moved_on moved ∙ counter_moved pr left left_legal

    deletion : delete cat s c i ≡ (without cat c i s, done ∷ [])
    unfolding delete delete_results unless_refused first_that_applies
    deletion = rw (held_if_found p) refl

    pub deleted : Leaves pr (delete cat s c i) b (put_mid live_at block_length b (without_place j block)) (replicate 32 0)
    deleted = rw deletion (record {
      store = ap (put_mid live_at block_length b) taken_out
          ∙ live_given_back pr b h (move_counter cat left) (move_counter_legal cat wf left left_legal)
          ∙ ap (λ (u : State). stored pr u b) (sym table_alone);
      reply = refl;
    })
