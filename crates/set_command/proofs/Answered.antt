-- The answer to a Set, and the store that it leaves.
use Prim.Native.Nat.{ℕ, ◌+◌, ◌≤◌, ◌<◌}
use native.Mathlib.Omega.{arith}
use mathlib.Core.Path.{◌≡◌, refl, sym, ◌∙◌, ap}
use mathlib.Core.Bool.{true}
use mathlib.Core.Option.{Option, none, some}
use mathlib.Core.List.{List, [], ◌∷◌}
use lib.ListN.{length, drop, length-drop}
use lib.Seq.{take_all}
use lib.Dec.{eqb}
use Rattle.rules.specs.Maps.{given, is_some, keys, rising, first_that_applies}
use Rattle.rules.specs.Bytes.{two, fill, laid, are_bytes}
use Rattle.rules.specs.Masks.{named, total}
use Rattle.rules.specs.Catalogue.{Class, Catalogue, known, size_of, ont_data}
use Rattle.rules.specs.State.{Table, State, holds, overwrite, change, with_table}
use Rattle.rules.specs.Messages.{done, unknown_instance, Answer, unless_refused}
use Rattle.rules.specs.Commands.{cut, set_by, bad_in_set, set_results, moved_by_set}
use Rattle.rules.specs.Commands as commands
use Rattle.rules.specs.WellFormed.{WellFormed}
use Rattle.rules.proofs.Laws.{cases}
use Rattle.rules.proofs.ByteLaws.{keys_cut}
use Rattle.store.specs.Layout.{contents_width, live_bytes, block_length, live_at}
use Rattle.legality.proofs.Tables.{LegalLive}
use Rattle.legality.proofs.Holds.{holds_known}
use Rattle.legality.proofs.Carried.{set_carries_legal}
use Rattle.legality.proofs.Written.{set_legal}
use Rattle.bits.proofs.Masks.{named_rising}
use Rattle.class_tables.specs.Built.{cat_of, class_for}
use Rattle.class_tables.proofs.EveryProduct.{well_formed_of, fits_of}
use Rattle.table.specs.Spots.{spot_among, spot}
use Rattle.table.specs.Places.{keys_in}
use Rattle.table.proofs.HeldAt.{there_is_held}
use Rattle.table.proofs.SpotRoom.{spot_room}
use Rattle.attribute_check.specs.Judges.{is_in, bad_among}
use Rattle.attribute_check.proofs.Held.{bad_in_table}
use Rattle.attribute_write.specs.Lays.{laid_values}
use Rattle.attribute_write.proofs.Overwritten.{Sized, cut_is_sized}
use Rattle.attribute_write.proofs.TableWritten.{table_laid}
use Rattle.table.specs.Counts.{moved_on}
use Rattle.table.proofs.Counted.{counter_moved}
use Rattle.sound_store.specs.Held.{state_in, Sound, Leaves}
use Rattle.sound_store.proofs.Held.{as_stored, live_is, live_held, live_shaped, live_opened, live_changed, told}
use Rattle.sound_store.proofs.LiveTable.{created_keys}
use Rattle.set_command.specs.Sets.{refusing, counted_by, written, live_in, values_in, SetAt}
use Rattle.set_command.proofs.Refused.{Passed, passed}
use Rattle.set_command.proofs.Wrote.{all_are_stored}
use Rattle.class_tables.specs.declared.Product.{Product}

module _ (pr : Product) (b : List ℕ) (h : Sound pr b) (c i : ℕ) (lt : i < 65536) where
  abbrev cat : Catalogue
  cat = cat_of pr

  abbrev wf : WellFormed cat
  wf = well_formed_of pr

  abbrev k : Class
  k = class_for pr c

  abbrev s : State
  s = state_in pr b

  abbrev t : Table
  t = s.table

  abbrev block : List ℕ
  block = live_in b

  abbrev sought : Option ℕ
  sought = spot_among cat (keys_in block) c i

  held_if_found : {o : Option ℕ} → sought ≡ o → holds cat t c i ≡ is_some o
  held_if_found p = sym (there_is_held pr block t (live_held pr b h) c i lt) ∙ ap is_some p

  -- ---- it isn't there

  module _ (v : List ℕ) where
    pub refused_absent : sought ≡ none → Leaves pr (commands.set cat s c i v) b b (fill 32 (unknown_instance ∷ []))
    unfolding commands.set set_results unless_refused first_that_applies
    refused_absent p = rw (held_if_found p) (told pr b h (unknown_instance ∷ []))

  -- ---- it is there

  module _ (at : ℕ) (p : sought ≡ some at) where
    there : holds cat t c i ≡ true
    there = held_if_found p

    its_spot : spot cat t c i ≡ some at
    its_spot = ap (λ (m : List ℕ). spot_among cat m c i) (sym (created_keys pr b h)) ∙ p

    is_known : known cat c ≡ true
    is_known = (holds_known cat wf t (live_opened pr b h) c i there).is_known

    pub its_room : at + contents_width k ≤ block_length
    its_room = let shape = live_shaped pr b h in let long = shape.long in let room = spot_room pr block shape c i p in omega arith

    module _ (v : List ℕ) (long : length v ≡ 32) (byte_v : are_bytes v ≡ true) where
      values_are : values_in v ≡ drop 2 v
      values_are = take_all 30 (drop 2 v) (rw (length-drop 2 v) (omega arith))

      abbrev bad : List ℕ
      bad = bad_among (is_in cat block) k block at (named (two v 0)) (values_in v)

      bad_are : bad ≡ bad_in_set cat s c i v
      unfolding bad_in_set set_by
      bad_are = ap (bad_among (is_in cat block) k block at (named (two v 0))) values_are ∙ bad_in_table pr block t (live_held pr b h) c i at lt p (named (two v 0)) (drop 2 v)

      abbrev ref : Option (List ℕ)
      ref = refusing pr c at (two v 0) (values_in v) block

      lines_are : first_that_applies (set_results (holds cat t c i) k (two v 0) (bad_in_set cat s c i v)) ≡ ref
      unfolding refusing
      lines_are = rw (there, ← bad_are) refl

      -- the table with the values written
      abbrev changed : Table
      changed = change cat c i (overwrite (set_by k v)) t

      abbrev accepted : Answer
      accepted = (with_table (moved_by_set cat c changed) s, done ∷ [])

      answer_is : commands.set cat s c i v ≡ given ref accepted (λ r. (s, r))
      unfolding commands.set unless_refused
      answer_is = ap (λ (o : Option (List ℕ)). given o accepted (λ r. (s, r))) lines_are

      module _ (q : Passed k (two v 0) bad) where
        changed_legal : LegalLive cat wf changed
        changed_legal = set_legal cat wf t (live_opened pr b h) c i (set_by k v) lt
            (set_carries_legal cat wf s (live_opened pr b h) c i v long byte_v q.all_there q.all_writable q.room (rw (← bad_are) q.all_good))

        fits_in : total (size_of k) (named (two v 0)) ≤ length (drop 2 v)
        fits_in = let r = q.room in rw (length-drop 2 v) (omega arith)

        in_order : rising (keys (set_by k v)) ≡ true
        unfolding set_by
        in_order = rw (keys_cut (size_of k) (named (two v 0)) (drop 2 v)) (named_rising (two v 0))

        sized : Sized k (set_by k v)
        unfolding set_by
        sized = cut_is_sized k (named (two v 0)) (drop 2 v) (all_are_stored pr c (named (two v 0)) q.all_there q.all_writable) fits_in

        laid_are : laid_values k at (cut (size_of k) (named (two v 0)) (values_in v)) block ≡ live_bytes changed
        unfolding set_by
        laid_are =
            ap (λ (x : List ℕ). laid_values k at (cut (size_of k) (named (two v 0)) x) block) values_are
            ∙ ap (laid_values k at (set_by k v)) (live_is pr b h)
            ∙ sym (table_laid cat wf (fits_of pr) t (live_opened pr b h) c i lt is_known at its_spot its_room (set_by k v) in_order sized)

        written_are : written pr c at (two v 0) (values_in v) block ≡ live_bytes (moved_by_set cat c changed)
        unfolding written counted_by moved_by_set
        written_are = cases (eqb c ont_data)
            (λ e. rw e laid_are)
            (λ e. rw e (ap moved_on laid_are ∙ counter_moved pr changed changed_legal))

      passed_all : ref ≡ none → Passed k (two v 0) bad
      unfolding refusing
      passed_all e = passed k (two v 0) bad e

      pub leaves : {after out : List ℕ} → SetAt pr c at v b after out → Leaves pr (commands.set cat s c i v) b after out
      leaves {after} {out} a = rw answer_is (go ref refl)
        where
          go : (o : Option (List ℕ)) → ref ≡ o → Leaves pr (given o accepted (λ r. (s, r))) b after out
          go none e = record {
            store = a.store ∙ ap (λ (o : Option (List ℕ)). given o (laid live_at (written pr c at (two v 0) (values_in v) block) b) (λ r. b)) e
                ∙ ap (λ (x : List ℕ). laid live_at x b) (written_are (passed_all e)) ∙ sym (live_changed pr b h (moved_by_set cat c changed));
            reply = a.reply ∙ ap (λ (o : Option (List ℕ)). fill 32 (given o (done ∷ []) (λ r. r))) e;
          }
          go (some r) e = record {
            store = a.store ∙ ap (λ (o : Option (List ℕ)). given o (laid live_at (written pr c at (two v 0) (values_in v) block) b) (λ r. b)) e ∙ as_stored pr b h;
            reply = a.reply ∙ ap (λ (o : Option (List ℕ)). fill 32 (given o (done ∷ []) (λ r. r))) e;
          }
