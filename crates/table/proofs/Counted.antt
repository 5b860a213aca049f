-- The counter in a live table's bytes.
use Prim.Native.Nat.{ℕ, ◌+◌, ◌<◌}
use native.Mathlib.Omega.{arith}
use mathlib.Core.Path.{◌≡◌, refl, sym, ◌∙◌, ap}
use mathlib.Core.Option.{some}
use mathlib.Core.List.{List, [], ◌∷◌, ◌++◌}
use lib.ListN.{length, take, set}
use lib.Seq.{set_split}
use Rattle.rules.specs.Bytes.{byte, number, number_from, fill, laid}
use Rattle.rules.specs.Maps.{◌and◌, Map, find, keys, among}
use Rattle.rules.specs.Catalogue.{Catalogue, class, leader, key, ont_data}
use Rattle.rules.specs.State.{Contents, Entry, Table, entries, entry, contents, content, counter, with_counter}
use Rattle.rules.specs.Messages.{next_number}
use Rattle.rules.specs.Commands.{move_counter}
use Rattle.rules.specs.WellFormed.{WellFormed}
use Rattle.rules.specs.Walks.{frozen}
use Rattle.rules.proofs.Laws.{find_some, has_among}
use Rattle.rules.proofs.Standing.{class_2_known}
use Rattle.store.specs.Layout.{entry_bytes, code_table, live_bytes}
use Rattle.store.proofs.ContentsBack.{legal_keys}
use Rattle.legality.proofs.Tables.{LegalEntry, LegalLive, frozen_legal}
use Rattle.legality.proofs.Holds.{find_in_automatic, entry_legal}
use Rattle.table.specs.Spots.{spot_among, spot}
use Rattle.table.proofs.TableLaid.{Shape, shape_of}
use Rattle.table.proofs.WriteLaid.{write_laid}
use Rattle.table.proofs.TableRead.{InEntry, in_entry}
use Rattle.class_tables.specs.Built.{cat_of}
use Rattle.class_tables.proofs.ClassLaws.{counter_stored, counter_size, counter_first, counter_in_front}
use Rattle.class_tables.proofs.EveryProduct.{well_formed_of, fits_of}
use Rattle.table.specs.Counts.{moved_on}
use Rattle.class_tables.specs.declared.Product.{Product}

-- a byte stored in front
pub put_in_front : (b : List ℕ) (n m : ℕ) → 0 < length b → m ≡ n → set b 0 m ≡ laid 0 (n ∷ []) b
unfolding laid
put_in_front b n m h e = rw e (set_split b 0 n h)

one_number : (x : List ℕ) → number (take 1 x) ≡ byte x 0
unfolding number_from
one_number [] = refl
one_number (a ∷ x) = omega arith

first_of_filled : (x y : List ℕ) → byte (fill 1 x ++ y) 0 ≡ byte x 0
first_of_filled [] y = refl
first_of_filled (a ∷ x) y = refl

module _ (pr : Product) (t : Table) (h : LegalLive (cat_of pr) (well_formed_of pr) t) where
  abbrev cat : Catalogue
  cat = cat_of pr

  abbrev wf : WellFormed cat
  wf = well_formed_of pr

  leads : leader cat ont_data ≡ ont_data
  leads = rw wf.class_2_has_instance_0_alone refl

  its_spot : spot cat t ont_data 0 ≡ some 0
  unfolding spot_among ◌and◌
  its_spot = rw (leads, wf.class_2_has_instance_0_alone) refl

  -- the byte in front is the counter
  pub counter_written : (n : ℕ) → live_bytes (with_counter cat n t) ≡ laid 0 (n ∷ []) (live_bytes t)
  unfolding with_counter
  counter_written n =
      let e = write_laid cat wf (fits_of pr) t h ont_data 0 1 (n ∷ []) (omega arith) (counter_stored pr) (sym (counter_size pr)) 0 (class_2_known cat wf) its_spot in
      e ∙ ap (λ (o : ℕ). laid (0 + o) (n ∷ []) (live_bytes t)) (counter_first pr)

  -- and shows it
  counter_shown : counter cat t ≡ byte (live_bytes t) 0
  unfolding counter contents content entry find live_bytes keys
  counter_shown =
      let k : ℕ = key ont_data 0 in
      let sh : Shape cat t.automatic = shape_of cat t.automatic h.automatic_keys in
      let e : Entry = sh.first in
      let found : find k (entries t) ≡ some e = find_in_automatic k t.automatic t.created e (ap (λ (m : Map Entry). find k m) sh.is) in
      let le : LegalEntry cat k e = entry_legal cat wf t h k e found in
      let ie : InEntry cat wf (fits_of pr) (frozen t) (frozen_legal cat wf t h) (0 ∷ []) refl ont_data 0 (omega arith) e =
      in_entry cat wf (fits_of pr) (frozen t) (frozen_legal cat wf t h) (0 ∷ []) refl ont_data 0 (omega arith) k e (sym leads) (class_2_known cat wf) le in
      let r : Contents = ie.its_contents in
      let f = find_some 1 r (has_among 1 r ∙ ap (among 1) (legal_keys cat (class cat ont_data) r ie.legal) ∙ (counter_stored pr)) in
      let shown : take 1 (entry_bytes e) ≡ f.0 = rw (counter_first pr, counter_size pr, counter_in_front pr) at (ie.shown 1 f.0 f.1) in
      rw (leads, found, ie.found, f.1, ← shown) (one_number (entry_bytes e) ∙ sym (first_of_filled (entry_bytes e) (code_table (frozen t))))

  -- moved on, in the rules and in the bytes
  pub counter_moved : moved_on (live_bytes t) ≡ live_bytes (move_counter cat t)
  counter_moved = sym (counter_written (next_number (counter cat t)) ∙ ap (λ (n : ℕ). laid 0 (next_number n ∷ []) (live_bytes t)) counter_shown)
