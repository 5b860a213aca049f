-- What stands where an instance's contents begin in the bytes of a table: each stored content at its place.
use Prim.Native.Nat.{ℕ, ◌+◌, ◌<◌}
use native.Mathlib.Omega.{arith}
use mathlib.Core.Path.{◌≡◌, refl, sym, ◌∙◌, ap}
use mathlib.Core.Bool.{true, false}
use mathlib.Core.Option.{some}
use mathlib.Core.Logic.{◌≢◌}
use mathlib.Core.List.{List, ◌++◌}
use lib.ListN.{length}
use lib.Dec.{eqb}
use Rattle.rules.specs.Maps.{◌and◌, is_some, find, among}
use Rattle.rules.specs.Bytes.{fill}
use Rattle.rules.specs.Catalogue.{Catalogue, class, known, size_of, stored_numbers, is_created, leader, family, key, ont_data}
use Rattle.rules.specs.State.{Contents, Entry, Table, class_of, entries, entry, contents, content}
use Rattle.rules.specs.Legal.{automatic_keys}
use Rattle.rules.specs.Walks.{frozen}
use Rattle.rules.specs.WellFormed.{WellFormed}
use Rattle.rules.proofs.Laws.{cases, true_false, not-true, both, eqb_true, eqb_eq, same?, among_here, find_some, has_among, all_among}
use Rattle.rules.proofs.MapLaws.{some_eq}
use Rattle.rules.proofs.ByteLaws.{length_fill}
use Rattle.rules.proofs.Standing.{key_class, stands, automatic_keys_stand, class_2_known}
use Rattle.store.specs.Layout.{ont_data_width, entry_bytes, code_table, family_width, fits, live_bytes, slot_at}
use Rattle.store.specs.Positions.{inside, position}
use Rattle.store.proofs.ContentsBack.{legal_keys}
use Rattle.store.proofs.EntriesBack.{entry_length}
use Rattle.store.proofs.Widths.{class_2_fits}
use Rattle.legality.proofs.Tables.{LegalEntry, close_entry, LegalTable, LegalLive, frozen_legal}
use Rattle.legality.proofs.Holds.{entry_legal, find_in_automatic}
use Rattle.class_tables.specs.Built.{cat_of}
use Rattle.class_tables.specs.Describes.{offset_of}
use Rattle.class_tables.proofs.EveryProduct.{well_formed_of, fits_of}
use Rattle.table.specs.Spots.{spot_among, spot}
use Rattle.octets.proofs.Parted.{part, part_before, part_fill}
use Rattle.store.proofs.Positions.{position_among}
use Rattle.table.proofs.TableLaid.{at_some}
use Rattle.table.proofs.TableRead.{fronted, InEntry, in_entry, AtSpot, at_spot}
use Rattle.class_tables.proofs.Facts.{first_or_made}
use Rattle.class_tables.specs.declared.Product.{Product}
use Rattle.table.proofs.PlaceKeys.{front, is_fronted, one_byte}
use Rattle.legality.proofs.Frozen.{frozen_contents, class_2_not_created}

content_is : (n : ℕ) (r : Contents) (v : List ℕ) → find n r ≡ some v → v ≡ content n r
unfolding content
content_is n r v f = rw f refl

-- the stored attributes of class c stand in b where its contents begin, as instance i has them
abbrev pub StoredRead : Catalogue → List ℕ → Table → ℕ → ℕ → ℕ → Type 0
StoredRead cat b t i c o = (n : ℕ) → among n (stored_numbers (class cat c)) ≡ true → part (o + offset_of (class cat c) n) (size_of (class cat c) n) b ≡ content n (contents cat t c i)

-- ---- a table without class 2, with any byte in front

module _ (cat : Catalogue) (wf : WellFormed cat) (ft : fits cat ≡ true) (u : Table) (h : LegalTable cat wf (automatic_keys cat) u) (x : List ℕ) (lx : length x ≡ 1)
    (i : ℕ) (lt : i < 65536) where
  pub stored_read : (c o : ℕ) → c ≢ ont_data → spot cat u c i ≡ some o → StoredRead cat (fronted x u) u i c o
  stored_read c o other sp n inn =
      let s : AtSpot cat wf ft u h x lx c i lt o = at_spot cat wf ft u h x lx c i lt other o sp in
      let r : Contents = s.its_contents in
      let f = find_some n r (has_among n r ∙ ap (among n) (legal_keys cat (class cat c) r s.legal) ∙ inn) in
      s.shown n f.0 f.1 ∙ content_is n r f.0 f.1 ∙ ap (content n) (sym s.are)

-- ---- the live table

module _ (pr : Product) (t : Table) (h : LegalLive (cat_of pr) (well_formed_of pr) t) (i : ℕ) (lt : i < 65536) where
  abbrev cat : Catalogue
  cat = cat_of pr

  abbrev wf : WellFormed cat
  wf = well_formed_of pr

  other_read : (c o : ℕ) → known cat c ≡ true → c ≢ ont_data → spot cat t c i ≡ some o → StoredRead cat (live_bytes t) t i c o
  unfolding frozen
  other_read c o kn other sp n inn =
      rw (is_fronted t) (stored_read cat wf (fits_of pr) (frozen t) (frozen_legal cat wf t h) (front t) (one_byte t) i lt c o other sp n inn)
      ∙ ap (content n) (frozen_contents cat wf c t i lt kn other)

  -- class 2's contents are in front
  front_read : i ≡ 0 → StoredRead cat (live_bytes t) t i ont_data 0
  unfolding live_bytes
  front_read i0 n inn =
      let k : ℕ = key ont_data 0 in
      let f = find_some k t.automatic (has_among k t.automatic ∙ ap (among k) h.automatic_keys ∙ among_here k (automatic_keys cat)) in
      let e : Entry = f.0 in
      let found : find k (entries t) ≡ some e = find_in_automatic k t.automatic t.created e f.1 in
      let le : LegalEntry cat k e = entry_legal cat wf t h k e found in
      let leads : leader cat ont_data ≡ ont_data = rw wf.class_2_has_instance_0_alone refl in
      let ie : InEntry cat wf (fits_of pr) (frozen t) (frozen_legal cat wf t h) (front t) (one_byte t) ont_data i lt e =
      in_entry cat wf (fits_of pr) (frozen t) (frozen_legal cat wf t h) (front t) (one_byte t) ont_data i lt k e (sym leads) (class_2_known cat wf) le in
      let first : inside cat ont_data ≡ 0 = first_or_made pr ont_data (rw leads (class_2_not_created cat wf)) in
      let r : Contents = ie.its_contents in
      let g = find_some n r (has_among n r ∙ ap (among n) (legal_keys cat (class cat ont_data) r ie.legal) ∙ inn) in
      let len : length (entry_bytes e) ≡ family_width (family cat ont_data) = entry_length cat wf k e (close_entry cat k e le) in
      let narrow = class_2_fits cat (fits_of pr) wf in
      let room = ie.room n inn in
      let o : ℕ = offset_of (class cat ont_data) n in
      let z : ℕ = size_of (class cat ont_data) n in
      let x : List ℕ = fill ont_data_width (entry_bytes e) in
      let lx : length x ≡ 1 = length_fill ont_data_width (entry_bytes e) in
      let from : 0 + o ≡ inside cat ont_data + o = omega arith in
      ap (λ (y : Entry). part (0 + o) z (fill ont_data_width (entry_bytes y) ++ code_table (frozen t))) (entry_is k e found)
      ∙ part_before x (code_table (frozen t)) (0 + o) z (omega arith)
      ∙ part_fill ont_data_width (entry_bytes e) (0 + o) z (omega arith) (omega arith)
      ∙ ap (λ (y : ℕ). part y z (entry_bytes e)) from
      ∙ ie.shown n g.0 g.1 ∙ content_is n r g.0 g.1
      ∙ ap (content n) (sym (contents_are (rw (leads, i0) found) ie.found))
    where
      entry_is : (k : ℕ) (e : Entry) → find k (entries t) ≡ some e → entry k t ≡ e
      entry_is k e f = unfold entry in rw f refl

      contents_are : {e : Entry} {r : Contents} → find (key (leader cat ont_data) i) (entries t) ≡ some e → find ont_data e ≡ some r → contents cat t ont_data i ≡ r
      contents_are f g = unfold contents entry in rw (f, g) refl

  ont_data_spot : (o : ℕ) → spot cat t ont_data i ≡ some o → (i ≡ 0) × (o ≡ 0)
  unfolding spot_among
  ont_data_spot o sp =
      let leads : leader cat ont_data ≡ ont_data = rw wf.class_2_has_instance_0_alone refl in
      let au : is_created (class cat (leader cat ont_data)).creation ≡ false = rw leads (class_2_not_created cat wf) in
      cases (eqb ont_data ont_data and eqb i 0)
      (λ y. let z : some 0 ≡ some o = rw (au, y) at sp in (eqb_eq i 0 (both y).1, sym (some_eq z)))
      (λ y. at_some slot_at (position (key ont_data i) (automatic_keys cat)) o (rw (au, y) at sp) (λ j p e.
      let k : ℕ = key ont_data i in
      let sk : stands cat k ≡ true = all_among (stands cat) (automatic_keys cat) (automatic_keys_stand cat wf) k (sym (position_among k (automatic_keys cat)) ∙ ap is_some p) in
      true_false (eqb_true (class_of k) ont_data (key_class ont_data i lt)) (not-true (both (both sk).1).0)))

  pub live_read : (c o : ℕ) → known cat c ≡ true → spot cat t c i ≡ some o → StoredRead cat (live_bytes t) t i c o
  live_read c o kn sp = same? c ont_data
      (λ e. let sq : spot cat t ont_data i ≡ some o = rw (← e) sp in let z = ont_data_spot o sq in rw (e, z.1) (front_read z.0))
      (λ other. other_read c o kn other sp)
