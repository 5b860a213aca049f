-- The two commands, from what the code does to the bytes: what upload leaves, and what upload next shows.
use Prim.Native.Nat.{ℕ, ◌+◌, ◌≤◌, ◌<◌}
use native.Mathlib.Omega.{arith}
use mathlib.Core.Path.{◌≡◌, refl, sym, ◌∙◌, ap}
use mathlib.Core.Bool.{Bool, true, false, ◌&&◌}
use mathlib.Core.Logic.{◌≢◌}
use mathlib.Core.Option.{Option, none, some}
use mathlib.Core.List.{List, [], ◌∷◌, ◌++◌}
use lib.ListN.{length, take, drop, get_or, replicate}
use lib.Seq.{get_or-take, get_or-drop}
use lib.Dec.{eqb}
use Rattle.rules.specs.Maps.{◌and◌, given, keys, nth}
use Rattle.rules.specs.Bytes.{byte, two, bytes, fill, laid}
use Rattle.rules.specs.Masks.{named}
use Rattle.rules.specs.Catalogue.{Catalogue, ont_data, is_created, class}
use Rattle.rules.specs.State.{Table, State, class_of}
use Rattle.rules.specs.Legal.{automatic_keys, legal_frozen}
use Rattle.rules.specs.Walks.{if_ont_data, Section, sections, section_contents, frozen, upload, upload_next}
use Rattle.rules.specs.Commands.{values}
use Rattle.rules.specs.WellFormed.{WellFormed}
use Rattle.rules.proofs.Laws.{cases, both, eqb_eq, eqb_ne}
use Rattle.rules.proofs.MapLaws.{every_keys}
use Rattle.store.specs.Layout.{table_length, code_table, code_optional, block_length, upload_at, live_at, table_at}
use Rattle.legality.proofs.Tables.{LegalTable, open_table, close_table, frozen_legal}
use Rattle.octets.proofs.Laid.{laid_number, filled}
use Rattle.class_tables.specs.Built.{cat_of}
use Rattle.class_tables.specs.declared.Product.{Product}
use Rattle.class_tables.proofs.EveryProduct.{well_formed_of, fits_of}
use Rattle.bits.proofs.Masks.{mask_named}
use Rattle.table.specs.Places.{InShape, keys_in}
use Rattle.table.specs.Spots.{spot_among, spot}
use Rattle.table.proofs.TableRead.{fronted}
use Rattle.table.proofs.PlaceKeys.{in_shape, keys_read, live_keys}
use Rattle.upload_sections.specs.Sections.{sections_in, Found}
use Rattle.std.specs.Prelude.{Some}
use Rattle.upload_sections.proofs.SectionsHeld.{sections_told}
use Rattle.upload_sections.proofs.SectionsShow.{Shown, section_shown}
use Rattle.upload_sections.proofs.SectionSpots.{SpotOf, at_its_spot}
use Rattle.upload_sections.proofs.ClassTotals.{shown}
use Rattle.attribute_read.specs.Values.{values_at}
use Rattle.attribute_read.proofs.ValuesRead.{values_frozen}
use Rattle.sound_store.specs.Held.{Sound, state_in, Leaves}
use Rattle.sound_store.proofs.Held.{as_stored, live_opened, live_is, table_is, upload_is, upload_changed}
use Rattle.upload_walk.specs.SectionBytes.{frozen_block, section_bytes, Showable}
use Rattle.upload_walk.proofs.Showing.{head, bytes_fit}
use Rattle.legality.proofs.LegalStates.{open_state}

-- ---- the reply's contents, over 32 zeros

blank : {out : List ℕ} → out ≡ replicate 32 0 → out ≡ fill 32 []
blank e = e

-- ---- the test of upload next: the ONT data's, and something is frozen

pub tested : (r : Bool) (x : ℕ) → (r && eqb x 1) ≡ true → (r ≡ true) × (x ≡ 1)
unfolding ◌and◌
tested r x e = let t = both {a = r} {b = eqb x 1} e in (t.0, eqb_eq x 1 t.1)

-- ---- MIB upload

module _ (pr : Product) (b : List ℕ) (h : Sound pr b) where
  abbrev cat : Catalogue
  cat = cat_of pr

  abbrev wf : WellFormed cat
  wf = well_formed_of pr

  abbrev s : State
  s = state_in pr b

  abbrev t : Table
  t = frozen s.table

  t_legal : LegalTable cat wf (automatic_keys cat) t
  t_legal = frozen_legal cat wf s.table (live_opened pr b h)

  live_keys_are : keys_in (take block_length (drop live_at b)) ≡ keys t.created
  unfolding frozen
  live_keys_are = ap keys_in (live_is pr b h) ∙ live_keys cat wf (fits_of pr) s.table (live_opened pr b h)

  total_is : {n : ℕ} → n ≡ length (sections_in cat (keys_in (take block_length (drop live_at b)))) → n ≡ length (sections cat t)
  total_is e = e ∙ ap (λ (x : List ℕ). length (sections_in cat x)) live_keys_are ∙ ap length (sym (sections_told cat wf t t_legal))

  pub total_small : {n : ℕ} → n ≡ length (sections_in cat (keys_in (take block_length (drop live_at b)))) → n ≤ 65535
  total_small e = let z = total_is e in let u = wf.uploads_are_short t (close_table cat wf (automatic_keys cat) t t_legal) in omega arith

  pub uploaded : (c i n : ℕ) {r : Bool} {after out out₁ : List ℕ} → r ≡ (eqb c ont_data and eqb i 0) → r ≡ true
      → n ≡ length (sections_in cat (keys_in (take block_length (drop live_at b))))
      → after ≡ laid upload_at (1 ∷ take table_length (drop table_at b)) b → out ≡ replicate 32 0 → out₁ ≡ take 0 out ++ (bytes 2 n ++ drop (0 + 2) out)
      → Leaves pr (upload cat s c i) b after out₁
  unfolding upload if_ont_data
  uploaded c i n {out = out} e y f a z o =
      let two_bytes : length (bytes 2 n) ≤ 32 = unfold bytes in omega arith in
      rw (sym e ∙ y) (record {
        store = a ∙ ap (λ (x : List ℕ). laid upload_at (1 ∷ x) b) (table_is pr b h) ∙ sym (upload_changed pr b h t);
        reply = filled 32 (bytes 2 n) two_bytes (o ∙ laid_number 0 n out ∙ ap (laid 0 (bytes 2 n)) z) ∙ ap (λ (k : ℕ). fill 32 (bytes 2 k)) (total_is f);
      })

  pub not_uploaded : (c i : ℕ) {r : Bool} {out : List ℕ} → r ≡ (eqb c ont_data and eqb i 0) → r ≡ false → out ≡ replicate 32 0
      → Leaves pr (upload cat s c i) b b out
  unfolding upload if_ont_data
  not_uploaded c i e n z = rw (sym e ∙ n) (record { store = as_stored pr b h; reply = blank z })

  -- ---- MIB upload next

  abbrev mark : ℕ
  mark = get_or b upload_at 0

  mark_read : byte (frozen_block b) 0 ≡ mark
  mark_read = get_or-take block_length (drop upload_at b) 0 0 (omega arith) ∙ get_or-drop upload_at b 0 0

  first_of : (o : Option Table) → frozen_block b ≡ code_optional table_length code_table o → mark ≡ byte (code_optional table_length code_table o) 0
  first_of o e = sym mark_read ∙ ap (λ (x : List ℕ). byte x 0) e

  -- what was frozen
  record Frozen : Type 0 where
    pub table : Table
    pub held : s.upload ≡ some table
    pub is : frozen_block b ≡ fronted (1 ∷ []) table
    pub legal : LegalTable cat wf (automatic_keys cat) table

  upload_legal : given s.upload true (legal_frozen cat) ≡ true
  upload_legal = (open_state cat wf s h.legal).its_upload

  opened : mark ≡ 1 → Frozen
  unfolding code_optional
  opened m = go s.upload refl
    where
      go : (o : Option Table) → s.upload ≡ o → Frozen
      go none e = absurd (let z = first_of none (upload_is pr b h ∙ ap (code_optional table_length code_table) e) in omega arith)
      go (some u) e = record {
        table = u;
        held = e;
        is = upload_is pr b h ∙ ap (code_optional table_length code_table) e;
        legal = open_table cat wf (automatic_keys cat) u (sym (ap (λ (o : Option Table). given o true (legal_frozen cat)) e) ∙ upload_legal);
      }

  nothing_frozen : mark ≢ 1 → s.upload ≡ none
  unfolding code_optional
  nothing_frozen m = go s.upload refl
    where
      go : (o : Option Table) → s.upload ≡ o → s.upload ≡ none
      go none e = e
      go (some u) e = absurd (m (first_of (some u) (upload_is pr b h ∙ ap (code_optional table_length code_table) e)))

  pub frozen_shape : mark ≡ 1 → InShape (frozen_block b)
  frozen_shape m = let f = opened m in rw f.is (in_shape cat wf (fits_of pr) f.table f.legal (1 ∷ []) refl)

  module _ (m : mark ≡ 1) where
    abbrev u : Table
    u = (opened m).table

    keys_told : keys_in (frozen_block b) ≡ keys u.created
    keys_told = ap keys_in (opened m).is ∙ keys_read cat wf (fits_of pr) u (opened m).legal (1 ∷ []) refl

    -- the n-th section, found in the bytes, is the rules'
    nth_told : (n : ℕ) (v : List ℕ) {x : Option Section} → n ≡ two v 0 → x ≡ nth (sections_in cat (keys_in (frozen_block b))) n → nth (sections cat u) (two v 0) ≡ x
    nth_told n v w e =
        ap (nth (sections cat u)) (sym w) ∙ ap (λ (l : List Section). nth l n) (sections_told cat wf u (opened m).legal)
        ∙ sym (ap (λ (l : List ℕ). nth (sections_in cat l) n) keys_told) ∙ sym e

    -- a section that was found
    module _ {n c i o k : ℕ} (f : Found cat (keys_in (frozen_block b)) (sections_in cat (keys_in (frozen_block b))) n (Some (record { class = c; number = i; at = o; mask = k }))) where
      there : SpotOf cat (keys_in (frozen_block b)) c i o
      there = at_its_spot cat wf (keys_in (frozen_block b)) (rw keys_told (opened m).legal.rise)
          (rw (keys_told, ← every_keys (λ j. is_created (class cat (class_of j)).creation) u.created) (opened m).legal.all_created) f.carries

      pub showable : Showable pr b c i o k
      showable =
          let it : Shown pr (shown c i (named k)) = section_shown pr (keys_in (frozen_block b)) n (sym f.is) in
          record { long = h.long; shaped = frozen_shape m; at_its_spot = there.is; all_there = it.all_there; room = it.room }

      contents_are : k < 65536 → section_bytes cat (frozen_block b) c i o k ≡ section_contents cat u (shown c i (named k))
      unfolding section_bytes section_contents
      contents_are lt =
          let at_spot : spot cat u c i ≡ some o = sym (ap (λ (x : List ℕ). spot_among cat x c i) keys_told) ∙ there.is in
          let vals : values_at cat (frozen_block b) c i o (named k) ≡ values cat u c i (named k) =
          ap (λ (x : List ℕ). values_at cat x c i o (named k)) (opened m).is
          ∙ values_frozen pr u (opened m).legal (1 ∷ []) refl c i o there.small there.other at_spot (named k) showable.all_there in
          ap (λ (x : List ℕ). head c i k ++ x) vals ∙ ap (λ (x : ℕ). head c i x ++ values cat u c i (named k)) (sym (mask_named k lt))

      pub next_shown : (cl nu : ℕ) (v : List ℕ) {r : Bool} {out out₁ : List ℕ} → r ≡ (eqb cl ont_data and eqb nu 0) → r ≡ true → k < 65536 → n ≡ two v 0
          → out ≡ replicate 32 0 → out₁ ≡ laid 0 (section_bytes cat (frozen_block b) c i o k) out → out₁ ≡ fill 32 (upload_next cat s cl nu v).1
      unfolding upload_next if_ont_data
      next_shown cl nu v q y lt w z e =
          let bytes : List ℕ = section_bytes cat (frozen_block b) c i o k in
          filled 32 bytes (bytes_fit pr b showable) (e ∙ ap (laid 0 bytes) z)
          ∙ ap (fill 32) (contents_are lt)
          ∙ rw (sym q ∙ y, (opened m).held, nth_told n v w f.is) refl

    -- no such section
    pub next_none : (cl nu n : ℕ) (v : List ℕ) {r : Bool} {out : List ℕ} → r ≡ (eqb cl ont_data and eqb nu 0) → r ≡ true
        → none ≡ nth (sections_in cat (keys_in (frozen_block b))) n → n ≡ two v 0 → out ≡ replicate 32 0 → out ≡ fill 32 (upload_next cat s cl nu v).1
    unfolding upload_next if_ont_data
    next_none cl nu n v q y e w z = blank z ∙ rw (sym q ∙ y, (opened m).held, nth_told n v w e) refl

  -- not the ONT data's, or nothing frozen
  pub next_not : (cl nu : ℕ) (v : List ℕ) {r : Bool} {out : List ℕ} → r ≡ (eqb cl ont_data and eqb nu 0) → (r && eqb mark 1) ≡ false
      → out ≡ replicate 32 0 → out ≡ fill 32 (upload_next cat s cl nu v).1
  unfolding upload_next if_ont_data
  next_not cl nu v {r} q n z = cases (eqb cl ont_data and eqb nu 0)
      (λ y.
      let no_mark : eqb mark 1 ≡ false = rw (q ∙ y) at n in
      blank z ∙ rw (y, nothing_frozen (eqb_ne mark 1 no_mark)) refl)
      (λ y. blank z ∙ rw y refl)
