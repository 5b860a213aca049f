-- The contents of one instance changed: the table's bytes with the new ones laid over the old, at the instance's spot.
use Prim.Native.Nat.{ℕ, ◌+◌, ◌*◌, ◌≤◌, ◌<◌}
use native.Mathlib.Omega.{arith}
use mathlib.Core.Path.{◌≡◌, refl, sym, ◌∙◌, ap}
use mathlib.Core.Bool.{true, false, cond}
use mathlib.Core.Option.{none, some}
use mathlib.Core.List.{List, ◌∷◌, ◌++◌}
use lib.ListN.{length}
use lib.Dec.{eqb}
use Rattle.rules.specs.Maps.{◌and◌, Map, is_some, find, keys, every, each, at_key, among, gather}
use Rattle.rules.specs.Bytes.{bytes, fill, laid}
use Rattle.rules.specs.Catalogue.{Class, Catalogue, class, known, is_created, leader, family, key, ont_data}
use Rattle.rules.specs.State.{Contents, Entry, Table, class_of, number_of, entries, entry, contents, change}
use Rattle.rules.specs.Legal.{legal_contents, legal_entry, automatic_keys}
use Rattle.rules.specs.WellFormed.{WellFormed}
use Rattle.rules.proofs.Laws.{cases, never, true_false, not-true, both, all_among, eqb_true, eqb_false, eqb_eq, eq_same, every_find, keys_each, find_some, has_among}
use Rattle.rules.proofs.MapLaws.{some_eq, find_here, find_past, Up, rising_up, at_absent, length_keys, length_gather}
use Rattle.rules.proofs.Lookups.{led_known}
use Rattle.rules.proofs.Families.{family_rises, family_classes, family_has, alone}
use Rattle.rules.proofs.Standing.{stands, automatic_keys_stand, standing, standing_not_created, stands_leads, automatic_rise, key_class}
use Rattle.store.specs.Layout.{slot_width, place_width, place_length, places_length, contents_bytes, entry_bytes, slot, place, family_width, fits, live_bytes, slot_at, place_at}
use Rattle.store.specs.Layout.{key_length, slots_at, places_at}
use Rattle.store.proofs.EntriesBack.{entry_length}
use Rattle.store.proofs.Widths.{places_are_enough, slots_are_enough, place_fits, slot_fits, class_2_fits}
use Rattle.store.proofs.TablesBack.{slot_length, place_has_its_length}
use Rattle.legality.proofs.Tables.{LegalEntry, open_entry, close_entry, LegalLive, length_each}
use Rattle.store.specs.Positions.{position, before, inside}
use Rattle.table.specs.Spots.{spot_among, spot}
use Rattle.octets.proofs.Laid.{laid_behind, fill_laid}
use Rattle.table.proofs.ContentsLaid.{entry_laid, entry_room, first_of}
use Rattle.table.proofs.BlocksLaid.{blocks_laid}
use Rattle.legality.proofs.Holds.{find_in_created, find_in_automatic, created_alone}
use Rattle.table.proofs.TableLaid.{at_some, table_of, pieces, in_pieces, places_laid, slots_laid, front_laid, Shape, shape_of}
use Rattle.store.proofs.Positions.{position_among, position_found, stands_at}

-- what is written into the instance's contents, and where in their bytes
module _ (cat : Catalogue) (wf : WellFormed cat) (ft : fits cat ≡ true) (t : Table) (h : LegalLive cat wf t) (c i : ℕ) (lt : i < 65536)
    (wrote : Contents → Contents) (off : ℕ) (w : List ℕ)
    (in_contents : (r : Contents) → contents cat t c i ≡ r → legal_contents cat (class cat c) r ≡ true
    → (contents_bytes (wrote r) ≡ laid off w (contents_bytes r)) × (off + length w ≤ length (contents_bytes r))) where
  -- these are the instance's contents
  are_contents : (e : Entry) (r : Contents) → find (key (leader cat c) i) (entries t) ≡ some e → find c e ≡ some r → contents cat t c i ≡ r
  unfolding contents entry
  are_contents e r f g = rw (f, g)

  -- in the entry of an instance of this class
  in_entry : (k : ℕ) (e : Entry) → class_of k ≡ leader cat c → known cat c ≡ true → LegalEntry cat k e → find (key (leader cat c) i) (entries t) ≡ some e
      → (entry_bytes (at_key c wrote e) ≡ laid (inside cat c + off) w (entry_bytes e)) × (inside cat c + off + length w ≤ length (entry_bytes e))
  in_entry k e led kn le fd =
      let fam : Map Class = family cat (leader cat c) in
      let ks : keys e ≡ keys fam = le.its_keys ∙ ap (λ (d : ℕ). keys (family cat d)) led in
      let f = find_some c e (has_among c e ∙ ap (λ (l : List ℕ). among c l) ks ∙ family_has cat wf c kn) in
      let l : legal_contents cat (class cat c) f.0 ≡ true = every_find (λ c r. legal_contents cat (class cat c) r) e le.its_contents c f.0 f.1 in
      let q = in_contents f.0 (are_contents e f.0 fd f.1) l in
      let Laid_in = entry_laid cat fam e 0 c off w wrote f.0 (family_classes cat wf (leader cat c)) (rising_up (keys fam) (family_rises cat wf (leader cat c)))
      (eq_same (keys e) (keys fam) ks) le.its_contents f.1 q.0 q.1 in
      let room : before fam c + (off + length w) ≤ length (entry_bytes e) =
      entry_room cat fam e c (off + length w) f.0 (family_classes cat wf (leader cat c)) (eq_same (keys e) (keys fam) ks) le.its_contents f.1 q.1 in
      (Laid_in, omega arith)

  abbrev written : Table
  written = change cat c i wrote t

  -- ---- a created instance

  module _ (cr : is_created (class cat (leader cat c)).creation ≡ true) where
    not_standing : among (key (leader cat c) i) (standing cat wf) ≡ false
    not_standing = cases (among (key (leader cat c) i) (standing cat wf))
        (λ y. true_false cr (rw (key_class (leader cat c) i lt) at (standing_not_created cat wf (key (leader cat c) i) y)))
        (λ y. y)

    automatic_stays : written.automatic ≡ t.automatic
    unfolding change
    automatic_stays = at_absent (key (leader cat c) i) (at_key c wrote) t.automatic (rw h.automatic_keys not_standing)

    in_place : (e : Entry) → LegalEntry cat (key (leader cat c) i) e → find (key (leader cat c) i) (entries t) ≡ some e
        → (place (key (leader cat c) i, at_key c wrote e) ≡ laid (key_length + (inside cat c + off)) w (place (key (leader cat c) i, e)))
        × (key_length + (inside cat c + off) + length w ≤ place_length)
    unfolding place bytes
    in_place e le fd =
        let k : ℕ = key (leader cat c) i in
        let kc : class_of k ≡ leader cat c = key_class (leader cat c) i lt in
        let q = in_entry k e kc (led_known cat c cr) le fd in
        let lw : length (entry_bytes e) ≡ family_width (family cat (class_of k)) = entry_length cat wf k e (close_entry cat k e le) in
        let fitting : family_width (family cat (class_of k)) ≤ place_width = rw kc (place_fits cat ft wf (leader cat c) cr) in
        let front : List ℕ = bytes 2 (class_of k) ++ bytes 2 (number_of k) in
        let lf : length front ≡ key_length = refl in (
          rw (q.0, fill_laid place_width w (entry_bytes e) (inside cat c + off) q.1 (omega arith)) (laid_behind front w (fill place_width (entry_bytes e)) (inside cat c + off)),
          omega (arith, q.1),
        )

    created_pieces : (at : ℕ) → gather place (at_key (key (leader cat c) i) (at_key c wrote) t.created) ≡ laid at w (gather place t.created)
        → at + length w ≤ length (gather place t.created) → length (gather place t.created) ≤ places_length
        → live_bytes written ≡ laid (places_at + at) w (live_bytes t)
    unfolding change
    created_pieces at g room fit =
        let m : Map Entry = t.created in
        let m' : Map Entry = at_key (key (leader cat c) i) (at_key c wrote) m in
        let sh : Shape cat t.automatic = shape_of cat t.automatic h.automatic_keys in
        let lm : length m' ≡ length m = length_each (λ j a. cond (eqb j (key (leader cat c) i)) (at_key c wrote a) a) m in
        let new : written ≡ table_of ((key ont_data 0, sh.first) ∷ sh.rest) m' = λ d. record { automatic = (automatic_stays ∙ sh.is) d; created = m' } in
        let old : t ≡ table_of ((key ont_data 0, sh.first) ∷ sh.rest) m = λ d. record { automatic = sh.is d; created = m } in
        ap live_bytes new ∙ in_pieces cat wf sh.first sh.rest m' sh.rest_keys
        ∙ places_laid sh.first sh.rest m m' at w lm g room fit
        ∙ ap (λ (b : List ℕ). laid (places_at + at) w b) (sym (ap live_bytes old ∙ in_pieces cat wf sh.first sh.rest m sh.rest_keys))

    pub created_laid : (o : ℕ) → spot cat t c i ≡ some o → live_bytes written ≡ laid (o + off) w (live_bytes t)
    unfolding spot_among
    created_laid o sp =
        let k : ℕ = key (leader cat c) i in
        let m : Map Entry = t.created in
        at_some (λ j. place_at j + key_length + inside cat c) (position k (keys m)) o (rw cr at sp) (λ j p eq.
        let f = position_found k j m p in
        let e : Entry = f.0 in
        let le : LegalEntry cat k e = open_entry cat k e (every_find (legal_entry cat) m h.created_legal k e f.1) in
        let alone_there : find k t.automatic ≡ none = created_alone cat wf t h k (rw (key_class (leader cat c) i lt) cr) in
        let q = in_place e le (find_in_created k t.automatic m e alone_there f.1) in
        let at : ℕ = place_length * j + (key_length + (inside cat c + off)) in
        let g = blocks_laid place place_length place_has_its_length 0 m k j (key_length + (inside cat c + off)) w (at_key c wrote) e
        (rising_up (keys m) h.rise) p f.1 q.0 q.1 in
        let lg = length_gather place place_length place_has_its_length m in
        let small = (stands_at k j (keys m) p).0 in
        let lk = length_keys m in
        let few = places_are_enough cat ft in
        let places = h.in_places in
        let sum : places_at + at ≡ o + off = omega arith in
        rw (← sum) (created_pieces at g (let z = q.1 in omega arith) (omega arith)))

  -- ---- an instance that is there by itself

  module _ (auto : is_created (class cat c).creation ≡ false) (leads : leader cat c ≡ c) (kn : known cat c ≡ true) where
    nothing_before : inside cat c ≡ 0
    nothing_before = rw leads (first_of c (family cat c) (λ d m. alone cat wf c auto d m))

    -- in its entry
    alone_in_entry : (k : ℕ) (e : Entry) → class_of k ≡ c → LegalEntry cat k e → find (key (leader cat c) i) (entries t) ≡ some e
        → (entry_bytes (at_key c wrote e) ≡ laid off w (entry_bytes e)) × (off + length w ≤ length (entry_bytes e))
    alone_in_entry k e kc le fd =
        let q = in_entry k e (kc ∙ sym leads) kn le fd in
        let z : inside cat c + off ≡ off = rw nothing_before (omega arith) in
        (rw z at q.0, rw z at q.1)

    created_stays : written.created ≡ t.created
    unfolding change
    created_stays = at_absent (key (leader cat c) i) (at_key c wrote) t.created (cases (among (key (leader cat c) i) (keys t.created))
        (λ y.
        let f = find_some (key (leader cat c) i) t.created (has_among (key (leader cat c) i) t.created ∙ y) in
        true_false (rw (key_class (leader cat c) i lt, leads) at
        (every_find (λ k e. is_created (class cat (class_of k)).creation) t.created h.all_created (key (leader cat c) i) f.0 f.1))
        auto)
        (λ y. y))

    -- the automatic part changed, the created part as it was
    pub automatic_pieces : (e' : Entry) (a' : Map Entry) (q : ℕ) → written.automatic ≡ (key ont_data 0, e') ∷ a' → keys a' ≡ automatic_keys cat
        → (sh : Shape cat t.automatic) → pieces e' a' t.created ≡ laid q w (pieces sh.first sh.rest t.created)
        → live_bytes written ≡ laid q w (live_bytes t)
    automatic_pieces e' a' q is ks sh eq =
        let m : Map Entry = t.created in
        let new : written ≡ table_of ((key ont_data 0, e') ∷ a') m = λ d. record { automatic = is d; created = created_stays d } in
        let old : t ≡ table_of ((key ont_data 0, sh.first) ∷ sh.rest) m = λ d. record { automatic = sh.is d; created = m } in
        ap live_bytes new ∙ in_pieces cat wf e' a' m ks ∙ eq
        ∙ ap (λ (b : List ℕ). laid q w b) (sym (ap live_bytes old ∙ in_pieces cat wf sh.first sh.rest m sh.rest_keys))

    -- what is changed in the automatic part
    abbrev touched : Map Entry → Map Entry
    touched a = at_key (key (leader cat c) i) (at_key c wrote) a

    automatic_is : (sh : Shape cat t.automatic) → written.automatic ≡ touched ((key ont_data 0, sh.first) ∷ sh.rest)
    unfolding change
    automatic_is sh = ap touched sh.is

    pub slot_laid : (j : ℕ) → position (key c i) (automatic_keys cat) ≡ some j → live_bytes written ≡ laid (slot_at j + off) w (live_bytes t)
    unfolding each keys every slot
    slot_laid j p =
        let k : ℕ = key c i in
        let sh : Shape cat t.automatic = shape_of cat t.automatic h.automatic_keys in
        let a : Map Entry = sh.rest in
        let pk : position k (keys a) ≡ some j = rw sh.rest_keys p in
        let f = position_found k j a pk in
        let e : Entry = f.0 in
        let legal_rest : every (legal_entry cat) a ≡ true = (both (rw sh.is at h.automatic_legal)).1 in
        let le : LegalEntry cat k e = open_entry cat k e (every_find (legal_entry cat) a legal_rest k e f.1) in
        let kc : class_of k ≡ c = key_class c i lt in
        let sk : stands cat k ≡ true = all_among (stands cat) (automatic_keys cat) (automatic_keys_stand cat wf) k (sym (position_among k (automatic_keys cat)) ∙ ap is_some p) in
        let past : find k t.automatic ≡ some e = ap (find k) sh.is ∙ find_past k (key ont_data 0, sh.first) a (not_two k sk) ∙ f.1 in
        let q = alone_in_entry k e kc le (rw leads (find_in_automatic k t.automatic t.created e past)) in
        let room = slot_fits cat ft wf k sk in
        let len : length (entry_bytes e) ≡ family_width (family cat (class_of k)) = entry_length cat wf k e (close_entry cat k e le) in
        let in_slot : slot (k, at_key c wrote e) ≡ laid off w (slot (k, e)) = one_slot k e q.0 q.1 (omega arith) in
        let up : Up 0 (keys a) = rw sh.rest_keys (automatic_rise cat wf) in
        let g = blocks_laid slot slot_width slot_length 0 a k j off w (at_key c wrote) e up pk f.1 in_slot (let z = q.1 in omega arith) in
        let lg = length_gather slot slot_width slot_length a in
        let small = (stands_at k j (keys a) pk).0 in
        let lk = length_keys a in
        let la = ap length sh.rest_keys in
        let few = slots_are_enough cat ft in
        let other : eqb (key ont_data 0) (key (leader cat c) i) ≡ false = eqb_false (key ont_data 0) (key (leader cat c) i) (λ z. not_two k sk (rw (← leads) (sym z))) in
        let sum : slots_at + (slot_width * j + off) ≡ slot_at j + off = omega arith in
        rw (← sum) (automatic_pieces sh.first (touched a) (slots_at + (slot_width * j + off)) (automatic_is sh ∙ rw other)
        (keys_each (λ j a. cond (eqb j (key (leader cat c) i)) (at_key c wrote a) a) a ∙ sh.rest_keys) sh
        (slots_laid sh.first a (touched a) t.created (slot_width * j + off) w (rw leads g) (let z = q.1 in omega arith) (omega arith)))
      where
        one_slot : (k : ℕ) (e : Entry) → entry_bytes (at_key c wrote e) ≡ laid off w (entry_bytes e) → off + length w ≤ length (entry_bytes e) → length (entry_bytes e) ≤ slot_width
            → slot (k, at_key c wrote e) ≡ laid off w (slot (k, e))
        one_slot k e q r fit = rw (q, fill_laid slot_width w (entry_bytes e) off r fit)

        not_two : (k : ℕ) → stands cat k ≡ true → k ≡ key ont_data 0 → ⊥
        not_two k s z = true_false (eqb_true (class_of k) ont_data (rw z (omega arith))) (not-true (both (both s).1).0)

    pub ont_data_laid : c ≡ ont_data → i ≡ 0 → live_bytes written ≡ laid off w (live_bytes t)
    unfolding each keys every
    ont_data_laid two zero_th =
        let k : ℕ = key ont_data 0 in
        let sh : Shape cat t.automatic = shape_of cat t.automatic h.automatic_keys in
        let e : Entry = sh.first in
        let legal_first : legal_entry cat k e ≡ true = (both (rw sh.is at h.automatic_legal)).0 in
        let le : LegalEntry cat k e = open_entry cat k e legal_first in
        let kc : class_of k ≡ c = sym two in
        let kk : key (leader cat c) i ≡ k = rw (leads, two, zero_th) refl in
        let here_first : find k t.automatic ≡ some e = ap (find k) sh.is ∙ find_here k e sh.rest in
        let q = alone_in_entry k e kc le (rw kk (find_in_automatic k t.automatic t.created e here_first)) in
        let len : length (entry_bytes e) ≡ family_width (family cat (class_of k)) = entry_length cat wf k e legal_first in
        let room = class_2_fits cat ft wf in
        let here : eqb k (key (leader cat c) i) ≡ true = eqb_true k (key (leader cat c) i) (sym kk) in
        let absent : among (key (leader cat c) i) (keys sh.rest) ≡ false = rw (kk, sh.rest_keys) no_class_2 in
        automatic_pieces (at_key c wrote e) sh.rest off (automatic_is sh ∙ rw (here, at_absent (key (leader cat c) i) (at_key c wrote) sh.rest absent)) sh.rest_keys sh
        (front_laid e (at_key c wrote e) sh.rest t.created off w q.0 q.1 (omega arith))
      where
        no_class_2 : among (key ont_data 0) (automatic_keys cat) ≡ false
        no_class_2 = cases (among (key ont_data 0) (automatic_keys cat))
            (λ y. never (sym (not-true (both (both (all_among (stands cat) (automatic_keys cat) (automatic_keys_stand cat wf) (key ont_data 0) y)).1).0)))
            (λ y. y)

  -- ---- any instance

  pub change_laid : (o : ℕ) → known cat c ≡ true → spot cat t c i ≡ some o → live_bytes written ≡ laid (o + off) w (live_bytes t)
  unfolding spot_among
  change_laid o kn sp = cases (is_created (class cat (leader cat c)).creation)
      (λ cr. created_laid cr o sp)
      (λ au. cases (eqb c ont_data and eqb i 0)
      (λ e.
      let two : c ≡ ont_data = eqb_eq c ont_data (both e).0 in
      let zero_th : i ≡ 0 = eqb_eq i 0 (both e).1 in
      let o0 : 0 ≡ o = some_eq (rw (au, e) at sp) in
      let z : o + off ≡ off = rw (← o0) (omega arith) in
      let leads : leader cat c ≡ c = rw (two, wf.class_2_has_instance_0_alone) refl in
      rw z (ont_data_laid (rw leads at au) leads kn two zero_th))
      (λ e. at_some slot_at (position (key c i) (automatic_keys cat)) o (rw (au, e) at sp) (λ j p eq.
      let k : ℕ = key c i in
      let sk : stands cat k ≡ true = all_among (stands cat) (automatic_keys cat) (automatic_keys_stand cat wf) k (sym (position_among k (automatic_keys cat)) ∙ ap is_some p) in
      let leads : leader cat c ≡ c = rw (key_class c i lt) at (stands_leads cat wf k sk) in
      rw eq (slot_laid (rw leads at au) leads kn j p))))
