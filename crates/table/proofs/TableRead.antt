-- What stands at an instance's spot: the content of its attributes. The table is one without class 2, with any byte in front.
use Prim.Native.Nat.{ℕ, ◌+◌, ◌*◌, ◌≤◌, ◌<◌}
use native.Mathlib.Omega.{arith}
use mathlib.Core.Path.{◌≡◌, refl, sym, ◌∙◌, ap}
use mathlib.Core.Bool.{true, false}
use mathlib.Core.Option.{Option, none, some}
use mathlib.Core.Logic.{◌≢◌}
use mathlib.Core.List.{List, [], ◌∷◌, ◌++◌, append_assoc}
use lib.ListN.{length, length-append}
use Rattle.rules.specs.Maps.{◌and◌, Map, is_some, find, keys, among, gather}
use Rattle.rules.specs.Bytes.{bytes, fill}
use Rattle.rules.specs.Masks.{total}
use Rattle.rules.specs.Catalogue.{Class, Catalogue, class, known, size_of, stored_numbers, is_created, leader, family, key, ont_data}
use Rattle.rules.specs.State.{Contents, Entry, Table, class_of, number_of, entries, entry, holds, contents}
use Rattle.rules.specs.Legal.{legal_contents, legal_entry, automatic_keys}
use Rattle.rules.specs.WellFormed.{WellFormed}
use Rattle.rules.proofs.Laws.{cases, true_false, both, eqb_false, eq_same, every_find, find_some, has_among, all_among}
use Rattle.rules.proofs.MapLaws.{find_append, length_keys, length_gather}
use Rattle.rules.proofs.ByteLaws.{length_fill}
use Rattle.rules.proofs.Lookups.{led_known}
use Rattle.rules.proofs.Families.{family_classes, family_has, alone}
use Rattle.rules.proofs.Standing.{stands, automatic_keys_stand, stands_not_created, stands_leads, key_class}
use Rattle.store.specs.Layout.{slot_width, slots_length, place_width, place_length, places_length, contents_bytes, entry_bytes, slot, place, code_table, contents_width}
use Rattle.store.specs.Layout.{family_width, fits, slot_at, place_at, key_length, slots_at, places_at}
use Rattle.store.proofs.ContentsBack.{legal_keys, legal_sized, contents_length}
use Rattle.store.proofs.EntriesBack.{entry_length}
use Rattle.store.proofs.Widths.{places_are_enough, slots_are_enough, place_fits, slot_fits}
use Rattle.store.proofs.TablesBack.{slot_length, place_has_its_length}
use Rattle.legality.proofs.Tables.{LegalEntry, open_entry, close_entry, LegalTable}
use Rattle.store.specs.Positions.{position, inside, offset}
use Rattle.table.specs.Spots.{spot_among, spot}
use Rattle.octets.proofs.Parted.{part, part_behind, part_before, part_fill}
use Rattle.table.proofs.Parted.{contents_part, entry_part, blocks_part}
use Rattle.table.proofs.ContentsLaid.{offset_fits, entry_room, first_of}
use Rattle.store.proofs.Positions.{position_among, position_found, stands_at}
use Rattle.table.proofs.TableLaid.{at_some}

-- a byte in front of a table's bytes
abbrev pub fronted : List ℕ → Table → List ℕ
fronted x u = x ++ code_table u

module _ (cat : Catalogue) (wf : WellFormed cat) (ft : fits cat ≡ true) (u : Table) (h : LegalTable cat wf (automatic_keys cat) u) (x : List ℕ) (lx : length x ≡ 1) where
  -- ---- the bytes, in pieces

  part_of_places : (q m : ℕ) → q + m ≤ length (gather place u.created) → length (gather place u.created) ≤ places_length
      → part (places_at + q) m (fronted x u) ≡ part q m (gather place u.created)
  unfolding code_table
  part_of_places q m room fit =
      let s : List ℕ = length u.created ∷ fill slots_length (gather slot u.automatic) in
      let p : List ℕ = fill places_length (gather place u.created) in
      let ls : length s ≡ 1 + slots_length = omega (arith, length_fill slots_length (gather slot u.automatic)) in
      let lf : length (x ++ s) ≡ places_at = length-append x s ∙ omega arith in
      let flat : x ++ (s ++ p) ≡ (x ++ s) ++ p = sym (append_assoc x s p) in
      rw (flat, ← lf, part_behind (x ++ s) p q m) (part_fill places_length (gather place u.created) q m fit room)

  part_of_slots : (q m : ℕ) → q + m ≤ length (gather slot u.automatic) → length (gather slot u.automatic) ≤ slots_length
      → part (2 + q) m (fronted x u) ≡ part q m (gather slot u.automatic)
  unfolding code_table
  part_of_slots q m room fit =
      let f : List ℕ = fill slots_length (gather slot u.automatic) in
      let p : List ℕ = fill places_length (gather place u.created) in
      let lf : length f ≡ slots_length = length_fill slots_length (gather slot u.automatic) in
      let c : List ℕ = length u.created ∷ [] in
      let flat : x ++ (c ++ (f ++ p)) ≡ (x ++ c) ++ (f ++ p) = sym (append_assoc x c (f ++ p)) in
      let l2 : length (x ++ c) ≡ 2 = length-append x c ∙ omega arith in
      rw (flat, ← l2, part_behind (x ++ c) (f ++ p) q m, part_before f p q m (omega arith)) (part_fill slots_length (gather slot u.automatic) q m fit room)

  module _ (c i : ℕ) (lt : i < 65536) where
    abbrev off : ℕ → ℕ
    off n = offset (size_of (class cat c)) (stored_numbers (class cat c)) n

    -- in an entry of this class: the class's contents, and where an attribute's content begins
    pub record InEntry (e : Entry) : Type 0 where
      pub its_contents : Contents
      pub found : find c e ≡ some its_contents
      pub legal : legal_contents cat (class cat c) its_contents ≡ true
      pub shown : (n : ℕ) (v : List ℕ) → find n its_contents ≡ some v → part (inside cat c + off n) (size_of (class cat c) n) (entry_bytes e) ≡ v
      pub room : (n : ℕ) → among n (stored_numbers (class cat c)) ≡ true → inside cat c + off n + size_of (class cat c) n ≤ length (entry_bytes e)

    pub in_entry : (k : ℕ) (e : Entry) → class_of k ≡ leader cat c → known cat c ≡ true → LegalEntry cat k e → InEntry e
    unfolding contents_width
    in_entry k e led kn le =
        let fam : Map Class = family cat (leader cat c) in
        let ks : keys e ≡ keys fam = le.its_keys ∙ ap (λ (d : ℕ). keys (family cat d)) led in
        let f = find_some c e (has_among c e ∙ ap (λ (l : List ℕ). among c l) ks ∙ family_has cat wf c kn) in
        let r : Contents = f.0 in
        let l : legal_contents cat (class cat c) r ≡ true = every_find (λ c r. legal_contents cat (class cat c) r) e le.its_contents c r f.1 in
        let rk : keys r ≡ stored_numbers (class cat c) = legal_keys cat (class cat c) r l in
        let len : length (contents_bytes r) ≡ total (size_of (class cat c)) (stored_numbers (class cat c)) = contents_length cat (class cat c) r l in
        record {
          its_contents = r;
          found = f.1;
          legal = l;
          shown = λ n v y.
              let inn : among n (stored_numbers (class cat c)) ≡ true = rw (← rk, ← has_among n r, y) refl in
              entry_part cat fam e c (off n) (size_of (class cat c) n) r (family_classes cat wf (leader cat c)) (eq_same (keys e) (keys fam) ks) le.its_contents f.1
              (rw len (offset_fits (size_of (class cat c)) (stored_numbers (class cat c)) n inn))
              ∙ ap (λ (m : List ℕ). part (offset (size_of (class cat c)) m n) (size_of (class cat c) n) (contents_bytes r)) (sym rk)
              ∙ contents_part (size_of (class cat c)) r n v (legal_sized cat (class cat c) r l) y;
          room = λ n inn.
              let z = entry_room cat fam e c (off n + size_of (class cat c) n) r (family_classes cat wf (leader cat c)) (eq_same (keys e) (keys fam) ks) le.its_contents f.1
              (rw len (offset_fits (size_of (class cat c)) (stored_numbers (class cat c)) n inn)) in
              omega arith;
        }

    -- what is known at a spot
    pub record AtSpot (o : ℕ) : Type 0 where
      pub its_contents : Contents
      pub is_there : holds cat u c i ≡ true
      pub are : contents cat u c i ≡ its_contents
      pub legal : legal_contents cat (class cat c) its_contents ≡ true
      pub shown : (n : ℕ) (v : List ℕ) → find n its_contents ≡ some v → part (o + off n) (size_of (class cat c) n) (fronted x u) ≡ v

    -- a created instance
    created_spot : (o : ℕ) → is_created (class cat (leader cat c)).creation ≡ true → spot cat u c i ≡ some o → AtSpot o
    unfolding spot_among holds contents entry place bytes
    created_spot o cr sp =
        let k : ℕ = key (leader cat c) i in
        let m : Map Entry = u.created in
        at_some (λ j. place_at j + key_length + inside cat c) (position k (keys m)) o (rw cr at sp) (λ j p eq.
        let f = position_found k j m p in
        let e : Entry = f.0 in
        let kc : class_of k ≡ leader cat c = key_class (leader cat c) i lt in
        let le : LegalEntry cat k e = open_entry cat k e (every_find (legal_entry cat) m h.created_legal k e f.1) in
        let ie : InEntry e = in_entry k e kc (led_known cat c cr) le in
        let alone_there : find k u.automatic ≡ none = not_automatic k (rw kc cr) in
        let ent : find k (entries u) ≡ some e = rw (find_append k u.automatic m, alone_there, f.1) in
        let front : List ℕ = bytes 2 (class_of k) ++ bytes 2 (number_of k) in
        let len : length (entry_bytes e) ≡ family_width (family cat (class_of k)) = entry_length cat wf k e (close_entry cat k e le) in
        let fitting : family_width (family cat (class_of k)) ≤ place_width = rw kc (place_fits cat ft wf (leader cat c) cr) in
        let lg = length_gather place place_length place_has_its_length m in
        let small = (stands_at k j (keys m) p).0 in
        let lk = length_keys m in
        let few = places_are_enough cat ft in
        let places = h.in_places in
        record {
          its_contents = ie.its_contents;
          is_there = rw (ent, ie.found) refl;
          are = rw (ent, ie.found) refl;
          legal = ie.legal;
          shown = λ n v y.
              let inn : among n (stored_numbers (class cat c)) ≡ true = rw (← legal_keys cat (class cat c) ie.its_contents ie.legal, ← has_among n ie.its_contents, y) refl in
              let rm = ie.room n inn in
              let z : ℕ = size_of (class cat c) n in
              let at : ℕ = key_length + (inside cat c + off n) in
              let sum : o + off n ≡ places_at + (place_length * j + at) = omega arith in
              rw sum (part_of_places (place_length * j + at) z (omega arith) (omega arith)
              ∙ blocks_part place place_length place_has_its_length m k j at z e p f.1 (omega arith)
              ∙ part_behind front (fill place_width (entry_bytes e)) (inside cat c + off n) z
              ∙ part_fill place_width (entry_bytes e) (inside cat c + off n) z (omega arith) rm
              ∙ ie.shown n v y);
        })
      where
        not_automatic : (k : ℕ) → is_created (class cat (class_of k)).creation ≡ true → find k u.automatic ≡ none
        not_automatic k cr' = go (find k u.automatic) refl
          where
            go : (o : Option Entry) → find k u.automatic ≡ o → find k u.automatic ≡ none
            go none e = e
            go (some y) e = true_false cr' (stands_not_created cat wf k (all_among (stands cat) (automatic_keys cat) (automatic_keys_stand cat wf) k
                (rw (← h.automatic_keys, ← has_among k u.automatic, e) refl)))

    -- an instance that is there by itself
    slot_spot : (o j : ℕ) → o ≡ slot_at j → position (key c i) (automatic_keys cat) ≡ some j → AtSpot o
    unfolding holds contents entry slot
    slot_spot o j eq p =
        let k : ℕ = key c i in
        let a : Map Entry = u.automatic in
        let pk : position k (keys a) ≡ some j = rw h.automatic_keys p in
        let f = position_found k j a pk in
        let e : Entry = f.0 in
        let kc : class_of k ≡ c = key_class c i lt in
        let sk : stands cat k ≡ true = all_among (stands cat) (automatic_keys cat) (automatic_keys_stand cat wf) k (sym (position_among k (automatic_keys cat)) ∙ ap is_some p) in
        let leads : leader cat c ≡ c = rw kc at (stands_leads cat wf k sk) in
        let auto : is_created (class cat c).creation ≡ false = rw kc at (stands_not_created cat wf k sk) in
        let kn : known cat c ≡ true = rw kc at (both sk).0 in
        let le : LegalEntry cat k e = open_entry cat k e (every_find (legal_entry cat) a h.automatic_legal k e f.1) in
        let ie : InEntry e = in_entry k e (kc ∙ sym leads) kn le in
        let first_one : inside cat c ≡ 0 = rw leads (first_of c (family cat c) (λ d m. alone cat wf c auto d m)) in
        let ent : find (key (leader cat c) i) (entries u) ≡ some e = rw (leads, find_append k a u.created, f.1) in
        let len : length (entry_bytes e) ≡ family_width (family cat (class_of k)) = entry_length cat wf k e (close_entry cat k e le) in
        let fitting = slot_fits cat ft wf k sk in
        let lg = length_gather slot slot_width slot_length a in
        let small = (stands_at k j (keys a) pk).0 in
        let lk = length_keys a in
        let la = ap length h.automatic_keys in
        let few = slots_are_enough cat ft in
        record {
          its_contents = ie.its_contents;
          is_there = rw (ent, ie.found) refl;
          are = rw (ent, ie.found) refl;
          legal = ie.legal;
          shown = λ n v y.
              let inn : among n (stored_numbers (class cat c)) ≡ true = rw (← legal_keys cat (class cat c) ie.its_contents ie.legal, ← has_among n ie.its_contents, y) refl in
              let rm = rw first_one at (ie.room n inn) in
              let z : ℕ = size_of (class cat c) n in
              let z0 : 0 + off n ≡ off n = omega arith in
              let sum : o + off n ≡ slots_at + (slot_width * j + off n) = omega arith in
              rw sum (part_of_slots (slot_width * j + off n) z (omega arith) (omega arith)
              ∙ blocks_part slot slot_width slot_length a k j (off n) z e pk f.1 (omega arith)
              ∙ part_fill slot_width (entry_bytes e) (off n) z (omega arith) (omega arith)
              ∙ rw (first_one, z0) at (ie.shown n v y));
        }

    pub at_spot : c ≢ ont_data → (o : ℕ) → spot cat u c i ≡ some o → AtSpot o
    unfolding spot_among ◌and◌
    at_spot other o sp = cases (is_created (class cat (leader cat c)).creation)
        (λ cr. created_spot o cr sp)
        (λ au. at_some slot_at (position (key c i) (automatic_keys cat)) o (rw (au, eqb_false c ont_data other) at sp) (λ j p eq. slot_spot o j eq p))
