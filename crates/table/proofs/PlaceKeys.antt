-- What the look-ups in the bytes of a legal table find: the keys of its created instances, and how many of them name a number.
use Prim.Native.Nat.{ℕ, zero, suc, ◌+◌, ◌-◌, ◌≤◌}
use native.Mathlib.Omega.{arith}
use native.Mathlib.Numerals.{add-one}
use mathlib.Core.Path.{◌≡◌, refl, sym, ◌∙◌, ap}
use mathlib.Core.Bool.{true, cond}
use mathlib.Core.Option.{some}
use mathlib.Core.List.{List, [], ◌∷◌, ◌++◌, append_assoc}
use lib.ListN.{length, take, drop, replicate, length-append}
use lib.Seq.{drop_at, drop-cons, get_or_at}
use lib.Dec.{eqb}
use Rattle.rules.specs.Maps.{◌and◌, Map, given, find, keys, every, among, gather}
use Rattle.rules.specs.Bytes.{byte, two, number_from, number, bytes, fill}
use Rattle.rules.specs.Catalogue.{Catalogue, class, size_of, stored_numbers, is_created, leader, family, key, ont_data}
use Rattle.rules.specs.State.{Contents, Entry, Table, class_of, number_of, entry, content, how_many_name}
use Rattle.rules.specs.Legal.{legal_entry, automatic_keys}
use Rattle.rules.specs.Walks.{frozen}
use Rattle.rules.specs.WellFormed.{WellFormed}
use Rattle.rules.proofs.Laws.{cases, both, eqb_eq, find_some, has_among}
use Rattle.rules.proofs.MapLaws.{length_gather}
use Rattle.rules.proofs.ByteLaws.{length_fill, fill_keeps}
use Rattle.rules.proofs.Lookups.{created_known, leads_itself}
use Rattle.store.specs.Layout.{ont_data_width, slots_length, place_width, place_length, places_length, entry_bytes, slot, place, code_table, family_width, fits}
use Rattle.store.specs.Layout.{key_length}
use Rattle.store.specs.Layout.{live_bytes, in_use_at, places_at}
use Rattle.store.specs.Decode.{read_place, read_places}
use Rattle.store.proofs.BytesBack.{two_back}
use Rattle.store.proofs.ContentsBack.{legal_keys}
use Rattle.store.proofs.EntriesBack.{entry_length}
use Rattle.store.proofs.Widths.{created_found, places_are_enough, place_fits, class_below}
use Rattle.store.proofs.TablesBack.{place_has_its_length, is_place, places_back}
use Rattle.store.proofs.Parts.{table_has_its_length}
use Rattle.legality.proofs.Tables.{open_entry, LegalTable, LegalLive, frozen_legal}
use Rattle.store.specs.Positions.{inside, offset}
use Rattle.table.specs.Places.{InShape, place_keys, keys_in, one_holds, how_many_hold}
use Rattle.octets.proofs.Parted.{part, part_behind, part_before, part_fill}
use Rattle.table.proofs.TableRead.{fronted, InEntry, in_entry}

pub keys_of_places : (cat : Catalogue) (n : ℕ) (b : List ℕ) → keys (read_places cat n b) ≡ place_keys n b
unfolding keys read_places read_place place_keys
keys_of_places cat zero b = refl
keys_of_places cat (suc n) b = ap (λ (l : List ℕ). key (two (take place_length b) 0) (two (take place_length b) 2) ∷ l) (keys_of_places cat n (drop place_length b))

-- two bytes, as a part and as a number
pub number_of_two : (b : List ℕ) (o : ℕ) → o + 2 ≤ length b → number (part o 2 b) ≡ two b o
unfolding number_from
number_of_two b o h = rw (drop-cons b o 0 (omega arith), drop-cons b (suc o) 0 (omega arith), add-one o) (omega arith)

content_is : (n : ℕ) (r : Contents) (v : List ℕ) → find n r ≡ some v → content n r ≡ v
unfolding content
content_is n r v f = rw f refl

-- the number that an attribute of an instance holds, read in the instance's place
number_shown : (d a o k : ℕ) (e : Entry) (rest : List ℕ) (r : Contents) (v : List ℕ) → find d e ≡ some r → find a r ≡ some v
    → part o 2 (entry_bytes e) ≡ v → o + 2 ≤ length (entry_bytes e) → length (entry_bytes e) ≤ place_width
    → two (place (k, e) ++ rest) (key_length + o) ≡ number (content a (given (find d e) [] (λ r. r)))
unfolding place bytes
number_shown d a o k e rest r v fr fv shown room fit =
    let front : List ℕ = bytes 2 (class_of k) ++ bytes 2 (number_of k) in
    let lp : length (place (k, e)) ≡ place_length = place_has_its_length (k, e) in
    let la = length-append (place (k, e)) rest in
    let here : part (key_length + o) 2 (place (k, e) ++ rest) ≡ v =
    part_before (place (k, e)) rest (key_length + o) 2 (omega arith) ∙ part_behind front (fill place_width (entry_bytes e)) o 2
    ∙ part_fill place_width (entry_bytes e) o 2 fit room ∙ shown in
    sym (number_of_two (place (k, e) ++ rest) (key_length + o) (omega arith)) ∙ rw (here, fr, content_is a r v fv)

-- ---- where an attribute of a created class stands in its place

-- where the contents of attribute a of class d begin, behind the place's class and number
abbrev pub in_place : Catalogue → ℕ → ℕ → ℕ
in_place cat d a = inside cat d + offset (size_of (class cat d)) (stored_numbers (class cat d)) a

-- ---- a table without class 2, with any byte in front

module _ (cat : Catalogue) (wf : WellFormed cat) (ft : fits cat ≡ true) (u : Table) (h : LegalTable cat wf (automatic_keys cat) u) (x : List ℕ) (lx : length x ≡ 1) where
  pub count_read : byte (fronted x u) in_use_at ≡ length u.created
  unfolding code_table
  count_read = get_or_at x (length u.created) (fill slots_length (gather slot u.automatic) ++ fill places_length (gather place u.created)) 0 1 lx

  -- the zeros behind the places in use
  unused : List ℕ
  unused = take (places_length - length (gather place u.created)) (replicate places_length 0)

  places_read : drop (places_at) (fronted x u) ≡ gather place u.created ++ unused
  unfolding code_table unused
  places_read =
      let s : List ℕ = length u.created ∷ fill slots_length (gather slot u.automatic) in
      let p : List ℕ = fill places_length (gather place u.created) in
      let lf : length (x ++ s) ≡ places_at = length-append x s ∙ omega (arith, length_fill slots_length (gather slot u.automatic)) in
      let flat : x ++ (s ++ p) ≡ (x ++ s) ++ p = sym (append_assoc x s p) in
      let fit : length (gather place u.created) ≤ places_length =
      omega (arith, length_gather place place_length place_has_its_length u.created, h.in_places, places_are_enough cat ft) in
      rw (flat, drop_at (x ++ s) p (places_at) lf) (fill_keeps places_length (gather place u.created) fit)

  pub keys_read : keys_in (fronted x u) ≡ keys u.created
  keys_read = rw (
    count_read,
    places_read,
    ← keys_of_places cat (length u.created) (gather place u.created ++ unused),
    places_back cat wf ft u.created unused h.all_created
        h.created_legal,
  )

  pub in_shape : InShape (fronted x u)
  in_shape = record {
    long = length-append x (code_table u) ∙ omega (arith, table_has_its_length u);
    few = rw count_read (omega (arith, h.in_places, places_are_enough cat ft));
    rise = rw keys_read h.rise;
  }

  module _ (d a i : ℕ) (st : among a (stored_numbers (class cat d)) ≡ true) (z : size_of (class cat d) a ≡ 2) where
    -- a place of class d holds the attribute's content
    content_read : (k : ℕ) (e : Entry) (rest : List ℕ) → class_of k ≡ d → is_created (class cat d).creation ≡ true → legal_entry cat k e ≡ true
        → two (place (k, e) ++ rest) (key_length + in_place cat d a) ≡ number (content a (given (find d e) [] (λ r. r)))
    content_read k e rest kd cr le =
        let leads : leader cat d ≡ d = leads_itself d (class cat d).creation cr in
        let ie : InEntry cat wf ft u h x lx d 0 (omega arith) e =
        in_entry cat wf ft u h x lx d 0 (omega arith) k e (kd ∙ sym leads) (created_known cat d cr) (open_entry cat k e le) in
        let r : Contents = ie.its_contents in
        let f = find_some a r (has_among a r ∙ ap (among a) (legal_keys cat (class cat d) r ie.legal) ∙ st) in
        let room = ie.room a st in
        let len : length (entry_bytes e) ≡ family_width (family cat (class_of k)) = entry_length cat wf k e le in
        let fitting : family_width (family cat (class_of k)) ≤ place_width = rw kd (place_fits cat ft wf d cr) in
        number_shown d a (in_place cat d a) k e rest r f.0 ie.found f.1 (rw z at (ie.shown a f.0 f.1)) (omega arith) (omega arith)

    one_read : (k : ℕ) (e : Entry) (rest : List ℕ) → is_created (class cat (class_of k)).creation ≡ true → legal_entry cat k e ≡ true
        → one_holds d (in_place cat d a) i (place (k, e) ++ rest)
        ≡ cond (eqb (class_of k) d and eqb (number (content a (given (find d e) [] (λ r. r)))) i) 1 0
    unfolding ◌and◌
    one_read k e rest cr le =
        let c : two (place (k, e) ++ rest) 0 ≡ class_of k = class_read k e rest cr in
        cases (eqb (class_of k) d)
        (λ t. let kd : class_of k ≡ d = eqb_eq (class_of k) d t in rw (c, t, content_read k e rest kd (rw kd at cr) le))
        (λ t. rw (c, t))
      where
        class_read : (k : ℕ) (e : Entry) (rest : List ℕ) → is_created (class cat (class_of k)).creation ≡ true → two (place (k, e) ++ rest) 0 ≡ class_of k
        class_read k e rest cr = unfold place bytes in two_back (class_of k) (class_below cat wf (class_of k) (created_found cat (class_of k) cr))
            (bytes 2 (number_of k) ++ (fill place_width (entry_bytes e) ++ rest))

    all_read : (m : Map Entry) (rest : List ℕ) → every (is_place cat wf ft) m ≡ true → every (legal_entry cat) m ≡ true
        → how_many_hold d (in_place cat d a) i (length m) (gather place m ++ rest) ≡ how_many_name d a i m
    unfolding how_many_hold how_many_name gather every
    all_read [] rest t g = refl
    all_read (e ∷ m) rest t g =
        let b : List ℕ = gather place m in
        rw (
          append_assoc (place e) b rest,
          one_read e.0 e.1 (b ++ rest) (both t).0 (both g).0,
          drop_at (place e) (b ++ rest) place_length (place_has_its_length e),
          all_read m rest (both t).1 (both g).1,
        )

    pub naming_read : how_many_hold d (in_place cat d a) i (length u.created) (drop (places_at) (fronted x u)) ≡ how_many_name d a i u.created
    naming_read = rw places_read (all_read u.created unused h.all_created h.created_legal)

-- ---- the live table

-- class 2's contents, in front
module _ (t : Table) where
  pub front : List ℕ
  front = fill ont_data_width (entry_bytes (entry (key ont_data 0) t))

  pub one_byte : length front ≡ 1
  unfolding front
  one_byte = length_fill ont_data_width (entry_bytes (entry (key ont_data 0) t))

  pub is_fronted : live_bytes t ≡ fronted front (frozen t)
  unfolding live_bytes front
  is_fronted = refl

module _ (cat : Catalogue) (wf : WellFormed cat) (ft : fits cat ≡ true) (t : Table) (h : LegalLive cat wf t) where
  pub live_in_shape : InShape (live_bytes t)
  live_in_shape = rw (is_fronted t) (in_shape cat wf ft (frozen t) (frozen_legal cat wf t h) (front t) (one_byte t))

  pub live_count : byte (live_bytes t) in_use_at ≡ length t.created
  unfolding frozen
  live_count = rw (is_fronted t) (count_read cat wf ft (frozen t) (frozen_legal cat wf t h) (front t) (one_byte t))

  pub live_keys : keys_in (live_bytes t) ≡ keys t.created
  unfolding frozen
  live_keys = rw (is_fronted t) (keys_read cat wf ft (frozen t) (frozen_legal cat wf t h) (front t) (one_byte t))
