-- Tables as bytes, read back: the slots, the places, a table without class 2, and the live table.
use Prim.Native.Nat.{ℕ, ◌-◌, ◌≤◌, ◌<◌}
use native.Mathlib.Omega.{arith}
use mathlib.Core.Path.{◌≡◌, refl, sym, ◌∙◌, ap}
use mathlib.Core.Bool.{Bool, true, not}
use mathlib.Core.List.{List, [], ◌∷◌, ◌++◌, append_assoc}
use lib.ListN.{length, take, replicate}
use lib.Seq.{take_at, drop_at}
use lib.Dec.{eqb}
use Rattle.rules.specs.Maps.{Map, find, keys, keep, every, gather, all, same}
use Rattle.rules.specs.Bytes.{bytes, fill}
use Rattle.rules.specs.Catalogue.{Catalogue, class, is_created, family, key, ont_data}
use Rattle.rules.specs.State.{Entry, Table, class_of, number_of, entry}
use Rattle.rules.specs.Legal.{legal_entry, automatic_keys, legal_table, legal_live, legal_frozen}
use Rattle.rules.specs.WellFormed.{WellFormed}
use Rattle.rules.specs.Walks.{frozen}
use Rattle.rules.proofs.Laws.{never, both, and_true, eqb_eq, eqb_true, leb_le, same_eq, every_imp}
use Rattle.rules.proofs.MapLaws.{length_keys, length_gather, keep_all, every_keys}
use Rattle.rules.proofs.Standing.{stands, automatic_keys_stand, key_back}
use Rattle.store.specs.Layout.{ont_data_width, slot_width, slots_length, place_width, place_length, places_length, entry_bytes, slot, place, code_table, fits}
use Rattle.store.specs.Decode.{read_entry, read_slots, read_place, read_places, read_table, read_live}
use Rattle.rules.proofs.ByteLaws.{length_fill, fill_keeps}
use Rattle.store.proofs.BytesBack.{two_back}
use Rattle.store.proofs.EntriesBack.{entry_back}
use Rattle.store.proofs.Widths.{created_found, slots_are_enough, places_are_enough, slot_fits, class_2_fits, place_fits, class_below}

-- ---- lengths

pub slot_length : (e : ℕ × Entry) → length (slot e) ≡ slot_width
unfolding slot
slot_length e = length_fill slot_width (entry_bytes e.1)

pub place_has_its_length : (e : ℕ × Entry) → length (place e) ≡ place_length
unfolding place bytes
place_has_its_length e = rw (length_fill place_width (entry_bytes e.1))

module _ (cat : Catalogue) (w : WellFormed cat) (f : fits cat ≡ true) where
  -- ---- slots

  pub slot_back : (e : ℕ × Entry) → stands cat e.0 ≡ true → legal_entry cat e.0 e.1 ≡ true → read_entry (family cat (class_of e.0)) (slot e) ≡ e.1
  unfolding slot
  slot_back e t h = entry_back cat w e.0 e.1 h slot_width (slot_fits cat f w e.0 t)

  pub slots_back : (l : List ℕ) (m : Map Entry) (rest : List ℕ) → same (keys m) l ≡ true → all (stands cat) l ≡ true → every (legal_entry cat) m ≡ true
      → read_slots cat l (gather slot m ++ rest) ≡ m
  unfolding read_slots keys same all every gather
  slots_back [] [] rest s t h = refl
  slots_back [] (e ∷ m) rest s t h = never s
  slots_back (k ∷ l) [] rest s t h = never s
  slots_back (k ∷ l) (e ∷ m) rest s t h =
      let g : List ℕ = gather slot m in
      let n : e.0 ≡ k = eqb_eq e.0 k (both s).0 in
      let y : stands cat e.0 ≡ true = rw n (both t).0 in
      rw (
        append_assoc (slot e) g rest,
        take_at (slot e) (g ++ rest) slot_width (slot_length e),
        drop_at (slot e) (g ++ rest) slot_width (slot_length e),
        slots_back l m rest (both s).1 (both t).1 (both h).1,
        ← n,
        slot_back e y (both h).0,
      )

  -- ---- places

  abbrev pub is_place : ℕ → Entry → Bool
  is_place k e = is_created (class cat (class_of k)).creation

  pub place_back : (e : ℕ × Entry) → is_place e.0 e.1 ≡ true → legal_entry cat e.0 e.1 ≡ true → read_place cat (place e) ≡ e
  unfolding read_place place bytes
  place_back e t h =
      let c : ℕ = class_of e.0 in
      let n : c < 65536 = class_below cat w c (created_found cat c t) in
      let v : List ℕ = fill place_width (entry_bytes e.1) in
      rw (
        two_back c n (bytes 2 (number_of e.0) ++ v),
        two_back (number_of e.0) (omega arith) v,
        key_back e.0,
        entry_back cat w e.0 e.1 h place_width (place_fits cat f w c t),
      )

  pub places_back : (m : Map Entry) (rest : List ℕ) → every is_place m ≡ true → every (legal_entry cat) m ≡ true
      → read_places cat (length m) (gather place m ++ rest) ≡ m
  unfolding read_places every gather
  places_back [] rest t h = refl
  places_back (e ∷ m) rest t h =
      let g : List ℕ = gather place m in
      rw (
        append_assoc (place e) g rest,
        take_at (place e) (g ++ rest) place_length (place_has_its_length e),
        drop_at (place e) (g ++ rest) place_length (place_has_its_length e),
        places_back m rest (both t).1 (both h).1,
        place_back e (both t).0 (both h).0,
      )

  -- ---- a table without class 2

  pub table_back : (t : Table) → legal_frozen cat t ≡ true → read_table cat (code_table t) ≡ t
  unfolding read_table code_table legal_table
  table_back t h =
      let a = both h in
      let b = both (both a.1).1 in
      let d = both b.1 in
      let e = both d.1 in
      let s : List ℕ = fill slots_length (gather slot t.automatic) in
      let p : List ℕ = fill places_length (gather place t.created) in
      let ls : length s ≡ slots_length = length_fill slots_length (gather slot t.automatic) in
      let ns : length (gather slot t.automatic) ≤ slots_length = omega (
        arith,
        length_gather slot slot_width slot_length t.automatic,
        length_keys t.automatic,
        ap length (same_eq (keys t.automatic) (automatic_keys cat) a.0),
        slots_are_enough cat f,
      ) in
      let np : length (gather place t.created) ≤ places_length = omega (
        arith,
        length_gather place place_length place_has_its_length t.created,
        leb_le (length t.created) cat.places d.0,
        places_are_enough cat f,
      ) in
      rw (
        take_at s p slots_length ls,
        drop_at s p slots_length ls,
        fill_keeps slots_length (gather slot t.automatic) ns,
        fill_keeps places_length (gather place t.created) np,
        slots_back (automatic_keys cat) t.automatic (take (slots_length - length (gather slot t.automatic)) (replicate slots_length 0)) a.0 (automatic_keys_stand cat w) e.0,
        places_back t.created (take (places_length - length (gather place t.created)) (replicate places_length 0)) b.0 e.1,
      )

  -- ---- the live table

  abbrev pub table_of : Map Entry → Map Entry → Table
  table_of a c = record { automatic = a; created = c }

  -- frozen, it has lost its first entry, class 2's
  pub frozen_live : (e : ℕ × Entry) (m c : Map Entry) → e.0 ≡ key ont_data 0 → same (keys m) (automatic_keys cat) ≡ true → frozen (table_of (e ∷ m) c) ≡ table_of m c
  unfolding frozen keep
  frozen_live e m c n s =
      let p : ℕ → Entry → Bool = λ k e. not (eqb (class_of k) ont_data) in
      let t : all (stands cat) (keys m) ≡ true = rw (same_eq (keys m) (automatic_keys cat) s) (automatic_keys_stand cat w) in
      let q : every p m ≡ true = every_imp (λ k e. stands cat k) p (λ k e g. (both (both g).1).0) m (every_keys (stands cat) m ∙ t) in
      rw (n, keep_all p m q)

  pub entry_live : (e : ℕ × Entry) (m c : Map Entry) → e.0 ≡ key ont_data 0 → entry (key ont_data 0) (table_of (e ∷ m) c) ≡ e.1
  unfolding entry find
  entry_live e m c n = rw (eqb_true (key ont_data 0) e.0 (sym n))

  live_of_lists : (a c : Map Entry) → legal_live cat (table_of a c) ≡ true
      → read_live cat (fill ont_data_width (entry_bytes (entry (key ont_data 0) (table_of a c)))) (code_table (frozen (table_of a c))) ≡ table_of a c
  unfolding legal_table keys same every read_live
  live_of_lists [] c h = never (both h).0
  live_of_lists (e ∷ m) c h =
      let s = both (both h).0 in
      let n : e.0 ≡ key ont_data 0 = eqb_eq e.0 (key ont_data 0) s.0 in
      let b = both (both h).1 in
      let i = both b.1 in
      let j = both i.1 in
      let l = both j.1 in
      let d = both l.0 in
      let q : legal_frozen cat (table_of m c) ≡ true = and_true s.1 (and_true b.0 (and_true i.0 (and_true j.0 (and_true d.1 l.1)))) in
      let x : legal_entry cat (key ont_data 0) e.1 ≡ true = rw (← n) d.0 in
      rw (
        entry_live e m c n,
        frozen_live e m c n s.1,
        table_back (table_of m c) q,
        entry_back cat w (key ont_data 0) e.1 x ont_data_width (class_2_fits cat f w),
        ← n,
      )

  pub live_back : (t : Table) → legal_live cat t ≡ true
      → read_live cat (fill ont_data_width (entry_bytes (entry (key ont_data 0) t))) (code_table (frozen t)) ≡ t
  live_back t h = live_of_lists t.automatic t.created h
