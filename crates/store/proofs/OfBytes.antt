-- The encoding of a legal state is a list of bytes.
use Prim.Native.Nat.{ℕ, ◌≤◌, ◌<◌}
use native.Mathlib.Omega.{arith}
use mathlib.Core.Path.{◌≡◌, refl}
use mathlib.Core.Bool.{Bool, true, not}
use mathlib.Core.Option.{Option, none, some}
use mathlib.Core.List.{List, [], ◌∷◌, ◌++◌, map}
use lib.ListN.{length, take, replicate}
use lib.Dec.{eqb}
use Rattle.rules.specs.Maps.{◌and◌, Map, given, find, every, gather, all}
use Rattle.rules.specs.Bytes.{bytes, fill, is_byte, are_bytes, bits_from}
use Rattle.rules.specs.Catalogue.{Class, Catalogue, class, size_of, key, ont_data}
use Rattle.rules.specs.State.{Contents, Entry, Table, Alarms, Memory, State, class_of, number_of, entries, entry, alarms_of}
use Rattle.rules.specs.Legal.{legal_content, there_or_gone, legal_contents, legal_entry, automatic_keys, legal_table, legal_memory, legal_state}
use Rattle.rules.specs.Walks.{frozen}
use Rattle.rules.proofs.Laws.{both, and_true, ltb_lt, leb_le, every_find, every_keep}
use Rattle.rules.proofs.ByteLaws.{bytes_append, bytes_cons, bytes_none, bytes_zeros, bytes_fill, bytes_of_number, eight_small}
use Rattle.rules.proofs.MapLaws.{Each, each_of_every, each_imp, every_append, all_gather}
use Rattle.store.specs.Layout.{ont_data_width, slot_count, slot_width, slots_length, place_width, places_length, table_length, memory_length, contents_bytes, entry_bytes}
use Rattle.store.specs.Layout.{slot, place, code_table, code_alarms, code_memory, code_optional, parts, encode, fits}
use Rattle.store.proofs.Widths.{places_are_enough}

-- ---- alarms

bytes_gather : {A : Type 0} (f : ℕ × A → List ℕ) (m : Map A) → Each (λ k a. are_bytes (f (k, a)) ≡ true) m → are_bytes (gather f m) ≡ true
unfolding are_bytes
bytes_gather f m h = all_gather f is_byte m h

bytes_alarms : (m : Map Alarms) (l : List ℕ) → are_bytes (map (λ k. bits_from 0 (take 8 (alarms_of k m))) l) ≡ true
bytes_alarms m [] = bytes_none
bytes_alarms m (k ∷ l) = bytes_cons (bits_from 0 (take 8 (alarms_of k m))) (map (λ k. bits_from 0 (take 8 (alarms_of k m))) l) (eight_small (alarms_of k m)) (bytes_alarms m l)

pub alarms_are_bytes : (cat : Catalogue) (m : Map Alarms) → are_bytes (code_alarms cat m) ≡ true
unfolding code_alarms
alarms_are_bytes cat m = bytes_fill slot_count (map (λ k. bits_from 0 (take 8 (alarms_of k m))) (automatic_keys cat)) (bytes_alarms m (automatic_keys cat))

-- ---- contents and entries

module _ (cat : Catalogue) where
  contents_are_bytes : (k : Class) (r : Contents) → legal_contents cat k r ≡ true → are_bytes (contents_bytes r) ≡ true
  unfolding legal_contents contents_bytes
  contents_are_bytes k r h =
      let p : ℕ → List ℕ → Bool = λ n v. eqb (length v) (size_of k n) and are_bytes v and legal_content (there_or_gone cat) k r n v in
      bytes_gather (λ e. e.1) r (each_imp (λ n v. p n v ≡ true) (λ n v. are_bytes v ≡ true) (λ n v g. (both (both g).1).0) r (each_of_every p r (both h).1))

  pub entry_is_bytes : (k : ℕ) (e : Entry) → legal_entry cat k e ≡ true → are_bytes (entry_bytes e) ≡ true
  unfolding legal_entry entry_bytes
  entry_is_bytes k e h =
      let p : ℕ → Contents → Bool = λ c r. legal_contents cat (class cat c) r in
      bytes_gather (λ r. contents_bytes r.1) e
      (each_imp (λ c r. p c r ≡ true) (λ c r. are_bytes (contents_bytes r) ≡ true) (λ c r g. contents_are_bytes (class cat c) r g) e (each_of_every p e (both h).1))

  slots_are_bytes : (m : Map Entry) → every (legal_entry cat) m ≡ true → are_bytes (gather slot m) ≡ true
  unfolding slot
  slots_are_bytes m h =
      bytes_gather slot m
      (each_imp (λ k e. legal_entry cat k e ≡ true) (λ k e. are_bytes (slot (k, e)) ≡ true)
      (λ k e g. bytes_fill slot_width (entry_bytes e) (entry_is_bytes k e g)) m (each_of_every (legal_entry cat) m h))

  places_are_bytes : (m : Map Entry) → every (legal_entry cat) m ≡ true → are_bytes (gather place m) ≡ true
  unfolding place
  places_are_bytes m h =
      bytes_gather place m
      (each_imp (λ k e. legal_entry cat k e ≡ true) (λ k e. are_bytes (place (k, e)) ≡ true)
      (λ k e g.
      bytes_append (bytes 2 (class_of k) ++ bytes 2 (number_of k)) (fill place_width (entry_bytes e))
      (bytes_append (bytes 2 (class_of k)) (bytes 2 (number_of k)) (bytes_of_number 2 (class_of k)) (bytes_of_number 2 (number_of k)))
      (bytes_fill place_width (entry_bytes e) (entry_is_bytes k e g)))
      m (each_of_every (legal_entry cat) m h))

  -- ---- tables

  -- every entry is legal, and a byte counts the created ones
  pub table_is_bytes : (t : Table) → every (legal_entry cat) t.automatic ≡ true → every (legal_entry cat) t.created ≡ true → length t.created < 256
      → are_bytes (code_table t) ≡ true
  unfolding code_table
  table_is_bytes t h g n =
      let s : List ℕ = fill slots_length (gather slot t.automatic) in
      let p : List ℕ = fill places_length (gather place t.created) in
      bytes_cons (length t.created) (s ++ p) n
      (bytes_append s p (bytes_fill slots_length (gather slot t.automatic) (slots_are_bytes t.automatic h))
      (bytes_fill places_length (gather place t.created) (places_are_bytes t.created g)))

  pub found_is_bytes : (k : ℕ) (t : Table) → every (legal_entry cat) t.automatic ≡ true → every (legal_entry cat) t.created ≡ true
      → are_bytes (entry_bytes (entry k t)) ≡ true
  unfolding entry
  found_is_bytes k t h g = go (find k (entries t)) refl
    where
      go : (o : Option Entry) → find k (entries t) ≡ o → are_bytes (entry_bytes (given o [] (λ e. e))) ≡ true
      go none e = unfold entry_bytes gather in bytes_none
      go (some x) e = entry_is_bytes k x (every_find (legal_entry cat) (entries t) (every_append (legal_entry cat) t.automatic t.created h g) k x e)

-- what a legal table gives
record Ready (cat : Catalogue) (t : Table) : Type 0 where
  standing : every (legal_entry cat) t.automatic ≡ true
  made : every (legal_entry cat) t.created ≡ true
  counted : length t.created < 256

ready : (cat : Catalogue) → fits cat ≡ true → (l : List ℕ) (t : Table) → legal_table cat l t ≡ true → Ready cat t
unfolding legal_table
ready cat f l t h =
    let a = both (both (both (both h).1).1).1 in
    let b = both a.1 in
    let n : length t.created ≤ cat.places = leb_le (length t.created) cat.places a.0 in
    let m = places_are_enough cat f in
    record { standing = b.0; made = b.1; counted = omega arith }

-- ---- the state

optional_is_bytes : {A : Type 0} (n : ℕ) (code : A → List ℕ) (o : Option A) → ((a : A) → o ≡ some a → are_bytes (code a) ≡ true) → are_bytes (code_optional n code o) ≡ true
unfolding code_optional are_bytes
optional_is_bytes n code none h = bytes_cons 0 (replicate n 0) (omega arith) (bytes_zeros n)
optional_is_bytes n code (some a) h = bytes_cons 1 (code a) (omega arith) (h a refl)

memory_is_bytes : (r : Memory) → legal_memory r ≡ true → are_bytes (code_memory r) ≡ true
unfolding legal_memory code_memory
memory_is_bytes r h =
    let a = both (both h).1 in
    bytes_append r.command r.reply a.0 (both (both a.1).1).1

parts_are_bytes : (l : List (List ℕ)) → all are_bytes l ≡ true → are_bytes (gather (λ b. b) l) ≡ true
unfolding all gather
parts_are_bytes [] h = bytes_none
parts_are_bytes (b ∷ l) h = bytes_append b (gather (λ b. b) l) (both h).0 (parts_are_bytes l (both h).1)

pub encoding_is_bytes : (p : ℕ) (cat : Catalogue) (s : State) → p < 256 → fits cat ≡ true → legal_state cat s ≡ true → are_bytes (encode p cat s) ≡ true
unfolding encode parts all legal_state frozen
encoding_is_bytes p cat s n f h =
    let a = both h in
    let b = both (both a.1).1 in
    let c = both b.1 in
    let d = both c.1 in
    let t : Table = s.table in
    let r : Ready cat t = ready cat f (key ont_data 0 ∷ automatic_keys cat) t a.0 in
    parts_are_bytes (parts p cat s)
    (and_true (bytes_cons p [] n bytes_none)
    (and_true (bytes_cons s.alarm_number [] (ltb_lt s.alarm_number 256 b.0) bytes_none)
    (and_true (optional_is_bytes memory_length code_memory s.remembered (λ m e. memory_is_bytes m (rw e at c.0)))
    (and_true (alarms_are_bytes cat s.alarms)
    (and_true (optional_is_bytes slot_count (code_alarms cat) s.walk (λ m e. alarms_are_bytes cat m))
    (and_true (bytes_fill ont_data_width (entry_bytes (entry (key ont_data 0) t)) (found_is_bytes cat (key ont_data 0) t r.standing r.made))
    (and_true (table_is_bytes cat (frozen t) (every_keep (legal_entry cat) (λ k e. not (eqb (class_of k) ont_data)) t.automatic r.standing) r.made r.counted)
    (and_true (optional_is_bytes table_length code_table s.upload
    (λ u e. let q : Ready cat u = ready cat f (automatic_keys cat) u (rw e at d.0) in table_is_bytes cat u q.standing q.made q.counted))
    refl))))))))
