-- The parts of a store: their lengths, and that they are cut off again as they were put together.
use Prim.Native.Nat.{ℕ, suc}
use mathlib.Core.Path.{◌≡◌, refl, ◌∙◌, ap}
use mathlib.Core.Bool.{true}
use mathlib.Core.Option.{Option, none, some}
use mathlib.Core.List.{List, [], ◌∷◌, ◌++◌, map, append_assoc}
use lib.ListN.{length, take, length-append, length-replicate}
use lib.Seq.{take_at, drop_at}
use Rattle.rules.specs.Maps.{Map, given, gather}
use Rattle.rules.specs.Bytes.{fill, bits_from}
use Rattle.rules.specs.Masks.{total}
use Rattle.rules.specs.Catalogue.{Catalogue, key, ont_data}
use Rattle.rules.specs.State.{Table, Alarms, Memory, State, entry, alarms_of}
use Rattle.rules.specs.Legal.{automatic_keys, legal_memory, legal_state}
use Rattle.rules.specs.Run.{store_length}
use Rattle.rules.specs.Walks.{frozen}
use Rattle.rules.proofs.Laws.{both, eqb_eq}
use Rattle.store.specs.Layout.{ont_data_width, slot_count, slots_length, places_length, table_length, memory_length, slot, place, entry_bytes, code_table, code_alarms}
use Rattle.store.specs.Layout.{code_memory, code_optional, part_lengths, parts, encode}
use Rattle.store.specs.Decode.{cut_parts}
use Rattle.rules.proofs.ByteLaws.{length_fill}

-- ---- one after another

pub parts_length : (l : List (List ℕ)) → length (gather (λ b. b) l) ≡ total (λ n. n) (map length l)
unfolding gather total
parts_length [] = refl
parts_length (b ∷ l) = rw (length-append b (gather (λ b. b) l), parts_length l)

-- parts are cut off again by their lengths
pub parts_back : (l : List (List ℕ)) (rest : List ℕ) → cut_parts (map length l) (gather (λ b. b) l ++ rest) ≡ l
unfolding gather cut_parts
parts_back [] rest = refl
parts_back (b ∷ l) rest =
    let g : List ℕ = gather (λ b. b) l in
    rw (append_assoc b g rest, take_at b (g ++ rest) (length b) refl, drop_at b (g ++ rest) (length b) refl, parts_back l rest)

pub parts_lengths : total (λ n. n) part_lengths ≡ store_length
unfolding total
parts_lengths = refl

-- ---- the length of each part

pub table_has_its_length : (t : Table) → length (code_table t) ≡ table_length
unfolding code_table
table_has_its_length t =
    rw (
      length-append (fill slots_length (gather slot t.automatic)) (fill places_length (gather place t.created)),
      length_fill slots_length (gather slot t.automatic),
      length_fill places_length (gather place t.created),
    )

pub alarms_have_their_length : (cat : Catalogue) (m : Map Alarms) → length (code_alarms cat m) ≡ slot_count
unfolding code_alarms
alarms_have_their_length cat m = length_fill slot_count (map (λ k. bits_from 0 (take 8 (alarms_of k m))) (automatic_keys cat))

pub memory_has_its_length : (r : Memory) → legal_memory r ≡ true → length (code_memory r) ≡ memory_length
unfolding code_memory legal_memory
memory_has_its_length r h =
    let a = both h in
    let b = both (both (both a.1).1).1 in
    rw (length-append r.command r.reply, eqb_eq (length r.command) 40 a.0, eqb_eq (length r.reply) 48 b.0)

pub optional_has_its_length : {A : Type 0} (n : ℕ) (f : A → List ℕ) (o : Option A) → ((a : A) → o ≡ some a → length (f a) ≡ n) → length (code_optional n f o) ≡ suc n
unfolding code_optional
optional_has_its_length n f none h = ap suc (length-replicate n 0)
optional_has_its_length n f (some a) h = ap suc (h a refl)

-- ---- the whole

-- of a state it is needed only that the remembered command and reply have their lengths
abbrev pub Remembers : State → Type 0
Remembers s = given s.remembered true legal_memory ≡ true

pub each_part_has_its_length : (p : ℕ) (cat : Catalogue) (s : State) → Remembers s → map length (parts p cat s) ≡ part_lengths
unfolding parts
each_part_has_its_length p cat s h =
    rw (
      length_fill ont_data_width (entry_bytes (entry (key ont_data 0) s.table)),
      optional_has_its_length memory_length code_memory s.remembered (λ r e. memory_has_its_length r (rw e at h)),
      alarms_have_their_length cat s.alarms,
      optional_has_its_length slot_count (code_alarms cat) s.walk (λ m e. alarms_have_their_length cat m),
      table_has_its_length (frozen s.table),
      optional_has_its_length table_length code_table s.upload (λ t e. table_has_its_length t),
    )

pub encode_length : (p : ℕ) (cat : Catalogue) (s : State) → Remembers s → length (encode p cat s) ≡ store_length
unfolding encode
encode_length p cat s h = parts_length (parts p cat s) ∙ ap (total (λ n. n)) (each_part_has_its_length p cat s h) ∙ parts_lengths

pub encode_parts : (p : ℕ) (cat : Catalogue) (s : State) (rest : List ℕ) → Remembers s → cut_parts part_lengths (encode p cat s ++ rest) ≡ parts p cat s
unfolding encode
encode_parts p cat s rest h = rw (← each_part_has_its_length p cat s h) (parts_back (parts p cat s) rest)

pub legal_remembers : (cat : Catalogue) (s : State) → legal_state cat s ≡ true → Remembers s
unfolding legal_state
legal_remembers cat s h = (both (both (both (both h).1).1).1).0
