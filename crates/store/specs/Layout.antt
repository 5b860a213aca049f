-- A state as bytes: eight parts of fixed length, so that one state has one encoding.
use Rattle.std.specs.Prelude.{ℕ, zero, suc, ◌+◌, ◌*◌, Bool, not, cond, List, [], ◌∷◌, ◌++◌, map, length, take, replicate, eqb, ltb, leb}
use Rattle.std.proofs.Math.Option.{Option, none, some}
use Rattle.rules.specs.Maps.{◌and◌, ◌or◌, Map, every, gather, all, empty}
use Rattle.rules.specs.Bytes.{bytes, fill, bits_from}
use Rattle.rules.specs.Masks.{total}
use Rattle.rules.specs.Catalogue.{Creation, Class, Catalogue, size_of, stored_numbers, is_created, family, key, ont_data}
use Rattle.rules.specs.State.{Contents, Entry, Table, Alarms, Memory, State, class_of, number_of, entry, alarms_of}
use Rattle.rules.specs.Legal.{automatic_keys}
use Rattle.rules.specs.WellFormed.{is_companion}
use Rattle.rules.specs.Walks.{frozen}
use Rattle.rules.specs.Run.{reply_length}

-- ---- the lengths that decide which catalogues fit: a wider class needs one of them widened, and nothing else

-- class 2's contents: the sync counter
abbrev pub ont_data_width : ℕ
ont_data_width = 1

-- the other instances that are there by themselves: how many, and the widest's contents
abbrev pub slot_count : ℕ
slot_count = 4

abbrev pub slot_width : ℕ
slot_width = 15

-- created instances: how many, and the widest's contents with those of the instances that come with it
abbrev pub place_count : ℕ
place_count = 40

abbrev pub place_width : ℕ
place_width = 35

-- a place begins with class and number
abbrev pub key_length : ℕ
key_length = 4

abbrev pub place_length : ℕ
place_length = key_length + place_width

abbrev pub slots_length : ℕ
slots_length = slot_count * slot_width

abbrev pub places_length : ℕ
places_length = place_count * place_length

-- how many places are in use, the slots, the places
abbrev pub table_length : ℕ
table_length = 1 + (slots_length + places_length)

-- ---- a block: a table with one byte in front, class 2's contents before the live one, a mark before the frozen one

abbrev pub block_length : ℕ
block_length = 1 + table_length

-- where a block has the number of places in use, its slots and its places
abbrev pub in_use_at : ℕ
in_use_at = 1

abbrev pub slots_at : ℕ
slots_at = in_use_at + 1

abbrev pub places_at : ℕ
places_at = slots_at + slots_length

-- and one of them
abbrev pub slot_at : ℕ → ℕ
slot_at j = slots_at + slot_width * j

abbrev pub place_at : ℕ → ℕ
place_at j = places_at + place_length * j

-- ---- contents

unfoldable pub contents_bytes : Contents → List ℕ
contents_bytes r = gather (λ e. e.1) r

unfoldable pub entry_bytes : Entry → List ℕ
entry_bytes e = gather (λ r. contents_bytes r.1) e

unfoldable pub slot : ℕ × Entry → List ℕ
slot e = fill slot_width (entry_bytes e.1)

unfoldable pub place : ℕ × Entry → List ℕ
place e = bytes 2 (class_of e.0) ++ bytes 2 (number_of e.0) ++ fill place_width (entry_bytes e.1)

-- a table without class 2: the places in use, the slots, then the places, which rise, with zeros behind them
unfoldable pub code_table : Table → List ℕ
code_table t = length t.created ∷ fill slots_length (gather slot t.automatic) ++ fill places_length (gather place t.created)

-- the live block
unfoldable pub live_bytes : Table → List ℕ
live_bytes t = fill ont_data_width (entry_bytes (entry (key ont_data 0) t)) ++ code_table (frozen t)

-- eight alarms of each slot's instance in a byte, alarm 0 at its top
unfoldable pub code_alarms : Catalogue → Map Alarms → List ℕ
code_alarms cat m = fill slot_count (map (λ k. bits_from 0 (take 8 (alarms_of k m))) (automatic_keys cat))

unfoldable pub code_memory : Memory → List ℕ
code_memory r = r.command ++ r.reply

-- what may be absent: 0 and zeros, or 1 and its bytes
unfoldable pub code_optional : {A : Type 0} → ℕ → (A → List ℕ) → Option A → List ℕ
code_optional n f none = 0 ∷ replicate n 0
code_optional n f (some a) = 1 ∷ f a

-- ---- the parts

abbrev pub command_length : ℕ
command_length = 40

abbrev pub memory_length : ℕ
memory_length = command_length + reply_length

-- product, alarm number, remembered command, alarms, alarm walk, class 2, table, upload
abbrev pub part_lengths : List ℕ
part_lengths = 1 ∷ 1 ∷ (1 + memory_length) ∷ slot_count ∷ (1 + slot_count) ∷ ont_data_width ∷ table_length ∷ (1 + table_length) ∷ []

-- which of them is which, counted from 0
abbrev pub nth_product : ℕ
nth_product = 0

abbrev pub nth_alarm_number : ℕ
nth_alarm_number = 1

abbrev pub nth_memory : ℕ
nth_memory = 2

abbrev pub nth_alarms : ℕ
nth_alarms = 3

abbrev pub nth_walk : ℕ
nth_walk = 4

abbrev pub nth_ont_data : ℕ
nth_ont_data = 5

abbrev pub nth_table : ℕ
nth_table = 6

abbrev pub nth_upload : ℕ
nth_upload = 7

-- the sum of the first so many lengths
abbrev pub begins : ℕ → List ℕ → ℕ
begins zero l = 0
begins (suc j) [] = 0
begins (suc j) (n ∷ l) = n + begins j l

-- where each of them begins
abbrev pub alarm_number_at : ℕ
alarm_number_at = begins nth_alarm_number part_lengths

abbrev pub memory_at : ℕ
memory_at = begins nth_memory part_lengths

abbrev pub alarms_at : ℕ
alarms_at = begins nth_alarms part_lengths

abbrev pub walk_at : ℕ
walk_at = begins nth_walk part_lengths

-- the live block: class 2, and the table behind it
abbrev pub live_at : ℕ
live_at = begins nth_ont_data part_lengths

abbrev pub table_at : ℕ
table_at = begins nth_table part_lengths

-- the frozen block
abbrev pub upload_at : ℕ
upload_at = begins nth_upload part_lengths

-- the parts of the state of product p
unfoldable pub parts : ℕ → Catalogue → State → List (List ℕ)
parts p cat s =
    (p ∷ [])
    ∷ (s.alarm_number ∷ [])
    ∷ code_optional memory_length code_memory s.remembered
    ∷ code_alarms cat s.alarms
    ∷ code_optional slot_count (code_alarms cat) s.walk
    ∷ fill ont_data_width (entry_bytes (entry (key ont_data 0) s.table))
    ∷ code_table (frozen s.table)
    ∷ code_optional table_length code_table s.upload
    ∷ []

unfoldable pub encode : ℕ → Catalogue → State → List ℕ
encode p cat s = gather (λ b. b) (parts p cat s)

-- ---- which catalogues' states fit

unfoldable pub contents_width : Class → ℕ
contents_width k = total (size_of k) (stored_numbers k)

-- the contents of an instance of class c and of those that come with it
unfoldable pub family_width : Map Class → ℕ
family_width [] = 0
family_width (e ∷ m) = contents_width e.1 + family_width m

abbrev pub width_for : ℕ → Creation → ℕ
width_for c creation = cond (eqb c ont_data) ont_data_width (cond (is_created creation) place_width slot_width)

-- a class's entries fit their slot or place; alarms are those of slots, eight at the most
unfoldable pub class_fits : Catalogue → ℕ → Class → Bool
class_fits cat c k = leb (family_width (family cat c)) (width_for c k.creation)
    and (empty k.alarms or not (eqb c ont_data or is_created k.creation or is_companion k.creation))
    and all (λ n. ltb n 8) k.alarms

unfoldable pub fits : Catalogue → Bool
fits cat = leb (length (automatic_keys cat)) slot_count and leb cat.places place_count and every (class_fits cat) cat.classes

unfoldable pub computing_layout : ℕ
unfolding contents_bytes entry_bytes slot place code_table live_bytes code_alarms code_memory code_optional parts encode contents_width
    family_width class_fits fits
computing_layout = 0
