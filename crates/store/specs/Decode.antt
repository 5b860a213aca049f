-- What bytes say. Every list of bytes is read as some state; a store is sound if that state is legal and encodes to the same bytes.
use Rattle.std.specs.Prelude.{ℕ, zero, suc, ◌+◌, Bool, false, cond, List, [], ◌∷◌, ◌++◌, length, take, drop, get_or, replicate, eqb, ltb}
use Rattle.std.proofs.Math.Option.{Option, none, some}
use Rattle.rules.specs.Maps.{◌and◌, Map, given, find, same, put_if, is_some}
use Rattle.rules.specs.Bytes.{byte, two, bits}
use Rattle.rules.specs.Catalogue.{Class, Catalogue, size_of, stored_numbers, family, key, ont_data}
use Rattle.rules.specs.State.{Contents, Entry, Table, Alarms, Memory, State, class_of}
use Rattle.rules.specs.Legal.{automatic_keys, some_on, legal_state}
use Rattle.rules.specs.Commands.{cut}
use Rattle.rules.specs.Run.{store_length, reply_length}
use Rattle.rules.specs.Products.{Products}
use Rattle.store.specs.Layout.{ont_data_width, key_length, slot_width, slots_length, place_length, command_length, part_lengths}
use Rattle.store.specs.Layout.{nth_alarm_number, nth_memory, nth_alarms, nth_walk, nth_ont_data, nth_table, nth_upload}
use Rattle.store.specs.Layout.{contents_width, encode}

-- ---- tables

unfoldable pub read_contents : Class → List ℕ → Contents
read_contents k b = cut (size_of k) (stored_numbers k) b

-- the contents of each class of a family, one after another
unfoldable pub read_entry : Map Class → List ℕ → Entry
read_entry [] b = []
read_entry (e ∷ m) b = (e.0, read_contents e.1 b) ∷ read_entry m (drop (contents_width e.1) b)

unfoldable pub read_slots : Catalogue → List ℕ → List ℕ → Map Entry
read_slots cat [] b = []
read_slots cat (k ∷ l) b = (k, read_entry (family cat (class_of k)) (take slot_width b)) ∷ read_slots cat l (drop slot_width b)

unfoldable pub read_place : Catalogue → List ℕ → ℕ × Entry
read_place cat b = (key (two b 0) (two b 2), read_entry (family cat (two b 0)) (drop key_length b))

unfoldable pub read_places : Catalogue → ℕ → List ℕ → Map Entry
read_places cat zero b = []
read_places cat (suc n) b = read_place cat (take place_length b) ∷ read_places cat n (drop place_length b)

unfoldable pub read_table : Catalogue → List ℕ → Table
read_table cat b = record {
  automatic = read_slots cat (automatic_keys cat) (take slots_length (drop 1 b));
  created = read_places cat (byte b 0) (drop (1 + slots_length) b);
}

-- ---- alarms, what may be absent, the remembered command

unfoldable pub read_alarms : List ℕ → List ℕ → Map Alarms
read_alarms [] b = []
read_alarms (k ∷ l) b =
    let on : Alarms = bits 8 (byte b 0) ++ replicate 216 false in
    put_if (some_on on) (k, on) (read_alarms l (drop 1 b))

unfoldable pub read_optional : {A : Type 0} → (List ℕ → A) → List ℕ → Option A
read_optional f b = cond (eqb (byte b 0) 0) none (some (f (drop 1 b)))

unfoldable pub read_memory : List ℕ → Memory
read_memory b = record { command = take command_length b; reply = take reply_length (drop command_length b) }

-- ---- the state

unfoldable pub cut_parts : List ℕ → List ℕ → List (List ℕ)
cut_parts [] b = []
cut_parts (n ∷ l) b = take n b ∷ cut_parts l (drop n b)

abbrev pub nth_part : ℕ → List ℕ → List ℕ
nth_part n b = get_or (cut_parts part_lengths b) n []

-- a table, with class 2 in front
unfoldable pub read_live : Catalogue → List ℕ → List ℕ → Table
read_live cat of_class_2 b = record {
  automatic = (key ont_data 0, read_entry (family cat ont_data) of_class_2) ∷ (read_table cat b).automatic;
  created = (read_table cat b).created;
}

-- from a live block
unfoldable pub live_of : Catalogue → List ℕ → Table
live_of cat b = read_live cat (take ont_data_width b) (drop ont_data_width b)

unfoldable pub read_state : Catalogue → List ℕ → State
read_state cat b = record {
  table = read_live cat (nth_part nth_ont_data b) (nth_part nth_table b);
  alarms = read_alarms (automatic_keys cat) (nth_part nth_alarms b);
  alarm_number = byte (nth_part nth_alarm_number b) 0;
  remembered = read_optional read_memory (nth_part nth_memory b);
  upload = read_optional (read_table cat) (nth_part nth_upload b);
  walk = read_optional (read_alarms (automatic_keys cat)) (nth_part nth_walk b);
}

-- ---- soundness

-- what a sound store holds
pub record Held : Type 0 where
  pub product : ℕ
  pub catalogue : Catalogue
  pub state : State

unfoldable pub decode_as : ℕ → Catalogue → List ℕ → Option Held
decode_as p cat b =
    let s : State = read_state cat b in
    cond (legal_state cat s and same (encode p cat s) b) (some (record { product = p; catalogue = cat; state = s })) none

-- the state that a store's first bytes encode, if they are long enough and encode one of these products' states
unfoldable pub decode : Products → List ℕ → Option Held
decode products b =
    cond (ltb (length b) store_length) none
    (given (find (byte b 0) products) none (λ cat. decode_as (byte b 0) cat (take store_length b)))

unfoldable pub sound : Products → List ℕ → Bool
sound products b = is_some (decode products b)

unfoldable pub computing_decode : ℕ
unfolding read_contents read_entry read_slots read_place read_places read_table read_alarms read_optional read_memory cut_parts read_live
    live_of read_state decode_as decode sound
computing_decode = 0
