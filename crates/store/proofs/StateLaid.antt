-- Where each part of a state stands in the store, and what the store is when one changes.
use Prim.Native.Nat.{ℕ, ◌+◌}
use native.Mathlib.Omega.{arith}
use mathlib.Core.Path.{◌≡◌, refl, ◌∙◌}
use mathlib.Core.Option.{none, some}
use mathlib.Core.List.{List, [], ◌∷◌, ◌++◌}
use lib.ListN.{length, replicate, length-append, length-replicate}
use Rattle.rules.specs.Maps.{Map}
use Rattle.rules.specs.Bytes.{fill, laid}
use Rattle.rules.specs.Catalogue.{Catalogue, key, ont_data}
use Rattle.rules.specs.State.{Table, Alarms, Memory, State, entry, with_table, with_alarms, with_alarm_number, with_memory, with_upload, with_walk}
use Rattle.rules.specs.Walks.{frozen}
use Rattle.rules.proofs.ByteLaws.{length_fill}
use Rattle.store.specs.Layout.{ont_data_width, slot_count, table_length, memory_length, entry_bytes, code_table, code_alarms, code_memory, code_optional, nth_ont_data}
use Rattle.store.specs.Layout.{parts, encode, live_bytes, block_length, nth_alarm_number, nth_memory, nth_alarms, nth_walk, nth_upload, alarm_number_at, memory_at}
use Rattle.store.specs.Layout.{alarms_at, walk_at, live_at, upload_at, table_at, nth_table}
use Rattle.store.proofs.Parts.{Remembers, table_has_its_length, alarms_have_their_length}
use Rattle.octets.proofs.Parted.{part}
use Rattle.store.proofs.StoreLaid.{part_read, part_laid, neighbours_read, both_laid}

pub live_length : (t : Table) → length (live_bytes t) ≡ block_length
unfolding live_bytes
live_length t = length-append (fill ont_data_width (entry_bytes (entry (key ont_data 0) t))) (code_table (frozen t))
    ∙ omega (arith, length_fill ont_data_width (entry_bytes (entry (key ont_data 0) t)), table_has_its_length (frozen t))

module _ (p : ℕ) (cat : Catalogue) (s : State) (known : Remembers s) (rest : List ℕ) where
  abbrev pub store : List ℕ
  store = encode p cat s ++ rest

  -- the live table, read
  pub live_part : part live_at block_length store ≡ live_bytes s.table
  unfolding parts live_bytes
  live_part = neighbours_read p cat s known nth_ont_data (omega arith) rest

  -- and changed
  pub live_laid : (t : Table) → encode p cat (with_table t s) ++ rest ≡ laid live_at (live_bytes t) store
  unfolding encode parts live_bytes
  live_laid t = both_laid p cat s known nth_ont_data (omega arith) (fill ont_data_width (entry_bytes (entry (key ont_data 0) t))) (code_table (frozen t))
      (length_fill ont_data_width (entry_bytes (entry (key ont_data 0) t))) (table_has_its_length (frozen t)) rest

  -- ---- the small parts

  pub number_laid : (n : ℕ) → encode p cat (with_alarm_number n s) ++ rest ≡ laid alarm_number_at (n ∷ []) store
  unfolding encode parts
  number_laid n = part_laid p cat s known nth_alarm_number (omega arith) (n ∷ []) refl rest

  pub alarms_laid : (m : Map Alarms) → encode p cat (with_alarms m s) ++ rest ≡ laid alarms_at (code_alarms cat m) store
  unfolding encode parts
  alarms_laid m = part_laid p cat s known nth_alarms (omega arith) (code_alarms cat m) (alarms_have_their_length cat m) rest

  pub memory_laid : (r : Memory) → length (code_memory r) ≡ memory_length → encode p cat (with_memory (some r) s) ++ rest ≡ laid memory_at (1 ∷ code_memory r) store
  unfolding encode parts code_optional
  memory_laid r l = part_laid p cat s known nth_memory (omega arith) (1 ∷ code_memory r) (omega arith) rest

  pub upload_laid : (u : Table) → encode p cat (with_upload (some u) s) ++ rest ≡ laid upload_at (1 ∷ code_table u) store
  unfolding encode parts code_optional
  upload_laid u = part_laid p cat s known nth_upload (omega arith) (1 ∷ code_table u) (omega (arith, table_has_its_length u)) rest

  pub no_upload_laid : encode p cat (with_upload none s) ++ rest ≡ laid upload_at (0 ∷ replicate table_length 0) store
  unfolding encode parts code_optional
  no_upload_laid = part_laid p cat s known nth_upload (omega arith) (0 ∷ replicate table_length 0) (omega (arith, length-replicate {A = ℕ} table_length 0)) rest

  pub walk_laid : (m : Map Alarms) → encode p cat (with_walk (some m) s) ++ rest ≡ laid walk_at (1 ∷ code_alarms cat m) store
  unfolding encode parts code_optional
  walk_laid m = part_laid p cat s known nth_walk (omega arith) (1 ∷ code_alarms cat m) (omega (arith, alarms_have_their_length cat m)) rest

  pub no_walk_laid : encode p cat (with_walk none s) ++ rest ≡ laid walk_at (0 ∷ replicate slot_count 0) store
  unfolding encode parts code_optional
  no_walk_laid = part_laid p cat s known nth_walk (omega arith) (0 ∷ replicate slot_count 0) refl rest

  -- ---- the small parts, read

  pub memory_part : part memory_at (1 + memory_length) store ≡ code_optional memory_length code_memory s.remembered
  unfolding parts
  memory_part = part_read p cat s known nth_memory (omega arith) rest

  pub alarms_part : part alarms_at slot_count store ≡ code_alarms cat s.alarms
  unfolding parts
  alarms_part = part_read p cat s known nth_alarms (omega arith) rest

  pub walk_part : part walk_at (1 + slot_count) store ≡ code_optional slot_count (code_alarms cat) s.walk
  unfolding parts
  walk_part = part_read p cat s known nth_walk (omega arith) rest

  pub upload_part : part upload_at block_length store ≡ code_optional table_length code_table s.upload
  unfolding parts
  upload_part = part_read p cat s known nth_upload (omega arith) rest

  pub table_part : part table_at table_length store ≡ code_table (frozen s.table)
  unfolding parts
  table_part = part_read p cat s known nth_table (omega arith) rest
