-- Soundness as tests of bytes, in the order in which the code makes them.
use Rattle.std.specs.Prelude.{◌+◌, ℕ, Bool, not, cond, List, take, drop, eqb, leb}
use Rattle.rules.specs.Maps.{◌and◌, is_some, first_that_applies}
use Rattle.rules.specs.Bytes.{byte, all_zero}
use Rattle.rules.specs.Catalogue.{Catalogue}
use Rattle.rules.specs.Legal.{automatic_keys, header_drops}
use Rattle.store.specs.Layout.{slots_length, command_length, nth_memory, nth_alarms, nth_walk, nth_table}
use Rattle.store.specs.Layout.{nth_upload}
use Rattle.store.specs.Decode.{nth_part}
use Rattle.slot_tests.specs.Tests.{slots_test, alarms_test}
use Rattle.place_runs.specs.Tests.{places_test}

-- ---- a table

unfoldable pub table_test : Catalogue → List ℕ → Bool
table_test cat b = leb (byte b 0) cat.places
    and slots_test cat (automatic_keys cat) (take slots_length (drop 1 b))
    and places_test cat (byte b 0) 0 (drop (1 + slots_length) b)

-- ---- the remembered command

-- the command's header; the rest of it, and the reply, may be anything
unfoldable pub memory_test : List ℕ → Bool
memory_test b = not (is_some (first_that_applies (header_drops (take command_length b))))

-- ---- the store

-- what may be absent: 0 and zeros, or 1 and what passes
unfoldable pub optional_test : (List ℕ → Bool) → List ℕ → Bool
optional_test t b = cond (eqb (byte b 0) 0) (all_zero (drop 1 b)) (eqb (byte b 0) 1 and t (drop 1 b))

-- product, alarm number and class 2 may be any byte
unfoldable pub store_test : Catalogue → List ℕ → Bool
store_test cat b = optional_test memory_test (nth_part nth_memory b)
    and alarms_test cat (automatic_keys cat) (nth_part nth_alarms b)
    and optional_test (alarms_test cat (automatic_keys cat)) (nth_part nth_walk b)
    and table_test cat (nth_part nth_table b)
    and optional_test (table_test cat) (nth_part nth_upload b)
