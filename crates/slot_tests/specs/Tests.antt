-- The slots and the alarms as tests of bytes, over any catalogue.
use Rattle.std.specs.Prelude.{ℕ, zero, suc, Bool, true, List, [], ◌∷◌, take, drop}
use Rattle.rules.specs.Maps.{◌and◌}
use Rattle.rules.specs.Bytes.{byte, all_zero, bits}
use Rattle.rules.specs.Catalogue.{Class, Catalogue, class, family}
use Rattle.rules.specs.State.{class_of}
use Rattle.rules.specs.Legal.{declared_from}
use Rattle.store.specs.Layout.{slot_width}
use Rattle.class_tables.specs.declared.Product.{Product}
use Rattle.class_tests.specs.ContentTests.{contents_test}
use Rattle.class_tests.specs.Tests.{family_test}

-- a slot for each of these keys, then zeros
unfoldable pub slots_test : Catalogue → List ℕ → List ℕ → Bool
slots_test cat [] b = all_zero b
slots_test cat (k ∷ l) b = family_test cat (family cat (class_of k)) (take slot_width b) and slots_test cat l (drop slot_width b)

-- so many slots with the contents of a UNI each
unfoldable pub unis_test : Product → ℕ → List ℕ → Bool
unis_test pr zero b = true
unis_test pr (suc n) b = contents_test pr 11 (take slot_width b) and unis_test pr n (drop slot_width b)

-- a byte of alarms, in which only declared ones are on
unfoldable pub alarm_byte_test : Class → ℕ → Bool
alarm_byte_test k x = declared_from 0 k.alarms (bits 8 x)

-- a byte for each of these keys, then zeros
unfoldable pub alarms_test : Catalogue → List ℕ → List ℕ → Bool
alarms_test cat [] b = all_zero b
alarms_test cat (k ∷ l) b = alarm_byte_test (class cat (class_of k)) (byte b 0) and alarms_test cat l (drop 1 b)
