-- A table's test as the code makes it.
use Prim.Native.Nat.{ℕ, ◌+◌, ◌≤◌, ◌<◌}
use native.Mathlib.Omega.{arith}
use mathlib.Core.Path.{◌≡◌}
use mathlib.Core.Bool.{false}
use mathlib.Core.List.{List}
use lib.ListN.{length, take, drop, length-drop}
use lib.Seq.{drop-drop, take_all, get_or-drop}
use Rattle.rules.specs.Maps.{◌and◌}
use Rattle.rules.specs.Bytes.{byte}
use Rattle.rules.specs.Legal.{automatic_keys}
use borrow.Author.Tests.{lt-leb}
use Rattle.rules.proofs.Laws.{true_and, le-leb}
use Rattle.class_tables.specs.declared.Product.{Product}
use Rattle.class_tables.specs.Built.{cat_of}
use Rattle.class_tables.proofs.ClassLaws.{places_are}
use Rattle.slot_tests.specs.Tests.{slots_test}
use Rattle.place_runs.specs.Tests.{places_test}
use Rattle.soundness.specs.Tests.{table_test}
use Rattle.store.specs.Layout.{place_count, slots_length, places_length, block_length, in_use_at, slots_at, places_at}

-- a part that goes to the end
pub to_the_end : (n at : ℕ) (b : List ℕ) → length b ≤ at + n → take n (drop at b) ≡ drop at b
to_the_end n at b h = take_all n (drop at b) (rw (length-drop at b) (omega arith))

-- ---- the table

-- in a block, which has one byte in front
module _ (pr : Product) (b : List ℕ) (h : length b ≡ block_length) where
  pub too_many : place_count < byte b in_use_at → table_test (cat_of pr) (drop 1 b) ≡ false
  unfolding table_test ◌and◌
  too_many g = rw (places_are pr, get_or-drop 1 b 0 0, lt-leb (byte b in_use_at) place_count g)

  pub table_bytes : byte b in_use_at ≤ place_count → table_test (cat_of pr) (drop 1 b)
      ≡ (slots_test (cat_of pr) (automatic_keys (cat_of pr)) (take slots_length (drop slots_at b)) and places_test (cat_of pr) (byte b in_use_at) 0 (take places_length (drop places_at b)))
  unfolding table_test
  table_bytes g = rw (
    places_are pr,
    get_or-drop 1 b 0 0,
    le-leb (byte b in_use_at) place_count g,
    true_and,
    drop-drop 1 1 b,
    drop-drop (1 + slots_length) 1 b,
    to_the_end places_length places_at b (omega arith),
  )
