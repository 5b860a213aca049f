-- A store is sound exactly if it is long enough, names a product that is built and passes that product's test.
use Prim.Native.Nat.{ℕ, ◌≤◌, ◌<◌}
use native.Mathlib.Omega.{arith}
use mathlib.Core.Path.{◌≡◌, ◌∙◌}
use mathlib.Core.Bool.{true, false}
use mathlib.Core.Option.{none}
use mathlib.Core.List.{List}
use lib.ListN.{length, take}
use lib.Seq.{length-take-le, get_or-take}
use lib.Dec.{ltb}
use Rattle.rules.specs.Maps.{◌and◌, find, is_some, same}
use Rattle.rules.specs.Bytes.{byte, are_bytes}
use Rattle.rules.specs.State.{State}
use Rattle.rules.specs.Legal.{legal_state}
use Rattle.rules.specs.Run.{store_length}
use Rattle.rules.specs.Products.{built_products}
use Rattle.rules.proofs.Laws.{cases, lt-ltb, le-ltb}
use Rattle.rules.proofs.ByteLaws.{bytes_take}
use Rattle.store.specs.Layout.{encode}
use Rattle.store.specs.Decode.{read_state, decode_as, decode, sound}
use Rattle.class_tables.specs.declared.Product.{Product}
use Rattle.class_tables.specs.Built.{cat_of, product_of}
use Rattle.class_tables.proofs.EveryProduct.{product_found, well_formed_of, fits_of}
use Rattle.class_tests.proofs.Entries.{any_counter}
use Rattle.soundness.specs.Tests.{store_test}
use Rattle.soundness.proofs.StoreTested.{store_tested}

-- a store of one product
module _ (pr : Product) (b : List ℕ) (bs : are_bytes b ≡ true) (long : store_length ≤ length b) where
  abbrev front : List ℕ
  front = take store_length b

  decoded_tested : byte b 0 ≡ product_of pr → is_some (decode_as (product_of pr) (cat_of pr) front) ≡ store_test (cat_of pr) front
  unfolding decode_as
  decoded_tested h =
      let s : State = read_state (cat_of pr) front in
      let first : byte front 0 ≡ product_of pr = get_or-take store_length b 0 0 (omega arith) ∙ h in
      let t = store_tested (cat_of pr) (well_formed_of pr) (fits_of pr) (any_counter pr) front (length-take-le store_length b long) (bytes_take store_length b bs) in
      rw (← t, first) (cases (legal_state (cat_of pr) s and same (encode (product_of pr) (cat_of pr) s) front) (λ y. rw y) (λ y. rw y))

  pub product_tested : byte b 0 ≡ product_of pr → sound built_products b ≡ store_test (cat_of pr) front
  unfolding sound decode
  product_tested h = rw (le-ltb (length b) store_length long, h, product_found pr) (decoded_tested h)

-- one of no product, and one that is too short
pub no_product : (b : List ℕ) → find (byte b 0) built_products ≡ none → sound built_products b ≡ false
unfolding sound decode
no_product b h = cases (ltb (length b) store_length) (λ t. rw t) (λ t. rw (t, h))

pub too_short : (b : List ℕ) → length b < store_length → sound built_products b ≡ false
unfolding sound decode
too_short b h = rw (lt-ltb (length b) store_length h)
