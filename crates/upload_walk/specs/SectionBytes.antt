-- What MIB upload next writes of a section of the frozen table.
use Rattle.std.specs.Prelude.{ℕ, ◌≤◌, ◌≡◌, true, List, ◌++◌, length, take, drop}
use Rattle.std.proofs.Math.Option.{some}
use Rattle.rules.specs.Maps.{all}
use Rattle.rules.specs.Bytes.{bytes}
use Rattle.rules.specs.Masks.{named, total}
use Rattle.rules.specs.Catalogue.{Catalogue, supported, size_of}
use Rattle.rules.specs.Run.{store_length}
use Rattle.store.specs.Layout.{block_length, upload_at}
use Rattle.class_tables.specs.Built.{cat_of, class_for}
use Rattle.class_tables.specs.declared.Product.{Product}
use Rattle.table.specs.Places.{InShape, keys_in}
use Rattle.table.specs.Spots.{spot_among}
use Rattle.attribute_read.specs.Values.{values_at}

-- the mark and the frozen table, in a store
abbrev pub frozen_block : List ℕ → List ℕ
frozen_block store = take block_length (drop upload_at store)

-- class, instance and mask, then the values of an instance whose contents begin at o in the bytes b
unfoldable pub section_bytes : Catalogue → List ℕ → ℕ → ℕ → ℕ → ℕ → List ℕ
section_bytes cat b c i o m = bytes 2 c ++ bytes 2 i ++ bytes 2 m ++ values_at cat b c i o (named m)

-- a section that can be shown: a frozen table in shape, contents that begin at their instance's spot, attributes that the class
-- has, and room for them
pub record Showable (pr : Product) (store : List ℕ) (c i o m : ℕ) : Type 0 where
  pub long : store_length ≤ length store
  pub shaped : InShape (frozen_block store)
  pub at_its_spot : spot_among (cat_of pr) (keys_in (frozen_block store)) c i ≡ some o
  pub all_there : all (λ n. supported (class_for pr c) n) (named m) ≡ true
  pub room : total (size_of (class_for pr c)) (named m) ≤ 26
