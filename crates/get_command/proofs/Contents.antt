-- The 32 bytes that a Get writes.
use Prim.Native.Nat.{ℕ, ◌≤◌}
use native.Mathlib.Omega.{arith}
use mathlib.Core.Path.{◌≡◌, ◌∙◌, ap}
use mathlib.Core.List.{List, ◌∷◌, ◌++◌}
use lib.ListN.{length, take, drop, replicate}
use borrow.Rule.Slice.PartMut.{mid_of, put_mid}
use Rattle.rules.specs.Bytes.{bytes, fill, laid}
use Rattle.rules.specs.Masks.{named}
use Rattle.rules.specs.Messages.{done}
use Rattle.octets.proofs.Laid.{laid_in_part, laid_on_zeros}
use Rattle.class_tables.specs.Built.{cat_of}
use Rattle.table.specs.declared.Which.TheVariants.{Live}
use Rattle.attribute_read.specs.Values.{values_at, Packable}
use Rattle.attribute_read.proofs.Items.{within}
use Rattle.attribute_read.proofs.Packed.{length_values}
use Rattle.class_tables.specs.declared.Product.{Product}

module _ (z t : List ℕ) (m : ℕ) (e : z ≡ replicate 32 0) (h : t ≡ take 1 z ++ (bytes 2 m ++ drop 3 z)) where
  after_mask : t ≡ (done ∷ bytes 2 m) ++ replicate 29 0
  unfolding bytes
  after_mask = h ∙ ap (λ (x : List ℕ). take 1 x ++ (bytes 2 m ++ drop 3 x)) e

  mask_long : length t ≡ 32
  unfolding bytes
  mask_long = ap length after_mask

  pub contents_shown : (v w : List ℕ) → length v ≤ 25 → w ≡ laid 0 v (mid_of 3 25 t) → put_mid 3 25 t w ≡ fill 32 (done ∷ bytes 2 m ++ v)
  unfolding bytes
  contents_shown v w lv g =
      rw g (laid_in_part 3 25 0 v t (omega arith) (let q = mask_long in omega arith))
      ∙ ap (laid 3 v) after_mask ∙ laid_on_zeros (done ∷ bytes 2 m) v 29 (omega arith)

pub values_short : (pr : Product) (b : List ℕ) (c i o m : ℕ) → Packable pr Live b b c i o m 25 → length (values_at (cat_of pr) b c i o (named m)) ≤ 25
values_short pr b c i o m h =
    let e = length_values pr b c i o h.live_long (within pr b c i o h.shaped h.at_its_spot) (named m) h.all_there in
    let r = h.room_for_all in
    omega arith
