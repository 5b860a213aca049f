-- A turn of the loops that lay one attribute after another.
use Prim.Native.Nat.{ℕ, ◌+◌, ◌-◌, ◌≤◌}
use native.Mathlib.Omega.{arith}
use mathlib.Core.Path.{◌≡◌, refl, ◌∙◌, ap}
use mathlib.Core.Bool.{true}
use mathlib.Core.List.{List, [], ◌∷◌}
use lib.ListN.{length, take, drop, length-take}
use lib.Seq.{drop-drop}
use Rattle.rules.specs.Maps.{among}
use Rattle.rules.specs.Bytes.{laid}
use Rattle.rules.specs.Masks.{named}
use Rattle.rules.specs.Catalogue.{Class, attribute, supported, size_of, is_stored, stored_numbers}
use Rattle.rules.specs.Commands.{cut}
use Rattle.bits.proofs.MaskWalk.{Walked, nothing_walked, next_passes, next_within, one_walked}
use Rattle.bits.specs.Digits.{digit}
use Rattle.octets.proofs.Laid.{length_laid}
use Rattle.class_tables.specs.Built.{class_for}
use Rattle.class_tables.specs.Describes.{offset_of}
use Rattle.class_tables.specs.Sizes.{size_digits}
use Rattle.class_tables.proofs.SizeLaws.{size_read_off}
use Rattle.class_tables.proofs.Offsets.{offset_fits}
use Rattle.attribute_write.specs.Lays.{laid_values, Laying}
use Rattle.class_tables.specs.declared.Product.{Product}
use Rattle.class_tables.proofs.ClassLaws.{stored_there}

-- ---- values cut off one after another

-- what is laid of the rest is what is laid of all
pub record Values (k : Class) (at m : ℕ) (v b₀ b left : List ℕ) (from : ℕ) : Type 0 where
  pub walked : Walked (size_of k) m left from
  pub so_far : laid_values k at (cut (size_of k) left (drop from v)) b ≡ laid_values k at (cut (size_of k) (named m) v) b₀
  pub may : Laying k at (named m) v b₀
  pub long : length b ≡ length b₀

pub no_values : (k : Class) (at : ℕ) (v b : List ℕ) {m left : ℕ} → left ≡ m → Laying k at (named m) v b → Values k at m v b b (named left) 0
no_values k at v b e h = record { walked = nothing_walked (size_of k) e; so_far = rw e refl; may = h; long = refl }

pub all_values : (k : Class) {at m : ℕ} {v b₀ b left : List ℕ} {from : ℕ} → Values k at m v b₀ b left from → left ≡ []
    → b ≡ laid_values k at (cut (size_of k) (named m) v) b₀
unfolding cut laid_values
all_values k s e = rw e at s.so_far

module _ (pr : Product) (c : ℕ) {at m : ℕ} {v b₀ b left : List ℕ} {from : ℕ} (s : Values (class_for pr c) at m v b₀ b left from) {n : ℕ} {rest : List ℕ} (first : left ≡ n ∷ rest) where
  abbrev k : Class
  k = class_for pr c

  next_stored : among n (stored_numbers k) ≡ true
  next_stored = next_passes s.walked first (λ i. among i (stored_numbers k)) s.may.are_stored

  pub next_kept : (supported k n ≡ true) × (is_stored (attribute k n).source ≡ true)
  next_kept = stored_there pr c n next_stored

  -- its size, and where it begins, as the code found them
  module _ {sizes size begin : ℕ} (digits : sizes ≡ size_digits k) (read : size ≡ digit sizes n) (begun : begin ≡ offset_of k n) where
    sized : size ≡ size_of k n
    sized = size_read_off pr c n next_kept.0 digits read

    -- the next value is there, and there is room for it
    pub value_room : (from + size ≤ length v) × (at + begin + size ≤ length b)
    value_room =
        let z = next_within s.walked first in
        let q = sized in
        let w = offset_fits k n next_stored in
        let long = s.long in
        let inside = s.may.inside in
        let carried = s.may.carried in
        (omega arith, omega arith)

    pub one_value : {b' : List ℕ} → b' ≡ laid (at + begin) (take (from + size - from) (drop from v)) b → Values k at m v b₀ b' rest (from + size)
    unfolding cut laid_values
    one_value {b'} y =
        let room = value_room in
        let z = sized in
        let w : List ℕ = take (from + size - from) (drop from v) in
        let cut_off : from + size - from ≡ size_of k n = omega arith in
        let lw : length w ≤ size = simp length-take (omega arith) in
        let q = length_laid (at + begin) w b (omega arith) in
        record {
          walked = one_walked s.walked first sized;
          so_far = rw (y, begun, cut_off, sized, ← drop-drop (size_of k n) from v) (rw first at s.so_far);
          may = s.may;
          long = ap length y ∙ q ∙ s.long;
        }
