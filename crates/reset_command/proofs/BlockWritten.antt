-- What the stores of a reset make of the live block.
use Prim.Native.Nat.{ℕ, ◌-◌, ◌≤◌}
use native.Mathlib.Omega.{arith}
use mathlib.Core.Path.{◌≡◌, refl, ◌∙◌, ap}
use mathlib.Core.Bool.{false}
use mathlib.Core.List.{List, [], ◌∷◌}
use lib.ListN.{length, set, replicate, length-take, length-drop, length-replicate}
use borrow.Rule.Slice.PartMut.{mid_of, put_mid}
use Rattle.rules.specs.Bytes.{laid}
use Rattle.rules.specs.Legal.{automatic_keys}
use Rattle.store.specs.Layout.{places_length, block_length, places_at, in_use_at, slots_at}
use Rattle.octets.proofs.Laid.{laid_part}
use Rattle.class_tables.specs.Built.{cat_of}
use Rattle.reset_command.specs.Resets.{slots_begun, block_reset}
use Rattle.class_tables.specs.declared.Product.{Product}

two_set : (b : List ℕ) → 2 ≤ length b → set (set b 0 0) in_use_at 0 ≡ laid 0 (0 ∷ 0 ∷ []) b
unfolding laid
two_set [] h = absurd (omega arith)
two_set (x ∷ []) h = absurd (omega arith)
two_set (x ∷ y ∷ b) h = refl

module _ (pr : Product) (b u z : List ℕ) (h : length b ≡ block_length) (lu : length u ≡ length b)
    (slots : u ≡ slots_begun (cat_of pr) false (automatic_keys (cat_of pr)) slots_at (set (set b 0 0) in_use_at 0)) (zs : z ≡ replicate (length (mid_of places_at (length u - places_at) u)) 0) where
  zeros_are : z ≡ replicate places_length 0
  zeros_are =
      let n : length (mid_of places_at (length u - places_at) u) ≡ places_length = simp (length-take, length-drop) (omega arith) in
      zs ∙ ap (λ (k : ℕ). replicate {A = ℕ} k 0) n

  zeros_long : length z ≡ places_length
  zeros_long = ap length zeros_are ∙ length-replicate {A = ℕ} places_length 0

  laid_behind : put_mid places_at (length u - places_at) u z ≡ laid places_at z u
  laid_behind = let n = zeros_long in laid_part places_at (length u - places_at) z u (omega arith)

  pub block_written : put_mid places_at (length u - places_at) u z ≡ block_reset (cat_of pr) b
  unfolding block_reset
  block_written =
      laid_behind ∙ ap (λ (v : List ℕ). laid places_at v u) zeros_are
      ∙ ap (laid places_at (replicate places_length 0)) (slots ∙ ap (slots_begun (cat_of pr) false (automatic_keys (cat_of pr)) slots_at) (two_set b (omega arith)))
