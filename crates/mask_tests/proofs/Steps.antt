-- The first of the attributes that a mask names is taken out of it.
use Rattle.std.proofs.Common.{◌≡◌, ℕ, ◌-◌, ◌^◌, ◌<◌, ◌≤◌, arith, pow_pos}
use Rattle.bits.specs.Firsts.{First}

-- the first one's bit is taken out
module _ {left n bit : ℕ} (f : First left n) (b : bit ≡ 2 ^ (16 - n)) where
  pub bit_in : bit ≤ left
  bit_in = let z = f.set_in in omega arith

  pub fewer_left : left - bit < left
  fewer_left = let z = f.set_in in let p = pow_pos (16 - n) in omega arith
