-- The first attribute that a mask names, and the others.
use Rattle.std.specs.Prelude.{◌≡◌, ℕ, ◌-◌, ◌^◌, ◌≤◌, ◌∷◌}
use Rattle.rules.specs.Masks.{named}

pub record First (m n : ℕ) : Type 0 where
  pub from_one : 1 ≤ n
  pub to_sixteen : n ≤ 16
  pub set_in : 2 ^ (16 - n) ≤ m
  pub before_others : named m ≡ n ∷ named (m - 2 ^ (16 - n))
