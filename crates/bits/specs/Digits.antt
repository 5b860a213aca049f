-- A number as sixteen hexadecimal digits, the top one first.
use Rattle.std.specs.Prelude.{ℕ, ◌-◌, ◌/◌, ◌%◌, ◌^◌}

unfoldable pub digit : ℕ → ℕ → ℕ
digit x n = x / 16 ^ (16 - n) % 16
