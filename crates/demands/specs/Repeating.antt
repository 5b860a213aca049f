-- When a message is no repeat, said apart from the rules.
use Rattle.std.specs.Prelude.{ℕ, ◌≡◌, ◌≢◌, List, take}
use Rattle.std.proofs.Math.Option.{some}
use Rattle.rules.specs.State.{Memory, State}

-- its first 40 bytes aren't those of the last answered command, if the state remembers one
abbrev pub IsNoRepeat : State → List ℕ → Type 0
IsNoRepeat s m = (k : Memory) → s.remembered ≡ some k → take 40 m ≢ k.command
