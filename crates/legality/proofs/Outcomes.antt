-- The parts of an outcome, by which two of them are told apart.
use Prim.Native.Nat.{ℕ}
use mathlib.Core.Option.{Option, none, some}
use mathlib.Core.List.{List, []}
use Rattle.rules.specs.Reports.{Outcome, dropped, quiet, answered}

-- the number that a call was dropped with, if it was
abbrev pub drop_of : Outcome → Option ℕ
drop_of (dropped n) = some n
drop_of quiet = none
drop_of (answered r) = none

-- what is sent
abbrev pub sent : Outcome → List ℕ
sent (dropped n) = []
sent quiet = []
sent (answered r) = r
