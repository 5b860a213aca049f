-- An answer of the code that may be missing, as the rules have it.
use Rattle.std.specs.Prelude.{Option, Some, None}
use Rattle.std.proofs.Math.Option as rules
use Rattle.std.proofs.Math.Option.{some, none}

abbrev pub found_of : {A : Type 0} → Option A → rules.Option A
found_of (Some a) = some a
found_of None = none
