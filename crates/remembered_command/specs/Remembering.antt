-- The remembered command, by its bytes.
use Rattle.std.specs.Prelude.{ℕ, ◌+◌, Bool, List, eqb, take, drop}
use Rattle.rules.specs.Maps.{◌and◌, same}
use Rattle.rules.specs.Bytes.{byte}
use Rattle.store.specs.Layout.{command_length}

-- behind the mark that there is one
abbrev pub command_at : ℕ
command_at = 1

abbrev pub reply_at : ℕ
reply_at = command_at + command_length

-- there is one, and a message's first bytes are its
abbrev pub repeats : List ℕ → List ℕ → Bool
repeats memory m = eqb (byte memory 0) 1 and same (take command_length m) (take command_length (drop command_at memory))
