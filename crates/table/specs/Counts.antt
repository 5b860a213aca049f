-- The sync counter in the bytes of a live table.
use Rattle.std.specs.Prelude.{ℕ, List, [], ◌∷◌}
use Rattle.rules.specs.Bytes.{byte, laid}
use Rattle.rules.specs.Messages.{next_number}

-- the counter moved on
abbrev pub moved_on : List ℕ → List ℕ
moved_on b = laid 0 (next_number (byte b 0) ∷ []) b
