-- A live table's bytes without one of its places.
use Rattle.std.specs.Prelude.{ℕ, ◌-◌, List, [], ◌∷◌}
use Rattle.rules.specs.Bytes.{byte, laid}
use Rattle.store.specs.Layout.{place_length, place_at}
use Rattle.table.specs.Spots.{removed}
use Rattle.table.specs.Counts.{moved_on}

-- place j taken out, and the counter moved on
unfoldable pub without_place : ℕ → List ℕ → List ℕ
without_place j b = moved_on (laid 1 ((byte b 1 - 1) ∷ []) (removed (place_at j) place_length b))
