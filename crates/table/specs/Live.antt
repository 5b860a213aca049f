-- The bytes of a live table, and what is there.
use Rattle.std.specs.Prelude.{ℕ, ◌≡◌, Bool, true, List}
use Rattle.rules.specs.Maps.{is_some}
use Rattle.rules.specs.Catalogue.{Catalogue}
use Rattle.rules.specs.State.{Table}
use Rattle.rules.specs.Legal.{legal_live}
use Rattle.store.specs.Layout.{live_bytes}
use Rattle.table.specs.Spots.{spot_among}
use Rattle.table.specs.Places.{keys_in}

-- have the contents of instance i of class c a place in these bytes?
abbrev pub there_in : Catalogue → List ℕ → ℕ → ℕ → Bool
there_in cat b c i = is_some (spot_among cat (keys_in b) c i)

-- b holds the legal table t
pub record Holding (cat : Catalogue) (b : List ℕ) (t : Table) : Type 0 where
  pub legal : legal_live cat t ≡ true
  pub is : b ≡ live_bytes t
