-- The places of a table as a test of bytes, over any catalogue.
use Rattle.std.specs.Prelude.{ℕ, zero, suc, Bool, List, take, drop, nat_le}
use Rattle.rules.specs.Maps.{◌and◌}
use Rattle.rules.specs.Bytes.{two, all_zero}
use Rattle.rules.specs.Catalogue.{Catalogue, key}
use Rattle.store.specs.Layout.{key_length, place_length}
use Rattle.class_tests.specs.Tests.{entry_test}

-- the key that a place begins with
abbrev pub key_in : List ℕ → ℕ
key_in r = key (two r 0) (two r 2)

-- a place whose key is `low` or more
unfoldable pub place_test : Catalogue → ℕ → List ℕ → Bool
place_test cat low r = nat_le low (key_in r) and entry_test cat (two r 0) (drop key_length r)

-- so many places, whose keys rise, then zeros
unfoldable pub places_test : Catalogue → ℕ → ℕ → List ℕ → Bool
places_test cat zero low b = all_zero b
places_test cat (suc n) low b = place_test cat low (take place_length b) and places_test cat n (suc (key_in (take place_length b))) (drop place_length b)
