-- A run of places: those of one class that stand together, with keys that rise.
use Rattle.std.specs.Prelude.{◌≡◌, ℕ, zero, suc, ◌*◌, ◌≤◌, cond, ◌&&◌, List, length, take, drop, nat_le, nat_lt}
use Rattle.rules.specs.Catalogue.{Catalogue, key}
use Rattle.store.specs.Layout.{key_length, place_length, places_length, place_count}
use Rattle.class_tests.specs.Tests.{entry_test}
use Rattle.std.specs.Prelude.{Option, Some, None}
use Rattle.place_runs.specs.Tests.{key_in}

-- place i
abbrev pub place_in : List ℕ → ℕ → List ℕ
place_in b i = take place_length (drop (i * place_length) b)

-- a run begins at place `from` of n
pub record InPlaces (b : List ℕ) (from n : ℕ) : Type 0 where
  pub begins : from ≤ n
  pub few : n ≤ place_count
  pub long : length b ≡ places_length

-- where the run of class c ends that begins at place i with a key of `low` or more, if there are m places from there on; bad if one of
-- its places isn't legal
unfoldable pub run_end : Catalogue → ℕ → List ℕ → ℕ → ℕ → ℕ → Option ℕ
run_end cat c b zero i low = Some i
run_end cat c b (suc m) i low = cond (nat_le low (key_in (place_in b i)) && nat_lt (key_in (place_in b i)) (key (suc c) 0))
    (cond (entry_test cat c (drop key_length (place_in b i))) (run_end cat c b m (suc i) (suc (key_in (place_in b i)))) None)
    (Some i)
