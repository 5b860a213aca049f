-- What is looked up in the bytes of a table: one byte in front, the number of places in use, the slots, the places.
use Rattle.std.specs.Prelude.{ℕ, zero, suc, ◌+◌, ◌≤◌, ◌≡◌, true, cond, List, [], ◌∷◌, length, take, drop, eqb}
use Rattle.rules.specs.Maps.{◌and◌, rising}
use Rattle.rules.specs.Bytes.{byte, two}
use Rattle.rules.specs.Catalogue.{key}
use Rattle.store.specs.Layout.{place_count, place_length, key_length, block_length, in_use_at, places_at}
use Rattle.table.specs.declared.Which.{Which}
use Rattle.table.specs.declared.Which.TheVariants.{Live, Frozen}

-- the keys of the first n places
unfoldable pub place_keys : ℕ → List ℕ → List ℕ
place_keys zero b = []
place_keys (suc n) b = key (two (take place_length b) 0) (two (take place_length b) 2) ∷ place_keys n (drop place_length b)

-- the keys of the places in use
abbrev pub keys_in : List ℕ → List ℕ
keys_in b = place_keys (byte b in_use_at) (drop places_at b)

-- bytes of a table's length, with no more places in use than there are, and keys that rise
pub record InShape (b : List ℕ) : Type 0 where
  pub long : length b ≡ block_length
  pub few : byte b in_use_at ≤ place_count
  pub rise : rising (keys_in b) ≡ true

-- 1 if a place is of class c and holds the number i in two bytes of its contents, and 0 if not
abbrev pub one_holds : ℕ → ℕ → ℕ → List ℕ → ℕ
one_holds c at i b = cond (eqb (two b 0) c and eqb (two b (key_length + at)) i) 1 0

-- how many of the first n places are of the class and hold the number
unfoldable pub how_many_hold : ℕ → ℕ → ℕ → ℕ → List ℕ → ℕ
how_many_hold c at i zero b = 0
how_many_hold c at i (suc n) b = one_holds c at i b + how_many_hold c at i n (drop place_length b)

-- one of two tables
abbrev pub chosen : Which → List ℕ → List ℕ → List ℕ
chosen Live live frozen = live
chosen Frozen live frozen = frozen
