-- Where an instance's contents stand in the bytes of a table.
use Rattle.std.specs.Prelude.{ℕ, suc, ◌+◌, ◌-◌, ◌≤◌, ◌<◌, cond, List, [], ◌∷◌, ◌++◌, length, take, drop, replicate, eqb, ltb}
use Rattle.std.proofs.Math.Option.{Option, none, some}
use Rattle.rules.specs.Maps.{◌and◌, keys}
use Rattle.rules.specs.Catalogue.{Catalogue, class, is_created, leader, key, ont_data}
use Rattle.rules.specs.State.{Table}
use Rattle.rules.specs.Legal.{automatic_keys}
use Rattle.store.specs.Positions.{position, inside}
use Rattle.store.specs.Layout.{key_length, slot_at, place_at}

-- how many numbers of a rising list come before k
unfoldable pub rank : ℕ → List ℕ → ℕ
rank k [] = 0
rank k (x ∷ l) = cond (ltb k x) 0 (suc (rank k l))

-- the rank of k is low or up to by - 1 more
pub record Ranked (low by k : ℕ) (l : List ℕ) : Type 0 where
  pub from_low : low ≤ rank k l
  pub near : rank k l < low + by

abbrev pub at_position : (ℕ → ℕ) → Option ℕ → Option ℕ
at_position f none = none
at_position f (some j) = some (f j)

-- where the contents of instance i of class c begin, among created instances with these keys; class 2's at the front
unfoldable pub spot_among : Catalogue → List ℕ → ℕ → ℕ → Option ℕ
spot_among cat made c i =
    cond (is_created (class cat (leader cat c)).creation)
    (at_position (λ j. place_at j + key_length + inside cat c) (position (key (leader cat c) i) made))
    (cond (eqb c ont_data and eqb i 0) (some 0) (at_position slot_at (position (key c i) (automatic_keys cat))))

abbrev pub spot : Catalogue → Table → ℕ → ℕ → Option ℕ
spot cat t c i = spot_among cat (keys t.created) c i

-- ---- bytes that move

-- r put in at a place: what stood there moves up, and what falls off the end is lost
unfoldable pub inserted : ℕ → List ℕ → List ℕ → List ℕ
inserted at r b = take at b ++ (r ++ take (length b - at - length r) (drop at b))

-- so many bytes taken out at a place: what stood behind moves down, and zeros follow
unfoldable pub removed : ℕ → ℕ → List ℕ → List ℕ
removed at n b = take at b ++ (drop n (drop at b) ++ replicate n 0)
