-- Bytes of alarms: those in which an alarm is on are those that aren't 0.
use Rattle.std.specs.Prelude.{ℕ, suc, ◌-◌, cond, List, [], ◌∷◌, eqb}

-- how many there are
unfoldable pub count_on : List ℕ → ℕ
count_on [] = 0
count_on (x ∷ b) = cond (eqb x 0) (count_on b) (suc (count_on b))

-- the place of the n-th, counted from 0; the length if there are not so many
unfoldable pub place_on : ℕ → List ℕ → ℕ
place_on n [] = 0
place_on n (x ∷ b) = cond (eqb x 0) (suc (place_on n b)) (cond (eqb n 0) 0 (suc (place_on (n - 1) b)))
