-- The first section of what is left of an instance's attributes, and what it leaves.
use Rattle.std.specs.Prelude.{ℕ, ◌+◌, cond, List, [], ◌∷◌, leb}

-- attributes in order while they fit in 26 bytes, of which so many are used
unfoldable pub first_cut : (ℕ → ℕ) → ℕ → List ℕ → List ℕ
first_cut size used [] = []
first_cut size used (n ∷ l) = cond (leb (used + size n) 26) (n ∷ first_cut size (used + size n) l) []

-- the others
unfoldable pub rest_cut : (ℕ → ℕ) → ℕ → List ℕ → List ℕ
rest_cut size used [] = []
rest_cut size used (n ∷ l) = cond (leb (used + size n) 26) (rest_cut size (used + size n) l) (n ∷ l)
