-- A table of names is one text: each name ends with a semicolon, and they are counted from 0.
use Rattle.std.specs.Prelude.{ℕ, zero, suc, Bool, true, false, List, [], ◌∷◌, eqb}

abbrev pub semicolon : ℕ
semicolon = 59

-- a list, if a test says so, else another
abbrev pub either : Bool → List ℕ → List ℕ → List ℕ
either true a b = a
either false a b = b

-- what stands behind so many semicolons
unfoldable pub behind : ℕ → List ℕ → List ℕ
behind zero l = l
behind (suc n) [] = []
behind (suc n) (x ∷ l) = either (eqb x semicolon) (behind n l) (behind (suc n) l)

-- what stands before the first semicolon
unfoldable pub first_name : List ℕ → List ℕ
first_name [] = []
first_name (x ∷ l) = either (eqb x semicolon) [] (x ∷ first_name l)

-- the n-th name; nothing where the table has none
abbrev pub nth_name : ℕ → List ℕ → List ℕ
nth_name n table = first_name (behind n table)
