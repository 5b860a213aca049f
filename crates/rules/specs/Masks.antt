-- Masks of attributes: attribute 1 is the top bit of sixteen.
use Rattle.std.specs.Prelude.{ℕ, ◌+◌, ◌-◌, ◌/◌, ◌%◌, ◌^◌, Bool, List, [], ◌∷◌, eqb}
use Rattle.rules.specs.Maps.{those}

abbrev pub attribute_numbers : List ℕ
attribute_numbers = 1 ∷ 2 ∷ 3 ∷ 4 ∷ 5 ∷ 6 ∷ 7 ∷ 8 ∷ 9 ∷ 10 ∷ 11 ∷ 12 ∷ 13 ∷ 14 ∷ 15 ∷ 16 ∷ []

abbrev pub in_mask : ℕ → ℕ → Bool
in_mask m n = eqb (m / 2 ^ (16 - n) % 2) 1

-- the attributes that a mask names, in order
unfoldable pub named : ℕ → List ℕ
named m = those (in_mask m) attribute_numbers

-- the mask of a list of attributes
unfoldable pub mask : List ℕ → ℕ
mask [] = 0
mask (n ∷ l) = 2 ^ (16 - n) + mask l

-- how many bytes the contents of these attributes take
unfoldable pub total : (ℕ → ℕ) → List ℕ → ℕ
total size [] = 0
total size (n ∷ l) = size n + total size l

unfoldable pub computing_masks : ℕ
unfolding named mask total
computing_masks = 0
