-- What a match on a number knows in its last arm, and what that says of a list.
use Prim.Native.Nat.{ℕ}
use mathlib.Core.Path.{◌≡◌, refl}
use mathlib.Core.Bool.{Bool, true, false, ◌||◌}
use mathlib.Core.List.{List, [], ◌∷◌}
use lib.Dec.{eqb}
use Rattle.rules.specs.Maps.{◌or◌, among, all}
use Rattle.rules.proofs.Laws.{cases, true_false, none_or, eqb_false, all_among}

-- a number that is none of a list, the last first
abbrev pub Avoids : ℕ → List ℕ → Type 0
Avoids n [] = Unit {0}
Avoids n (k ∷ l) = Avoids n l × (n ≡ k → ⊥)

pub avoided : (n : ℕ) (l : List ℕ) → Avoids n l → among n l ≡ false
unfolding among
avoided n [] h = refl
avoided n (k ∷ l) h = none_or (eqb_false n k h.1) (avoided n l h.0)

-- it isn't in any list that has no others
pub not_there : (n : ℕ) (l m : List ℕ) → Avoids n l → all (λ k. among k l) m ≡ true → among n m ≡ false
not_there n l m h g = cases (among n m) (λ e. true_false (all_among (λ k. among k l) m g n e) (avoided n l h)) (λ e. e)

-- ---- tests that the code makes one after another, and a list that has the same numbers

module _ (n a : ℕ) where
  pub among_1 : {l : List ℕ} → a ∷ [] ≡ l → eqb n a ≡ among n l
  unfolding among ◌or◌
  among_1 e = rw (← e) (last (eqb n a))
    where
      last : (x : Bool) → x ≡ (x || false)
      last true = refl
      last false = refl

  pub among_2 : (b : ℕ) {l : List ℕ} → a ∷ b ∷ [] ≡ l → (eqb n a || eqb n b) ≡ among n l
  unfolding among ◌or◌
  among_2 b e = rw (← e) (last (eqb n a) (eqb n b))
    where
      last : (x y : Bool) → (x || y) ≡ (x || (y || false))
      last true y = refl
      last false true = refl
      last false false = refl

  pub among_3 : (b c : ℕ) {l : List ℕ} → a ∷ b ∷ c ∷ [] ≡ l → ((eqb n a || eqb n b) || eqb n c) ≡ among n l
  unfolding among ◌or◌
  among_3 b c e = rw (← e) (last (eqb n a) (eqb n b) (eqb n c))
    where
      last : (x y z : Bool) → ((x || y) || z) ≡ (x || (y || (z || false)))
      last true y z = refl
      last false true z = refl
      last false false true = refl
      last false false false = refl

  pub among_4 : (b c d : ℕ) {l : List ℕ} → a ∷ b ∷ c ∷ d ∷ [] ≡ l → ((eqb n a || eqb n b) || (eqb n c || eqb n d)) ≡ among n l
  unfolding among ◌or◌
  among_4 b c d e = rw (← e) (last (eqb n a) (eqb n b) (eqb n c) (eqb n d))
    where
      last : (x y z w : Bool) → ((x || y) || (z || w)) ≡ (x || (y || (z || (w || false))))
      last true y z w = refl
      last false true z w = refl
      last false false true w = refl
      last false false false true = refl
      last false false false false = refl
