-- Bitmaps of alarms.
use Prim.Native.Nat.{ℕ, suc}
use mathlib.Core.Path.{◌≡◌, refl}
use mathlib.Core.Bool.{true, false, not}
use mathlib.Core.List.{List, [], ◌∷◌}
use Rattle.rules.specs.Maps.{among, all, empty}
use Rattle.rules.specs.Catalogue.{Class}
use Rattle.rules.specs.State.{Alarms}
use Rattle.rules.specs.Legal.{declared_from, some_on, legal_bitmap}
use Rattle.rules.proofs.Laws.{never, true_false, not-true, both, and_true, or_cases}

none_declared : (n : ℕ) (b : Alarms) → declared_from n [] b ≡ true → all not b ≡ true
unfolding declared_from among all
none_declared n [] h = refl
none_declared n (on ∷ b) h = and_true (or_cases (both h).0 (λ e. e) (λ e. never e)) (none_declared (suc n) b (both h).1)

-- a bitmap that isn't all zero is of a class that declares alarms
pub bitmap_is_declared : (k : Class) (b : Alarms) → legal_bitmap k b ≡ true → empty k.alarms ≡ false
unfolding legal_bitmap some_on
bitmap_is_declared k b h = go k.alarms (both (both h).1).0
  where
    go : (l : List ℕ) → declared_from 0 l b ≡ true → empty l ≡ false
    go [] d = true_false (none_declared 0 b d) (not-true (both (both h).1).1)
    go (n ∷ l) d = refl
