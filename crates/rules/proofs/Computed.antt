-- A fact of every number below a bound, by computing it for each.
use Prim.Native.Nat.{ℕ, zero, suc, ◌<◌}
use native.Mathlib.Omega.{arith}
use mathlib.Core.Path.{◌≡◌, sym}
use mathlib.Core.Bool.{Bool, true, false, not, cond}
use Rattle.rules.specs.Maps.{◌and◌}
use Rattle.rules.proofs.Laws.{both, not-true, same?}

unfoldable pub all_below : (ℕ → Bool) → ℕ → Bool
all_below p zero = true
all_below p (suc n) = p n and all_below p n

pub below : (p : ℕ → Bool) (n : ℕ) → all_below p n ≡ true → (k : ℕ) → k < n → p k ≡ true
unfolding all_below
below p zero h k l = absurd (omega arith)
below p (suc n) h k l = same? k n (λ e. rw e (both h).0) (λ e. below p n (both h).1 k (omega arith))

-- two tests come out alike
abbrev pub agree : Bool → Bool → Bool
agree a b = cond a b (not b)

pub alike_below : (p q : ℕ → Bool) (n : ℕ) → all_below (λ k. agree (p k) (q k)) n ≡ true → (k : ℕ) → k < n → p k ≡ q k
alike_below p q n h k l = alike (p k) (q k) (below (λ k. agree (p k) (q k)) n h k l)
  where
    alike : (a b : Bool) → agree a b ≡ true → a ≡ b
    alike true b e = sym e
    alike false b e = sym (not-true e)
