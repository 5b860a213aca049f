-- A range tested by one comparison: the difference of a number from the lower end wraps where the number is below it.
use Prim.Native.Nat.{ℕ, ◌+◌, ◌-◌, ◌%◌, ◌≤◌, ◌<◌}
use native.Mathlib.Nat.{mod-eq_of_lt, mod-eq-sub-mod}
use native.Mathlib.Omega.{arith}
use mathlib.Core.Path.{◌≡◌, sym, ◌∙◌}
use mathlib.Core.Bool.{◌&&◌}
use lib.Dec.{leb, ltb}
use borrow.Author.Tests.{lt-ltb, le-ltb, le-leb, lt-leb}
use Rattle.rules.proofs.Laws.{cases, ltb_lt, ltb_le, leb_le, leb_lt}

-- r is the difference of x from low, modulo m
module _ (m x low r : ℕ) (r_small : r < m) (low_small : low ≤ m) (x_small : x < m) (e : (r + low) % m ≡ x) where
  abbrev Apart : Type 0 → Type 0
  Apart X = (low ≤ x → r + low ≡ x → X) → (x < low → r + low ≡ x + m → X) → X

  apart : {X : Type 0} → Apart X
  apart near far = cases (ltb (r + low) m)
      (λ h. let d : r + low ≡ x = sym (mod-eq_of_lt (ltb_lt (r + low) m h)) ∙ e in near (omega arith) d)
      (λ h.
      let g : m ≤ r + low = ltb_le (r + low) m h in
      let s : r + low - m ≡ x = sym (mod-eq_of_lt {n = r + low - m} {m = m} (omega arith)) ∙ sym (mod-eq-sub-mod g) ∙ e in
      far (omega arith) (omega arith))

  -- the upper end is in the range
  pub in_range : (high : ℕ) → low ≤ high → high < m → leb r (high - low) ≡ (leb low x && leb x high)
  in_range high l h = apart
      (λ n d. cases (leb x high)
      (λ t. rw (le-leb low x n, t, le-leb r (high - low) (omega (arith, leb_le x high t))))
      (λ t. rw (le-leb low x n, t, lt-leb r (high - low) (omega (arith, leb_lt x high t)))))
      (λ n d. rw (lt-leb low x n, lt-leb r (high - low) (omega arith)))

  -- the upper end is the first number behind it
  pub before_end : (top : ℕ) → low ≤ top → top ≤ m → ltb r (top - low) ≡ (leb low x && ltb x top)
  before_end top l h = apart
      (λ n d. cases (ltb x top)
      (λ t. rw (le-leb low x n, t, lt-ltb r (top - low) (omega (arith, ltb_lt x top t))))
      (λ t. rw (le-leb low x n, t, le-ltb r (top - low) (omega (arith, ltb_le x top t)))))
      (λ n d. rw (lt-leb low x n, le-ltb r (top - low) (omega arith)))
