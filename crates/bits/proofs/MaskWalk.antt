-- A loop over the attributes that a mask names, one after another.
use Rattle.std.proofs.Common.{◌≡◌, ◌≢◌, ℕ, ◌+◌, ◌≤◌, Bool, true, eqb, List, [], ◌∷◌, length, sym, ap, ◌∙◌, arith}
use Rattle.rules.specs.Maps.{among, all}
use Rattle.rules.specs.Masks.{named, total}
use Rattle.rules.proofs.Laws.{or_right, among_here, all_among}
use Rattle.bits.proofs.Masks.{named_none, named_within, within_among}

-- a mask that names some isn't 0
pub not_none : (m : ℕ) {r : ℕ} → r ≡ length (named m) → r ≢ 0 → m ≢ 0
not_none m e h z = h (e ∙ ap (λ (x : ℕ). length (named x)) z ∙ ap length named_none)

-- of the attributes of m those of `left` are still to come; those before them take so many bytes
pub record Walked (size : ℕ → ℕ) (m : ℕ) (left : List ℕ) (sum : ℕ) : Type 0 where
  pub of_mask : (n : ℕ) → among n left ≡ true → among n (named m) ≡ true
  pub summed : sum + total size left ≡ total size (named m)

pub nothing_walked : (size : ℕ → ℕ) {m left : ℕ} → left ≡ m → Walked size m (named left) 0
nothing_walked size e = record { of_mask = λ n a. rw e at a; summed = rw e (omega arith) }

module _ {size : ℕ → ℕ} {m sum : ℕ} {left : List ℕ} (w : Walked size m left sum) where
  pub all_walked : left ≡ [] → sum ≡ total size (named m)
  unfolding total
  all_walked e = let t : total size left ≡ 0 = ap (total size) e in let s = w.summed in omega arith

  -- n is the first of those that are left
  module _ {n : ℕ} {rest : List ℕ} (first : left ≡ n ∷ rest) where
    pub next_named : among n (named m) ≡ true
    next_named = w.of_mask n (rw first (among_here n rest))

    pub next_in_range : (1 ≤ n) × (n ≤ 16)
    next_in_range = within_among 1 n (named m) (named_within m) next_named

    pub next_passes : (p : ℕ → Bool) → all p (named m) ≡ true → p n ≡ true
    next_passes p h = all_among p (named m) h n next_named

    next_sum : sum + (size n + total size rest) ≡ total size (named m)
    unfolding total
    next_sum = ap (λ (l : List ℕ). sum + total size l) (sym first) ∙ w.summed

    pub next_within : sum + size n ≤ total size (named m)
    next_within = let s = next_sum in omega arith

    pub one_walked : {z : ℕ} → z ≡ size n → Walked size m rest (sum + z)
    unfolding among
    one_walked e = record {
      of_mask = λ k a. w.of_mask k (rw first (or_right (eqb k n) a));
      summed = let s = next_sum in omega arith;
    }
