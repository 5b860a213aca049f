-- A run's loop, for any class: a turn, and its ends. What is gathered over the run comes in as a test q of what was gathered so far.
use Rattle.std.proofs.Common.{◌≡◌, ℕ, suc, ◌+◌, ◌-◌, ◌<◌, ◌≤◌, Bool, true, false, cond, not, ◌&&◌, ltb, leb, List, drop, sym, refl, ap, ◌∙◌, add-one, arith}
use Rattle.rules.specs.Maps.{◌and◌}
use Rattle.rules.specs.Catalogue.{Catalogue, key}
use borrow.Author.Tests.{not-true, not-false}
use Rattle.rules.proofs.Laws.{never, true_and, ltb_lt}
use Rattle.store.specs.Layout.{key_length}
use Rattle.class_tests.specs.Tests.{entry_test}
use Rattle.std.specs.Prelude.{Option, Some, None}
use Rattle.std.specs.Bool.{then_some}
use Rattle.place_runs.specs.Tests.{key_in}
use Rattle.place_runs.specs.Runs.{place_in, run_end}

-- a key in a run is below its end
pub key_below : (low k top : ℕ) (t : Bool) → t ≡ (leb low k && ltb k top) → not t ≡ false → k < top
key_below low k top t tried g = under (leb low k) (sym tried ∙ not-false t g)
  where
    under : (w : Bool) → (w && ltb k top) ≡ true → k < top
    under true p = ltb_lt k top p
    under false p = never p

-- a run, unless something that was gathered over it isn't zero
abbrev pub zeroed : Bool → Option ℕ → Option ℕ
zeroed true r = r
zeroed false r = None

pub zeroed_some : {q p : Bool} {i j : ℕ} → p ≡ q → j ≡ i → then_some p j ≡ zeroed q (Some i)
zeroed_some {q} {i = i} {j = j} e f = ap (λ (t : Bool). then_some t j) e ∙ ap (then_some q) f ∙ same q
  where
    same : (t : Bool) → then_some t i ≡ zeroed t (Some i)
    same true = refl
    same false = refl

-- what is bad stays bad
bad_is_bad : (q : Bool) → zeroed q None ≡ None
bad_is_bad true = refl
bad_is_bad false = refl

-- one test after another
zeroed_twice : (q g : Bool) (r : Option ℕ) → zeroed q (cond g r None) ≡ zeroed (q and g) r
unfolding ◌and◌
zeroed_twice true true r = refl
zeroed_twice true false r = refl
zeroed_twice false true r = refl
zeroed_twice false false r = refl

module _ (cat : Catalogue) (c : ℕ) (b : List ℕ) (n i low : ℕ) (q : Bool) (z : Option ℕ) (e : zeroed q (run_end cat c b (n - i) i low) ≡ z) where
  pub run_done : n ≤ i → zeroed q (Some i) ≡ z
  unfolding run_end
  run_done h = let d : n - i ≡ 0 = omega arith in rw d at e

  -- a turn has read the place's bytes r and its key k, and t says whether the key is in the run
  module _ (h : i < n) (r : List ℕ) (placed : r ≡ place_in b i) (k : ℕ) (its : k ≡ key_in r) (t : Bool) (tried : t ≡ (leb low k && ltb k (key (suc c) 0))) where
    opened : zeroed q (cond t (cond (entry_test cat c (drop key_length r)) (run_end cat c b (n - (i + 1)) (i + 1) (k + 1)) None) (Some i)) ≡ z
    unfolding run_end
    opened = let d : n - i ≡ suc (n - (i + 1)) = omega arith in rw (tried, add-one i, add-one k, its, placed) (rw (d, add-one i) at e)

    -- a key of another class, or one that doesn't rise
    pub run_over : not t ≡ true → zeroed q (Some i) ≡ z
    run_over g = rw (not-true t g) at opened

    -- the test of what follows the key, in two parts
    module _ (g : not t ≡ false) (x : List ℕ) (behind : x ≡ drop key_length r) (f y : Bool) (parts : entry_test cat c x ≡ (f and y)) where
      pub run_bad : not f ≡ true → None ≡ z
      unfolding ◌and◌
      run_bad p = sym (bad_is_bad q) ∙ rw (not-false t g, ← behind, parts, not-true f p) at opened

      pub run_on : not f ≡ false → zeroed (q and y) (run_end cat c b (n - (i + 1)) (i + 1) (k + 1)) ≡ z
      run_on p = sym (zeroed_twice q y _) ∙ rw (not-false t g, ← behind, parts, not-false f p, true_and) at opened
