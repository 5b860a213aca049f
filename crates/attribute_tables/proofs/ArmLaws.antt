-- What the arms of a match on a class and an attribute answer, each a test that is computed over all products.
use Prim.Native.Nat.{ℕ}
use mathlib.Core.Path.{◌≡◌}
use mathlib.Core.Bool.{Bool, true, not}
use mathlib.Core.List.{List, []}
use Rattle.rules.specs.Maps.{◌or◌, among, all}
use Rattle.rules.specs.Catalogue.{Class, class}
use Rattle.rules.proofs.Laws.{true_false, not-true, or_cases, all_among}
use Rattle.class_tables.specs.declared.Product.{Product}
use Rattle.class_tables.specs.Built.{class_for}
use Rattle.class_tables.proofs.Matches.{Avoids, avoided}
use Rattle.class_tables.proofs.EveryProduct.{Passed, in_each, PassedBy, otherwise}

-- what is asked of a class's attribute: of which it may be asked, the answer, and a test of two answers
pub record Question (A : Type 0) : Type 1 where
  pub Asked : Class → ℕ → Type 0
  pub numbers : Class → List ℕ
  pub is_number : (k : Class) (n : ℕ) → Asked k n → among n (numbers k) ≡ true
  pub answer : Class → ℕ → A
  pub is : A → A → Bool
  pub same_if : (x y : A) → is x y ≡ true → x ≡ y

module _ {A : Type 0} (q : Question A) where
  abbrev answers : A → Class → ℕ → Bool
  answers v k n = q.is v (q.answer k n)

  abbrev if_asked : A → ℕ → Class → Bool
  if_asked v n k = not (among n (q.numbers k)) or answers v k n

  -- in every product that has attribute n of class c, v is the answer
  pub answer_there : (c n : ℕ) {v : A} {m x : ℕ} (pr : Product) → m ≡ c → x ≡ n → q.Asked (class_for pr m) x → Passed (λ cat. if_asked v n (class cat c))
      → v ≡ q.answer (class_for pr m) x
  answer_there c n {v} pr e f s h =
      let k : Class = class_for pr c in
      let t : q.Asked k n = rw (e, f) at s in
      rw (e, f) (or_cases (in_each (λ cat. if_asked v n (class cat c)) h pr)
      (λ g. true_false (q.is_number k n t) (not-true g))
      (q.same_if v (q.answer k n)))

  -- v is the answer for all that a class has, those of a list apart
  abbrev for_others : A → List ℕ → Class → Bool
  for_others v listed k = all (λ n. among n listed or answers v k n) (q.numbers k)

  other : (v : A) (listed : List ℕ) (k : Class) (n : ℕ) → Avoids n listed → q.Asked k n → for_others v listed k ≡ true → v ≡ q.answer k n
  other v listed k n a s h = q.same_if v (q.answer k n)
      (or_cases (all_among (λ n. among n listed or answers v k n) (q.numbers k) h n (q.is_number k n s)) (λ g. true_false g (avoided n listed a)) (λ g. g))

  -- an attribute that the match doesn't have
  pub answer_otherwise : (c : ℕ) (listed : List ℕ) {v : A} {m : ℕ} (pr : Product) (n : ℕ) → m ≡ c → Avoids n listed → q.Asked (class_for pr m) n
      → Passed (λ cat. for_others v listed (class cat c)) → v ≡ q.answer (class_for pr m) n
  answer_otherwise c listed {v} pr n e a s h =
      let t : q.Asked (class_for pr c) n = rw e at s in
      rw e (other v listed (class_for pr c) n a t (in_each (λ cat. for_others v listed (class cat c)) h pr))

  -- a class that the match doesn't have
  pub answer_elsewhere : {v : A} (pr : Product) (c n : ℕ) (listed : List ℕ) → Avoids c listed → q.Asked (class_for pr c) n → PassedBy listed (for_others v [])
      → v ≡ q.answer (class_for pr c) n
  answer_elsewhere {v} pr c n listed a s h = other v [] (class_for pr c) n tt s (otherwise pr c listed a (for_others v []) h)
