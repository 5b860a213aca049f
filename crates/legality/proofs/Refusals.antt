-- What is known once no line of a list of results, or of drops, has applied.
use Prim.Native.Nat.{ℕ}
use mathlib.Core.Path.{◌≡◌, refl, sym}
use mathlib.Core.Bool.{Bool, true, false, not}
use mathlib.Core.Option.{Option, none, some}
use mathlib.Core.List.{List, [], ◌∷◌, ◌++◌}
use Rattle.rules.specs.Maps.{given, first_that_applies, empty, those, all, keep, keys, every, Map}
use Rattle.rules.specs.Catalogue.{Class, supported}
use Rattle.rules.specs.State.{State}
use Rattle.rules.specs.Messages.{Answer, unless_refused}
use Rattle.rules.specs.Commands.{unsupported}
use Rattle.rules.specs.Reports.{Outcome, dropped, unless_dropped}
use Rattle.rules.proofs.Laws.{cases, never, false_not, not-true, not-false, and_true}
use Rattle.rules.proofs.Standing.{all_imp}
use Rattle.rules.proofs.MapLaws.{none_some}

-- no line applies
abbrev pub NoneApplies : {A : Type 0} → List (Bool × A) → Type 0
NoneApplies [] = Unit {0}
NoneApplies (r ∷ l) = (r.0 ≡ false) × NoneApplies l

pub none_applies : {A : Type 0} (l : List (Bool × A)) → first_that_applies l ≡ none → NoneApplies l
unfolding first_that_applies
none_applies [] e = tt
none_applies (r ∷ l) e = cases r.0 (λ t. none_some (sym (rw t at e))) (λ t. (t, none_applies l (rw t at e)))

-- a command is refused and leaves the state as it was, or no line applied
pub unless_refused_is {ℓ} : (X : Answer → Type ℓ) (s : State) (lines : List (Bool × List ℕ)) (a : Answer)
    → ((refusal : List ℕ) → first_that_applies lines ≡ some refusal → X (s, refusal)) → (NoneApplies lines → X a) → X (unless_refused s lines a)
unfolding unless_refused
unless_refused_is X s lines a f g = go (first_that_applies lines) refl
  where
    go : (o : Option (List ℕ)) → first_that_applies lines ≡ o → X (given o a (λ refusal. (s, refusal)))
    go none e = g (none_applies lines e)
    go (some r) e = f r e

pub unless_dropped_is {ℓ} : (X : State × Outcome → Type ℓ) (s : State) (drops : List (Bool × ℕ)) (r : State × Outcome)
    → ((n : ℕ) → first_that_applies drops ≡ some n → X (s, dropped n)) → (NoneApplies drops → X r) → X (unless_dropped s drops r)
unfolding unless_dropped
unless_dropped_is X s drops r f g = go (first_that_applies drops) refl
  where
    go : (o : Option ℕ) → first_that_applies drops ≡ o → X (given o r (λ n. (s, dropped n)))
    go none e = g (none_applies drops e)
    go (some n) e = f n e

-- ---- lists that came out empty

pub none_of_those : (p : ℕ → Bool) (l : List ℕ) → empty (those p l) ≡ true → all (λ n. not (p n)) l ≡ true
unfolding those all
none_of_those p [] h = refl
none_of_those p (n ∷ l) h = cases (p n)
    (λ t. never (rw t at h))
    (λ t. and_true (false_not t) (none_of_those p l (rw t at h)))

-- attributes of which none is unsupported are all supported
pub all_supported : (k : Class) (l : List ℕ) → empty (unsupported k l) ≡ true → all (supported k) l ≡ true
unfolding unsupported
all_supported k l h = all_imp (λ n. not (not (supported k n))) (supported k) (λ n y. not-false (not-true y)) l (none_of_those (λ n. not (supported k n)) l h)

pub none_kept : {A : Type 0} (p : ℕ → A → Bool) (m : Map A) → empty (keys (keep (λ n a. not (p n a)) m)) ≡ true → every p m ≡ true
unfolding keys keep every
none_kept p [] h = refl
none_kept p (x ∷ m) h = cases (p x.0 x.1)
    (λ t. and_true t (none_kept p m (rw t at h)))
    (λ t. never (rw t at h))

pub empty_front : (l m : List ℕ) → empty (l ++ m) ≡ true → (empty l ≡ true) × (empty m ≡ true)
empty_front [] m h = (refl, h)
empty_front (x ∷ l) m h = never h
