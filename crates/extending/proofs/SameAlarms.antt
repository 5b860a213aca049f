-- Which alarms a Delete or a reset keeps: the two products' tests need to agree on known classes alone.
use Prim.Native.Nat.{ℕ}
use mathlib.Core.Path.{◌≡◌, refl}
use mathlib.Core.Bool.{Bool, true}
use mathlib.Core.List.{[], ◌∷◌}
use Rattle.rules.specs.Maps.{Map, keep}
use Rattle.rules.specs.Catalogue.{Catalogue, known}
use Rattle.rules.specs.State.{State, class_of, number_of, holds}
use Rattle.rules.specs.Legal.{legal_bitmaps}
use Rattle.rules.specs.WellFormed.{WellFormed}
use Rattle.rules.proofs.Laws.{both}
use Rattle.rules.proofs.MapLaws.{Each, each_of_every, each_imp}
use Rattle.legality.proofs.Holds.{holds_known}
use Rattle.legality.proofs.AlarmsKept.{bitmap_test}
use Rattle.legality.proofs.LegalStates.{LegalState}

-- two tests that say the same of every entry keep the same entries
keep_the_same : {A : Type 0} (p q : ℕ → A → Bool) (m : Map A) → Each (λ k a. q k a ≡ p k a) m → keep q m ≡ keep p m
unfolding keep
keep_the_same p q [] h = refl
keep_the_same p q (x ∷ m) h = rw (h.0, keep_the_same p q m h.1) refl

-- alarms are of instances that are there, and their classes are known
pub same_alarms_kept : (cat : Catalogue) (wf : WellFormed cat) (s : State) → LegalState cat wf s → (p q : ℕ → Bool)
    → ((j : ℕ) → known cat (class_of j) ≡ true → q j ≡ p j) → keep (λ j b. q j) s.alarms ≡ keep (λ j b. p j) s.alarms
unfolding legal_bitmaps
same_alarms_kept cat wf s h p q alike = keep_the_same (λ j b. p j) (λ j b. q j) s.alarms
    (each_imp (λ j b. bitmap_test cat (holds cat s.table) j b ≡ true) (λ j b. q j ≡ p j)
    (λ j b t. alike j (holds_known cat wf s.table h.its_table (class_of j) (number_of j) (both t).0).is_known)
    s.alarms (each_of_every (bitmap_test cat (holds cat s.table)) s.alarms (both h.its_alarms).1))
