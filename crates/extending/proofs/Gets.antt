-- A Get that the first product answers with contents, the second answers with the same.
use Prim.Native.Nat.{ℕ}
use mathlib.Core.Path.{◌≡◌, refl}
use mathlib.Core.Bool.{Bool, true, false}
use mathlib.Core.Option.{some}
use mathlib.Core.List.{List, [], ◌∷◌}
use Rattle.rules.specs.Maps.{◌or◌, among, all, empty, those, first_that_applies}
use Rattle.rules.specs.Bytes.{byte, two}
use Rattle.rules.specs.Masks.{total}
use Rattle.rules.specs.Catalogue.{Class, Catalogue, class, known, supported, size_of}
use Rattle.rules.specs.State.{State, holds}
use Rattle.rules.specs.Messages.{unless_refused}
use Rattle.rules.specs.Commands.{asked, unsupported, get_results, get}
use Rattle.rules.specs.WellFormed.{WellFormed}
use Rattle.rules.specs.Extends.{Extends}
use Rattle.rules.proofs.Laws.{true_false, not-false, both}
use Rattle.rules.proofs.Standing.{all_imp}
use Rattle.legality.proofs.LegalStates.{LegalState}
use Rattle.legality.proofs.Refusals.{unless_refused_is, all_supported}
use Rattle.extending.specs.Promise.{is_0_1_or_7}
use Rattle.extending.specs.Matched.{MatchedState}
use Rattle.extending.proofs.Found.{class_extends, live_apart, held_too}
use Rattle.extending.proofs.Readings.{same_values}
use Rattle.rules.proofs.MapLaws.{first_has}

-- ---- what a Get and a Set name

-- if all of them are supported, none is unsupported
pub none_unsupported : (k : Class) (l : List ℕ) → all (supported k) l ≡ true → empty (unsupported k l) ≡ true
unfolding unsupported those all
none_unsupported k [] h = refl
none_unsupported k (n ∷ l) h = rw (both h).0 (none_unsupported k l (both h).1)

module _ (first second : Catalogue) (wf : WellFormed first) (wf' : WellFormed second) (ext : Extends first second) where
  pub all_supported_too : (c : ℕ) → known first c ≡ true → (l : List ℕ) → all (supported (class first c)) l ≡ true → all (supported (class second c)) l ≡ true
  all_supported_too c kn l h =
      all_imp (supported (class first c)) (supported (class second c)) (λ n y. ((class_extends first second wf wf' ext c kn).attributes_kept n y).0) l h

  -- in the second they have the same sizes
  pub same_total : (c : ℕ) → known first c ≡ true → (l : List ℕ) → all (supported (class first c)) l ≡ true
      → total (size_of (class second c)) l ≡ total (size_of (class first c)) l
  unfolding total all
  same_total c kn [] h = refl
  same_total c kn (n ∷ l) h =
      rw (← ((class_extends first second wf wf' ext c kn).attributes_kept n (both h).0).1.same_size, same_total c kn l (both h).1) refl

-- ---- Get

pub get_keeps : (cat : Catalogue) (s : State) (c i : ℕ) (v : List ℕ) → (get cat s c i v).0 ≡ s
unfolding get
get_keeps cat s c i v = unless_refused_is (λ a. a.0 ≡ s) s (get_results (holds cat s.table c i) (class cat c) (two v 0)) _ (λ r e. refl) (λ clear. refl)

-- no refusal of a Get has the result 0, 1 or 7
refused_with_another : (there : Bool) (k : Class) (m : ℕ) (r : List ℕ) → first_that_applies (get_results there k m) ≡ some r → is_0_1_or_7 (byte r 0) ≡ false
unfolding get_results among ◌or◌
refused_with_another there k m r e = first_has (λ r. is_0_1_or_7 (byte r 0) ≡ false) (get_results there k m)
    ((λ t. refl), ((λ t. refl), ((λ t. refl), ((λ t. refl), tt)))) r e

module _ (first second : Catalogue) (wf : WellFormed first) (wf' : WellFormed second) (ext : Extends first second) where
  -- a Get that succeeds in the first succeeds in the second, with the same contents
  pub get_matched : (s z : State) → LegalState first wf s → LegalState second wf' z → MatchedState first second s z
      → (c i : ℕ) (v : List ℕ) → known first c ≡ true → is_0_1_or_7 (byte (get first s c i v).1 0) ≡ true
      → (get second z c i v).1 ≡ (get first s c i v).1
  unfolding get get_results unless_refused first_that_applies
  get_matched s z h h' m c i v kn = unless_refused_is (λ a. is_0_1_or_7 (byte a.1 0) ≡ true → (get second z c i v).1 ≡ a.1) s
      (get_results (holds first s.table c i) (class first c) (two v 0)) _
      (λ r e y. true_false y (refused_with_another (holds first s.table c i) (class first c) (two v 0) r e))
      (λ clear y.
      let held : holds first s.table c i ≡ true = not-false clear.0 in
      let sup : all (supported (class first c)) (asked v) ≡ true = all_supported (class first c) (asked v) (not-false clear.1.1.0) in
      rw (
        held_too first second wf wf' ext s.table z.table m.tables h.its_table h'.its_table c i held,
        clear.1.0,
        none_unsupported (class second c) (asked v) (all_supported_too first second wf wf' ext c kn (asked v) sup),
        same_total first second wf wf' ext c kn (asked v) sup,
        clear.1.1.1.0,
        same_values first second wf wf' ext s.table z.table m.tables
            (live_apart first second wf wf' ext z.table h'.its_table) c i kn held (asked v) sup,
      ) refl)
