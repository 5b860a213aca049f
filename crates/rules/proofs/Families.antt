-- A class and those that come with it.
use Prim.Native.Nat.{ℕ}
use mathlib.Core.Path.{◌≡◌, refl, sym, ◌∙◌}
use mathlib.Core.Bool.{true, false}
use mathlib.Core.Option.{some}
use mathlib.Core.List.{[], ◌∷◌, map}
use lib.Dec.{eqb}
use Rattle.rules.specs.Maps.{Map, find, keys, keep, among, rising}
use Rattle.rules.specs.Catalogue.{Creation, created, automatic, comes_with, Class, Catalogue, class, known, no_class, is_created, lead, leader, family}
use Rattle.rules.specs.WellFormed.{WellFormed, leader_is_created, comes_with_a_created_one}
use Rattle.rules.proofs.Laws.{true_false, among_here, eqb_eq, eqb_true, find_some, has_among}
use Rattle.rules.proofs.MapLaws.{rising_up, rising_keep, Each, each_imp, each_keep, each_found, found_kept, find_kept}
use Rattle.rules.proofs.Lookups.{found_class, known_class, unknown_class, class_says}

pub classes_found : (cat : Catalogue) → WellFormed cat → Each (λ c k. find c cat.classes ≡ some k) cat.classes
classes_found cat w = each_found 0 cat.classes (rising_up (keys cat.classes) w.classes_rise)

-- the classes of a family are the catalogue's
pub family_classes : (cat : Catalogue) → WellFormed cat → (c : ℕ) → Each (λ d k. class cat d ≡ k) (family cat c)
unfolding family
family_classes cat w c =
    each_keep (λ d k. class cat d ≡ k) (λ d k. eqb (lead d k.creation) c) cat.classes
    (each_imp (λ d k. find d cat.classes ≡ some k) (λ d k. class cat d ≡ k) (found_class cat) cat.classes (classes_found cat w))

-- so a family is told by their numbers
abbrev pub numbered : Catalogue → ℕ → ℕ × Class
numbered cat d = (d, class cat d)

pub family_by_numbers : (cat : Catalogue) → WellFormed cat → (c : ℕ) → family cat c ≡ map (numbered cat) (keys (family cat c))
unfolding keys
family_by_numbers cat w c = by_numbers (family cat c) (family_classes cat w c)
  where
    by_numbers : (m : Map Class) → Each (λ d k. class cat d ≡ k) m → m ≡ map (numbered cat) (keys m)
    by_numbers [] h = refl
    by_numbers (e ∷ m) h = λ i. (e.0, sym h.0 i) ∷ by_numbers m h.1 i

module _ (cat : Catalogue) (wf : WellFormed cat) where
  pub family_rises : (c : ℕ) → rising (keys (family cat c)) ≡ true
  unfolding family
  family_rises c = rising_keep (λ d k. eqb (lead d k.creation) c) cat.classes wf.classes_rise

  pub found_in_family : (c d : ℕ) (k : Class) → find d (family cat c) ≡ some k → (find d cat.classes ≡ some k) × (lead d k.creation ≡ c)
  unfolding family
  found_in_family c d k h =
      let g = found_kept (λ d k. eqb (lead d k.creation) c) cat.classes wf.classes_rise d k h in
      (g.0, eqb_eq (lead d k.creation) c g.1)

  -- a class of a family is known, and led by it
  pub in_family : (c d : ℕ) → among d (keys (family cat c)) ≡ true → (known cat d ≡ true) × (leader cat d ≡ c)
  in_family c d h =
      let f = find_some d (family cat c) (has_among d (family cat c) ∙ h) in
      let g = found_in_family c d f.0 f.1 in
      let z : class cat d ≡ f.0 = found_class cat d f.0 g.0 in
      (rw g.0 refl, rw z g.1)

  -- a known class is in its leader's family
  pub family_has : (c : ℕ) → known cat c ≡ true → among c (keys (family cat (leader cat c))) ≡ true
  unfolding family
  family_has c h = rw (
    ← has_among c (keep (λ d k. eqb (lead d k.creation) (leader cat c)) cat.classes),
    find_kept (λ d k. eqb (lead d k.creation) (leader cat c)) c (class cat c) cat.classes (known_class cat c h) (eqb_true (leader cat c) (leader cat c) refl),
  )
      refl

  leads_or_led : (d c : ℕ) (creation : Creation) → lead d creation ≡ c → leader_is_created cat creation ≡ true → is_created (class cat c).creation ≡ false → d ≡ c
  leads_or_led d c created e l n = e
  leads_or_led d c (automatic m) e l n = e
  leads_or_led d c (comes_with b) e l n = true_false (rw e at l) n

  -- a class that can't be created is alone in its family
  pub alone : (c : ℕ) → is_created (class cat c).creation ≡ false → (d : ℕ) → among d (keys (family cat c)) ≡ true → d ≡ c
  unfolding comes_with_a_created_one
  alone c n d h =
      let f = in_family c d h in
      leads_or_led d c (class cat d).creation f.1 (class_says (comes_with_a_created_one cat) cat wf.companions_of_created d f.0) n

  -- nothing comes with a number that no class has
  pub unknown_family : (c : ℕ) → known cat c ≡ false → family cat c ≡ []
  unfolding no_class keys
  unknown_family c e = nothing (family cat c)
      (λ d h. let itself : d ≡ c = alone c (rw (unknown_class cat c e) refl) d h in true_false (in_family c d h).0 (rw itself e))
    where
      nothing : (m : Map Class) → ((d : ℕ) → among d (keys m) ≡ true → ⊥) → m ≡ []
      nothing [] f = refl
      nothing (x ∷ m) f = absurd (f x.0 (among_here x.0 (keys m)))
