-- The sections that are told by the keys in a table's bytes are the rules' sections of the table.
use Prim.Native.Nat.{ℕ}
use mathlib.Core.Path.{◌≡◌, refl, sym, ◌∙◌, ap}
use mathlib.Core.Bool.{Bool}
use mathlib.Core.Option.{some}
use mathlib.Core.List.{List, [], ◌∷◌, ◌++◌, map}
use lib.Dec.{eqb}
use Rattle.rules.specs.Maps.{Map, find, keys, keep, gather, those}
use Rattle.rules.specs.Catalogue.{Class, Catalogue, class, lead}
use Rattle.rules.specs.State.{Table, class_of, number_of, entries}
use Rattle.rules.specs.Legal.{automatic_keys}
use Rattle.rules.specs.Walks.{Section, sections_of, instances_of, sections}
use Rattle.rules.specs.WellFormed.{WellFormed}
use Rattle.rules.proofs.Laws.{cases}
use Rattle.rules.proofs.MapLaws.{Each, each_imp}
use Rattle.rules.proofs.Lookups.{found_class}
use Rattle.rules.proofs.Families.{classes_found}
use Rattle.legality.proofs.Tables.{LegalTable}
use Rattle.upload_sections.specs.Sections.{numbers_in, instance_sections, class_sections, sections_in}

module _ {A : Type 0} where
  keys_append : (l m : Map A) → keys (l ++ m) ≡ keys l ++ keys m
  unfolding keys
  keys_append [] m = refl
  keys_append (e ∷ l) m = ap (λ (k : List ℕ). e.0 ∷ k) (keys_append l m)

  keys_kept : (p : ℕ → Bool) (m : Map A) → keys (keep (λ j a. p j) m) ≡ those p (keys m)
  unfolding keys keep those
  keys_kept p [] = refl
  keys_kept p (e ∷ m) = cases (p e.0)
      (λ t. rw t (ap (λ (k : List ℕ). e.0 ∷ k) (keys_kept p m)))
      (λ t. rw t (keys_kept p m))

module _ (cat : Catalogue) (wf : WellFormed cat) (u : Table) (h : LegalTable cat wf (automatic_keys cat) u) where
  abbrev made : List ℕ
  made = keys u.created

  instances_told : (c : ℕ) (k : Class) → class cat c ≡ k → instances_of c k u ≡ numbers_in cat made c
  unfolding instances_of numbers_in
  instances_told c k e =
      let p : ℕ → Bool = λ j. eqb (class_of j) (lead c k.creation) in
      ap (map number_of) (keys_kept p (entries u) ∙ ap (those p) (keys_append u.automatic u.created ∙ ap (λ (l : List ℕ). l ++ made) h.automatic_keys))
      ∙ ap (λ (x : Class). map number_of (those (λ j. eqb (class_of j) (lead c x.creation)) (automatic_keys cat ++ made))) (sym e)

  -- the sections of the instances of one class
  abbrev of_class : ℕ × Class → List Section
  of_class e = gather (λ i. map (λ l. record { of_class = e.0; of_instance = i; shows = l }) (sections_of e.1)) (instances_of e.0 e.1 u)

  class_told : (c : ℕ) (k : Class) → class cat c ≡ k → of_class (c, k) ≡ class_sections cat made c
  unfolding class_sections instance_sections
  class_told c k e =
      ap (λ (x : Class). gather (λ i. map (λ l. record { of_class = c; of_instance = i; shows = l }) (sections_of x)) (instances_of c k u)) (sym e)
      ∙ ap (gather (instance_sections cat c)) (instances_told c k e)

  classes_told : (m : Map Class) → Each (λ c k. class cat c ≡ k) m → gather of_class m ≡ gather (class_sections cat made) (keys m)
  unfolding gather keys
  classes_told [] g = refl
  classes_told (e ∷ m) g = rw (class_told e.0 e.1 g.0, classes_told m g.1)

  pub sections_told : sections cat u ≡ sections_in cat made
  unfolding sections sections_in
  sections_told = classes_told cat.classes
      (each_imp (λ c k. find c cat.classes ≡ some k) (λ c k. class cat c ≡ k) (λ c k f. found_class cat c k f) cat.classes (classes_found cat wf))
