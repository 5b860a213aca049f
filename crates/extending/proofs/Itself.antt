-- Every well-formed catalogue extends itself.
use Prim.Native.Nat.{ℕ}
use mathlib.Core.Path.{◌≡◌, refl, sym, ◌∙◌, ap, subst, fun_ext}
use mathlib.Core.Bool.{Bool, true, false, not}
use mathlib.Core.List.{List, [], ◌∷◌, ◌++◌, append-nil}
use Rattle.rules.specs.Maps.{among, all, those}
use Rattle.rules.specs.Catalogue.{Attribute, Creation, created, automatic, comes_with, Class, Catalogue, class, known, attribute, supported, carried_numbers, is_fixed}
use Rattle.rules.specs.Legal.{passes}
use Rattle.rules.specs.WellFormed.{delete_where_create, WellFormed}
use Rattle.rules.specs.Extends.{Agree, AttributeExtends, SameCreation, added_carried, ClassExtends, Extends}
use Rattle.rules.proofs.Laws.{cases, never, not-true, both}
use Rattle.rules.proofs.Lookups.{class_says, C_supported}
use Rattle.rules.proofs.Verdicts.{passes_later}
use Rattle.rules.proofs.Standing.{all_imp, all_self}
use Rattle.legality.proofs.Carried.{carried_is_C}
use Rattle.legality.proofs.NewContents.{attributes_in_order}

same_creation_as_itself : (a : Creation) → SameCreation a a
same_creation_as_itself created = tt
same_creation_as_itself (automatic l) = all_self l
same_creation_as_itself (comes_with d) = refl

those_none : (p : ℕ → Bool) (l : List ℕ) → all (λ n. not (p n)) l ≡ true → those p l ≡ []
unfolding those all
those_none p [] h = refl
those_none p (n ∷ l) h = let t : p n ≡ false = not-true (both h).0 in rw t (those_none p l (both h).1)

-- what rules may look at is the same where it agrees
agree_with_itself : (k : Class) (f g : ℕ → List ℕ) → Agree k k f g → f ≡ g
agree_with_itself k f g agree = fun_ext (λ n. cases (is_fixed (attribute k n))
    (λ fixed. ((agree n).0 fixed).0 (C_supported k n (both fixed).0))
    (λ loose. (agree n).1 loose ∙ sym ((agree n).2 loose)))

attribute_extends_itself : (cat : Catalogue) (k : Class) (a : Attribute) → AttributeExtends cat cat k k a a
attribute_extends_itself cat k a = record {
  same_size = refl;
  same_source = refl;
  W_grows = λ t. t;
  legal_contents_grow = λ v f g sized bytes agree there there' more always led p.
      passes_later there there' (λ c i t. (more c i t).2) (a.rule v g)
      (subst (λ (x : ℕ → List ℕ). passes there (a.rule v x) ≡ true) (agree_with_itself k f g agree) p);
  same_C = refl;
  same_L = refl;
  same_AVC = refl;
  same_legal_L = λ t v others sized bytes. refl;
}

module _ (cat : Catalogue) (wf : WellFormed cat) (c : ℕ) (kn : known cat c ≡ true) where
  nothing_added : added_carried (class cat c) (class cat c) ≡ []
  unfolding added_carried
  nothing_added =
      let k : Class = class cat c in
      those_none (λ n. not (supported k n)) (carried_numbers k) (all_imp (λ n. among n (carried_numbers k)) (λ n. not (not (supported k n)))
      (λ n here. ap (λ (b : Bool). not (not b)) (C_supported k n (carried_is_C k (attributes_in_order cat wf c kn) n here))) (carried_numbers k) (all_self (carried_numbers k)))

  class_extends_itself : ClassExtends cat cat (class cat c) (class cat c)
  unfolding among
  class_extends_itself =
      let k : Class = class cat c in
      let deletes : delete_where_create k ≡ true = class_says (λ c k. delete_where_create k) cat wf.delete_goes_with_create c kn in
      record {
        same_creation = same_creation_as_itself k.creation;
        commands_grow = all_self k.commands;
        delete_goes_with_create = (deletes, deletes);
        same_alarms = λ n. refl;
        attributes_kept = λ n sup. (sup, attribute_extends_itself cat k (attribute k n));
        creates_carry_equally = refl;
        added_come_after = sym (ap (λ (x : List ℕ). carried_numbers k ++ x) nothing_added ∙ append-nil (carried_numbers k));
        added_accept_zero = λ n here. never (rw nothing_added at here);
      }

pub every_catalogue_extends_itself : (cat : Catalogue) → WellFormed cat → Extends cat cat
every_catalogue_extends_itself cat wf = record { same_places = refl; classes_kept = λ c kn. (kn, class_extends_itself cat wf c kn) }
