-- The attributes of the products' classes are plain, class by class; what only Large has stands apart, so that each class is
-- gone through once for all of them.
use Prim.Native.Nat.{ℕ}
use mathlib.Core.Path.{◌≡◌, refl}
use mathlib.Core.Bool.{Bool, true, false, not, cond}
use mathlib.Core.List.{List, [], ◌∷◌}
use lib.Dec.{leb}
use Rattle.rules.specs.Maps.{◌and◌, Map, every, among}
use Rattle.rules.specs.Bytes.{number}
use Rattle.rules.specs.Catalogue.{fine, bad, Attribute}
use Rattle.rules.specs.WellFormed.{asks_nothing}
use Rattle.rules.specs.Products.{from◌to◌, one_of, ont_data_class, uni_class, uni_more, bridge_class, bridge_more, computing_products}
use Rattle.rules.proofs.Laws.{◌&◌, not-true, both}
use Rattle.products.proofs.Plain.{Plain, free, judged, carried, EachPlain, is_copied}

-- ---- rules that look at their own content alone

fine_or_bad : (b : Bool) → asks_nothing (cond b fine bad) ≡ true
fine_or_bad true = refl
fine_or_bad false = refl

module _ {a : Attribute} where
  pub within : (low high : ℕ) → a.rule ≡ (from low to high) → is_copied a.source ≡ false → Plain a
  unfolding from◌to◌
  within low high e = judged (rw e (record {
    same_with_others = λ v others. refl;
    no_instance = λ v. fine_or_bad (leb low (number v) and leb (number v) high);
  }))

  pub listed : (l : List ℕ) → a.rule ≡ one_of l → is_copied a.source ≡ false → Plain a
  unfolding one_of
  listed l e = judged (rw e (record {
    same_with_others = λ v others. refl;
    no_instance = λ v. fine_or_bad (among (number v) l);
  }))

-- ---- attributes that a Create carries

-- each is carried, and no report writes it
unfoldable pub all_carried : Map Attribute → Bool
all_carried m = every (λ n a. a.C and not a.L) m

pub carried_plain : (m : Map Attribute) → all_carried m ≡ true → EachPlain m
unfolding all_carried every
carried_plain [] h = tt
carried_plain (e ∷ m) h = (carried (both (both h).0).0 (not-true (both (both h).0).1), carried_plain m (both h).1)

-- ---- the classes

pub ont_data_plain : EachPlain ont_data_class.attributes
unfolding computing_products
ont_data_plain = free (λ v others. refl) & tt

pub uni_plain : (numbers : List ℕ) (more : Map Attribute) → EachPlain more → EachPlain (uni_class numbers more).attributes
unfolding computing_products
uni_plain numbers more h =
    free (λ v others. refl)
    & free (λ v others. refl)
    & free (λ v others. refl)
    & listed (0 ∷ 3 ∷ []) refl refl
    & within 0 1 refl refl
    & within 0 1 refl refl
    & h

pub uni_more_plain : EachPlain uni_more
unfolding computing_products
uni_more_plain =
    free (λ v others. refl)
    & free (λ v others. refl)
    & within 0 2 refl refl
    & free (λ v others. refl)
    & within 0 2 refl refl
    & within 0 1 refl refl
    & free (λ v others. refl)
    & tt

pub bridge_plain : (more : Map Attribute) → EachPlain more → EachPlain (bridge_class more).attributes
unfolding computing_products
bridge_plain more h =
    free (λ v others. refl)
    & free (λ v others. refl)
    & free (λ v others. refl)
    & free (λ v others. refl)
    & free (λ v others. refl)
    & free (λ v others. refl)
    & h

pub bridge_more_plain : EachPlain bridge_more
unfolding computing_products
bridge_more_plain = free (λ v others. refl) & free (λ v others. refl) & tt
