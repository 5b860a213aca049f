-- What holds of every built product: one test that is computed over all of them, and what it says of the product at hand.
use Prim.Native.Nat.{ℕ, ◌<◌}
use native.Mathlib.Omega.{arith}
use mathlib.Core.Path.{◌≡◌, refl, sym, ap, subst}
use mathlib.Core.Bool.{Bool, true, false, not}
use mathlib.Core.Option.{none, some}
use mathlib.Core.List.{List, [], ◌∷◌}
use lib.Dec.{eqb}
use Rattle.std.specs.Prelude.{Result, Ok, Err}
use Rattle.rules.specs.Maps.{◌or◌, Map, find, every, keys, among, all, same, empty}
use Rattle.rules.specs.Catalogue.{Class, Catalogue, class, known, no_class}
use Rattle.rules.specs.WellFormed.{WellFormed}
use Rattle.rules.specs.Products.{built_products}
use Rattle.rules.proofs.Laws.{cases, never, or_none, true_false, not-true, or_cases, eqb_eq, same_eq, every_find}
use Rattle.rules.proofs.Lookups.{known_class, unknown_class}
use Rattle.store.specs.Layout.{fits}
use Rattle.store.proofs.Built.{built_products_fit}
use Rattle.class_tables.specs.declared.Product.{Product}
use Rattle.class_tables.specs.declared.Product.TheVariants as built
use Rattle.class_tables.specs.declared.NotBuilt.{NotBuilt}
use Rattle.class_tables.specs.Built.{cat_of, class_for, product_of, by_product, Names}
use Rattle.class_tables.proofs.Matches.{Avoids, avoided, not_there}

-- what isn't among a table's keys isn't found
not_found : {A : Type 0} (k : ℕ) (m : Map A) → among k (keys m) ≡ false → find k m ≡ none
unfolding keys among find
not_found k [] h = refl
not_found k (e ∷ m) h = let g = or_none h in rw g.0 (not_found k m g.1)

-- ---- products

pub product_found : (pr : Product) → find (product_of pr) built_products ≡ some (cat_of pr)
unfolding find built_products cat_of
product_found built.Small = refl
product_found built.Large = refl
product_found built.Meter = refl

pub well_formed_of : (pr : Product) → WellFormed (cat_of pr)
well_formed_of pr = built_products_fit.well_formed (product_of pr) (cat_of pr) (product_found pr)

pub fits_of : (pr : Product) → fits (cat_of pr) ≡ true
fits_of pr = built_products_fit.fit (product_of pr) (cat_of pr) (product_found pr)

-- what a number names
pub names_built : (pr : Product) {n : ℕ} → product_of pr ≡ n → Names n (Ok pr)
names_built pr e = record { found = sym (rw (← e) (product_found pr)); its_number = λ q h. rw (← same_product h) e }
  where
    same_product : {q : Product} → ◌≡◌ {A = Result Product NotBuilt} (Ok pr) (Ok q) → pr ≡ q
    same_product h = cc

pub names_nothing : (listed : List ℕ) (n : ℕ) {e : NotBuilt} → Avoids n listed → all (λ p. among p listed) (keys built_products) ≡ true → Names n (Err e)
names_nothing listed n {e} a h = record {
  found = sym (not_found n built_products (not_there n listed (keys built_products) a h));
  its_number = λ pr q. absurd (nothing_named q);
}
  where
    nothing_named : {pr : Product} → ◌≡◌ {A = Result Product NotBuilt} (Err e) (Ok pr) → ⊥
    nothing_named q = let z : ◌≡◌ {A = ℕ} 0 1 = cc in omega arith

-- what is chosen by product is right if each choice is
pub in_its_product : {A : Type 0} (P : Product → A → Type 0) {x small large meter : A} (pr : Product) → x ≡ by_product pr small large meter
    → P built.Small small × P built.Large large × P built.Meter meter → P pr x
in_its_product P built.Small e h = subst (P built.Small) (sym e) h.0
in_its_product P built.Large e h = subst (P built.Large) (sym e) h.1
in_its_product P built.Meter e h = subst (P built.Meter) (sym e) h.2

-- the same in every product
pub in_every_product : {A : Type 0} (x : A) (pr : Product) → x ≡ by_product pr x x x
in_every_product x built.Small = refl
in_every_product x built.Large = refl
in_every_product x built.Meter = refl

-- every product passes a test
abbrev pub Passed : (Catalogue → Bool) → Type 0
Passed q = every (λ p cat. q cat) built_products ≡ true

pub in_each : (q : Catalogue → Bool) → Passed q → (pr : Product) → q (cat_of pr) ≡ true
in_each q h pr = every_find (λ p cat. q cat) built_products h (product_of pr) (cat_of pr) (product_found pr)

-- the same number, and the same list of numbers, in each
pub same_number : (f : Catalogue → ℕ) {x : ℕ} → Passed (λ cat. eqb x (f cat)) → (pr : Product) → x ≡ f (cat_of pr)
same_number f {x} h pr = eqb_eq x (f (cat_of pr)) (in_each (λ cat. eqb x (f cat)) h pr)

pub same_list : (f : Catalogue → List ℕ) {x : List ℕ} → Passed (λ cat. same x (f cat)) → (pr : Product) → x ≡ f (cat_of pr)
same_list f {x} h pr = same_eq x (f (cat_of pr)) (in_each (λ cat. same x (f cat)) h pr)

-- ---- classes

-- every class of every product passes a test, those of a list apart
abbrev pub Each : List ℕ → (Catalogue → ℕ → Class → Bool) → Type 0
Each listed q = Passed (λ cat. every (λ c k. among c listed or q cat c k) cat.classes)

-- a class that isn't listed passes, if every number does that no class has
pub elsewhere : (q : Catalogue → ℕ → Class → Bool) (pr : Product) (c : ℕ) (listed : List ℕ) → Avoids c listed → Each listed q
    → (known (cat_of pr) c ≡ false → q (cat_of pr) c (class_for pr c) ≡ true) → q (cat_of pr) c (class_for pr c) ≡ true
elsewhere q pr c listed a h u = cases (known (cat_of pr) c)
    (λ e.
    or_cases
    (every_find (λ d k. among d listed or q (cat_of pr) d k) (cat_of pr).classes
    (in_each (λ cat. every (λ d k. among d listed or q cat d k) cat.classes) h pr)
    c (class_for pr c) (known_class (cat_of pr) c e))
    (λ g. true_false g (avoided c listed a))
    (λ g. g))
    u

-- a class that is known passes
pub of_known : (q : Catalogue → ℕ → Class → Bool) → Each [] q → (pr : Product) (c : ℕ) → known (cat_of pr) c ≡ true → q (cat_of pr) c (class_for pr c) ≡ true
of_known q h pr c e = elsewhere q pr c [] tt h (λ f. true_false e f)

-- a test of the class alone, which no class passes too
abbrev pub PassedBy : List ℕ → (Class → Bool) → Type 0
PassedBy listed p = Each listed (λ cat c k. p k) × (p no_class ≡ true)

-- a number of the class, and of one that there isn't
pub number_there : (f : Class → ℕ) (c : ℕ) {x m : ℕ} (pr : Product) → m ≡ c → Passed (λ cat. eqb x (f (class cat c))) → x ≡ f (class_for pr m)
number_there f c pr e h = rw e (same_number (λ cat. f (class cat c)) h pr)

pub list_there : (f : Class → List ℕ) (c : ℕ) {x : List ℕ} {m : ℕ} (pr : Product) → m ≡ c → Passed (λ cat. same x (f (class cat c))) → x ≡ f (class_for pr m)
list_there f c pr e h = rw e (same_list (λ cat. f (class cat c)) h pr)

-- a number of the class that is another in each product
pub by_its_product : (f : Class → ℕ) (c : ℕ) {x m small large meter : ℕ} (pr : Product) → m ≡ c → x ≡ by_product pr small large meter
    → (small ≡ f (class_for built.Small c)) × (large ≡ f (class_for built.Large c)) × (meter ≡ f (class_for built.Meter c)) → x ≡ f (class_for pr m)
by_its_product f c pr e g h = rw e (in_its_product (λ pr x. x ≡ f (class_for pr c)) pr g h)

pub empty_none : {A : Type 0} (l : List A) → empty l ≡ true → [] ≡ l
empty_none [] h = refl
empty_none (a ∷ l) h = never h

module _ (pr : Product) (c : ℕ) (listed : List ℕ) (a : Avoids c listed) where
  pub otherwise : (p : Class → Bool) → PassedBy listed p → p (class_for pr c) ≡ true
  otherwise p h = elsewhere (λ cat d k. p k) pr c listed a h.0 (λ e. rw (unknown_class (cat_of pr) c e) h.1)

  pub otherwise_0 : (f : Class → ℕ) → PassedBy listed (λ k. eqb (f k) 0) → 0 ≡ f (class_for pr c)
  otherwise_0 f h = sym (eqb_eq (f (class_for pr c)) 0 (otherwise (λ k. eqb (f k) 0) h))

  pub otherwise_false : (f : Class → Bool) → PassedBy listed (λ k. not (f k)) → false ≡ f (class_for pr c)
  otherwise_false f h = sym (not-true (otherwise (λ k. not (f k)) h))

  pub otherwise_none : {A : Type 0} (f : Class → List A) → PassedBy listed (λ k. empty (f k)) → [] ≡ f (class_for pr c)
  otherwise_none f h = empty_none (f (class_for pr c)) (otherwise (λ k. empty (f k)) h)

  -- nothing is in an empty list
  pub none_among : (n : ℕ) (f : Class → List ℕ) → PassedBy listed (λ k. empty (f k)) → false ≡ among n (f (class_for pr c))
  unfolding among
  none_among n f h = ap (among n) (otherwise_none f h)

-- a test of every class, whatever its number
pub of_each : (p : Class → Bool) → PassedBy [] p → (pr : Product) (c : ℕ) → p (class_for pr c) ≡ true
of_each p h pr c = otherwise pr c [] tt p h

-- a product's number is a byte
pub product_small : (pr : Product) → product_of pr < 256
product_small built.Small = omega arith
product_small built.Large = omega arith
product_small built.Meter = omega arith
