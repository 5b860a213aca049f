-- What a well formed catalogue says of a class and of an attribute that was looked up.
use Prim.Native.Nat.{ℕ}
use mathlib.Core.Path.{◌≡◌, refl, sym, ◌∙◌, ap}
use mathlib.Core.Bool.{Bool, true, false}
use mathlib.Core.Option.{Option, none, some}
use Rattle.rules.specs.Maps.{given, is_some, find, every}
use Rattle.rules.specs.Catalogue.{Attribute, Creation, created, automatic, comes_with, Class, Catalogue, class, known, attribute, no_attribute, no_class, supported}
use Rattle.rules.specs.Catalogue.{is_fixed, is_created, lead, leader}
use Rattle.rules.specs.WellFormed.{implies, every_class, every_attribute, is_companion}
use Rattle.rules.proofs.Laws.{cases, never, true_false, not-true, both, every_find, find_some}

pub implied : {a b : Bool} → implies a b ≡ true → a ≡ true → b ≡ true
unfolding implies Rattle.rules.specs.Maps.◌or◌
implied h e = rw e at h

-- ---- classes

pub found_class : (cat : Catalogue) (c : ℕ) (k : Class) → find c cat.classes ≡ some k → class cat c ≡ k
unfolding class
found_class cat c k e = rw e

-- a class is in the catalogue, or it is the class without anything
pub class_or_none {ℓ} : {X : Type ℓ} (cat : Catalogue) (c : ℕ) → (find c cat.classes ≡ some (class cat c) → X) → (class cat c ≡ no_class → X) → X
unfolding class
class_or_none {X = X} cat c f g = go (find c cat.classes) refl
  where
    go : (o : Option Class) → find c cat.classes ≡ o → X
    go none e = g (rw e)
    go (some k) e = f (rw e)

pub known_class : (cat : Catalogue) (c : ℕ) → known cat c ≡ true → find c cat.classes ≡ some (class cat c)
known_class cat c h = let g = find_some c cat.classes h in g.1 ∙ ap some (sym (found_class cat c g.0 g.1))

pub unknown_class : (cat : Catalogue) (c : ℕ) → known cat c ≡ false → class cat c ≡ no_class
unfolding class
unknown_class cat c h = go (find c cat.classes) h
  where
    go : (o : Option Class) → is_some o ≡ false → given o no_class (λ k. k) ≡ no_class
    go none t = refl
    go (some k) t = never (sym t)

pub class_says : (p : ℕ → Class → Bool) (cat : Catalogue) → every_class p cat → (c : ℕ) → known cat c ≡ true → p c (class cat c) ≡ true
class_says p cat h c t = every_find p cat.classes h c (class cat c) (known_class cat c t)

-- a class that can be created is known
pub created_known : (cat : Catalogue) (c : ℕ) → is_created (class cat c).creation ≡ true → known cat c ≡ true
unfolding no_class
created_known cat c h = cases (known cat c) (λ t. t) (λ t. never (rw (unknown_class cat c t) at h))

-- a class whose leader can be created is known
pub led_known : (cat : Catalogue) (c : ℕ) → is_created (class cat (leader cat c)).creation ≡ true → known cat c ≡ true
unfolding no_class
led_known cat c h = cases (known cat c) (λ t. t) (λ t. let z : class cat c ≡ no_class = unknown_class cat c t in never (rw (z, z) at h))

-- ---- attributes

pub found_attribute : (k : Class) (n : ℕ) (a : Attribute) → find n k.attributes ≡ some a → attribute k n ≡ a
unfolding attribute
found_attribute k n a e = rw e

pub known_attribute : (k : Class) (n : ℕ) → supported k n ≡ true → find n k.attributes ≡ some (attribute k n)
unfolding attribute
known_attribute k n h = go (find n k.attributes) refl h
  where
    go : (o : Option Attribute) → find n k.attributes ≡ o → is_some o ≡ true → find n k.attributes ≡ some (given (find n k.attributes) no_attribute (λ a. a))
    go none e t = never t
    go (some a) e t = rw e

pub unknown_attribute : (k : Class) (n : ℕ) → supported k n ≡ false → attribute k n ≡ no_attribute
unfolding attribute
unknown_attribute k n h = go (find n k.attributes) h
  where
    go : (o : Option Attribute) → is_some o ≡ false → given o no_attribute (λ a. a) ≡ no_attribute
    go none t = refl
    go (some a) t = never (sym t)

-- an attribute with a right is there
pub W_supported : (k : Class) (n : ℕ) → (attribute k n).W ≡ true → supported k n ≡ true
unfolding no_attribute
W_supported k n h = cases (supported k n) (λ t. t) (λ t. never (rw (unknown_attribute k n t) at h))

pub C_supported : (k : Class) (n : ℕ) → (attribute k n).C ≡ true → supported k n ≡ true
unfolding no_attribute
C_supported k n h = cases (supported k n) (λ t. t) (λ t. never (rw (unknown_attribute k n t) at h))

pub L_supported : (k : Class) (n : ℕ) → (attribute k n).L ≡ true → supported k n ≡ true
unfolding no_attribute
L_supported k n h = cases (supported k n) (λ t. t) (λ t. never (rw (unknown_attribute k n t) at h))

pub supported_known : (cat : Catalogue) (c n : ℕ) → supported (class cat c) n ≡ true → known cat c ≡ true
unfolding no_class find
supported_known cat c n h = cases (known cat c) (λ t. t) (λ t. never (rw (unknown_class cat c t) at h))

pub attribute_says : (p : ℕ → Class → ℕ → Attribute → Bool) (cat : Catalogue) → every_attribute p cat
    → (c n : ℕ) → supported (class cat c) n ≡ true → p c (class cat c) n (attribute (class cat c) n) ≡ true
attribute_says p cat h c n t =
    every_find (p c (class cat c)) (class cat c).attributes
    (class_says (λ c k. every (p c k) k.attributes) cat h c (supported_known cat c n t)) n (attribute (class cat c) n) (known_attribute (class cat c) n t)

-- ---- leaders

pub leads_itself : (c : ℕ) (creation : Creation) → is_created creation ≡ true → lead c creation ≡ c
leads_itself c created h = refl
leads_itself c (automatic l) h = never h
leads_itself c (comes_with d) h = never h

-- ---- attributes that rules don't look at

pub not_fixed : (a : Attribute) → (is_fixed a ≡ true → ⊥) → is_fixed a ≡ false
not_fixed a f = cases (is_fixed a) (λ e. absurd (f e)) (λ e. e)

pub without_C : (a : Attribute) → a.C ≡ false → is_fixed a ≡ false
without_C a h = not_fixed a (λ e. true_false (both e).0 h)

pub with_W : (a : Attribute) → a.W ≡ true → is_fixed a ≡ false
with_W a h = not_fixed a (λ e. true_false h (not-true (both (both e).1).0))

pub with_L : (a : Attribute) → a.L ≡ true → is_fixed a ≡ false
with_L a h = not_fixed a (λ e. true_false h (not-true (both (both e).1).1))

-- a class that is neither created nor comes with one leads itself
pub plain_lead : (c : ℕ) (x : Creation) → is_created x ≡ false → is_companion x ≡ false → lead c x ≡ c
plain_lead c created h g = never (sym h)
plain_lead c (automatic l) h g = refl
plain_lead c (comes_with d) h g = never (sym g)
