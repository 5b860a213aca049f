-- Laws of tests, of lists and of the tables of Maps.
use Prim.Native.Nat.{ℕ, ◌≤◌, ◌<◌}
use native.Mathlib.Omega.{arith}
use mathlib.Core.Path.{◌≡◌, refl, sym, ◌∙◌, ap, subst}
use mathlib.Core.Bool.{Bool, true, false, not}
use mathlib.Core.Option.{Option, none, some}
use mathlib.Core.Logic.{◌≢◌}
use mathlib.Core.List.{List, [], ◌∷◌, ◌++◌}
use lib.Dec.{T, eqb, ltb, leb, leb→le, nleb→lt, le→leb, ltb→lt, nltb→le, eqb→eq}
use mir.Facts.{eqb_no, no_eqb, yes_eqb, yes_ltb, no_ltb}
use Rattle.rules.specs.Maps.{◌and◌, ◌or◌, Map, given, is_some, find, has, keys, put, keep, every, each, among, all, same}

-- statements one after another, written without brackets
infixr 2 ◌&◌
abbrev pub ◌&◌ : {A B : Type 0} → A → B → A × B
◌&◌ a b = (a, b)

-- ---- tests

-- both ways a test can come out, as equations to rewrite with
pub cases {ℓ} : {X : Type ℓ} (b : Bool) → (b ≡ true → X) → (b ≡ false → X) → X
cases true f g = f refl
cases false f g = g refl

pub holds : {b : Bool} → b ≡ true → T b
holds e = rw e tt

pub is_true : {b : Bool} → T b → b ≡ true
is_true {b} h = cases b (λ e. e) (λ e. absurd (rw e at h))

pub never {ℓ} : {X : Type ℓ} → false ≡ true → X
never e = absurd (subst T (sym e) tt)

pub true_false {ℓ} : {X : Type ℓ} {b : Bool} → b ≡ true → b ≡ false → X
true_false p q = never (sym q ∙ p)

pub not-true : {b : Bool} → not b ≡ true → b ≡ false
not-true {b} h = cases b (λ e. never (rw e at h)) (λ e. e)

pub not-false : {b : Bool} → not b ≡ false → b ≡ true
not-false {b} h = cases b (λ e. e) (λ e. never (sym (rw e at h)))

pub false_not : {b : Bool} → b ≡ false → not b ≡ true
false_not e = rw e

pub both : {a b : Bool} → (a and b) ≡ true → (a ≡ true) × (b ≡ true)
unfolding ◌and◌
both {a} {b} h = cases a (λ e. (e, rw e at h)) (λ e. never (rw e at h))

pub and_true : {a b : Bool} → a ≡ true → b ≡ true → (a and b) ≡ true
unfolding ◌and◌
and_true p q = rw (p, q)

pub or_cases {ℓ} : {X : Type ℓ} {a b : Bool} → (a or b) ≡ true → (a ≡ true → X) → (b ≡ true → X) → X
unfolding ◌or◌
or_cases {a = a} {b = b} h f g = cases a f (λ e. g (rw e at h))

pub or_left : {a : Bool} (b : Bool) → a ≡ true → (a or b) ≡ true
unfolding ◌or◌
or_left b p = rw p

pub or_right : (a : Bool) {b : Bool} → b ≡ true → (a or b) ≡ true
unfolding ◌or◌
or_right a q = cases a (λ e. rw e) (λ e. rw (e, q))

pub or_none : {a b : Bool} → (a or b) ≡ false → (a ≡ false) × (b ≡ false)
unfolding ◌or◌
or_none {a} {b} h = cases a (λ e. never (sym (rw e at h))) (λ e. (e, rw e at h))

pub none_or : {a b : Bool} → a ≡ false → b ≡ false → (a or b) ≡ false
unfolding ◌or◌
none_or p q = rw (p, q)

pub true_and : (b : Bool) → (true and b) ≡ b
unfolding ◌and◌
true_and b = refl

pub false_or : (b : Bool) → (false or b) ≡ b
unfolding ◌or◌
false_or b = refl

-- two tests that come out true together are the same
pub bool_eq : (a b : Bool) → (a ≡ true → b ≡ true) → (b ≡ true → a ≡ true) → a ≡ b
bool_eq a b f g = cases a (λ e. rw e (sym (f e))) (λ e. cases b (λ y. rw (e, y) (sym e ∙ g y)) (λ y. rw (e, y)))

pub eqb_true : (a b : ℕ) → a ≡ b → eqb a b ≡ true
eqb_true a b h = is_true {b = eqb a b} (yes_eqb {a = a} {b = b} h)

pub eqb_false : (a b : ℕ) → a ≢ b → eqb a b ≡ false
eqb_false a b h = not-true (is_true {b = not (eqb a b)} (no_eqb {a = a} {b = b} h))

pub eqb_eq : (a b : ℕ) → eqb a b ≡ true → a ≡ b
eqb_eq a b h = eqb→eq a b (holds h)

pub eqb_ne : (a b : ℕ) → eqb a b ≡ false → a ≢ b
eqb_ne a b h = eqb_no {a = a} {b = b} (holds (false_not h))

pub ltb_lt : (a b : ℕ) → ltb a b ≡ true → a < b
ltb_lt a b h = ltb→lt a b (holds h)

pub ltb_le : (a b : ℕ) → ltb a b ≡ false → b ≤ a
ltb_le a b h = nltb→le a b (holds (false_not h))

pub lt-ltb : (a b : ℕ) → a < b → ltb a b ≡ true
lt-ltb a b h = is_true {b = ltb a b} (yes_ltb {a = a} {b = b} h)

pub le-ltb : (a b : ℕ) → b ≤ a → ltb a b ≡ false
le-ltb a b h = not-true (is_true {b = not (ltb a b)} (no_ltb {a = a} {b = b} h))

pub leb_le : (a b : ℕ) → leb a b ≡ true → a ≤ b
leb_le a b h = leb→le a b (holds h)

pub le-leb : (a b : ℕ) → a ≤ b → leb a b ≡ true
le-leb a b h = is_true {b = leb a b} (le→leb a b h)

pub leb_lt : (a b : ℕ) → leb a b ≡ false → b < a
leb_lt a b h = nleb→lt a b (holds (false_not h))

pub same? {ℓ} : {X : Type ℓ} (a b : ℕ) → (a ≡ b → X) → (a ≢ b → X) → X
same? a b f g = cases (eqb a b) (λ h. f (eqb_eq a b h)) (λ h. g (eqb_ne a b h))

-- ---- lists of numbers

pub same_eq : (l m : List ℕ) → same l m ≡ true → l ≡ m
unfolding same
same_eq [] [] h = refl
same_eq [] (y ∷ m) h = never h
same_eq (x ∷ l) [] h = never h
same_eq (x ∷ l) (y ∷ m) h = let g = both h in rw (eqb_eq x y g.0, same_eq l m g.1)

pub same_refl : (l : List ℕ) → same l l ≡ true
unfolding same
same_refl [] = refl
same_refl (x ∷ l) = and_true (eqb_true x x refl) (same_refl l)

pub eq_same : (l m : List ℕ) → l ≡ m → same l m ≡ true
eq_same l m e = rw e (same_refl m)

pub among_here : (k : ℕ) (l : List ℕ) → among k (k ∷ l) ≡ true
unfolding among
among_here k l = or_left (among k l) (eqb_true k k refl)

module _ {A : Type 0} (p : A → Bool) where
  pub all_append : (l m : List A) → all p l ≡ true → all p m ≡ true → all p (l ++ m) ≡ true
  unfolding all
  all_append [] m h g = g
  all_append (a ∷ l) m h g = and_true (both h).0 (all_append l m (both h).1 g)

pub all_among : (p : ℕ → Bool) (l : List ℕ) → all p l ≡ true → (k : ℕ) → among k l ≡ true → p k ≡ true
unfolding all among
all_among p [] h k t = never t
all_among p (x ∷ l) h k t = or_cases t (λ e. rw (eqb_eq k x e) (both h).0) (λ e. all_among p l (both h).1 k e)

-- what holds of each number of a list holds of a number that is among them
abbrev pub EachOf : (ℕ → Type 0) → List ℕ → Type 0
EachOf P [] = Unit {0}
EachOf P (n ∷ l) = P n × EachOf P l

pub each_among : (P : ℕ → Type 0) (l : List ℕ) → EachOf P l → (n : ℕ) → among n l ≡ true → P n
unfolding among
each_among P [] h n t = never t
each_among P (x ∷ l) h n t = or_cases t (λ e. rw (eqb_eq n x e) h.0) (λ e. each_among P l h.1 n e)

-- ---- tables

module _ {A : Type 0} where
  pub every_find : (p : ℕ → A → Bool) (m : Map A) → every p m ≡ true → (k : ℕ) (a : A) → find k m ≡ some a → p k a ≡ true
  unfolding every find
  every_find p [] h k a e = let z : ◌≡◌ {A = ℕ} 0 1 = cc in absurd (omega arith)
  every_find p (x ∷ m) h k a e = cases (eqb k x.0)
      (λ t. let z : x.1 ≡ a = let y : some x.1 ≡ some a = rw t at e in cc in rw (eqb_eq k x.0 t, ← z) (both h).0)
      (λ t. every_find p m (both h).1 k a (rw t at e))

  pub every_keep : (p q : ℕ → A → Bool) (m : Map A) → every p m ≡ true → every p (keep q m) ≡ true
  unfolding every keep
  every_keep p q [] h = refl
  every_keep p q (x ∷ m) h = cases (q x.0 x.1)
      (λ t. rw t (and_true (both h).0 (every_keep p q m (both h).1)))
      (λ t. rw t (every_keep p q m (both h).1))

  pub every_put : (p : ℕ → A → Bool) (k : ℕ) (a : A) (m : Map A) → every p m ≡ true → p k a ≡ true → every p (put k a m) ≡ true
  unfolding every put
  every_put p k a [] h g = and_true g refl
  every_put p k a (x ∷ m) h g = cases (ltb k x.0)
      (λ t. rw t (and_true g h))
      (λ t. cases (eqb k x.0)
      (λ u. rw (t, u) (and_true g (both h).1))
      (λ u. rw (t, u) (and_true (both h).0 (every_put p k a m (both h).1 g))))

  pub every_imp : (p q : ℕ → A → Bool) → ((k : ℕ) (a : A) → p k a ≡ true → q k a ≡ true) → (m : Map A) → every p m ≡ true → every q m ≡ true
  unfolding every
  every_imp p q f [] h = refl
  every_imp p q f (x ∷ m) h = and_true (f x.0 x.1 (both h).0) (every_imp p q f m (both h).1)

  pub find_some : (k : ℕ) (m : Map A) → has k m ≡ true → (a : A) × (find k m ≡ some a)
  find_some k m h = go (find k m) refl h
    where
      go : (o : Option A) → find k m ≡ o → is_some o ≡ true → (a : A) × (find k m ≡ some a)
      go none e t = never t
      go (some a) e t = (a, e)

  pub has_among : (k : ℕ) (m : Map A) → has k m ≡ among k (keys m)
  unfolding find keys among
  has_among k [] = refl
  has_among k (x ∷ m) = cases (eqb k x.0) (λ t. rw t (sym (or_left (among k (keys m)) refl))) (λ t. rw (t, false_or (among k (keys m))) (has_among k m))

module _ {A B : Type 0} where
  pub keys_each : (f : ℕ → A → B) (m : Map A) → keys (each f m) ≡ keys m
  unfolding keys each
  keys_each f [] = refl
  keys_each f (x ∷ m) = ap (λ (l : List ℕ). x.0 ∷ l) (keys_each f m)

  pub every_each : (p : ℕ → B → Bool) (f : ℕ → A → B) (m : Map A) → every p (each f m) ≡ every (λ k a. p k (f k a)) m
  unfolding every each
  every_each p f [] = refl
  every_each p f (x ∷ m) = ap (λ (b : Bool). p x.0 (f x.0 x.1) and b) (every_each p f m)

  pub find_each : (f : ℕ → A → B) (k : ℕ) (m : Map A) → find k (each f m) ≡ given (find k m) none (λ a. some (f k a))
  unfolding find each
  find_each f k [] = refl
  find_each f k (x ∷ m) = cases (eqb k x.0) (λ t. rw t (ap (λ (j : ℕ). some (f j x.1)) (sym (eqb_eq k x.0 t)))) (λ t. rw t (find_each f k m))
