-- Tables whose keys are numbers. One kind of table serves the classes of a catalogue, the attributes of a class, the instances
-- of a product, the contents of an instance and the alarm bitmaps, so that each law about them is proved once.
use Rattle.std.specs.Prelude.{ℕ, zero, suc, Bool, true, false, not, ◌&&◌, ◌||◌, cond, List, [], ◌∷◌, ◌++◌, eqb, ltb}
use Rattle.std.proofs.Math.Option.{Option, none, some}

infixr 6 ◌and◌
infixr 5 ◌or◌
unfoldable pub ◌and◌ : Bool → Bool → Bool
◌and◌ a b = a && b

unfoldable pub ◌or◌ : Bool → Bool → Bool
◌or◌ a b = a || b

abbrev pub Map : Type 0 → Type 0
Map A = List (ℕ × A)

-- what an optional value gives, or what stands for none
abbrev pub given : {A B : Type 0} → Option A → B → (A → B) → B
given none b f = b
given (some a) b f = f a

-- an element in front of a list, if a test says so
abbrev pub put_if : {A : Type 0} → Bool → A → List A → List A
put_if true a l = a ∷ l
put_if false a l = l

abbrev pub is_some : {A : Type 0} → Option A → Bool
is_some none = false
is_some (some a) = true

module _ {A : Type 0} where
  unfoldable pub find : ℕ → Map A → Option A
  find k [] = none
  find k (e ∷ m) = cond (eqb k e.0) (some e.1) (find k m)

  abbrev pub has : ℕ → Map A → Bool
  has k m = is_some (find k m)

  unfoldable pub keys : Map A → List ℕ
  keys [] = []
  keys (e ∷ m) = e.0 ∷ keys m

  -- the entry goes before the first greater key
  unfoldable pub put : ℕ → A → Map A → Map A
  put k a [] = (k, a) ∷ []
  put k a (e ∷ m) = cond (ltb k e.0) ((k, a) ∷ e ∷ m) (cond (eqb k e.0) ((k, a) ∷ m) (e ∷ put k a m))

  -- the entries that pass a test
  unfoldable pub keep : (ℕ → A → Bool) → Map A → Map A
  keep p [] = []
  keep p (e ∷ m) = put_if (p e.0 e.1) e (keep p m)

  abbrev pub remove : ℕ → Map A → Map A
  remove k m = keep (λ j a. not (eqb j k)) m

  -- every entry passes a test
  unfoldable pub every : (ℕ → A → Bool) → Map A → Bool
  every p [] = true
  every p (e ∷ m) = p e.0 e.1 and every p m

module _ {A B : Type 0} where
  -- every entry changed, the keys as they are
  unfoldable pub each : (ℕ → A → B) → Map A → Map B
  each f [] = []
  each f (e ∷ m) = (e.0, f e.0 e.1) ∷ each f m

  unfoldable pub gather : (A → List B) → List A → List B
  gather f [] = []
  gather f (a ∷ l) = f a ++ gather f l

-- one entry changed
abbrev pub at_key : {A : Type 0} → ℕ → (A → A) → Map A → Map A
at_key k f m = each (λ j a. cond (eqb j k) (f a) a) m

-- keys that rise
unfoldable pub rising : List ℕ → Bool
rising [] = true
rising (k ∷ []) = true
rising (k ∷ j ∷ l) = ltb k j and rising (j ∷ l)

-- ---- lists

unfoldable pub among : ℕ → List ℕ → Bool
among k [] = false
among k (x ∷ l) = eqb k x or among k l

-- each number once
unfoldable pub distinct : List ℕ → List ℕ
distinct [] = []
distinct (k ∷ l) = put_if (not (among k l)) k (distinct l)

unfoldable pub all : {A : Type 0} → (A → Bool) → List A → Bool
all p [] = true
all p (a ∷ l) = p a and all p l

unfoldable pub same : List ℕ → List ℕ → Bool
same [] [] = true
same [] (y ∷ ys) = false
same (x ∷ xs) [] = false
same (x ∷ xs) (y ∷ ys) = eqb x y and same xs ys

abbrev pub empty : {A : Type 0} → List A → Bool
empty [] = true
empty (a ∷ l) = false

-- the numbers of a list that pass a test
unfoldable pub those : (ℕ → Bool) → List ℕ → List ℕ
those p [] = []
those p (n ∷ l) = put_if (p n) n (those p l)

unfoldable pub nth : {A : Type 0} → List A → ℕ → Option A
nth [] n = none
nth (a ∷ l) zero = some a
nth (a ∷ l) (suc n) = nth l n

-- the first line whose test applies
unfoldable pub first_that_applies : {A : Type 0} → List (Bool × A) → Option A
first_that_applies [] = none
first_that_applies (r ∷ l) = cond r.0 (some r.1) (first_that_applies l)

-- everything here computes where this name is unfolded
unfoldable pub computing_maps : ℕ
unfolding ◌and◌ ◌or◌ find keys put keep every each gather rising among distinct all same those nth first_that_applies
computing_maps = 0
