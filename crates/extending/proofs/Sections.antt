-- Which attributes the sections of a whole upload show.
use Prim.Native.Nat.{ℕ, suc, ◌+◌, ◌<◌}
use native.Mathlib.Omega.{arith}
use mathlib.Core.Path.{◌≡◌, refl, sym, ◌∙◌, ap}
use mathlib.Core.Bool.{Bool, true, false}
use mathlib.Core.Option.{some}
use mathlib.Core.Logic.{◌≢◌}
use mathlib.Core.List.{List, [], ◌∷◌, ◌++◌, map, append_assoc}
use lib.ListN.{length}
use lib.Dec.{eqb, ltb, leb}
use Rattle.rules.specs.Maps.{◌and◌, ◌or◌, Map, find, has, keys, keep, gather, among, all}
use Rattle.rules.specs.Masks.{total}
use Rattle.rules.specs.Catalogue.{Class, Catalogue, class, known, supported, size_of, lead, leader, key}
use Rattle.rules.specs.State.{Table, class_of, number_of, entries}
use Rattle.rules.specs.Walks.{sections_from, sections_of, Section, instances_of, sections}
use Rattle.rules.specs.WellFormed.{WellFormed}
use Rattle.rules.proofs.Laws.{cases, never, both, and_true, or_cases, or_left, or_right, false_or, bool_eq, eqb_true, eqb_false, eqb_eq, eqb_ne, ltb_lt, lt-ltb, le-leb, all_among}
use Rattle.rules.proofs.Laws.{has_among}
use Rattle.rules.proofs.MapLaws.{some_eq, none_some, Each, each_imp}
use Rattle.rules.proofs.Lookups.{found_class, known_class}
use Rattle.rules.proofs.Families.{classes_found}
use Rattle.extending.specs.Promise.{stands_in}

-- ---- tests put together

or_twice : (a b c : Bool) → ((a or b) or c) ≡ (a or b or c)
unfolding ◌or◌
or_twice true b c = refl
or_twice false b c = refl

and_false : (a : Bool) → (a and false) ≡ false
unfolding ◌and◌
and_false true = refl
and_false false = refl

last_joined : (a b x y : Bool) → ((a and b and x) or (a and b and y)) ≡ (a and b and (x or y))
unfolding ◌and◌ ◌or◌
last_joined true true x y = refl
last_joined true false x y = refl
last_joined false b x y = refl

middle_joined : (a b y x : Bool) → ((a and b and x) or (a and y and x)) ≡ (a and (b or y) and x)
unfolding ◌and◌ ◌or◌
middle_joined true true y true = refl
middle_joined true true true false = refl
middle_joined true true false false = refl
middle_joined true false y x = refl
middle_joined false b y x = refl

among_append : (k : ℕ) (l m : List ℕ) → among k (l ++ m) ≡ (among k l or among k m)
unfolding among
among_append k [] m = sym (false_or (among k m))
among_append k (x ∷ l) m = rw (among_append k l m) (sym (or_twice (eqb k x) (among k l) (among k m)))

eqb_swap : (a b : ℕ) → eqb a b ≡ eqb b a
eqb_swap a b = bool_eq (eqb a b) (eqb b a) (λ e. eqb_true b a (sym (eqb_eq a b e))) (λ e. eqb_true a b (sym (eqb_eq b a e)))

-- ---- what the sections show

-- Cut into sections, whatever the sizes are, attributes stay what they were, in their order.
pub sections_put_together_are_all : (size : ℕ → ℕ) (now l : List ℕ) → gather (λ x. x) (sections_from size now l) ≡ now ++ l
unfolding sections_from gather
sections_put_together_are_all size [] [] = refl
sections_put_together_are_all size (x ∷ now) [] = rw (le-leb 1 (suc (length now)) (omega arith)) refl
sections_put_together_are_all size now (n ∷ l) = cases (leb (total size now + size n) 26)
    (λ u. rw u (sections_put_together_are_all size (now ++ n ∷ []) l ∙ append_assoc now (n ∷ []) l))
    (λ u. rw u (ap (λ (y : List ℕ). now ++ y) (sections_put_together_are_all size (n ∷ []) l)))

-- the sections of one instance
abbrev cuts : ℕ → ℕ → List (List ℕ) → List Section
cuts d j ls = map (λ l. record { of_class = d; of_instance = j; shows = l }) ls

module _ (c i n : ℕ) where
  stands_append : (l m : List Section) → stands_in (l ++ m) c i n ≡ (stands_in l c i n or stands_in m c i n)
  unfolding stands_in
  stands_append [] m = sym (false_or (stands_in m c i n))
  stands_append (p ∷ l) m = rw (stands_append l m)
      (sym (or_twice (eqb p.of_class c and eqb p.of_instance i and among n p.shows) (stands_in l c i n) (stands_in m c i n)))

  -- of one instance, what any of its sections shows
  stands_in_cuts : (d j : ℕ) (ls : List (List ℕ)) → stands_in (cuts d j ls) c i n ≡ (eqb d c and eqb j i and among n (gather (λ x. x) ls))
  unfolding stands_in gather among
  stands_in_cuts d j [] = rw (and_false (eqb j i), and_false (eqb d c)) refl
  stands_in_cuts d j (l ∷ ls) = rw (stands_in_cuts d j ls, among_append n l (gather (λ x. x) ls))
      (last_joined (eqb d c) (eqb j i) (among n l) (among n (gather (λ x. x) ls)))

  -- that is every attribute of its class
  stands_in_instance : (d j : ℕ) (k : Class) → stands_in (cuts d j (sections_of k)) c i n ≡ (eqb d c and eqb j i and supported k n)
  unfolding sections_of
  stands_in_instance d j k = stands_in_cuts d j (sections_of k)
      ∙ rw (sections_put_together_are_all (size_of k) [] (keys k.attributes), has_among n k.attributes) refl

  -- of a class, every attribute of these instances
  stands_in_class : (d : ℕ) (k : Class) (js : List ℕ)
      → stands_in (gather (λ j. cuts d j (sections_of k)) js) c i n ≡ (eqb d c and among i js and supported k n)
  unfolding stands_in gather among ◌and◌
  stands_in_class d k [] = sym (and_false (eqb d c))
  stands_in_class d k (j ∷ js) = stands_append (cuts d j (sections_of k)) (gather (λ j. cuts d j (sections_of k)) js)
      ∙ rw (stands_in_instance d j k, stands_in_class d k js, eqb_swap j i) (middle_joined (eqb d c) (eqb i j) (among i js) (supported k n))

  -- of several classes, what the sections of one of them show
  module _ (f : ℕ × Class → List Section) where
    in_one_of : {X : Type 0} (m : Map Class) → Each (λ d k. stands_in (f (d, k)) c i n ≡ true → X) m → stands_in (gather f m) c i n ≡ true → X
    unfolding gather stands_in
    in_one_of [] h y = never y
    in_one_of (e ∷ m) h y = or_cases (sym (stands_append (f e) (gather f m)) ∙ y) h.0 (in_one_of m h.1)

    in_this_one : (d : ℕ) (k : Class) (m : Map Class) → find d m ≡ some k → stands_in (f (d, k)) c i n ≡ true → stands_in (gather f m) c i n ≡ true
    unfolding gather find
    in_this_one d k [] h y = none_some h
    in_this_one d k (e ∷ m) h y = stands_append (f e) (gather f m) ∙ cases (eqb d e.0)
        (λ t. let z : k ≡ e.1 = sym (some_eq (rw t at h)) in
        or_left (stands_in (gather f m) c i n) (rw (eqb_eq d e.0 t, z) at y))
        (λ t. or_right (stands_in (f e) c i n) (in_this_one d k m (rw t at h) y))

-- ---- the instances of a class

pub number_key : (d i j : ℕ) → i < 65536 → eqb (class_of j) d ≡ true → eqb i (number_of j) ≡ eqb (key d i) j
number_key d i j small u =
    let z : class_of j ≡ d = eqb_eq (class_of j) d u in
    bool_eq (eqb i (number_of j)) (eqb (key d i) j)
    (λ e. let y : i ≡ number_of j = eqb_eq i (number_of j) e in eqb_true (key d i) j (omega arith))
    (λ e. let y : key d i ≡ j = eqb_eq (key d i) j e in eqb_true i (number_of j) (omega arith))

among_numbers : {A : Type 0} (d i : ℕ) → i < 65536 → (m : Map A)
    → among i (map number_of (keys (keep (λ j e. eqb (class_of j) d) m))) ≡ among (key d i) (keys m)
unfolding among keys keep
among_numbers d i small [] = refl
among_numbers d i small (x ∷ m) = cases (eqb (class_of x.0) d)
    (λ u. rw (u, number_key d i x.0 small u, among_numbers d i small m) refl)
    (λ u. let ne : class_of x.0 ≢ d = eqb_ne (class_of x.0) d u in
    let other : key d i ≢ x.0 = λ z. ne (omega arith) in
    rw (u, eqb_false (key d i) x.0 other, false_or (among (key d i) (keys m))) (among_numbers d i small m))

numbers_small : (l : List ℕ) → all (λ i. ltb i 65536) (map number_of l) ≡ true
unfolding all
numbers_small [] = refl
numbers_small (j ∷ l) = and_true (lt-ltb (number_of j) 65536 (omega arith)) (numbers_small l)

-- ---- what a whole upload shows

-- an attribute of a class that the catalogue has, of an instance whose entry the table has
pub record Shown (cat : Catalogue) (t : Table) (c i n : ℕ) : Type 0 where
  pub is_known : known cat c ≡ true
  pub is_supported : supported (class cat c) n ≡ true
  pub small : i < 65536
  pub in_table : has (key (leader cat c) i) (entries t) ≡ true

-- the sections of a class
abbrev sections_of_class : Table → ℕ × Class → List Section
sections_of_class t e = gather (λ j. cuts e.0 j (sections_of e.1)) (instances_of e.0 e.1 t)

pub stands_shown : (cat : Catalogue) → WellFormed cat → (t : Table) (c i n : ℕ) → stands_in (sections cat t) c i n ≡ true → Shown cat t c i n
unfolding sections instances_of
stands_shown cat wf t c i n y = in_one_of c i n (sections_of_class t) cat.classes
    (each_imp (λ d k. find d cat.classes ≡ some k) (λ d k. stands_in (sections_of_class t (d, k)) c i n ≡ true → Shown cat t c i n)
    here cat.classes (classes_found cat wf)) y
  where
    here : (d : ℕ) (k : Class) → find d cat.classes ≡ some k → stands_in (sections_of_class t (d, k)) c i n ≡ true → Shown cat t c i n
    here d k f s =
        let g = both (sym (stands_in_class c i n d k (instances_of d k t)) ∙ s) in
        let h = both g.1 in
        let z : d ≡ c = eqb_eq d c g.0 in
        let w : class cat c ≡ k = found_class cat c k (rw z at f) in
        let led : lead d k.creation ≡ leader cat c = rw w (ap (λ (x : ℕ). lead x k.creation) z) in
        let its_keys : List ℕ = keys (keep (λ j e. eqb (class_of j) (lead d k.creation)) (entries t)) in
        let small : i < 65536 = ltb_lt i 65536 (all_among (λ j. ltb j 65536) (instances_of d k t) (numbers_small its_keys) i h.0) in
        record {
          is_known = rw (rw z at f) refl;
          is_supported = rw w h.1;
          small = small;
          in_table = rw (← led, has_among (key (lead d k.creation) i) (entries t), ← among_numbers (lead d k.creation) i small (entries t)) h.0;
        }

pub shown_stands : (cat : Catalogue) (t : Table) (c i n : ℕ) → Shown cat t c i n → stands_in (sections cat t) c i n ≡ true
unfolding sections instances_of
shown_stands cat t c i n x = in_this_one c i n (sections_of_class t) c (class cat c) cat.classes (known_class cat c x.is_known)
    (stands_in_class c i n c (class cat c) (instances_of c (class cat c) t)
    ∙ and_true (eqb_true c c refl) (and_true here x.is_supported))
  where
    here : among i (instances_of c (class cat c) t) ≡ true
    here = among_numbers (leader cat c) i x.small (entries t) ∙ sym (has_among (key (leader cat c) i) (entries t)) ∙ x.in_table
