-- What one section of a table shows: attributes of one instance that the table has, in rising order.
use Prim.Native.Nat.{ℕ, zero, suc, ◌<◌}
use native.Mathlib.Omega.{arith}
use mathlib.Core.Path.{◌≡◌, refl}
use mathlib.Core.Bool.{Bool, true}
use mathlib.Core.Option.{some}
use mathlib.Core.List.{List, [], ◌∷◌, ◌++◌, map}
use lib.ListN.{length}
use Rattle.rules.specs.Maps.{keys, rising, gather, among, all, nth}
use Rattle.rules.specs.Catalogue.{Class, Catalogue, size_of}
use Rattle.rules.specs.State.{Table}
use Rattle.rules.specs.Walks.{sections_of, Section, instances_of, sections}
use Rattle.rules.specs.WellFormed.{WellFormed, numbered_1_to_16, attributes_rise}
use Rattle.rules.proofs.Laws.{and_true, or_left, or_right, eqb_true}
use Rattle.rules.proofs.MapLaws.{some_eq, none_some, Up, up_weaken, rising_up, up_rising, Each, each_of_every, each_imp}
use Rattle.rules.proofs.Lookups.{attribute_says}
use Rattle.rules.proofs.Standing.{all_imp, all_self}
use Rattle.bits.proofs.Masks.{Within, is_attribute, rising_within}
use Rattle.extending.specs.Promise.{stands_in}
use Rattle.extending.proofs.Sections.{Shown, stands_shown, sections_put_together_are_all}
use Rattle.demands.proofs.Uploads.{all_of_map, all_of_gather, all_of_entries, all_nth}

-- what one of them shows stands in them
pub what_one_shows_stands : (l : List Section) (k : ℕ) (p : Section) → nth l k ≡ some p → (n : ℕ) → among n p.shows ≡ true
    → stands_in l p.of_class p.of_instance n ≡ true
unfolding stands_in nth
what_one_shows_stands [] k p e n h = none_some e
what_one_shows_stands (x ∷ l) zero p e n h =
    or_left (stands_in l p.of_class p.of_instance n)
    (rw (some_eq e) (and_true (eqb_true p.of_class p.of_class refl) (and_true (eqb_true p.of_instance p.of_instance refl) h)))
what_one_shows_stands (x ∷ l) (suc k) p e n h = or_right _ (what_one_shows_stands l k p e n h)

-- below their number there is one
pub one_of_that_index : {A : Type 0} (l : List A) (k : ℕ) → k < length l → (a : A) × (nth l k ≡ some a)
unfolding nth
one_of_that_index [] k h = absurd (omega arith)
one_of_that_index (x ∷ l) zero h = (x, refl)
one_of_that_index (x ∷ l) (suc k) h = one_of_that_index l k (omega arith)

-- ---- a test of every section

-- what each cut of each class passes, each section does
pub each_section_passes : (cat : Catalogue) (test : Section → Bool)
    → Each (λ c k. (i : ℕ) → all (λ l. test (record { of_class = c; of_instance = i; shows = l })) (sections_of k) ≡ true) cat.classes
    → (t : Table) → all test (sections cat t) ≡ true
unfolding sections
each_section_passes cat test cuts t = all_of_entries test _ cat.classes
    (each_imp (λ c k. (i : ℕ) → all (λ l. test (record { of_class = c; of_instance = i; shows = l })) (sections_of k) ≡ true)
    (λ c k. all test (gather (λ i. map (λ l. record { of_class = c; of_instance = i; shows = l }) (sections_of k)) (instances_of c k t)) ≡ true)
    (λ c k h. all_of_gather test (λ i. map (λ l. record { of_class = c; of_instance = i; shows = l }) (sections_of k))
    (λ i. all_of_map test (λ l. record { of_class = c; of_instance = i; shows = l }) (sections_of k) (h i)) (instances_of c k t))
    cat.classes cuts)

-- ---- in rising order

up_front : (b : ℕ) (l m : List ℕ) → Up b (l ++ m) → Up b l
up_front b [] m u = tt
up_front b (x ∷ l) m u = (u.0, up_front (suc x) l m u.1)

up_behind : (b : ℕ) (l m : List ℕ) → Up b (l ++ m) → Up b m
up_behind b [] m u = u
up_behind b (x ∷ l) m u = let z = u.0 in up_weaken b (suc x) m (omega arith) (up_behind (suc x) l m u.1)

parts_rise : (b : ℕ) (ls : List (List ℕ)) → Up b (gather (λ x. x) ls) → all rising ls ≡ true
unfolding all gather
parts_rise b [] u = refl
parts_rise b (l ∷ ls) u = and_true (up_rising b l (up_front b l (gather (λ x. x) ls) u)) (parts_rise b ls (up_behind b l (gather (λ x. x) ls) u))

cuts_rise : (k : Class) → rising (keys k.attributes) ≡ true → all rising (sections_of k) ≡ true
unfolding sections_of
cuts_rise k r = parts_rise 0 (sections_of k) (rw (sections_put_together_are_all (size_of k) [] (keys k.attributes)) (rising_up (keys k.attributes) r))

-- ---- a section of a table

module _ (cat : Catalogue) (wf : WellFormed cat) (t : Table) (k : ℕ) (p : Section) (e : nth (sections cat t) k ≡ some p) where
  -- it shows attributes of an instance that the table has
  pub what_it_shows_is_there : (n : ℕ) → among n p.shows ≡ true → Shown cat t p.of_class p.of_instance n
  what_it_shows_is_there n h = stands_shown cat wf t p.of_class p.of_instance n (what_one_shows_stands (sections cat t) k p e n h)

  -- in rising order, each of 1 to 16
  pub what_it_shows_rises : Within 1 p.shows
  unfolding attributes_rise numbered_1_to_16
  what_it_shows_rises = rising_within p.shows
      (all_nth (λ p. rising p.shows) (sections cat t) (each_section_passes cat (λ p. rising p.shows)
      (each_imp (λ c k. rising (keys k.attributes) ≡ true) (λ c k. (i : ℕ) → all rising (sections_of k) ≡ true) (λ c k r i. cuts_rise k r)
      cat.classes (each_of_every attributes_rise cat.classes wf.attributes_in_order)) t) k p e)
      (all_imp (λ n. among n p.shows) is_attribute
      (λ n h. attribute_says numbered_1_to_16 cat wf.numbers p.of_class n (what_it_shows_is_there n h).is_supported) p.shows (all_self p.shows))
