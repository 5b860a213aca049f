-- What holds of every class of every product, whatever its number: one test each, computed over all that are built.
use Prim.Native.Nat.{ℕ, ◌+◌, ◌≤◌, ◌<◌}
use mathlib.Core.Path.{◌≡◌, refl}
use mathlib.Core.Bool.{true, false, not, Bool}
use mathlib.Core.List.{List, []}
use lib.ListN.{length}
use lib.Dec.{eqb, ltb, leb}
use Rattle.rules.specs.Maps.{◌and◌, ◌or◌, keys, every, rising, among, all, same, keep}
use Rattle.rules.specs.Masks.{mask, total}
use Rattle.rules.specs.Catalogue.{constant, copied, Source, stored, of_creator, count_of, Class, Catalogue, class, attribute, supported, size_of, stored_numbers}
use Rattle.rules.specs.Catalogue.{carried_numbers, is_created, leader, no_class}
use Rattle.rules.specs.Walks.{sections_of}
use Rattle.rules.proofs.Laws.{or_cases, or_right, eqb_true, true_false, not-true, same_eq, both, eqb_eq, leb_le, ltb_lt, all_among}
use Rattle.rules.proofs.Lookups.{unknown_class}
use Rattle.bits.proofs.Masks.{Within, is_attribute, rising_within}
use Rattle.store.specs.Layout.{place_width, contents_width}
use Rattle.store.specs.Positions.{inside}
use Rattle.class_tables.specs.declared.Product.{Product}
use Rattle.class_tables.specs.Built.{cat_of, class_for, most_classes}
use Rattle.class_tables.specs.Masks.{writable_numbers}
use Rattle.class_tables.specs.Computing.{computing_tables}
use Rattle.class_tables.proofs.EveryProduct.{in_each, PassedBy, of_each, elsewhere}
use Rattle.class_tables.proofs.ClassLaws.{unknown_inside}

-- ---- lists of attributes: in order, numbered 1 to 16

within_of : (f : Class → List ℕ) → PassedBy [] (λ k. rising (f k) and all is_attribute (f k)) → (pr : Product) (c : ℕ) → Within 1 (f (class_for pr c))
within_of f h pr c =
    let t = both (of_each (λ k. rising (f k) and all is_attribute (f k)) h pr c) in
    rising_within (f (class_for pr c)) t.0 t.1

module _ (pr : Product) (c : ℕ) where
  abbrev k : Class
  k = class_for pr c

  pub supported_within : Within 1 (keys k.attributes)
  supported_within = within_of (λ k. keys k.attributes) (unfold computing_tables in (refl, refl)) pr c

  pub stored_within : Within 1 (stored_numbers k)
  stored_within = within_of stored_numbers (unfold computing_tables in (refl, refl)) pr c

  pub carried_within : Within 1 (carried_numbers k)
  carried_within = within_of carried_numbers (unfold computing_tables in (refl, refl)) pr c

  pub writable_within : Within 1 (writable_numbers k)
  writable_within = within_of writable_numbers (unfold computing_tables in (refl, refl)) pr c

  -- ---- what is carried or can be written is stored

  pub carried_stored : all (λ n. among n (stored_numbers k)) (carried_numbers k) ≡ true
  carried_stored = of_each (λ k. all (λ n. among n (stored_numbers k)) (carried_numbers k)) (unfold computing_tables in (refl, refl)) pr c

  pub writable_stored : all (λ n. among n (stored_numbers k)) (writable_numbers k) ≡ true
  writable_stored = of_each (λ k. all (λ n. among n (stored_numbers k)) (writable_numbers k)) (unfold computing_tables in (refl, refl)) pr c

  pub contents_fit : contents_width k ≤ place_width
  contents_fit = leb_le (contents_width k) place_width (of_each (λ k. leb (contents_width k) place_width) (unfold computing_tables in (refl, refl)) pr c)

  -- ---- what a Create carries

  pub carried_fit : total (size_of k) (carried_numbers k) ≤ 32
  carried_fit = leb_le (total (size_of k) (carried_numbers k)) 32
      (of_each (λ k. leb (total (size_of k) (carried_numbers k)) 32) (unfold computing_tables in (refl, refl)) pr c)

  -- of a class that can be created, it is all that is stored
  pub all_carried : is_created k.creation ≡ true → carried_numbers k ≡ stored_numbers k
  all_carried cr =
      or_cases (of_each (λ k. not (is_created k.creation) or same (carried_numbers k) (stored_numbers k)) (unfold computing_tables in (refl, refl)) pr c)
      (λ e. true_false cr (not-true e)) (λ e. same_eq (carried_numbers k) (stored_numbers k) e)

  -- the bits of what isn't kept are others than those of what is
  pub bits_apart : mask (carried_numbers k) + mask (keys k.unkept) < 65536
  bits_apart = ltb_lt (mask (carried_numbers k) + mask (keys k.unkept)) 65536
      (of_each (λ k. ltb (mask (carried_numbers k) + mask (keys k.unkept)) 65536) (unfold computing_tables in (refl, refl)) pr c)

  -- what isn't kept has an attribute number, and follows within the 32 bytes
  pub unkept_fits : every (λ n z. leb 1 n and leb n 16 and leb (total (size_of k) (carried_numbers k) + z) 32) k.unkept ≡ true
  unkept_fits = of_each (λ k. every (λ n z. leb 1 n and leb n 16 and leb (total (size_of k) (carried_numbers k) + z) 32) k.unkept)
      (unfold computing_tables in (refl, refl)) pr c

  -- ---- the sections that it is cut into

  pub few_sections : length (sections_of k) ≤ 16
  few_sections = leb_le (length (sections_of k)) 16 (of_each (λ k. leb (length (sections_of k)) 16) (unfold computing_tables in (refl, refl)) pr c)

  pub sections_in_order : all (λ s. rising s and all is_attribute s) (sections_of k) ≡ true
  sections_in_order = of_each (λ k. all (λ s. rising s and all is_attribute s) (sections_of k)) (unfold computing_tables in (refl, refl)) pr c

  -- each shows attributes that the class has, in at most 26 bytes
  pub sections_fit : all (λ s. all (λ n. supported k n) s and leb (total (size_of k) s) 26) (sections_of k) ≡ true
  sections_fit = of_each (λ k. all (λ s. all (λ n. supported k n) s and leb (total (size_of k) s) 26) (sections_of k)) (unfold computing_tables in (refl, refl)) pr c

-- ---- how many classes there are

pub few_classes : (pr : Product) → length (keys (cat_of pr).classes) ≤ most_classes
few_classes pr =
    leb_le (length (keys (cat_of pr).classes)) most_classes (in_each (λ cat. leb (length (keys cat.classes)) most_classes) (unfold computing_tables in refl) pr)

-- no class has the number 0, which stands for none
pub numbered_above_0 : (pr : Product) → all (λ c. ltb 0 c) (keys (cat_of pr).classes) ≡ true
numbered_above_0 pr = in_each (λ cat. all (λ c. ltb 0 c) (keys cat.classes)) (unfold computing_tables in refl) pr

-- ---- what concerns another class too

-- an entry's contents begin with the instance's, unless it can be created
pub first_or_made : (pr : Product) (c : ℕ) → is_created (class_for pr (leader (cat_of pr) c)).creation ≡ false → inside (cat_of pr) c ≡ 0
first_or_made pr c au = or_cases
    (elsewhere (λ cat d k. is_created (class cat (leader cat d)).creation or eqb (inside cat d) 0) pr c [] tt (unfold computing_tables in refl)
    (λ e. or_right (is_created (class_for pr (leader (cat_of pr) c)).creation) (eqb_true (inside (cat_of pr) c) 0 (unknown_inside pr c e))))
    (λ t. true_false t au)
    (λ t. eqb_eq (inside (cat_of pr) c) 0 t)

-- what is copied into a first content is stored with the leading instance
abbrev copies_one_of : List ℕ → Source → Bool
copies_one_of l (stored (constant v)) = true
copies_one_of l (stored (copied m)) = among m l
copies_one_of l (of_creator a) = true
copies_one_of l (count_of d a) = true

pub copied_stored : (pr : Product) (c n m : ℕ) → among n (stored_numbers (class_for pr c)) ≡ true → (attribute (class_for pr c) n).source ≡ stored (copied m)
    → among m (stored_numbers (class_for pr (leader (cat_of pr) c))) ≡ true
unfolding no_class stored_numbers keep keys all
copied_stored pr c n m h e =
    let q : Catalogue → ℕ → Class → Bool = λ cat d k. all (λ i. copies_one_of (stored_numbers (class cat (leader cat d))) (attribute k i).source) (stored_numbers k) in
    rw e at (all_among (λ i. copies_one_of (stored_numbers (class_for pr (leader (cat_of pr) c))) (attribute (class_for pr c) i).source) (stored_numbers (class_for pr c))
    (elsewhere q pr c [] tt (unfold computing_tables in refl) (λ u. rw (unknown_class (cat_of pr) c u) refl)) n h)
