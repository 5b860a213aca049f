-- The classes of the products: which there are, what leads them and what comes with them.
use Prim.Native.Nat.{ℕ, ◌+◌, ◌≤◌, ◌<◌}
use native.Mathlib.Omega.{arith}
use mathlib.Core.Path.{◌≡◌, refl, sym, ◌∙◌, ap}
use mathlib.Core.Bool.{true, false}
use mathlib.Core.List.{List, [], ◌∷◌, map}
use lib.ListN.{length, drop}
use Rattle.std.specs.Prelude.{Option, Some, None, slice_get}
use Rattle.std.proofs.lemmas.Option.{slice_get_past}
use lib.Dec.{eqb, leb}
use Rattle.rules.specs.Maps.{◌and◌, rising, keys, among, all, same, empty}
use Rattle.rules.specs.Catalogue.{known, no_class, attribute, supported, size_of, is_stored, stored_numbers, is_created, lead, leader, family, class, ont_data, Catalogue}
use Rattle.rules.specs.WellFormed.{of_1_to_25_bytes, implies, computing_well_formed}
use Rattle.rules.proofs.Laws.{both, eqb_true, eqb_eq, leb_le, same_eq, has_among, all_among, among_here, cases, or_right, eqb_false}
use Rattle.rules.proofs.Lookups.{implied, created_known, unknown_class, attribute_says}
use Rattle.rules.proofs.Lookups as lookups
use Rattle.rules.proofs.Families.{unknown_family, in_family, family_by_numbers, numbered, family_rises}
use Rattle.store.specs.Layout.{place_count, place_width, contents_width}
use Rattle.store.specs.Positions.{before, inside}
use Rattle.class_tables.specs.declared.Product.{Product}
use Rattle.class_tables.specs.declared.Product.TheVariants as built
use Rattle.class_tables.specs.Built.{cat_of, class_for, by_product}
use Rattle.class_tables.specs.Describes.{offset_of}
use Rattle.class_tables.specs.Families.{Companion}
use Rattle.class_tables.specs.Computing.{computing_tables}
use Rattle.class_tables.proofs.Matches.{Avoids, not_there}
use Rattle.class_tables.proofs.EveryProduct.{well_formed_of, in_its_product, Passed, in_each, same_number, Each, elsewhere, of_known, of_each, empty_none}
use Rattle.rules.proofs.MapLaws.{Up, rising_up}

-- ---- which there are

-- the class at one of these places, and none past the last
pub class_there : (i : ℕ) {j : ℕ} {x small large meter : Option ℕ} (pr : Product) → j ≡ i → x ≡ by_product pr small large meter
    → (small ≡ slice_get (keys (cat_of built.Small).classes) i) × (large ≡ slice_get (keys (cat_of built.Large).classes) i) × (meter ≡ slice_get (keys (cat_of built.Meter).classes) i)
    → x ≡ slice_get (keys (cat_of pr).classes) j
class_there i pr e g h = rw e (in_its_product (λ pr x. x ≡ slice_get (keys (cat_of pr).classes) i) pr g h)

pub no_class_there : (n : ℕ) (pr : Product) (j : ℕ) → n ≤ j → Passed (λ cat. leb (length (keys cat.classes)) n) → None ≡ slice_get (keys (cat_of pr).classes) j
no_class_there n pr j h g =
    let few : length (keys (cat_of pr).classes) ≤ n = leb_le (length (keys (cat_of pr).classes)) n (in_each (λ cat. leb (length (keys cat.classes)) n) g pr) in
    sym (slice_get_past (keys (cat_of pr).classes) j (omega arith))

pub is_known : (c : ℕ) {m : ℕ} (pr : Product) → m ≡ c → Passed (λ cat. known cat c) → true ≡ known (cat_of pr) m
is_known c pr e h = rw e (sym (in_each (λ cat. known cat c) h pr))

-- a number that isn't listed is no class's, if all classes are
pub not_known : (pr : Product) (c : ℕ) (listed : List ℕ) → Avoids c listed → Passed (λ cat. all (λ d. among d listed) (keys cat.classes)) → known (cat_of pr) c ≡ false
not_known pr c listed a h =
    has_among c (cat_of pr).classes
    ∙ not_there c listed (keys (cat_of pr).classes) a (in_each (λ cat. all (λ d. among d listed) (keys cat.classes)) h pr)

-- ---- leaders and families

-- a class that comes with no other
pub leads_itself : (pr : Product) (c : ℕ) (listed : List ℕ) → Avoids c listed → Each listed (λ cat d k. eqb (lead d k.creation) d) → c ≡ leader (cat_of pr) c
unfolding no_class
leads_itself pr c listed a h = sym (eqb_eq (leader (cat_of pr) c) c
    (elsewhere (λ cat d k. eqb (lead d k.creation) d) pr c listed a h (λ e. rw (unknown_class (cat_of pr) c e) (eqb_true c c refl))))

unknown_in_no_family : (pr : Product) (c : ℕ) → known (cat_of pr) c ≡ false → family (cat_of pr) (leader (cat_of pr) c) ≡ []
unfolding no_class
unknown_in_no_family pr c e = rw (unknown_class (cat_of pr) c e) (unknown_family (cat_of pr) (well_formed_of pr) c e)

pub unknown_inside : (pr : Product) (c : ℕ) → known (cat_of pr) c ≡ false → inside (cat_of pr) c ≡ 0
unfolding before
unknown_inside pr c e = rw (unknown_in_no_family pr c e) refl

-- one whose contents come first in their entry
pub starts_at_0 : (pr : Product) (c : ℕ) (listed : List ℕ) → Avoids c listed → Each listed (λ cat d k. eqb (inside cat d) 0) → 0 ≡ inside (cat_of pr) c
starts_at_0 pr c listed a h = sym (eqb_eq (inside (cat_of pr) c) 0
    (elsewhere (λ cat d k. eqb (inside cat d) 0) pr c listed a h
    (λ e. eqb_true (inside (cat_of pr) c) 0 (unknown_inside pr c e))))

-- a class that nothing comes with
pub alone : (pr : Product) (c : ℕ) (listed : List ℕ) → Avoids c listed → Each listed (λ cat d k. empty (drop 1 (keys (family cat d)))) → Companion pr c None
unfolding keys
alone pr c listed a h = empty_none (drop 1 (keys (family (cat_of pr) c)))
    (elsewhere (λ cat d k. empty (drop 1 (keys (family cat d)))) pr c listed a h
    (λ e. rw (unknown_family (cat_of pr) (well_formed_of pr) c e) refl))

-- a created class is the first of its family
pub leads_its_family : (pr : Product) (c : ℕ) → is_created (class_for pr c).creation ≡ true
    → keys (family (cat_of pr) c) ≡ c ∷ drop 1 (keys (family (cat_of pr) c))
leads_its_family pr c cr =
    let l : List ℕ = keys (family (cat_of pr) c) in
    same_eq l (c ∷ drop 1 l)
    (implied
    (of_known (λ cat d k. implies (is_created k.creation) (same (keys (family cat d)) (d ∷ drop 1 (keys (family cat d)))))
    (unfold computing_tables computing_well_formed in refl) pr c (created_known (cat_of pr) c cr))
    cr)

-- ---- a created class, and the one that comes with it

module _ (pr : Product) (c : ℕ) (cr : is_created (class_for pr c).creation ≡ true) where
  abbrev cat : Catalogue
  cat = cat_of pr

  pub family_led : family cat c ≡ map (numbered cat) (c ∷ drop 1 (keys (family cat c)))
  family_led = family_by_numbers cat (well_formed_of pr) c ∙ ap (map (numbered cat)) (leads_its_family pr c cr)

  -- its contents come first in their entry
  pub leader_in_front : inside cat c ≡ 0
  unfolding before
  leader_in_front =
      let led : leader cat c ≡ c = (in_family cat (well_formed_of pr) c c (rw (leads_its_family pr c cr) (among_here c (drop 1 (keys (family cat c)))))).1 in
      rw (led, family_led, eqb_true c c refl) refl

  module _ (d : ℕ) (q : Companion pr c (Some d)) where
    pair_is : keys (family cat c) ≡ c ∷ d ∷ []
    pair_is = leads_its_family pr c cr ∙ ap (λ (l : List ℕ). c ∷ l) (sym q)

    pub companion_led : leader cat d ≡ c
    unfolding among
    companion_led = (in_family cat (well_formed_of pr) c d (rw pair_is (or_right (eqb d c) (among_here d [])))).1

    companion_later : c < d
    companion_later = let u : Up 0 (c ∷ d ∷ []) = rising_up (c ∷ d ∷ []) (rw pair_is at (family_rises cat (well_formed_of pr) c)) in u.1.0

    -- its contents follow
    pub companion_follows : inside cat d ≡ contents_width (class_for pr c)
    unfolding before
    companion_follows =
        let later = companion_later in
        rw (companion_led, family_by_numbers cat (well_formed_of pr) c, pair_is, eqb_false d c (omega arith), eqb_true d d refl) (omega arith)

    pub companion_not_created : is_created (class_for pr d).creation ≡ false
    companion_not_created = cases (is_created (class_for pr d).creation)
        (λ e.
        let itself : leader cat d ≡ d = lookups.leads_itself d (class_for pr d).creation e in
        let led = companion_led in
        let later = companion_later in
        absurd (omega arith))
        (λ e. e)

-- ---- widths and sizes

-- an instance's contents are within their entry
pub inside_fits : (pr : Product) (c : ℕ) → inside (cat_of pr) c + contents_width (class_for pr c) ≤ place_width
inside_fits pr c = leb_le (inside (cat_of pr) c + contents_width (class_for pr c)) place_width
    (elsewhere (λ cat d k. leb (inside cat d + contents_width k) place_width) pr c [] tt (unfold computing_tables in refl)
    (λ e. rw (unknown_inside pr c e, unknown_class (cat_of pr) c e) (unfold computing_tables in refl)))

-- an attribute that is there has a size
pub sized_if_there : (pr : Product) (c n : ℕ) → supported (class_for pr c) n ≡ true → 0 < size_of (class_for pr c) n
unfolding of_1_to_25_bytes
sized_if_there pr c n h =
    let g : 1 ≤ size_of (class_for pr c) n =
    leb_le 1 (size_of (class_for pr c) n) (both (attribute_says of_1_to_25_bytes (cat_of pr) (well_formed_of pr).sizes c n h)).0 in
    omega arith

-- ---- attributes

pub attributes_rising : (pr : Product) (c : ℕ) → rising (keys (class_for pr c).attributes) ≡ true
attributes_rising pr c = of_each (λ k. rising (keys k.attributes)) (unfold computing_tables in (refl, refl)) pr c

-- the stored ones are there, and stored
pub stored_there : (pr : Product) (c n : ℕ) → among n (stored_numbers (class_for pr c)) ≡ true
    → (supported (class_for pr c) n ≡ true) × (is_stored (attribute (class_for pr c) n).source ≡ true)
stored_there pr c n s =
    both (all_among (λ m. supported (class_for pr c) m and is_stored (attribute (class_for pr c) m).source) (stored_numbers (class_for pr c))
    (of_each (λ k. all (λ m. supported k m and is_stored (attribute k m).source) (stored_numbers k)) (unfold computing_tables in (refl, refl)) pr c) n s)

-- ---- places

pub places_are : (pr : Product) → (cat_of pr).places ≡ place_count
places_are pr = sym (same_number (λ cat. cat.places) {x = place_count} (unfold computing_tables in refl) pr)

-- ---- class 2: the counter is the first of what it stores

module _ (pr : Product) where
  pub counter_stored : among 1 (stored_numbers (class_for pr ont_data)) ≡ true
  counter_stored = in_each (λ cat. among 1 (stored_numbers (class cat ont_data))) (unfold computing_tables in refl) pr

  pub counter_size : size_of (class_for pr ont_data) 1 ≡ 1
  counter_size = (well_formed_of pr).class_2_has_the_counter.one_byte

  pub counter_first : offset_of (class_for pr ont_data) 1 ≡ 0
  counter_first = sym (same_number (λ cat. offset_of (class cat ont_data) 1) {x = 0} (unfold computing_tables in refl) pr)

  pub counter_in_front : inside (cat_of pr) ont_data ≡ 0
  counter_in_front = sym (same_number (λ cat. inside cat ont_data) {x = 0} (unfold computing_tables in refl) pr)
