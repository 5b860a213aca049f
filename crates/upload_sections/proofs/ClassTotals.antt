-- The sections of the instances of a class: how many there are, and the n-th.
use Prim.Native.Nat.{ℕ, ◌+◌, ◌*◌, ◌-◌, ◌/◌, ◌%◌, ◌≤◌, ◌<◌}
use native.Mathlib.Nat.{mul-zero, mul-le-mul, mod-lt, div-lt_iff_lt-mul}
use native.Mathlib.Omega.{arith}
use mathlib.Core.Path.{◌≡◌, refl, sym, ◌∙◌, ap}
use mathlib.Core.Option.{Option, none, some}
use mathlib.Core.List.{List, []}
use lib.ListN.{length, drop, get_or, length-map}
use lib.Dec.{ltb}
use Rattle.rules.specs.Maps.{given, nth, gather, keys, all, rising, ◌and◌}
use Rattle.rules.specs.Masks.{named, mask}
use Rattle.rules.specs.Catalogue.{leader}
use Rattle.rules.specs.Walks as rules
use Rattle.rules.specs.Walks.{sections_of}
use Rattle.rules.proofs.Laws.{cases, both, same?, ltb_lt, ltb_le}
use Rattle.rules.proofs.MapLaws.{length_gather}
use Rattle.class_tables.specs.Built.{cat_of, class_for}
use Rattle.table.specs.Places.{InShape, keys_in}
use Rattle.upload_sections.specs.Sections.{numbers_in, instance_sections, class_sections, sections_in}
use Rattle.class_tables.proofs.Facts.{few_sections, sections_in_order}
use Rattle.upload_sections.proofs.EntryLaws.{all_keys, numbers_are, numbers_length, led_few, few_entries}
use Rattle.upload_sections.proofs.Gathered.{nth_there, all_at, nth_gather, counted_more, within_this, past_this, past_all, gather_end}
use Rattle.class_tables.specs.declared.Product.{Product}
use Rattle.bits.proofs.Masks.{named_mask, rising_within, is_attribute}
use Rattle.store.specs.Layout.{slot_count, place_count}
use Rattle.std.specs.Prelude.{slice_get, Some, None}
use Rattle.std.proofs.lemmas.Option.{none-some, slice_get-get_or, slice_get_within, get_or_from_slice_get}

-- the section with these attributes
abbrev pub shown : ℕ → ℕ → List ℕ → rules.Section
shown c i s = record { of_class = c; of_instance = i; shows = s }

module _ (pr : Product) (c : ℕ) where
  abbrev pub its_sections : List (List ℕ)
  its_sections = sections_of (class_for pr c)

  -- a section's mask names its attributes
  mask_shows : (n : ℕ) {m : ℕ} → n < length its_sections → m ≡ given (nth its_sections n) 0 mask → named m ≡ get_or its_sections n []
  mask_shows n {m} lt e =
      let t : m ≡ mask (get_or its_sections n []) = e ∙ ap (λ (o : Option (List ℕ)). given o 0 mask) (nth_there [] its_sections n lt) in
      let in_order = both (all_at (λ s. rising s and all is_attribute s) [] its_sections n (sections_in_order pr c) lt) in
      ap named t ∙ named_mask (get_or its_sections n []) (rising_within (get_or its_sections n []) in_order.0 in_order.1)

  module _ (b : List ℕ) where
    abbrev its_numbers : List ℕ
    its_numbers = numbers_in (cat_of pr) (keys_in b) c

    pub class_length : length (class_sections (cat_of pr) (keys_in b) c) ≡ length its_numbers * length its_sections
    unfolding class_sections instance_sections
    class_length = length_gather (instance_sections (cat_of pr) c) (length its_sections) (λ i. length-map its_sections (shown c i)) its_numbers

    pub class_total_is : {i s : ℕ} → i ≡ length its_numbers → s ≡ length its_sections → i * s ≡ length (class_sections (cat_of pr) (keys_in b) c)
    class_total_is e f = rw (e, f) (sym class_length)

    few_numbers : InShape b → length its_numbers ≤ slot_count + place_count
    few_numbers s =
        let d = ap length (numbers_are pr b c refl) in
        let e = numbers_length (leader (cat_of pr) c) (all_keys pr b) in
        let f = led_few (leader (cat_of pr) c) (all_keys pr b) in
        let g = few_entries pr b s in
        omega arith

    pub class_few : InShape b → length (class_sections (cat_of pr) (keys_in b) c) ≤ (slot_count + place_count) * 16
    class_few s =
        let z : length its_numbers * length its_sections ≤ (slot_count + place_count) * 16 = mul-le-mul (few_numbers s) (few_sections pr c) in
        let e = class_length in
        omega arith

    -- the n-th
    module _ (n each : ℕ) (q : each ≡ length its_sections) (h : n < length (class_sections (cat_of pr) (keys_in b) c)) where
      pub some_each : 0 < each
      some_each = same? each 0
          (λ z.
          let y : length its_sections ≡ 0 = omega arith in
          let e : length (class_sections (cat_of pr) (keys_in b) c) ≡ 0 = class_length ∙ ap (λ (k : ℕ). length its_numbers * k) y ∙ mul-zero (length its_numbers) in
          absurd (omega arith))
          (λ z. omega arith)

      pub instance_there : n / each < length its_numbers
      instance_there = (div-lt_iff_lt-mul some_each).1 (let z = class_length in rw q (omega arith))

      pub class_nth : {i m : ℕ} → i ≡ get_or its_numbers (n / each) 0 → m ≡ given (nth its_sections (n % each)) 0 mask
          → some (shown c i (named m)) ≡ nth (class_sections (cat_of pr) (keys_in b) c) n
      unfolding class_sections instance_sections
      class_nth {i} {m} e f =
          let lt : n % each < length its_sections = let z = mod-lt n {m = each} some_each in omega arith in
          let s : named m ≡ get_or its_sections (n % each) [] = mask_shows (n % each) lt f in
          let p : 0 < length its_sections = let z = some_each in omega arith in
          let all : n < length its_numbers * length its_sections = let z = class_length in omega arith in
          let there = nth_gather (shown c) [] its_sections its_numbers n p all in
          ap (λ (k : ℕ). some (shown c k (named m))) e ∙ ap (λ (k : List ℕ). some (shown c (get_or its_numbers (n / each) 0) k)) s
          ∙ ap (λ (k : ℕ). some (shown c (get_or its_numbers (n / k) 0) (get_or its_sections (n % k) []))) q ∙ sym there

-- ---- class by class

module _ (pr : Product) (b : List ℕ) where
  abbrev pub class_list : List ℕ
  class_list = keys (cat_of pr).classes

  pub no_more_classes : (j : ℕ) → None ≡ slice_get class_list j → length class_list ≤ j
  no_more_classes j e = cases (ltb j (length class_list))
      (λ t. absurd (none-some _ (e ∙ slice_get-get_or class_list j 0 (ltb_lt j (length class_list) t))))
      (λ t. ltb_le j (length class_list) t)

  -- the sections of the classes from the j-th on
  abbrev pub sections_on : ℕ → List rules.Section
  sections_on j = gather (class_sections (cat_of pr) (keys_in b)) (drop j class_list)

  pub all_sections : sections_on 0 ≡ sections_in (cat_of pr) (keys_in b)
  unfolding sections_in
  all_sections = refl

  module _ (j : ℕ) {d m : ℕ} (e : Some d ≡ slice_get class_list j) (f : m ≡ length (class_sections (cat_of pr) (keys_in b) d)) where
    h : j < length class_list
    h = slice_get_within class_list j d (sym e)

    its_class : d ≡ get_or class_list j 0
    its_class = sym (get_or_from_slice_get class_list j d 0 (sym e))

    its_length : m ≡ length (class_sections (cat_of pr) (keys_in b) (get_or class_list j 0))
    its_length = f ∙ ap (λ (k : ℕ). length (class_sections (cat_of pr) (keys_in b) k)) its_class

    pub total_more : length (sections_on j) ≡ m + length (sections_on (j + 1))
    total_more = counted_more (class_sections (cat_of pr) (keys_in b)) class_list j h ∙ ap (λ (k : ℕ). k + length (sections_on (j + 1))) (sym its_length)

    pub in_this_class : (left : ℕ) {x o : Option rules.Section} → nth (sections_on j) left ≡ x → left < m → o ≡ nth (class_sections (cat_of pr) (keys_in b) d) left → o ≡ x
    in_this_class left q lt w =
        w ∙ ap (λ (k : ℕ). nth (class_sections (cat_of pr) (keys_in b) k) left) its_class
        ∙ within_this (class_sections (cat_of pr) (keys_in b)) class_list j left q h (let z = its_length in omega arith)

    pub in_a_later_class : (left : ℕ) {x : Option rules.Section} → nth (sections_on j) left ≡ x → m ≤ left → nth (sections_on (j + 1)) (left - m) ≡ x
    in_a_later_class left q le = past_this (class_sections (cat_of pr) (keys_in b)) class_list j left q h m its_length le

  pub none_counted : (j : ℕ) → length class_list ≤ j → length (sections_on j) ≡ 0
  none_counted j h = ap length (gather_end (class_sections (cat_of pr) (keys_in b)) class_list j h)

  pub in_no_class : (j left : ℕ) {x : Option rules.Section} → nth (sections_on j) left ≡ x → length class_list ≤ j → none ≡ x
  in_no_class j left q h = past_all (class_sections (cat_of pr) (keys_in b)) class_list j left q h
