-- The slots and places of the products, byte by byte: the contents of the class that leads an entry, then zeros.
use Rattle.std.proofs.Common.{◌≡◌, ℕ, ◌≤◌, Bool, true, false, ◌&&◌, eqb, ltb, leb, List, [], ◌∷◌, length, take, drop, sym, refl, ap, ◌∙◌, arith, length-drop, take-append-drop, drop_of_length-le, length-take-le, take-suc, drop_at}
use lib.Dec.{leb-suc-zero, leb-suc-suc}
use lib.Seq.{drop-append-le}
use Rattle.rules.specs.Maps.{◌and◌, Map, keys, all, empty}
use Rattle.rules.specs.Bytes.{byte, two, are_bytes, all_zero}
use Rattle.rules.specs.Catalogue.{Class, Catalogue, class, is_created, family, ont_data}
use Rattle.rules.proofs.Laws.{never, both, and_true, true_and, bool_eq, eqb_true, eqb_eq, leb_le, lt-ltb, ltb_lt}
use Rattle.rules.proofs.MapLaws.{Each}
use Rattle.rules.proofs.Families.{family_classes}
use Rattle.rules.proofs.Conjunctions.{and_assoc, and_end, join_never}
use Rattle.rules.proofs.ByteLaws.{bytes_drop}
use Rattle.octets.proofs.Tests.{zeros_append}
use Rattle.store.specs.Layout.{ont_data_width, place_width, contents_width, family_width}
use Rattle.class_tables.specs.declared.Product.{Product}
use Rattle.class_tables.specs.declared.Product.TheVariants.{Small, Large, Meter}
use Rattle.class_tables.specs.Built.{cat_of, class_for, by_product, provisioned}
use Rattle.class_tables.specs.Lines.{lines_of, lines_in}
use Rattle.class_tables.specs.Computing.{computing_tables}
use Rattle.class_tables.proofs.EveryProduct.{well_formed_of, in_its_product, in_each, same_number, empty_none}
use Rattle.class_tests.specs.ContentTests.{judged_lines, all_pass, lines_test, contents_test, pointer_test, computing_tests}
use Rattle.class_tests.specs.Tests.{family_legal, family_test, entry_test, front_test, port_front}
use Rattle.class_tests.proofs.ContentsTested.{contents_tested}

-- nothing is left of a block that is full
pub none_left : (n : ℕ) (b : List ℕ) → length b ≡ n → all_zero (drop n b) ≡ true
unfolding all_zero all
none_left n b h = rw (drop_of_length-le b {i = n} (omega (arith, h)))

-- zeros from m on are zeros up to n and from there on
pub zeros_behind : (m n : ℕ) (b : List ℕ) → m ≤ n → n ≤ length b → (all_zero (drop m (take n b)) and all_zero (drop n b)) ≡ all_zero (drop m b)
zeros_behind m n b h k =
    let l : length (take n b) ≡ n = length-take-le n b k in
    sym (zeros_append (drop m (take n b)) (drop n b))
    ∙ ap all_zero (sym (drop-append-le m (take n b) (drop n b) (omega arith)) ∙ ap (λ (x : List ℕ). drop m x) (take-append-drop n b))

-- ---- the classes of a family

-- no content of these classes can fail
abbrev free : Product → List ℕ → Bool
free pr l = all (λ c. empty (judged_lines (cat_of pr) (lines_in (lines_of pr) c))) l

-- the class leads the family, and no content of the others can fail
abbrev led : Product → ℕ → Map Class → Bool
led pr c [] = false
led pr c (e ∷ l) = eqb c e.0 and free pr (keys l)

free_passes : (pr : Product) (c : ℕ) (b : List ℕ) → empty (judged_lines (cat_of pr) (lines_in (lines_of pr) c)) ≡ true → contents_test pr c b ≡ true
unfolding contents_test lines_test all_pass
free_passes pr c b h = rw (← empty_none (judged_lines (cat_of pr) (lines_in (lines_of pr) c)) h) refl

module _ (pr : Product) where
  free_legal : (l : Map Class) (b : List ℕ) → Each (λ c k. class_for pr c ≡ k) l → family_width l ≤ length b → are_bytes b ≡ true → free pr (keys l) ≡ true
      → family_legal (cat_of pr) l b ≡ true
  unfolding family_legal family_width keys all
  free_legal [] b cl w bs f = refl
  free_legal (e ∷ l) b cl w bs f =
      let room : contents_width (class_for pr e.0) ≤ length b = rw cl.0 (omega arith) in
      let first = contents_tested pr e.0 b room bs ∙ free_passes pr e.0 b (both f).0 in
      let n : ℕ = contents_width e.1 in
      let rest : family_width l ≤ length (drop n b) = simp length-drop (omega arith) in
      and_true (rw cl.0 at first) (free_legal l (drop n b) cl.1 rest (bytes_drop n b bs) (both f).1)

  led_legal : (c : ℕ) (l : Map Class) (b : List ℕ) → Each (λ c k. class_for pr c ≡ k) l → family_width l ≤ length b → are_bytes b ≡ true → led pr c l ≡ true
      → family_legal (cat_of pr) l b ≡ contents_test pr c b
  unfolding family_legal family_width
  led_legal c [] b cl w bs h = never h
  led_legal c (e ∷ l) b cl w bs h =
      let room : contents_width (class_for pr e.0) ≤ length b = rw cl.0 (omega arith) in
      let n : ℕ = contents_width e.1 in
      let rest : family_width l ≤ length (drop n b) = simp length-drop (omega arith) in
      rw (eqb_eq c e.0 (both h).0, ← contents_tested pr e.0 b room bs, cl.0, free_legal l (drop n b) cl.1 rest (bytes_drop n b bs) (both h).1) (and_end _)

-- what computes of a class: it leads its family so, and the family's contents have this width
abbrev pub wide : Product → ℕ → ℕ → Bool
wide pr c width = led pr c (family (cat_of pr) c) and eqb (family_width (family (cat_of pr) c)) width

module _ (pr : Product) (c width : ℕ) (b : List ℕ) (computed : wide pr c width ≡ true) (room : width ≤ length b) (bs : are_bytes b ≡ true) where
  its_width : family_width (family (cat_of pr) c) ≡ width
  its_width = eqb_eq (family_width (family (cat_of pr) c)) width (both computed).1

  legal_is : family_legal (cat_of pr) (family (cat_of pr) c) b ≡ contents_test pr c b
  legal_is = led_legal pr c (family (cat_of pr) c) b (family_classes (cat_of pr) (well_formed_of pr) c) (rw its_width room) bs (both computed).0

  pub family_is : family_test (cat_of pr) (family (cat_of pr) c) b ≡ (contents_test pr c b and all_zero (drop width b))
  unfolding family_test
  family_is = rw (legal_is, its_width) refl

  module _ (made : is_created (class_for pr c).creation ≡ true) where
    pub entry_is : entry_test (cat_of pr) c b ≡ (contents_test pr c b and all_zero (drop width b))
    entry_is = rw (made, true_and) family_is

    pub front_is : (w : ℕ) → front_test (cat_of pr) c w b ≡ (contents_test pr c b and all_zero (drop width (take w b)))
    unfolding front_test
    front_is w = rw (made, legal_is, its_width, true_and) refl

-- a product in which the class can't be created has no place of it
module _ (cat : Catalogue) (c : ℕ) (b : List ℕ) (never : is_created (class cat c).creation ≡ false) where
  pub no_entry : entry_test cat c b ≡ false
  unfolding ◌and◌
  no_entry = rw never refl

  pub no_front : (w : ℕ) → front_test cat c w b ≡ false
  unfolding front_test ◌and◌
  no_front w = rw never refl

-- nothing but the zeros from byte w on is left of an entry
fronted : (cat : Catalogue) (c w : ℕ) (b : List ℕ) → family_width (family cat c) ≤ w → w ≤ length b
    → entry_test cat c b ≡ (front_test cat c w b and all_zero (drop w b))
unfolding front_test family_test
fronted cat c w b narrow room =
    let made : Bool = is_created (class cat c).creation in
    let legal : Bool = family_legal cat (family cat c) b in
    let n : ℕ = family_width (family cat c) in
    rw (← zeros_behind n w b narrow room, ← and_assoc legal (all_zero (drop n (take w b))) (all_zero (drop w b)))
    (sym (and_assoc made (legal and all_zero (drop n (take w b))) (all_zero (drop w b))))

-- the places of the products, each with its own zeros
module _ (b : List ℕ) (h : length b ≡ place_width) (bs : are_bytes b ≡ true) where
  small_profile : entry_test (cat_of Small) 45 b ≡ (contents_test Small 45 b and all_zero (drop 31 b))
  small_profile = entry_is Small 45 31 b (unfold computing_tables computing_tests in refl) (omega arith) bs (unfold computing_tables in refl)

  large_profile : entry_test (cat_of Large) 45 b ≡ contents_test Large 45 b
  large_profile =
      entry_is Large 45 place_width b (unfold computing_tables computing_tests in refl) (omega arith) bs (unfold computing_tables in refl)
      ∙ rw (none_left place_width b h) (and_end (contents_test Large 45 b))

  same_profile : contents_test Large 45 b ≡ contents_test Small 45 b
  unfolding computing_tables computing_tests
  same_profile = refl

  -- by whether the contents fill their place
  module _ (pr : Product) {fills : Bool} (e : fills ≡ by_product pr false true false) where
    pub profile_filled : fills ≡ true → contents_test Large 45 b ≡ entry_test (cat_of pr) 45 b
    profile_filled = in_its_product (λ pr x. x ≡ true → contents_test Large 45 b ≡ entry_test (cat_of pr) 45 b) pr e
        ((λ t. never t), (λ t. sym large_profile), λ t. never t)

    pub profile_narrow : fills ≡ false → ((contents_test Large 45 b and provisioned pr) and all_zero (drop 31 b)) ≡ entry_test (cat_of pr) 45 b
    profile_narrow = in_its_product (λ pr x. x ≡ false → ((contents_test Large 45 b and provisioned pr) and all_zero (drop 31 b)) ≡ entry_test (cat_of pr) 45 b) pr e (
      (λ t. rw (same_profile, and_end (contents_test Small 45 b)) (sym small_profile)),
      (λ t. never (sym t)),
      (λ t. rw (no_entry (cat_of Meter) 45 b (unfold computing_tables in refl)) (unfold ◌and◌ in rw (join_never (contents_test Large 45 b)) refl)),
    )

  pub small_port : front_test (cat_of Small) 47 port_front b ≡ (contents_test Small 47 b and ltb (byte b 12) 1)
  unfolding all_zero all
  small_port =
      front_is Small 47 12 b (unfold computing_tables computing_tests in refl) (omega arith) bs (unfold computing_tables in refl) port_front
      ∙ rw (take-suc b 12 0 (omega arith), drop_at (take 12 b) (byte b 12 ∷ []) 12 (length-take-le 12 b (omega arith)), and_end (eqb (byte b 12) 0), none_or_some (byte b 12)) refl
    where
      none_or_some : (x : ℕ) → eqb x 0 ≡ ltb x 1
      none_or_some x = bool_eq (eqb x 0) (ltb x 1) (λ e. lt-ltb x 1 (omega (arith, eqb_eq x 0 e))) (λ e. eqb_true x 0 (omega (arith, ltb_lt x 1 e)))

  pub large_port : front_test (cat_of Large) 47 port_front b ≡ contents_test Large 47 b
  large_port =
      front_is Large 47 port_front b (unfold computing_tables computing_tests in refl) (omega arith) bs (unfold computing_tables in refl) port_front
      ∙ rw (none_left port_front (take port_front b) (length-take-le port_front b (omega arith))) (and_end (contents_test Large 47 b))

  -- the tests of the attributes before LANFCSInd
  abbrev tested : Product → Bool
  tested pr = (((pointer_test pr b && leb (two b 6) 255) && leb 1 (two b 8)) && leb (byte b 10) 1) && leb (byte b 11) 1

  -- by the number that LANFCSInd is below
  pub port_ended : (pr : Product) {end : ℕ} → end ≡ by_product pr 1 2 0 → (tested pr && ltb (byte b 12) end) ≡ front_test (cat_of pr) 47 port_front b
  port_ended pr e =
      in_its_product (λ pr end. (tested pr && ltb (byte b 12) end) ≡ front_test (cat_of pr) 47 port_front b) pr e (
        ◌∙◌ {b = contents_test Small 47 b && ltb (byte b 12) 1} (unfold computing_tables computing_tests in refl) (sym (unfold ◌and◌ in small_port)),
        rw (leb-suc-suc (byte b 12) 1) (◌∙◌ {b = contents_test Large 47 b} (unfold computing_tables computing_tests in refl) (sym large_port)),
        rw (leb-suc-zero (byte b 12), no_front (cat_of Meter) 47 b (unfold computing_tables in refl) port_front) (join_never (tested Meter)),
      )

pub port_parts : (pr : Product) (b : List ℕ) → length b ≡ place_width
    → entry_test (cat_of pr) 47 b ≡ (front_test (cat_of pr) 47 port_front b and all_zero (drop port_front b))
port_parts pr b l =
    let narrow = in_each (λ cat. leb (family_width (family cat 47)) port_front) (unfold computing_tables in refl) pr in
    fronted (cat_of pr) 47 port_front b (leb_le (family_width (family (cat_of pr) 47)) port_front narrow) (omega (arith, l))

-- ---- class 2: any byte is a legal counter

counter_free : (pr : Product) → free pr (keys (family (cat_of pr) ont_data)) ≡ true
unfolding computing_tables computing_tests
counter_free Small = refl
counter_free Large = refl
counter_free Meter = refl

counter_wide : (pr : Product) → family_width (family (cat_of pr) ont_data) ≡ ont_data_width
counter_wide pr = sym (same_number (λ cat. family_width (family cat ont_data)) {x = ont_data_width} (unfold computing_tables in refl) pr)

pub any_counter : (pr : Product) (x : List ℕ) → length x ≡ ont_data_width → are_bytes x ≡ true → family_test (cat_of pr) (family (cat_of pr) ont_data) x ≡ true
unfolding family_test
any_counter pr x len bs =
    let w = counter_wide pr in
    and_true (free_legal pr (family (cat_of pr) ont_data) x (family_classes (cat_of pr) (well_formed_of pr) ont_data) (omega (arith, len)) bs (counter_free pr))
    (rw w (none_left ont_data_width x len))
