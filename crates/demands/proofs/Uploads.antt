-- Demand 2: an upload shows every attribute of every instance once, in sections that fit, and its answer has their number.
use Prim.Native.Nat.{ℕ, zero, suc, ◌+◌, ◌≤◌}
use native.Mathlib.Omega.{arith}
use mathlib.Core.Path.{◌≡◌, refl, sym, ◌∙◌, ap}
use mathlib.Core.Bool.{Bool, true, false}
use mathlib.Core.Option.{some}
use mathlib.Core.List.{List, [], ◌∷◌, ◌++◌, map, append_assoc}
use lib.ListN.{length, length-append}
use lib.Dec.{leb}
use Rattle.rules.specs.Maps.{◌and◌, Map, find, keys, every, rising, gather, all, nth}
use Rattle.rules.specs.Bytes.{two, bytes}
use Rattle.rules.specs.Masks.{total}
use Rattle.rules.specs.Catalogue.{Source, stored, of_creator, count_of, no_attribute, is_stored, leader, supported, Attribute, Class, Catalogue, class, attribute, size_of}
use Rattle.rules.specs.State.{Table, State, contents, content, how_many_name, read_from, read}
use Rattle.rules.specs.Legal.{automatic_keys, legal_frozen, legal_state}
use Rattle.rules.specs.Commands.{values}
use Rattle.rules.specs.Walks.{if_ont_data, sections_from, sections_of, Section, instances_of, sections, frozen, upload}
use Rattle.rules.specs.WellFormed.{WellFormed, of_1_to_25_bytes, attributes_rise, readable_from, read_in_one_of_two_ways}
use Rattle.rules.proofs.Laws.{cases, true_false, eqb_eq, both, and_true, leb_le, le-leb, all_append}
use Rattle.rules.proofs.MapLaws.{some_eq, none_some, Each, each_of_every, each_both, each_imp, each_found, rising_up}
use Rattle.rules.proofs.Lookups.{found_class, found_attribute, unknown_attribute, attribute_says}
use Rattle.rules.proofs.Families.{classes_found}
use Rattle.legality.proofs.Tables.{LegalTable, open_table, close_table, frozen_legal}
use Rattle.legality.proofs.Counter.{stored_value}
use Rattle.legality.proofs.LegalStates.{open_state}
use Rattle.extending.proofs.Cuts.{total_append}
use Rattle.extending.proofs.Sections.{sections_put_together_are_all}
use Rattle.rules.proofs.ByteLaws.{length_bytes, two_of_bytes}

-- ---- lists gathered from lists

module _ {A B : Type 0} where
  gather_append : (f : A → List B) (l m : List A) → gather f (l ++ m) ≡ gather f l ++ gather f m
  unfolding gather
  gather_append f [] m = refl
  gather_append f (a ∷ l) m = ap (λ (y : List B). f a ++ y) (gather_append f l m) ∙ sym (append_assoc (f a) (gather f l) (gather f m))

  gather_same : (f g : A → List B) → ((a : A) → f a ≡ g a) → (l : List A) → gather f l ≡ gather g l
  unfolding gather
  gather_same f g h [] = refl
  gather_same f g h (a ∷ l) = λ k. h a k ++ gather_same f g h l k

  map_append : (f : A → B) (l m : List A) → map f (l ++ m) ≡ map f l ++ map f m
  map_append f [] m = refl
  map_append f (a ∷ l) m = ap (λ (y : List B). f a ∷ y) (map_append f l m)

  -- each list changed, then put together, or put together and then changed
  gather_map_each : (f : A → B) (l : List (List A)) → gather (map f) l ≡ map f (gather (λ x. x) l)
  unfolding gather
  gather_map_each f [] = refl
  gather_map_each f (x ∷ l) = ap (λ (y : List B). map f x ++ y) (gather_map_each f l) ∙ sym (map_append f x (gather (λ x. x) l))

gather_gather : {A B C : Type 0} (f : B → List C) (g : A → List B) (l : List A) → gather f (gather g l) ≡ gather (λ a. gather f (g a)) l
unfolding gather
gather_gather f g [] = refl
gather_gather {C = C} f g (a ∷ l) = gather_append f (g a) (gather g l) ∙ ap (λ (y : List C). gather f (g a) ++ y) (gather_gather f g l)

gather_map : {A B C : Type 0} (f : B → List C) (g : A → B) (l : List A) → gather f (map g l) ≡ gather (λ a. f (g a)) l
unfolding gather
gather_map f g [] = refl
gather_map {C = C} f g (a ∷ l) = ap (λ (y : List C). f (g a) ++ y) (gather_map f g l)

-- ---- what the sections show

-- what sections show, in order: class, instance and attribute
unfoldable pub shown_by : List Section → List (ℕ × ℕ × ℕ)
shown_by l = gather (λ p. map (λ n. (p.of_class, p.of_instance, n)) p.shows) l

-- every attribute of every instance: by class, then number, then attribute
unfoldable pub all_attributes : Catalogue → Table → List (ℕ × ℕ × ℕ)
all_attributes cat t = gather (λ e. gather (λ i. map (λ n. (e.0, i, n)) (keys e.1.attributes)) (instances_of e.0 e.1 t)) cat.classes

-- What the sections show is the list of every attribute of every instance, by class, then number, then attribute, each taken once: in any
-- catalogue, of any table. (That no attribute is in that list twice is proved in UploadsOnce.)
pub each_attribute_is_shown_once : (cat : Catalogue) (t : Table) → shown_by (sections cat t) ≡ all_attributes cat t
unfolding shown_by all_attributes sections sections_of
each_attribute_is_shown_once cat t =
    gather_gather show (λ e. gather (λ i. cuts e i) (instances_of e.0 e.1 t)) cat.classes
    ∙ gather_same (λ e. gather show (gather (λ i. cuts e i) (instances_of e.0 e.1 t)))
    (λ e. gather (λ i. map (λ n. (e.0, i, n)) (keys e.1.attributes)) (instances_of e.0 e.1 t))
    (λ e. gather_gather show (cuts e) (instances_of e.0 e.1 t)
    ∙ gather_same (λ i. gather show (cuts e i)) (λ i. map (λ n. (e.0, i, n)) (keys e.1.attributes))
    (λ i. gather_map show (λ l. record { of_class = e.0; of_instance = i; shows = l }) (sections_of e.1)
    ∙ gather_map_each (λ n. (e.0, i, n)) (sections_of e.1)
    ∙ ap (map (λ n. (e.0, i, n))) (sections_put_together_are_all (size_of e.1) [] (keys e.1.attributes)))
    (instances_of e.0 e.1 t))
    cat.classes
  where
    show : Section → List (ℕ × ℕ × ℕ)
    show p = map (λ n. (p.of_class, p.of_instance, n)) p.shows

    cuts : ℕ × Class → ℕ → List Section
    cuts e i = map (λ l. record { of_class = e.0; of_instance = i; shows = l }) (sections_of e.1)

-- ---- what fits

module _ (size : ℕ → ℕ) where
  -- it shows something, in at most 26 bytes
  abbrev good_cut : List ℕ → Bool
  good_cut l = leb 1 (length l) and leb (total size l) 26

  one_more : (now : List ℕ) (n : ℕ) → leb (total size now + size n) 26 ≡ true → total size (now ++ n ∷ []) ≤ 26
  unfolding total
  one_more now n h =
      let a = total_append size now (n ∷ []) in
      let b = leb_le (total size now + size n) 26 h in
      omega arith

  one_alone : (n : ℕ) → size n ≤ 25 → total size (n ∷ []) ≤ 26
  unfolding total
  one_alone n h = omega arith

  -- a section that is full has something in it
  full_is_some : (now : List ℕ) (n : ℕ) → size n ≤ 25 → leb (total size now + size n) 26 ≡ false → leb 1 (length now) ≡ true
  unfolding total
  full_is_some [] n h u = true_false (le-leb (0 + size n) 26 (omega arith)) u
  full_is_some (x ∷ now) n h u = le-leb 1 (suc (length now)) (omega arith)

  good_sections : (now l : List ℕ) → total size now ≤ 26 → all (λ n. leb (size n) 25) l ≡ true → all good_cut (sections_from size now l) ≡ true
  unfolding sections_from all
  good_sections now [] h g = cases (leb 1 (length now))
      (λ u. rw u (and_true (and_true u (le-leb (total size now) 26 h)) refl))
      (λ u. rw u refl)
  good_sections now (n ∷ l) h g =
      let z : size n ≤ 25 = leb_le (size n) 25 (both g).0 in
      cases (leb (total size now + size n) 26)
      (λ u. rw u (good_sections (now ++ n ∷ []) l (one_more now n u) (both g).1))
      (λ u. rw u (and_true (and_true (full_is_some now n z u) (le-leb (total size now) 26 h)) (good_sections (n ∷ []) l (one_alone n z) (both g).1)))

pub all_of_map : {A B : Type 0} (p : B → Bool) (f : A → B) (l : List A) → all (λ a. p (f a)) l ≡ true → all p (map f l) ≡ true
unfolding all
all_of_map p f [] h = refl
all_of_map p f (a ∷ l) h = and_true (both h).0 (all_of_map p f l (both h).1)

pub all_of_gather : {A B : Type 0} (p : B → Bool) (f : A → List B) → ((a : A) → all p (f a) ≡ true) → (l : List A) → all p (gather f l) ≡ true
unfolding all gather
all_of_gather p f h [] = refl
all_of_gather p f h (a ∷ l) = all_append p (f a) (gather f l) (h a) (all_of_gather p f h l)

pub all_of_entries : {A B : Type 0} (p : B → Bool) (f : ℕ × A → List B) (m : Map A) → Each (λ k a. all p (f (k, a)) ≡ true) m → all p (gather f m) ≡ true
unfolding all gather
all_of_entries p f [] h = refl
all_of_entries p f (e ∷ m) h = all_append p (f e) (gather f m) h.0 (all_of_entries p f m h.1)

-- the sizes of a class's attributes, by their numbers
all_of_keys : {A : Type 0} (p : ℕ → Bool) (m : Map A) → Each (λ k a. p k ≡ true) m → all p (keys m) ≡ true
unfolding all keys
all_of_keys p [] h = refl
all_of_keys p (e ∷ m) h = and_true h.0 (all_of_keys p m h.1)

module _ (cat : Catalogue) (wf : WellFormed cat) where
  -- the section shows something, and its values take at most 26 bytes
  abbrev pub is_good : Section → Bool
  is_good p = leb 1 (length p.shows) and leb (total (size_of (class cat p.of_class)) p.shows) 26

  sizes_small : (k : Class) → every (λ n a. leb 1 a.size and leb a.size 25) k.attributes ≡ true → rising (keys k.attributes) ≡ true
      → all (λ n. leb (size_of k n) 25) (keys k.attributes) ≡ true
  sizes_small k h r = all_of_keys (λ n. leb (size_of k n) 25) k.attributes
      (each_imp (λ n a. ((leb 1 a.size and leb a.size 25) ≡ true) × (find n k.attributes ≡ some a)) (λ n a. leb (size_of k n) 25 ≡ true)
      (λ n a q. ap (λ (b : Attribute). leb b.size 25) (found_attribute k n a q.1) ∙ (both q.0).1)
      k.attributes
      (each_both (λ n a. (leb 1 a.size and leb a.size 25) ≡ true) (λ n a. find n k.attributes ≡ some a) k.attributes
      (each_of_every (λ n a. leb 1 a.size and leb a.size 25) k.attributes h)
      (each_found 0 k.attributes (rising_up (keys k.attributes) r))))

  all_sections_good : (t : Table) → all is_good (sections cat t) ≡ true
  unfolding sections sections_of of_1_to_25_bytes attributes_rise total
  all_sections_good t = all_of_entries is_good _ cat.classes
      (each_imp (λ c k. (class cat c ≡ k) × ((every (λ n a. leb 1 a.size and leb a.size 25) k.attributes ≡ true) × (rising (keys k.attributes) ≡ true)))
      (λ c k. all is_good (gather (λ i. map (λ l. record { of_class = c; of_instance = i; shows = l }) (sections_of k)) (instances_of c k t)) ≡ true)
      (λ c k q. all_of_gather is_good (λ i. map (λ l. record { of_class = c; of_instance = i; shows = l }) (sections_of k))
      (λ i. all_of_map is_good (λ l. record { of_class = c; of_instance = i; shows = l }) (sections_of k)
      (rw q.0 (good_sections (size_of k) [] (keys k.attributes) (omega arith) (sizes_small k q.1.0 q.1.1))))
      (instances_of c k t))
      cat.classes
      (each_both (λ c k. class cat c ≡ k) (λ c k. (every (λ n a. leb 1 a.size and leb a.size 25) k.attributes ≡ true) × (rising (keys k.attributes) ≡ true)) cat.classes
      (each_imp (λ c k. find c cat.classes ≡ some k) (λ c k. class cat c ≡ k) (found_class cat) cat.classes (classes_found cat wf))
      (each_both (λ c k. every (λ n a. leb 1 a.size and leb a.size 25) k.attributes ≡ true) (λ c k. rising (keys k.attributes) ≡ true) cat.classes
      (each_of_every (λ c k. every (λ n a. leb 1 a.size and leb a.size 25) k.attributes) cat.classes wf.sizes)
      (each_of_every (λ c k. rising (keys k.attributes)) cat.classes wf.attributes_in_order))))

pub all_nth : {A : Type 0} (p : A → Bool) (l : List A) → all p l ≡ true → (k : ℕ) (a : A) → nth l k ≡ some a → p a ≡ true
unfolding all nth
all_nth p [] h k a e = none_some e
all_nth p (x ∷ l) h zero a e = ap p (sym (some_eq e)) ∙ (both h).0
all_nth p (x ∷ l) h (suc k) a e = all_nth p l (both h).1 k a e

-- Every section fits: in any well-formed catalogue, what a section of any table shows has at most 26 bytes by the attributes' sizes.
pub every_section_fits : (cat : Catalogue) → WellFormed cat → (t : Table) (k : ℕ) (p : Section) → nth (sections cat t) k ≡ some p
    → total (size_of (class cat p.of_class)) p.shows ≤ 26
every_section_fits cat wf t k p e = leb_le (total (size_of (class cat p.of_class)) p.shows) 26 (both (all_nth (is_good cat wf) (sections cat t) (all_sections_good cat wf t) k p e)).1

-- No section is empty.
pub no_section_is_empty : (cat : Catalogue) → WellFormed cat → (t : Table) (k : ℕ) (p : Section) → nth (sections cat t) k ≡ some p → 1 ≤ length p.shows
no_section_is_empty cat wf t k p e = leb_le 1 (length p.shows) (both (all_nth (is_good cat wf) (sections cat t) (all_sections_good cat wf t) k p e)).0

-- ---- the values that a section shows

module _ (cat : Catalogue) (wf : WellFormed cat) (stand : List ℕ) (t : Table) (h : LegalTable cat wf stand t) where
  stored_short : (c i n : ℕ) → length (content n (contents cat t c i)) ≤ size_of (class cat c) n
  stored_short c i n = stored_value cat wf stand t h (λ v. length v ≤ size_of (class cat c) n) c i n (omega arith) (λ r v x. let z = x.sized in omega arith)

  read_short : (c i n : ℕ) → length (read cat t c i n) ≤ size_of (class cat c) n
  unfolding read read_from no_attribute read_in_one_of_two_ways readable_from
  read_short c i n = go (attribute (class cat c) n).source refl
    where
      readable : (src : Source) → is_stored src ≡ false → (attribute (class cat c) n).source ≡ src → readable_from cat c (size_of (class cat c) n) src ≡ true
      readable src unstored e = ap (readable_from cat c (size_of (class cat c) n)) (sym e)
          ∙ attribute_says (read_in_one_of_two_ways cat) cat wf.unstored_is_readable c n (cases (supported (class cat c) n) (λ u. u)
          (λ u. true_false (ap (λ (a : Attribute). is_stored a.source) (unknown_attribute (class cat c) n u)) (ap is_stored e ∙ unstored)))

      go : (src : Source) → (attribute (class cat c) n).source ≡ src → length (read_from cat t c i n (size_of (class cat c) n) src) ≤ size_of (class cat c) n
      go (stored f) e = stored_short c i n
      go (of_creator a) e =
          let same_size = eqb_eq (size_of (class cat (leader cat c)) a) (size_of (class cat c) n) (both (both (both (readable (of_creator a) refl e)).1).1).1 in
          let short = stored_short (leader cat c) i a in
          omega arith
      go (count_of d a) e = let z = length_bytes (size_of (class cat c) n) (how_many_name d a i t.created) in omega arith

  values_short : (c i : ℕ) (l : List ℕ) → length (values cat t c i l) ≤ total (size_of (class cat c)) l
  unfolding values total
  values_short c i [] = omega arith
  values_short c i (n ∷ l) =
      let a = read_short c i n in
      let b = values_short c i l in
      let z = length-append (read cat t c i n) (values cat t c i l) in
      omega arith

-- The values of every section of a frozen legal table have at most 26 bytes: they fit behind class, instance and mask in the reply.
pub the_values_of_a_section_fit : (cat : Catalogue) → WellFormed cat → (t : Table) → legal_frozen cat t ≡ true → (k : ℕ) (p : Section) → nth (sections cat t) k ≡ some p
    → length (values cat t p.of_class p.of_instance p.shows) ≤ 26
the_values_of_a_section_fit cat wf t legal k p e =
    let a = values_short cat wf (automatic_keys cat) t (open_table cat wf (automatic_keys cat) t legal) p.of_class p.of_instance p.shows in
    let b = every_section_fits cat wf t k p e in
    omega arith

-- ---- the answer

-- The answer to an upload has the number of the sections of the table that it froze, and the state keeps that table.
pub the_answer_has_the_number_of_sections : (cat : Catalogue) (s : State)
    → ((upload cat s 2 0).1 ≡ bytes 2 (length (sections cat (frozen s.table)))) × ((upload cat s 2 0).0.upload ≡ some (frozen s.table))
unfolding upload if_ont_data ◌and◌
the_answer_has_the_number_of_sections cat s = (refl, refl)

-- Read as a number, it is that number: in a legal state of a well-formed catalogue two bytes are enough.
pub the_count_is_the_number_of_sections : (cat : Catalogue) (wf : WellFormed cat) (s : State) → legal_state cat s ≡ true
    → two (upload cat s 2 0).1 0 ≡ length (sections cat (frozen s.table))
the_count_is_the_number_of_sections cat wf s legal =
    let l : legal_frozen cat (frozen s.table) ≡ true = close_table cat wf (automatic_keys cat) (frozen s.table) (frozen_legal cat wf s.table (open_state cat wf s legal).its_table) in
    ap (λ (v : List ℕ). two v 0) (the_answer_has_the_number_of_sections cat s).0
    ∙ two_of_bytes (length (sections cat (frozen s.table))) (wf.uploads_are_short (frozen s.table) l)
