-- Contents that were read from bytes are legal exactly if the tests of their lines pass: one law for every class of every product.
use Rattle.std.proofs.Common.{◌≡◌, ℕ, suc, ◌+◌, ◌<◌, ◌≤◌, Bool, true, false, cond, eqb, ltb, leb, List, [], ◌∷◌, map, length, take, drop, sym, refl, ap, ◌∙◌, arith, drop-cons, drop-drop}
use mathlib.Core.Option.{some}
use Rattle.std.specs.Prelude.{Option, Some, None}
use Rattle.rules.specs.Maps.{◌and◌, ◌or◌, Map, find, keys, keep, every, each, among, all}
use Rattle.rules.specs.Bytes.{byte, two, number, number_from, are_bytes}
use Rattle.rules.specs.Catalogue as rules
use Rattle.rules.specs.Catalogue.{fine, bad, Creation, created, automatic, comes_with, Class, Catalogue, class, attribute, supported, size_of, is_stored, stored_numbers}
use Rattle.rules.specs.State.{Contents}
use Rattle.rules.specs.Legal.{fixed_contents, passes, legal_content, may_be_there, there_or_gone, legal_contents}
use Rattle.rules.specs.Commands.{cut}
use Rattle.rules.specs.Products.{any, from◌to◌, one_of, an_existing, existing_where}
use Rattle.rules.proofs.Laws.{cases, never, both, or_right, true_and, eqb_true, eqb_false, eqb_eq, eqb_ne, ltb_lt, ltb_le, lt-ltb, le-leb, same_refl, among_here, keys_each}
use Rattle.rules.proofs.MapLaws.{Up, up_among, rising_up, up_keep, Each, each_keep, each_found}
use Rattle.rules.proofs.Conjunctions.{and_assoc, and_end, or_end}
use Rattle.rules.proofs.ByteLaws.{keys_cut, sized_cut, bytes_cut, byte_small, two_small}
use Rattle.store.specs.Layout.{contents_width}
use Rattle.store.specs.Positions.{offset}
use Rattle.store.specs.Decode.{read_contents}
use Rattle.class_tables.specs.declared.Rule.{Rule}
use Rattle.class_tables.specs.declared.Rule.TheVariants.{Any, Range, Listed, Pointer}
use Rattle.class_tables.specs.declared.Attribute.{Attribute}
use Rattle.class_tables.specs.declared.Product.{Product}
use Rattle.class_tables.specs.Built.{cat_of, class_for}
use Rattle.class_tables.specs.Meaning.{is_kept, rule_of, is_any, meaning}
use Rattle.class_tables.specs.Lines.{lines_of, lines_in, line_in, line_for}
use Rattle.class_tables.specs.Describes.{offset_of, Looked, DescribedIn}
use Rattle.class_tables.proofs.ClassLaws.{sized_if_there, attributes_rising, stored_there}
use Rattle.class_tables.proofs.Tables.{attributes_are, described_here}
use Rattle.class_tables.proofs.Views.{kept_is_stored, size_is, rule_is}
use Rattle.class_tables.proofs.Offsets.{cut_at, is_among_stored, offset_fits}
use Rattle.class_tests.specs.ContentTests.{value_in, within, is_judged, rule_test, line_test, always_there, can_fail, judged_lines, joined, all_pass, lines_test}
use Rattle.class_tests.specs.ContentTests.{contents_test}

-- ---- attribute by attribute

-- a test of the bytes of each of these attributes, which lie one after another from a place on
unfoldable pub each_at : (ℕ → List ℕ → Bool) → (ℕ → ℕ) → List ℕ → ℕ → List ℕ → Bool
each_at p size [] at b = true
each_at p size (n ∷ l) at b = p n (take (size n) (drop at b)) and each_at p size l (at + size n) b

pub every_cut : (p : ℕ → List ℕ → Bool) (size : ℕ → ℕ) (l : List ℕ) (at : ℕ) (b : List ℕ) → every p (cut size l (drop at b)) ≡ each_at p size l at b
unfolding every cut each_at
every_cut p size [] at b = refl
every_cut p size (n ∷ l) at b = rw (drop-drop (size n) at b, every_cut p size l (at + size n) b)

-- a test that always passes may be left out
every_and : (p q : ℕ → List ℕ → Bool) (r : Contents) → every p r ≡ true → every (λ n v. p n v and q n v) r ≡ every q r
unfolding every
every_and p q [] h = refl
every_and p q (e ∷ r) h = rw ((both h).0, true_and, every_and p q r (both h).1)

-- bytes that are long enough give contents of the right sizes; the rules are left
pub legal_by_rules : (cat : Catalogue) (k : Class) (b : List ℕ) → contents_width k ≤ length b → are_bytes b ≡ true
    → legal_contents cat k (read_contents k b) ≡ each_at (legal_content (there_or_gone cat) k (read_contents k b)) (size_of k) (stored_numbers k) 0 b
unfolding legal_contents read_contents contents_width
legal_by_rules cat k b h bs =
    let size : ℕ → ℕ = size_of k in
    let l : List ℕ = stored_numbers k in
    let r : Contents = cut size l b in
    let p : ℕ → List ℕ → Bool = legal_content (there_or_gone cat) k r in
    rw (
      keys_cut size l b,
      same_refl l,
      true_and,
      every_and (λ n v. eqb (length v) (size n)) (λ n v. are_bytes v and p n v) r (sized_cut size l b h),
      every_and (λ n v. are_bytes v) p r (bytes_cut size l b bs),
    )
    (every_cut p size l 0 b)

-- two tests that come out alike for the numbers of a list
all_alike : (p q : ℕ → Bool) (l : List ℕ) → ((n : ℕ) → among n l ≡ true → p n ≡ q n) → all p l ≡ all q l
unfolding all among
all_alike p q [] h = refl
all_alike p q (x ∷ l) h = rw (h x (among_here x l), all_alike p q l (λ n g. h n (or_right (eqb n x) g))) refl

-- the attributes stand where their offsets say
each_at_offset : (p : ℕ → List ℕ → Bool) (size : ℕ → ℕ) (low : ℕ) (l : List ℕ) (at : ℕ) (b : List ℕ) → Up low l
    → each_at p size l at b ≡ all (λ n. p n (take (size n) (drop (at + offset size l n) b))) l
unfolding each_at all offset
each_at_offset p size low [] at b u = refl
each_at_offset p size low (n ∷ l) at b u =
    let front : at + 0 ≡ at = omega arith in
    rw (eqb_true n n refl, front, each_at_offset p size (suc n) l (at + size n) b u.1)
    (ap (λ (x : Bool). p n (take (size n) (drop at b)) and x)
    (all_alike (λ m. p m (take (size m) (drop (at + size n + offset size l m) b)))
    (λ m. p m (take (size m) (drop (at + cond (eqb m n) 0 (size n + offset size l m)) b))) l
    (λ m h.
    let g = up_among (suc n) m l u.1 h in
    let sum : at + (size n + offset size l m) ≡ at + size n + offset size l m = omega arith in
    rw (eqb_false m n (omega arith), sum) refl)))

-- ---- what a rule says of bytes

-- the number in one byte, and in two
pub number_1 : (b : List ℕ) (k : ℕ) → k < length b → number (take 1 (drop k b)) ≡ byte b k
unfolding number_from
number_1 b k h = rw (drop-cons b k 0 h) (omega arith)

pub number_2 : (b : List ℕ) (k : ℕ) → k + 1 < length b → number (take 2 (drop k b)) ≡ two b k
unfolding number_from
number_2 b k h = rw (drop-cons b k 0 (omega arith), drop-cons b (suc k) 0 (omega arith)) (let e : suc k ≡ k + 1 = omega arith in rw e (omega arith))

-- ---- what a rule says of the number in a content

-- a range's ends that no number passes may be left out
within_is : (low high x : ℕ) → x < 65536 → (leb low x and leb x high) ≡ within low high x
within_is low high x h = cases (eqb low 0)
    (λ e. rw (e, eqb_eq low 0 e, le-leb 0 x (omega arith)) (true_and (leb x high)))
    (λ e. cases (eqb high 65535)
    (λ f. rw (e, f, eqb_eq high 65535 f, le-leb x 65535 (omega arith)) (and_end (leb low x)))
    (λ f. rw (e, f) refl))

passes_if : (there : ℕ → ℕ → Bool) (x : Bool) → passes there (cond x fine bad) ≡ x
unfolding passes
passes_if there true = refl
passes_if there false = refl

either_is : (x y z : ℕ) → among x (y ∷ z ∷ []) ≡ (eqb x y or eqb x z)
unfolding among
either_is x y z = rw (or_end (eqb x z)) refl

-- the number in one or two bytes is small
value_small : (a : Attribute) (b : List ℕ) → are_bytes b ≡ true → value_in a b < 65536
value_small a b bs = cases (eqb a.size 1)
    (λ e. rw e (let t = byte_small b a.at bs in omega arith))
    (λ e. rw e (two_small b a.at bs))

-- a content that can't fail passes
fails_never : (cat : Catalogue) (judged : Bool) (r : Rule) (x : ℕ) → x < 65536 → can_fail cat r ≡ false → rule_test cat judged r x ≡ true
fails_never cat judged Any x h f = refl
fails_never cat judged (Range low high) x h f = never (sym f)
fails_never cat judged (Listed y z) x h f = never (sym f)
fails_never cat true (Pointer c) x h f = may_be (class cat c).creation f
  where
    may_be : (y : Creation) → always_there y ≡ false → may_be_there y x ≡ true
    may_be created f = lt-ltb x 65536 h
    may_be (automatic l) f = never (sym f)
    may_be (comes_with d) f = lt-ltb x 65536 h
fails_never cat false (Pointer c) x h f = refl

-- ---- the lines of a class

module _ (pr : Product) (c : ℕ) (b : List ℕ) (room : contents_width (class_for pr c) ≤ length b) (bs : are_bytes b ≡ true) where
  abbrev cat : Catalogue
  cat = cat_of pr

  abbrev k : Class
  k = class_for pr c

  abbrev m : Map Attribute
  m = lines_in (lines_of pr) c

  module _ (n : ℕ) (stored : among n (stored_numbers k) ≡ true) where
    abbrev a : Attribute
    a = line_for pr c n

    abbrev v : List ℕ
    v = take (size_of k n) (drop (offset_of k n) b)

    d : DescribedIn k n a
    d = described_here pr c n

    there : supported k n ≡ true
    there = (stored_there pr c n stored).0

    -- a content that can be judged has one or two bytes
    number_is : (a.rule ≡ Any → ⊥) → number v ≡ value_in a b
    number_is judged =
        let kept : is_stored (attribute k n).source ≡ true = (stored_there pr c n stored).1 in
        let o : a.at ≡ offset_of k n = d.placed kept there in
        let s : a.size ≡ size_of k n = size_is d in
        let z = sized_if_there pr c n there in
        let f = offset_fits k n stored in
        cases (eqb a.size 1)
        (λ e.
        let one : size_of k n ≡ 1 = sym s ∙ eqb_eq a.size 1 e in
        rw (e, one, o) (number_1 b (offset_of k n) (omega arith)))
        (λ e.
        let other = eqb_ne a.size 1 e in
        let two_bytes : size_of k n ≡ 2 = cases (ltb 2 a.size)
        (λ w. absurd (judged (d.wide (ltb_lt 2 a.size w))))
        (λ w. let g = ltb_le 2 a.size w in omega arith) in
        rw (e, two_bytes, o) (number_2 b (offset_of k n) (omega arith)))

    -- what a pointer is judged by is the byte of the line that it names
    looked_is : (j e : ℕ) → a.rule ≡ Pointer e → a.only_if ≡ Some j → number (fixed_contents k (read_contents k b) j) ≡ byte b (line_in m j).at
    unfolding fixed_contents read_contents line_for
    looked_is j e p q =
        let l : Looked k j = d.looks e j p q in
        let s : among j (stored_numbers k) ≡ true = is_among_stored k j l.is_there l.kept in
        let o : (line_in m j).at ≡ offset_of k j = (described_here pr c j).placed l.kept l.is_there in
        let f = offset_fits k j s in
        let one = l.one in
        rw (l.fixed, cut_at (size_of k) j (stored_numbers k) b s, l.one, o) (number_1 b (offset_of k j) (omega arith))

    judged_by : (r : Rule) (o : Option ℕ) → a.rule ≡ r → a.only_if ≡ o
        → passes (there_or_gone cat) (rule_of r o v (fixed_contents k (read_contents k b))) ≡ rule_test cat (is_judged m b o) r (value_in a b)
    unfolding passes any from◌to◌ one_of an_existing existing_where
    judged_by Any o e q = refl
    judged_by (Range low high) o e q =
        rw (number_is (λ z. never (ap is_any (sym e ∙ z))))
        (passes_if (there_or_gone cat) (leb low (value_in a b) and leb (value_in a b) high) ∙ within_is low high (value_in a b) (value_small a b bs))
    judged_by (Listed x y) o e q =
        rw (number_is (λ z. never (ap is_any (sym e ∙ z)))) (passes_if (there_or_gone cat) (among (value_in a b) (x ∷ y ∷ [])) ∙ either_is (value_in a b) x y)
    judged_by (Pointer e) None p q = rw (number_is (λ z. never (ap is_any (sym p ∙ z)))) refl
    judged_by (Pointer e) (Some j) p q =
        rw (number_is (λ z. never (ap is_any (sym p ∙ z))), looked_is j e p q)
        (cases (eqb (byte b (line_in m j).at) 1) (λ t. rw t refl) (λ t. rw t refl))

    line_tested : legal_content (there_or_gone cat) k (read_contents k b) n v ≡ line_test cat m b (line_in m n)
    unfolding legal_content line_for
    line_tested = rw (← rule_is d) (judged_by a.rule a.only_if refl refl)

-- ---- all of them

-- the numbers of what is stored are those of the lines that are kept
stored_keys : (m : Map Attribute) → keys (keep (λ n a. is_stored a.source) (each (λ n a. meaning a) m)) ≡ keys (keep (λ n a. is_kept a.way) m)
unfolding keys keep each meaning
stored_keys [] = refl
stored_keys (e ∷ m) = rw (← kept_is_stored e.1.size e.1.way)
    (cases (is_kept e.1.way) (λ t. rw (t, stored_keys m) refl) (λ t. rw (t, stored_keys m) refl))

module _ (q : Attribute → Bool) where
  -- lines that are found by their numbers
  all_found : (m l : Map Attribute) → Each (λ n a. find n m ≡ some a) l → all (λ n. q (line_in m n)) (keys l) ≡ every (λ n a. q a) l
  unfolding all keys every line_in
  all_found m [] h = refl
  all_found m (e ∷ l) h = rw (h.0, all_found m l h.1) refl

  one_more : (x y : Bool) (l : List Bool) → (x and joined y l) ≡ joined (x and y) l
  unfolding joined
  one_more x y [] = refl
  one_more x y (z ∷ l) = one_more x (y and z) l ∙ ap (λ (w : Bool). joined w l) (sym (and_assoc x y z))

  pass_next : (x : Bool) (l : List Bool) → (x and all_pass l) ≡ all_pass (x ∷ l)
  unfolding all_pass joined
  pass_next x [] = and_end x
  pass_next x (y ∷ l) = one_more x y l

  -- those that can't fail may be left out
  every_judged : (p f : Attribute → Bool) (m : Map Attribute) → ((a : Attribute) → f a ≡ false → q a ≡ true)
      → every (λ n a. q a) (keep (λ n a. p a) m) ≡ all_pass (map (λ e. q e.1) (keep (λ n a. p a and f a) m))
  unfolding every keep all_pass
  every_judged p f [] h = refl
  every_judged p f (e ∷ m) h = cases (p e.1)
      (λ t. cases (f e.1)
      (λ s. rw (t, s, every_judged p f m h, true_and) (pass_next (q e.1) (map (λ e. q e.1) (keep (λ n a. p a and f a) m))))
      (λ s. rw (t, s, h e.1 s, every_judged p f m h, true_and, true_and) refl))
      (λ t. rw (t, every_judged p f m h) (unfold ◌and◌ in refl))

pub contents_tested : (pr : Product) (c : ℕ) (b : List ℕ) → contents_width (class_for pr c) ≤ length b → are_bytes b ≡ true
    → legal_contents (cat_of pr) (class_for pr c) (read_contents (class_for pr c) b) ≡ contents_test pr c b
unfolding contents_test lines_test judged_lines stored_numbers
contents_tested pr c b room bs =
    let cat : Catalogue = cat_of pr in
    let k : Class = class_for pr c in
    let m : Map Attribute = lines_in (lines_of pr) c in
    let size : ℕ → ℕ = size_of k in
    let legal : ℕ → List ℕ → Bool = legal_content (there_or_gone cat) k (read_contents k b) in
    let q : Attribute → Bool = line_test cat m b in
    let rises : Up 0 (stored_numbers k) = up_keep (λ n a. is_stored a.source) 0 k.attributes (rising_up (keys k.attributes) (attributes_rising pr c)) in
    let rising_lines : Up 0 (keys m) = rw (attributes_are pr c, keys_each (λ n a. meaning a) m) at (rising_up (keys k.attributes) (attributes_rising pr c)) in
    let kept : Map Attribute = keep (λ n a. is_kept a.way) m in
    legal_by_rules cat k b room bs
    ∙ each_at_offset legal size 0 (stored_numbers k) 0 b rises
    ∙ all_alike (λ n. legal n (take (size n) (drop (0 + offset_of k n) b))) (λ n. q (line_in m n)) (stored_numbers k)
    (λ n s. let z : 0 + offset_of k n ≡ offset_of k n = omega arith in rw z (line_tested pr c b room bs n s))
    ∙ ap (all (λ n. q (line_in m n))) (ap (λ (x : Map rules.Attribute). keys (keep (λ n a. is_stored a.source) x)) (attributes_are pr c) ∙ stored_keys m)
    ∙ all_found q m kept (each_keep (λ n a. find n m ≡ some a) (λ n a. is_kept a.way) m (each_found 0 m rising_lines))
    ∙ every_judged q (λ a. is_kept a.way) (λ a. can_fail cat a.rule) m (λ a f. fails_never cat (is_judged m b a.only_if) a.rule (value_in a b) (value_small a b bs) f)
