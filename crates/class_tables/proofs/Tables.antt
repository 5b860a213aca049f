-- The lines of the tables are the catalogues' attributes: what computes of them, and what it says of each.
use Prim.Native.Nat.{ℕ, ◌+◌}
use native.Mathlib.Omega.{arith}
use mathlib.Core.Path.{◌≡◌, refl, sym, ◌∙◌, ap}
use mathlib.Core.Bool.{Bool, true, false, not}
use mathlib.Core.Option.{Option, none, some}
use mathlib.Core.List.{List, [], ◌++◌}
use lib.Dec.{eqb, leb}
use Rattle.std.specs.Prelude.{Some, None}
use Rattle.std.specs.declared.option.Option as code
use Rattle.std.proofs.lemmas.Option.{none-some}
use Rattle.rules.specs.Maps.{◌and◌, ◌or◌, Map, given, find, keys, every, each, among, all}
use Rattle.rules.specs.Catalogue.{Class, class, no_class, no_attribute, attribute, supported, size_of, is_stored, is_fixed}
use Rattle.rules.specs.Catalogue as rules
use Rattle.rules.proofs.Laws.{never, true_false, not-true, both, or_cases, eqb_eq, leb_le, every_find, find_each, has_among}
use Rattle.rules.proofs.MapLaws.{some_eq, none_some, find_append}
use Rattle.rules.proofs.Lookups.{unknown_attribute}
use Rattle.store.specs.Layout.{place_width}
use Rattle.class_tables.specs.declared.Rule.{Rule}
use Rattle.class_tables.specs.declared.Rule.TheVariants.{Any, Range, Listed, Pointer}
use Rattle.class_tables.specs.declared.Attribute.{Attribute}
use Rattle.class_tables.specs.declared.Product.{Product}
use Rattle.class_tables.specs.declared.Product.TheVariants.{Small, Large, Meter}
use Rattle.class_tables.specs.Built.{cat_of, class_for}
use Rattle.class_tables.specs.Meaning.{absent_line, is_any, meaning}
use Rattle.class_tables.specs.Lines.{Lines, lines_of, lines_in, line_in, line_for}
use Rattle.class_tables.specs.Describes.{Looked, DescribedIn, Describes, offset_of}
use Rattle.class_tables.specs.Computing.{computing_tables}
use Rattle.class_tables.proofs.Matches.{Avoids, not_there}

-- ---- what computes, product by product

abbrev means : ℕ → Map Attribute → Map rules.Attribute
means c m = each (λ n a. meaning a) m

same_tables : (pr : Product) → each (λ c k. k.attributes) (cat_of pr).classes ≡ each means (lines_of pr)
unfolding computing_tables
same_tables Small = refl
same_tables Large = refl
same_tables Meter = refl

abbrev may_be_looked_at : Class → ℕ → Bool
may_be_looked_at k n = supported k n and is_stored (attribute k n).source and is_fixed (attribute k n) and eqb (size_of k n) 1

-- what a pointer is judged by may be looked at
abbrev looks_right : Class → Rule → code.Option ℕ → Bool
looks_right k Any n = true
looks_right k (Range low high) n = true
looks_right k (Listed x y) n = true
looks_right k (Pointer c) None = true
looks_right k (Pointer c) (Some n) = may_be_looked_at k n

-- where a line stands, that it isn't long, that it isn't judged if no u16 holds it, and what it is judged by
abbrev fits_in : Class → ℕ → Attribute → Bool
fits_in k n a =
    (not (is_stored (attribute k n).source) or eqb a.at (offset_of k n))
    and leb a.size 25
    and leb (a.at + a.size) place_width
    and (leb a.size 2 or is_any a.rule)
    and looks_right k a.rule a.only_if

lines_fit : (pr : Product) → every (λ c m. every (fits_in (class_for pr c)) m) (lines_of pr) ≡ true
unfolding computing_tables
lines_fit Small = refl
lines_fit Large = refl
lines_fit Meter = refl

absent_means : meaning absent_line ≡ no_attribute
unfolding computing_tables
absent_means = refl

-- ---- what it says of each class and attribute

-- what is found, or that nothing is
pub told {ℓ} : {X : Type ℓ} {A : Type 0} (o : Option A) → (o ≡ none → X) → ((a : A) → o ≡ some a → X) → X
told none f g = f refl
told (some a) f g = g a refl

pub attributes_are : (pr : Product) (c : ℕ) → (class_for pr c).attributes ≡ each (λ n a. meaning a) (lines_in (lines_of pr) c)
unfolding class no_class lines_in each
attributes_are pr c =
    let e : find c (each (λ c k. k.attributes) (cat_of pr).classes) ≡ find c (each means (lines_of pr)) = ap (find c) (same_tables pr) in
    alike (find c (cat_of pr).classes) (find c (lines_of pr))
    (sym (find_each (λ c k. k.attributes) c (cat_of pr).classes) ∙ e ∙ find_each means c (lines_of pr))
  where
    alike : (o : Option Class) (t : Option (Map Attribute)) → given o none (λ k. some k.attributes) ≡ given t none (λ m. some (means c m))
        → (given o no_class (λ k. k)).attributes ≡ means c (given t [] (λ m. m))
    alike none none h = refl
    alike none (some m) h = none_some h
    alike (some k) none h = none_some (sym h)
    alike (some k) (some m) h = some_eq h

pub any_rule : (r : Rule) → is_any r ≡ true → r ≡ Any
any_rule Any h = refl
any_rule (Range low high) h = never h
any_rule (Listed x y) h = never h
any_rule (Pointer c) h = never h

looks_there : (k : Class) (r : Rule) (o : code.Option ℕ) → looks_right k r o ≡ true → (c n : ℕ) → r ≡ Pointer c → o ≡ Some n → Looked k n
looks_there k r o h c n e f =
    let t : may_be_looked_at k n ≡ true = rw (e, f) at h in
    let p = both t in
    let q = both p.1 in
    let s = both q.1 in
    record { is_there = p.0; kept = q.0; fixed = s.0; one = eqb_eq (size_of k n) 1 s.1 }

module _ (pr : Product) (c n : ℕ) where
  abbrev k : Class
  k = class_for pr c

  abbrev m : Map Attribute
  m = lines_in (lines_of pr) c

  means_it : meaning (line_for pr c n) ≡ attribute k n
  unfolding attribute line_for line_in
  means_it = rw (attributes_are pr c, find_each (λ n a. meaning a) n m) (told (find n m) (λ e. rw e absent_means) (λ a e. rw e refl))

  there_if : (a : Attribute) → find n m ≡ some a → fits_in k n a ≡ true
  unfolding lines_in find
  there_if a e = told (find c (lines_of pr))
      (λ f. let z : none ≡ some a = rw f at e in none_some z)
      (λ t f. every_find (fits_in k) t (every_find (λ c m. every (fits_in (class_for pr c)) m) (lines_of pr) (lines_fit pr) c t f) n a (rw f at e))

  pub not_there_if : find n m ≡ none → supported k n ≡ false
  not_there_if e = rw (attributes_are pr c, find_each (λ n a. meaning a) n m, e) refl

  pub described_here : DescribedIn k n (line_for pr c n)
  unfolding line_for line_in
  described_here = told (find n m)
      (λ e. rw e (record {
        is = absent_means ∙ sym (unknown_attribute k n (not_there_if e));
        placed = λ s t. true_false t (not_there_if e);
        small = omega arith;
        near = omega arith;
        wide = λ h. refl;
        looks = λ d i f z. absurd (none-some i z);
      }))
      (λ a e.
      let p = both (there_if a e) in
      let q = both p.1 in
      let s = both q.1 in
      let t = both s.1 in
      let is_line : line_for pr c n ≡ a = rw e refl in
      rw e (record {
        is = ap meaning (sym is_line) ∙ means_it;
        placed = λ s t. or_cases p.0 (λ e. true_false s (not-true e)) (λ e. eqb_eq a.at (offset_of k n) e);
        small = leb_le a.size 25 q.0;
        near = leb_le (a.at + a.size) place_width s.0;
        wide = λ w. or_cases t.0 (λ e. let f = leb_le a.size 2 e in absurd (omega arith)) (any_rule a.rule);
        looks = looks_there k a.rule a.only_if t.1;
      }))

-- the line that the code made is the attribute
pub described : {pr : Product} {c n : ℕ} {r : Attribute} → Describes pr c n r → DescribedIn (class_for pr c) n r
described {pr} {c} {n} d = rw d.is_line (described_here pr c n)

-- ---- the arms of a match

-- the line a of a table, as the code made it (r) for the number that it tested (x)
pub listed : (m : Map Attribute) (n : ℕ) {x : ℕ} {r a : Attribute} → r ≡ a → x ≡ n → a ≡ line_in m n → r ≡ line_in m x
listed m n e f h = rw (e, f) h

-- no line for a number that the match doesn't have
pub not_listed : (m : Map Attribute) (l : List ℕ) (x : ℕ) {r : Attribute} → r ≡ absent_line → Avoids x l → all (λ n. among n l) (keys m) ≡ true → r ≡ line_in m x
unfolding line_in
not_listed m l x e a h = rw (e, absent_there) refl
  where
    absent_there : find x m ≡ none
    absent_there = told (find x m) (λ f. f) (λ b f. true_false (sym (has_among x m) ∙ rw f refl) (not_there x l (keys m) a h))

-- a longer table has the lines of a shorter one
pub as_before : (m more : Map Attribute) (l : List ℕ) (x : ℕ) {r : Attribute} → r ≡ line_in m x → Avoids x l → all (λ n. among n l) (keys more) ≡ true → r ≡ line_in (m ++ more) x
unfolding line_in
as_before m more l x e a h = e ∙ sym (rw (find_append x m more, absent_there) (told (find x m) (λ f. rw f refl) (λ b f. rw f refl)))
  where
    absent_there : find x more ≡ none
    absent_there = told (find x more) (λ f. f) (λ b f. true_false (sym (has_among x more) ∙ rw f refl) (not_there x l (keys more) a h))

-- the lines of one class of a product's tables
pub of_class : (t : Lines) (c n : ℕ) {x : ℕ} {r : Attribute} {m : Map Attribute} → x ≡ c → r ≡ line_in m n → lines_in t c ≡ m → r ≡ line_in (lines_in t x) n
of_class t c n e f h = rw (e, h) f

pub of_no_class : (t : Lines) (l : List ℕ) (x n : ℕ) {r : Attribute} → r ≡ absent_line → Avoids x l → all (λ c. among c l) (keys t) ≡ true → r ≡ line_in (lines_in t x) n
unfolding line_in lines_in find
of_no_class t l x n e a h = rw (e, absent_there) refl
  where
    absent_there : find x t ≡ none
    absent_there = told (find x t) (λ f. f) (λ b f. true_false (sym (has_among x t) ∙ rw f refl) (not_there x l (keys t) a h))
