-- What a content is judged by: its line's rule, and the attribute that a pointer is judged by.
use Prim.Native.Nat.{ℕ}
use mathlib.Core.Path.{◌≡◌, refl, sym, ◌∙◌, ap}
use mathlib.Core.Bool.{Bool, true}
use mathlib.Core.Option.{none, some}
use mathlib.Core.List.{List}
use Rattle.std.specs.Prelude.{Some, None, is_none}
use Rattle.std.specs.declared.option.Option as code
use Rattle.rules.specs.Maps.{◌or◌, Map, find, every, each, among}
use Rattle.rules.specs.Catalogue.{supported}
use Rattle.rules.proofs.Laws.{never, true_false, or_cases, every_find, find_each}
use Rattle.rules.proofs.MapLaws.{some_eq, none_some}
use Rattle.class_tables.specs.declared.Rule.{Rule}
use Rattle.class_tables.specs.declared.Rule.TheVariants.{Any}
use Rattle.class_tables.specs.declared.Attribute.{Attribute}
use Rattle.class_tables.specs.declared.Product.{Product}
use Rattle.class_tables.specs.declared.Product.TheVariants.{Small, Large, Meter}
use Rattle.class_tables.specs.Built.{class_for}
use Rattle.class_tables.specs.Meaning.{absent_line, is_any}
use Rattle.class_tables.specs.Lines.{Lines, large_lines, lines_of, lines_in, line_in, line_for, computing_lines}
use Rattle.class_tables.proofs.Matches.{Avoids, avoided}
use Rattle.class_tables.proofs.Tables.{told, any_rule, not_there_if, of_class}

-- ---- it is the same in every product that has the attribute, and Large has them all

abbrev judged_by : Attribute → Rule × code.Option ℕ
judged_by a = (a.rule, a.only_if)

as_in_large : (pr : Product) → each (λ c m. each (λ n a. judged_by a) m) (lines_of pr) ≡ each (λ c m. each (λ n a. judged_by (line_for Large c n)) m) (lines_of pr)
unfolding computing_lines
as_in_large Small = refl
as_in_large Large = refl
as_in_large Meter = refl

module _ (pr : Product) (c n : ℕ) where
  line_there : (a : Attribute) → find n (lines_in (lines_of pr) c) ≡ some a → judged_by a ≡ judged_by (line_for Large c n)
  unfolding lines_in find
  line_there a e = told (find c (lines_of pr))
      (λ f. let z : none ≡ some a = rw f at e in none_some z)
      (λ m f.
      let here : find n m ≡ some a = rw f at e in
      let tables : some (each (λ i b. judged_by b) m) ≡ some (each (λ i b. judged_by (line_for Large c i)) m) =
      rw (find_each (λ d k. each (λ i b. judged_by b) k) c (lines_of pr), find_each (λ d k. each (λ i b. judged_by (line_for Large d i)) k) c (lines_of pr), f)
      at (ap (find c) (as_in_large pr)) in
      let lines : some (judged_by a) ≡ some (judged_by (line_for Large c n)) =
      rw (find_each (λ i b. judged_by b) n m, find_each (λ i b. judged_by (line_for Large c i)) n m, here) at (ap (find n) (some_eq tables)) in
      some_eq lines)

  module _ (s : supported (class_for pr c) n ≡ true) where
    same_judged : judged_by (line_for pr c n) ≡ judged_by (line_for Large c n)
    same_judged = told (find n (lines_in (lines_of pr) c))
        (λ e. true_false s (not_there_if pr c n e))
        (λ a e. ap judged_by (found_line a e) ∙ line_there a e)
      where
        found_line : (a : Attribute) → find n (lines_in (lines_of pr) c) ≡ some a → line_for pr c n ≡ a
        found_line a e = unfold line_for line_in in rw e refl

-- ---- the last arm of a match: a test that every line passes which isn't listed, and what stands for no line

module _ (p : Attribute → Bool) (h : p absent_line ≡ true) where
  other_line : (m : Map Attribute) (l : List ℕ) (x : ℕ) → Avoids x l → every (λ n a. among n l or p a) m ≡ true → p (line_in m x) ≡ true
  unfolding line_in
  other_line m l x a g = told (find x m)
      (λ e. rw e h)
      (λ b e. rw e (or_cases (every_find (λ n a. among n l or p a) m g x b e) (λ t. true_false t (avoided x l a)) (λ t. t)))

  other_class : (t : Lines) (l : List ℕ) (c n : ℕ) → Avoids c l → every (λ d m. among d l or every (λ i a. p a) m) t ≡ true → p (line_in (lines_in t c) n) ≡ true
  unfolding line_in lines_in find
  other_class t l c n a g = told (find c t)
      (λ e. rw e h)
      (λ m e. rw e (told (find n m)
      (λ f. rw f h)
      (λ b f.
      rw f (or_cases (every_find (λ d m. among d l or every (λ i a. p a) m) t g c m e)
      (λ u. true_false u (avoided c l a))
      (λ u. every_find (λ i a. p a) m u n b f)))))

-- ---- one of the two that a content is judged by, and the value of it that a match leaves to its last arm

pub record Part (A : Type 0) : Type 0 where
  pub part : Rule × code.Option ℕ → A
  pub rest : A
  pub is_rest : A → Bool
  pub rest_if : (x : A) → is_rest x ≡ true → x ≡ rest
  pub absent_is_rest : is_rest (part (judged_by absent_line)) ≡ true

-- the last arm says that any content is legal, and that it is always judged
abbrev pub its_rule : Part Rule
its_rule = record { part = λ j. j.0; rest = Any; is_rest = is_any; rest_if = any_rule; absent_is_rest = refl }

abbrev pub its_condition : Part (code.Option ℕ)
its_condition = record { part = λ j. j.1; rest = None; is_rest = is_none; rest_if = no_condition; absent_is_rest = refl }
  where
    no_condition : (x : code.Option ℕ) → is_none x ≡ true → x ≡ None
    no_condition None h = refl
    no_condition (Some i) h = never h

module _ {A : Type 0} (p : Part A) where
  abbrev part_of : Attribute → A
  part_of a = p.part (judged_by a)

  abbrev has_rest : Attribute → Bool
  has_rest a = p.is_rest (part_of a)

  -- an attribute that isn't listed
  pub rest_otherwise : (l : List ℕ) (x : ℕ) → Avoids x l → (m : Map Attribute) → every (λ n a. among n l or has_rest a) m ≡ true → p.rest ≡ part_of (line_in m x)
  rest_otherwise l x a m g = sym (p.rest_if (part_of (line_in m x)) (other_line has_rest p.absent_is_rest m l x a g))

  -- from a class of Large to every product
  module _ (pr : Product) (x n : ℕ) (s : supported (class_for pr x) n ≡ true) where
    same_part : part_of (line_for Large x n) ≡ part_of (line_for pr x n)
    same_part = ap p.part (sym (same_judged pr x n s))

    pub part_in : (c : ℕ) → x ≡ c → (m : Map Attribute) → lines_in large_lines c ≡ m → {r : A} → r ≡ part_of (line_in m n) → r ≡ part_of (line_for pr x n)
    unfolding line_for lines_of
    part_in c e m is h = h ∙ ap part_of (of_class large_lines c n e refl is) ∙ same_part

    -- a class that isn't listed
    pub rest_elsewhere : (l : List ℕ) → Avoids x l → every (λ d m. among d l or every (λ i a. has_rest a) m) large_lines ≡ true → p.rest ≡ part_of (line_for pr x n)
    unfolding line_for lines_of
    rest_elsewhere l a g = sym (p.rest_if (part_of (line_for Large x n)) (other_class has_rest p.absent_is_rest large_lines l x n a g)) ∙ same_part
