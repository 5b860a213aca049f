-- The judging of one content, by its attribute's rule alone.
use Prim.Native.Nat.{ℕ, ◌+◌, ◌-◌, ◌^◌, ◌≤◌, ◌<◌}
use native.Mathlib.Omega.{arith}
use mathlib.Core.Path.{◌≡◌, refl, sym, ◌∙◌, ap, subst}
use mathlib.Core.Bool.{Bool, true, false, not, ◌&&◌, ◌||◌}
use Rattle.std.specs.Prelude.{Option, Some, None, is_some}
use mathlib.Core.Logic.{◌≢◌}
use mathlib.Core.List.{List, [], ◌∷◌}
use lib.ListN.{length}
use lib.Bits.{bit_and}
use lib.Dec.{eqb, leb}
use Rattle.rules.specs.Maps.{put_if, keys, those}
use Rattle.rules.specs.Masks.{in_mask, named, mask}
use Rattle.rules.specs.Catalogue.{Class, no_attribute, supported, size_of}
use Rattle.rules.specs.Legal.{passes}
use Rattle.rules.specs.Products.{any}
use Rattle.rules.proofs.Laws.{cases}
use Rattle.rules.proofs.Lookups.{unknown_attribute}
use Rattle.bits.proofs.Masks.{numbers_among, named_mask, named_none, named_and, mask_named}
use Rattle.class_tables.specs.declared.Product.{Product}
use Rattle.class_tables.specs.declared.Rule.{Rule}
use Rattle.class_tables.specs.declared.Rule.TheVariants.{Any, Range, Listed, Pointer}
use Rattle.class_tables.specs.declared.Attribute.{Attribute}
use Rattle.class_tables.specs.declared.Verdict.{Verdict}
use Rattle.class_tables.specs.Built.{class_for}
use Rattle.class_tables.specs.Describes.{Looked, DescribedIn}
use Rattle.class_tables.specs.Lines.{line_for}
use Rattle.class_tables.proofs.MaskLaws.{supported_bit}
use Rattle.class_tables.proofs.Tables.{described_here}
use Rattle.class_tables.proofs.Views.{size_is}
use Rattle.attribute_tables.specs.Judged.{fine_if, verdict_of, Judged}
use Rattle.attribute_tables.proofs.Judging.{judged_any, judged_range, judged_listed, judged_pointer, not_judged}
use Rattle.attribute_check.specs.Judges.{value_of, fixed_at, legal_at, legal_by, looked_at, is_met}
use Rattle.attribute_check.proofs.Looking.{judgeable, by_its_line, met_is}
use Rattle.attribute_check.proofs.Verdicts.{from_verdict}

-- ---- is there such an attribute?

module _ (pr : Product) (c n : ℕ) (low : 1 ≤ n) (high : n ≤ 16) {bit s x : ℕ} (one : bit ≡ 2 ^ (16 - n)) (all : s ≡ mask (keys (class_for pr c).attributes))
    (is : x ≡ bit_and bit s) where
  in_common : named x ≡ put_if (supported (class_for pr c) n) n []
  unfolding mask those
  in_common =
      let alone : named (2 ^ (16 - n) + 0) ≡ n ∷ [] = named_mask (n ∷ []) (low, high, tt) in
      let e : bit ≡ 2 ^ (16 - n) + 0 = omega arith in
      let here : in_mask s n ≡ supported (class_for pr c) n = rw all (supported_bit pr c n (numbers_among n low high)) in
      ap named is ∙ named_and bit s ∙ ap (those (in_mask s)) (ap named e ∙ alone) ∙ ap (λ (t : Bool). put_if t n []) here

  pub no_such : x ≡ 0 → supported (class_for pr c) n ≡ false
  no_such z = cases (supported (class_for pr c) n)
      (λ t.
      let l : length (named x) ≡ 1 = rw t at (ap length in_common) in
      let o : length (named x) ≡ 0 = ap (λ (y : ℕ). length (named y)) z ∙ ap length named_none in
      absurd (omega arith))
      (λ t. t)

  pub one_there : x < 65536 → x ≢ 0 → supported (class_for pr c) n ≡ true
  unfolding mask
  one_there small z = cases (supported (class_for pr c) n)
      (λ t. t)
      (λ t.
      let l : mask (named x) ≡ 0 = rw t at (ap mask in_common) in
      let o : mask (named x) ≡ x = mask_named x small in
      absurd (z (sym o ∙ l)))

-- nothing is judged of one that there isn't
pub fits_unjudged : (there : ℕ → ℕ → Bool) (k : Class) (b : List ℕ) (at n : ℕ) (v : List ℕ) → supported k n ≡ false → true ≡ legal_at there k b at n v
unfolding legal_at passes no_attribute any
fits_unjudged there k b at n v h = rw (unknown_attribute k n h) refl

-- ---- by its rule

turned_twice : (b : Bool) → b ≡ not (not b)
turned_twice true = refl
turned_twice false = refl

-- what a pointer is judged by may be looked at
pub looks_at : (pr : Product) (c n : ℕ) {rule : Rule} → rule ≡ (line_for pr c n).rule → {d : ℕ} {by : Option ℕ} → rule ≡ Pointer d
    → by ≡ (line_for pr c n).only_if → (i : ℕ) → by ≡ Some i → Looked (class_for pr c) i
looks_at pr c n ruled {d} e its i z = (described_here pr c n).looks d i (sym ruled ∙ e) (sym its ∙ z)

module _ (there : ℕ → ℕ → Bool) (pr : Product) (c n : ℕ) (b : List ℕ) (at : ℕ) (v : List ℕ) {value : ℕ} {rule : Rule}
    (sized : length v ≡ size_of (class_for pr c) n) (is : value ≡ value_of v) (ruled : rule ≡ (line_for pr c n).rule) where
  abbrev k : Class
  k = class_for pr c

  abbrev a : Attribute
  a = line_for pr c n

  d : DescribedIn k n a
  d = described_here pr c n

  abbrev others : ℕ → List ℕ
  others = fixed_at k b at

  abbrev condition : ℕ
  condition = looked_at a.rule a.only_if others

  abbrev legal : Bool
  legal = legal_at there k b at n v

  judged_so : {r : Verdict} → Judged a value condition r → passes there (verdict_of r) ≡ legal
  unfolding legal_by
  judged_so j = from_verdict k v others (judgeable d) j (sized ∙ sym (size_is d)) is refl there refl ∙ by_its_line there d b at v

  fine_or_not : (t : Bool) → Judged a value condition (fine_if t) → t ≡ legal
  unfolding passes
  fine_or_not true j = judged_so j
  fine_or_not false j = judged_so j

  pub fits_any : rule ≡ Any → true ≡ legal
  fits_any e = fine_or_not true (judged_any a value condition (sym ruled ∙ e))

  pub fits_range : (low high : ℕ) → rule ≡ Range low high → (leb low value && leb value high) ≡ legal
  fits_range low high e = fine_or_not (leb low value && leb value high) (judged_range a value condition low high (sym ruled ∙ e) refl)

  pub fits_listed : (x y : ℕ) → rule ≡ Listed x y → (eqb value x || eqb value y) ≡ legal
  fits_listed x y e = fine_or_not (eqb value x || eqb value y) (judged_listed a value condition x y (sym ruled ∙ e) refl)

  module _ (asked : ℕ) (e : rule ≡ Pointer asked) {m : Bool} {by : Option ℕ} (its : by ≡ a.only_if) (met : m ≡ is_met by others) where
    abbrev always : Bool
    always = not (is_some a.only_if)

    tested : {t : Bool} → m ≡ t → (always || eqb condition 1) ≡ t
    tested h = met_is others a.only_if (sym ruled ∙ e) ∙ ap (λ (o : Option ℕ). is_met o others) (sym its) ∙ sym met ∙ h

    twice_not : is_some a.only_if ≡ not always
    twice_not = turned_twice (is_some a.only_if)

    pub fits_pointer : m ≡ true → {t : Bool} → t ≡ there asked value → t ≡ legal
    unfolding passes
    fits_pointer h f = f ∙ judged_so (judged_pointer a value condition asked (sym ruled ∙ e) always twice_not (tested h))

    pub fits_unmet : m ≡ false → true ≡ legal
    fits_unmet h = fine_or_not true (not_judged a value condition asked (sym ruled ∙ e) always twice_not (tested h))
