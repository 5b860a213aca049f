-- From the code's verdict to the rule's.
use Prim.Native.Nat.{ℕ, zero, suc, ◌≤◌, ◌<◌}
use native.Mathlib.Omega.{arith}
use mathlib.Core.Path.{◌≡◌, refl, sym, ◌∙◌, ap}
use mathlib.Core.Bool.{Bool, true, false}
use Rattle.std.specs.Prelude.{Option, Some, None}
use mathlib.Core.Logic.{◌≢◌}
use mathlib.Core.List.{List, [], ◌∷◌}
use lib.ListN.{length, get_or}
use lib.Dec.{ltb, leb}
use Rattle.rules.specs.Bytes.{number, number_from, two}
use Rattle.rules.specs.Catalogue.{Class, Catalogue}
use Rattle.rules.specs.Catalogue as rules
use Rattle.rules.specs.Products.{any, from◌to◌, one_of}
use Rattle.rules.specs.Legal.{passes}
use Rattle.rules.proofs.Laws.{cases, true_and, ltb_lt, ltb_le, lt-ltb, leb_le, le-leb}
use Rattle.class_tables.specs.declared.Rule.{Rule}
use Rattle.class_tables.specs.declared.Rule.TheVariants.{Any, Range, Listed, Pointer}
use Rattle.class_tables.specs.declared.Attribute.{Attribute}
use Rattle.class_tables.specs.declared.Verdict.{Verdict}
use Rattle.class_tables.specs.declared.Verdict.TheVariants.{Fine, Bad, Asks}
use Rattle.class_tables.specs.Meaning.{rule_of, meaning}
use Rattle.attribute_tables.specs.Judged.{verdict_of, Judged}
use Rattle.table.specs.Live.{there_in}
use Rattle.attribute_check.specs.Judges.{is_in, value_of, looked_at, Judgeable}

-- ---- the number in a content

pub one_byte : (v : List ℕ) → length v ≡ 1 → get_or v 0 0 ≡ value_of v
unfolding number_from value_of
one_byte [] h = absurd (omega arith)
one_byte (x ∷ []) h = omega arith
one_byte (x ∷ y ∷ v) h = absurd (omega arith)

pub two_bytes : (v : List ℕ) → length v ≡ 2 → two v 0 ≡ value_of v
unfolding number_from value_of
two_bytes [] h = absurd (omega arith)
two_bytes (x ∷ []) h = absurd (omega arith)
two_bytes (x ∷ y ∷ []) h = omega arith
two_bytes (x ∷ y ∷ z ∷ v) h = absurd (omega arith)

no_number : (v : List ℕ) → length v ≢ 1 → length v ≢ 2 → length v ≤ 2 → 0 ≡ number v
unfolding number_from
no_number [] h g i = refl
no_number (x ∷ v) h g i = absurd (omega arith)

pub no_bytes : (v : List ℕ) → length v ≢ 1 → length v ≢ 2 → 0 ≡ value_of v
unfolding value_of
no_bytes v h g = cases (leb (length v) 2) (λ e. rw e (no_number v h g (leb_le (length v) 2 e))) (λ e. rw e refl)

-- one that isn't wider
narrow : (v : List ℕ) → length v ≤ 2 → value_of v ≡ number v
unfolding value_of
narrow v h = rw (le-leb (length v) 2 h) refl

-- ---- the verdict

pub with_two_bytes : (cat : Catalogue) (live : List ℕ) (c i : ℕ) {t : Bool} → t ≡ there_in cat live c i → i < 65536 → t ≡ is_in cat live c i
unfolding is_in
with_two_bytes cat live c i e h = e ∙ sym (rw (lt-ltb i 65536 h) (true_and (there_in cat live c i)))

-- a rule looks at nothing but what its line says
by_what_is_looked_at : (r : Rule) (o : Option ℕ) (condition : ℕ) (v : List ℕ) (others : ℕ → List ℕ) {w : rules.Verdict} → condition ≡ looked_at r o others
    → ((f : ℕ → List ℕ) → ((n : ℕ) → o ≡ Some n → number (f n) ≡ condition) → w ≡ rule_of r o v f)
    → w ≡ rule_of r o v others
unfolding any from◌to◌ one_of number_from
by_what_is_looked_at Any o condition v others e says = says (λ j. []) (λ n h. sym e)
by_what_is_looked_at (Range low high) o condition v others e says = says (λ j. []) (λ n h. sym e)
by_what_is_looked_at (Listed x y) o condition v others e says = says (λ j. []) (λ n h. sym e)
by_what_is_looked_at (Pointer c) None condition v others e says = says others (λ n h. cc)
by_what_is_looked_at (Pointer c) (Some m) condition v others e says = says others (λ n h. cc)

module _ (k : Class) (v : List ℕ) (others : ℕ → List ℕ) {a : Attribute} {value condition : ℕ} {r : Verdict}
    (can : Judgeable k a) (j : Judged a value condition r)
    (sized : length v ≡ a.size) (is : value ≡ value_of v) (looks : condition ≡ looked_at a.rule a.only_if others) where
  pub verdict_is : verdict_of r ≡ (meaning a).rule v others
  unfolding meaning any
  verdict_is = cases (ltb 2 a.size)
      (λ h. let e : a.rule ≡ Any = can.wide (ltb_lt 2 a.size h) in ap verdict_of (j.if_any e) ∙ rw e refl)
      (λ h.
      let w : a.size ≤ 2 = ltb_le 2 a.size h in
      let e : number v ≡ value = sym (is ∙ narrow v (omega arith)) in
      by_what_is_looked_at a.rule a.only_if condition v others looks (λ f g. j.says v f e g))

  module _ (there : ℕ → ℕ → Bool) where
    abbrev judged : Bool
    judged = passes there ((meaning a).rule v others)

    pub from_verdict : {w : Verdict} → r ≡ w → passes there (verdict_of w) ≡ judged
    from_verdict e = ap (λ (x : Verdict). passes there (verdict_of x)) (sym e) ∙ ap (passes there) verdict_is

    pub found_fine : r ≡ Fine → true ≡ judged
    unfolding passes
    found_fine e = from_verdict e

    pub found_bad : r ≡ Bad → false ≡ judged
    unfolding passes
    found_bad e = from_verdict e

    pub found_asking : {c i : ℕ} {t : Bool} → r ≡ Asks c i → t ≡ there c i → t ≡ judged
    unfolding passes
    found_asking e h = h ∙ from_verdict e
