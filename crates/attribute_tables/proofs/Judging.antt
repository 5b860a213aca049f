-- What the code's tests on a number say of every content that holds it.
use Prim.Native.Nat.{ℕ}
use mathlib.Core.Path.{◌≡◌, refl, sym, ◌∙◌, ap}
use mathlib.Core.Bool.{Bool, true, false, not, ◌&&◌, ◌||◌, cond}
use mathlib.Core.List.{List}
use lib.Dec.{eqb, leb}
use Rattle.std.specs.Prelude.{Option, Some, None, is_some}
use Rattle.rules.specs.Maps.{◌and◌}
use Rattle.rules.specs.Bytes.{number}
use Rattle.rules.specs.Products.{any, from◌to◌, one_of, an_existing, existing_where}
use Rattle.rules.specs.Catalogue as rules
use Rattle.rules.proofs.Laws.{never}
use Rattle.class_tables.specs.declared.Rule.TheVariants.{Any, Range, Listed, Pointer}
use Rattle.class_tables.specs.declared.Attribute.{Attribute}
use Rattle.class_tables.specs.declared.Verdict.{Verdict}
use Rattle.class_tables.specs.declared.Verdict.TheVariants.{Fine, Asks}
use Rattle.class_tables.specs.Meaning.{pointer_rule, is_any, meaning}
use Rattle.attribute_tables.specs.Judged.{fine_if, verdict_of, Judged}
use Rattle.class_tables.proofs.Matches.{among_2}

verdict_of_test : (b : Bool) → verdict_of (fine_if b) ≡ cond b rules.fine rules.bad
verdict_of_test true = refl
verdict_of_test false = refl

turned : (b : Bool) {s : Bool} → s ≡ not b → b ≡ not s
turned true e = rw e refl
turned false e = rw e refl

module _ (a : Attribute) (value condition : ℕ) where
  pub judged_any : a.rule ≡ Any → Judged a value condition Fine
  unfolding meaning any
  judged_any h = record { says = λ v others e g. rw h refl; if_any = λ t. refl }

  pub judged_range : (low high : ℕ) {r : Verdict} → a.rule ≡ Range low high → r ≡ fine_if (leb low value && leb value high) → Judged a value condition r
  unfolding meaning from◌to◌ ◌and◌
  judged_range low high h t = record { says = λ v others e g. rw (h, t, e) (verdict_of_test (leb low value && leb value high)); if_any = λ x. never (ap is_any (sym h ∙ x)) }

  pub judged_listed : (x y : ℕ) {r : Verdict} → a.rule ≡ Listed x y → r ≡ fine_if (eqb value x || eqb value y) → Judged a value condition r
  unfolding meaning one_of
  judged_listed x y h t = record { says = λ v others e g. rw (h, t, e, ← among_2 value x y refl) (verdict_of_test (eqb value x || eqb value y)); if_any = λ z. never (ap is_any (sym h ∙ z)) }

  -- `always` is the code's test for a pointer that no other attribute decides on
  module _ (c : ℕ) (h : a.rule ≡ Pointer c) (always : Bool) (w : is_some a.only_if ≡ not always) where
    told_of : {o : Option ℕ} → a.only_if ≡ o → is_some o ≡ not always
    told_of z = sym (ap is_some z) ∙ w

    asks_or_not : (b : Bool) → (always || eqb condition 1) ≡ b → (o : Option ℕ) → a.only_if ≡ o → (v : List ℕ) (others : ℕ → List ℕ) → number v ≡ value
        → ((n : ℕ) → a.only_if ≡ Some n → number (others n) ≡ condition) → cond b (rules.asks c value) rules.fine ≡ pointer_rule c o v others
    unfolding an_existing existing_where
    asks_or_not b t None z v others e g = rw (← t, turned always (told_of z), e) refl
    asks_or_not b t (Some n) z v others e g = rw (← t, turned always (told_of z), e, g n z) refl

    pub judged_pointer : (always || eqb condition 1) ≡ true → Judged a value condition (Asks c value)
    unfolding meaning
    judged_pointer t = record { says = λ v others e g. rw h (asks_or_not true t a.only_if refl v others e g); if_any = λ x. never (ap is_any (sym h ∙ x)) }

    pub not_judged : (always || eqb condition 1) ≡ false → Judged a value condition Fine
    unfolding meaning
    not_judged t = record { says = λ v others e g. rw h (asks_or_not false t a.only_if refl v others e g); if_any = λ x. refl }
