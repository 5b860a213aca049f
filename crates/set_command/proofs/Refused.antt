-- The results of a Set of an instance that is there, line by line.
use Prim.Native.Nat.{ℕ, ◌≤◌}
use mathlib.Core.Path.{◌≡◌, refl, sym, ◌∙◌, ap}
use mathlib.Core.Bool.{Bool, true, false, not, cond, ◌&&◌, ◌||◌}
use mathlib.Core.Option.{Option, none, some}
use mathlib.Core.Logic.{◌≢◌}
use mathlib.Core.List.{List, [], ◌∷◌, ◌++◌}
use lib.Dec.{eqb, ltb}
use Rattle.rules.specs.Maps.{◌and◌, ◌or◌, empty, first_that_applies}
use Rattle.rules.specs.Bytes.{bytes}
use Rattle.rules.specs.Masks.{named, mask, total}
use Rattle.rules.specs.Catalogue.{Class, size_of}
use Rattle.rules.specs.Messages.{bad_parameter, attribute_failed}
use Rattle.rules.specs.Commands.{unsupported, unwritable, set_results}
use Rattle.rules.proofs.Laws.{cases, never, both, not-false, eqb_true, eqb_false, eqb_eq, ltb_le}
use Rattle.legality.proofs.Refusals.{NoneApplies, none_applies}
use Rattle.bits.proofs.Masks.{none_in}
use Rattle.set_command.specs.declared.Judged.{Judged}
use Rattle.set_command.specs.Sets.{SetJudged, barred, too_long}

-- not both
either_not : (a b : Bool) → (not a || not b) ≡ not (a and b)
unfolding ◌and◌
either_not true b = refl
either_not false b = refl

only_second : (a b : Bool) → (not a && b) ≡ true → (a ≡ false) × (b ≡ true)
only_second true b e = never e
only_second false b e = (refl, e)

not_second : (a b : Bool) → (not a && b) ≡ false → a ≡ false → b ≡ false
not_second true b e f = never (sym f)
not_second false b e f = e

second_left : (a b : Bool) → (a || b) ≡ false → b ≡ false
second_left true b e = never (sym e)
second_left false b e = e

-- values that are judged aren't too long
pub judged_fit : (u w sum : ℕ) → ((not (eqb u 0) || not (eqb w 0)) || ltb 30 sum) ≡ false → sum ≤ 30
judged_fit u w sum e = ltb_le 30 sum (second_left (not (eqb u 0) || not (eqb w 0)) (ltb 30 sum) e)

module _ (k : Class) (m : ℕ) (bad : List ℕ) where
  abbrev line : Option (List ℕ)
  line = first_that_applies (set_results true k m bad)

  pub refused_empty : m ≡ 0 → some (bad_parameter ∷ []) ≡ line
  unfolding set_results first_that_applies
  refused_empty z = sym (rw (eqb_true m 0 z) refl)

  -- ---- what was judged

  module _ {u w : ℕ} (are_unsupported : u ≡ mask (unsupported k (named m))) (are_unwritable : w ≡ mask (unwritable k (named m))) where
    pub barred_is : (not (eqb u 0) || not (eqb w 0)) ≡ barred k m
    barred_is = either_not (eqb u 0) (eqb w 0) ∙ sym (rw (none_in (unsupported k (named m)) are_unsupported, none_in (unwritable k (named m)) are_unwritable) refl)

    module _ {sum : ℕ} (total_is : sum ≡ total (size_of k) (named m)) where
      long_is : ltb 30 sum ≡ too_long k m
      long_is = ap (ltb 30) total_is

      -- the code's answer, whether the contents were judged or not
      pub as_judged : {t : Bool} → ((not (eqb u 0) || not (eqb w 0)) || ltb 30 sum) ≡ t → {x : ℕ} → x ≡ mask (cond t (unwritable k (named m)) bad)
          → SetJudged k m bad (record { «unsupported» = u; «failed» = x; «barred» = not (eqb u 0) || not (eqb w 0); «long» = ltb 30 sum })
      unfolding ◌or◌
      as_judged e f = record {
        are_unsupported = are_unsupported;
        are_failed = rw (← barred_is, ← long_is, e) f;
        is_barred = barred_is;
        is_long = long_is;
      }

  -- ---- what it is refused with

  module _ (some_asked : m ≢ 0) {j : Judged} (r : SetJudged k m bad j) where
    -- which attributes failed: those that may not be written, if any is unsupported or unwritable; else, if they aren't too long, those with bad contents
    failed_if_barred : barred k m ≡ true → j.failed ≡ mask (unwritable k (named m))
    unfolding ◌or◌
    failed_if_barred y = r.are_failed ∙ ap (λ (t : Bool). mask (cond (t or too_long k m) (unwritable k (named m)) bad)) y

    module _ (not_barred : barred k m ≡ false) where
      unsupported_none : eqb j.unsupported 0 ≡ true
      unsupported_none = sym (none_in (unsupported k (named m)) r.are_unsupported) ∙ (both (not-false not_barred)).0

      failed_if_judged : too_long k m ≡ false → j.failed ≡ mask bad
      unfolding ◌or◌
      failed_if_judged n = r.are_failed ∙ ap (λ (t : Bool). mask (cond (t or too_long k m) (unwritable k (named m)) bad)) not_barred
          ∙ ap (λ (t : Bool). mask (cond t (unwritable k (named m)) bad)) n

    pub refused_long : (not j.barred && j.long) ≡ true → some (bad_parameter ∷ []) ≡ line
    unfolding set_results first_that_applies
    refused_long e =
        let p = only_second j.barred j.long e in
        sym (rw (eqb_false m 0 some_asked, sym r.is_barred ∙ p.0, sym r.is_long ∙ p.1) refl)

    module _ (e : (not j.barred && j.long) ≡ false) where
      fits : barred k m ≡ false → too_long k m ≡ false
      fits n = sym r.is_long ∙ not_second j.barred j.long e (r.is_barred ∙ n)

      pub refused_failed : (not (eqb j.unsupported 0) || not (eqb j.failed 0)) ≡ true
          → some (attribute_failed ∷ bytes 2 j.unsupported ++ bytes 2 j.failed) ≡ line
      unfolding set_results first_that_applies bytes
      refused_failed q = cases (barred k m)
          (λ y. sym (rw (eqb_false m 0 some_asked, y, ← r.are_unsupported, ← failed_if_barred y) refl))
          (λ n.
          let f = failed_if_judged n (fits n) in
          let g : not (eqb j.failed 0) ≡ true = rw (unsupported_none n) at q in
          sym (rw (eqb_false m 0 some_asked, n, fits n, none_in bad f, g, ← f, eqb_eq j.unsupported 0 (unsupported_none n)) refl))

      pub accepted : (not (eqb j.unsupported 0) || not (eqb j.failed 0)) ≡ false → none ≡ line
      unfolding set_results first_that_applies
      accepted q =
          let z = both (not-false (sym (either_not (eqb j.unsupported 0) (eqb j.failed 0)) ∙ q)) in
          cases (barred k m)
          (λ y. never (sym (rw (none_in (unsupported k (named m)) r.are_unsupported, none_in (unwritable k (named m)) (failed_if_barred y)) (sym (either_not _ _) ∙ q)) ∙ y))
          (λ n. sym (rw (eqb_false m 0 some_asked, n, fits n, none_in bad (failed_if_judged n (fits n)), z.1) refl))

-- what holds where no line applied
pub record Passed (k : Class) (m : ℕ) (bad : List ℕ) : Type 0 where
  pub all_there : empty (unsupported k (named m)) ≡ true
  pub all_writable : empty (unwritable k (named m)) ≡ true
  pub room : total (size_of k) (named m) ≤ 30
  pub all_good : empty bad ≡ true

pub passed : (k : Class) (m : ℕ) (bad : List ℕ) → first_that_applies (set_results true k m bad) ≡ none → Passed k m bad
unfolding set_results
passed k m bad e =
    let n : NoneApplies (set_results true k m bad) = none_applies (set_results true k m bad) e in
    let f = both (not-false n.1.1.0) in
    record { all_there = f.0; all_writable = f.1; room = ltb_le 30 (total (size_of k) (named m)) n.1.1.1.0; all_good = not-false n.1.1.1.1.0 }
