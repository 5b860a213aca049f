-- The results of a Get of an instance that is there, line by line.
use Prim.Native.Nat.{ℕ, ◌≤◌, ◌<◌}
use mathlib.Core.Path.{◌≡◌, refl, sym}
use mathlib.Core.Bool.{true}
use mathlib.Core.Option.{Option, none, some}
use mathlib.Core.Logic.{◌≢◌}
use mathlib.Core.List.{List, [], ◌∷◌, ◌++◌}
use lib.ListN.{replicate}
use Rattle.rules.specs.Maps.{all, first_that_applies}
use Rattle.rules.specs.Bytes.{bytes}
use Rattle.rules.specs.Masks.{named, mask, total}
use Rattle.rules.specs.Catalogue.{Class, supported, size_of}
use Rattle.rules.specs.Messages.{bad_parameter, attribute_failed}
use Rattle.rules.specs.Commands.{unsupported, get_results}
use Rattle.rules.proofs.Laws.{not-false, eqb_true, eqb_false, lt-ltb, le-ltb, ltb_le}
use Rattle.legality.proofs.Refusals.{NoneApplies, none_applies, all_supported}
use Rattle.bits.proofs.Masks.{none_in}

module _ (k : Class) (m : ℕ) where
  abbrev line : Option (List ℕ)
  line = first_that_applies (get_results true k m)

  pub refused_empty : m ≡ 0 → some (bad_parameter ∷ []) ≡ line
  unfolding get_results first_that_applies
  refused_empty z = sym (rw (eqb_true m 0 z) refl)

  module _ (some_asked : m ≢ 0) {missing : ℕ} (are_missing : missing ≡ mask (unsupported k (named m))) where
    pub refused_missing : missing ≢ 0 → some (attribute_failed ∷ replicate 27 0 ++ bytes 2 missing) ≡ line
    unfolding get_results first_that_applies
    refused_missing z = sym (rw (eqb_false m 0 some_asked, none_in (unsupported k (named m)) are_missing, eqb_false missing 0 z, ← are_missing) refl)

    module _ (z : missing ≡ 0) {sum : ℕ} (total_is : sum ≡ total (size_of k) (named m)) where
      pub refused_long : 25 < sum → some (bad_parameter ∷ []) ≡ line
      unfolding get_results first_that_applies
      refused_long g = sym (rw (eqb_false m 0 some_asked, none_in (unsupported k (named m)) are_missing, eqb_true missing 0 z, ← total_is, lt-ltb 25 sum g) refl)

      pub accepted : sum ≤ 25 → none ≡ line
      unfolding get_results first_that_applies
      accepted g = sym (rw (eqb_false m 0 some_asked, none_in (unsupported k (named m)) are_missing, eqb_true missing 0 z, ← total_is, le-ltb 25 sum g) refl)

  -- what holds where no line applied
  pub record Passed : Type 0 where
    pub all_there : all (supported k) (named m) ≡ true
    pub room : total (size_of k) (named m) ≤ 25

  pub passed : line ≡ none → Passed
  unfolding get_results
  passed e =
      let n : NoneApplies (get_results true k m) = none_applies (get_results true k m) e in
      record { all_there = all_supported k (named m) (not-false n.1.1.0); room = ltb_le 25 (total (size_of k) (named m)) n.1.1.1.0 }
