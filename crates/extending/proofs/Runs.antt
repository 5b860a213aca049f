-- Demand 3: for any two well-formed catalogues of which the second extends the first, over whole runs.
use Prim.Native.Nat.{ℕ}
use mathlib.Core.Path.{◌≡◌}
use mathlib.Core.Bool.{true}
use mathlib.Core.Option.{Option, none, some}
use mathlib.Core.List.{List, [], ◌∷◌}
use Rattle.rules.specs.Maps.{given, first_that_applies}
use Rattle.rules.specs.Catalogue.{Catalogue}
use Rattle.rules.specs.State.{State}
use Rattle.rules.specs.Reports.{dropped, unless_dropped}
use Rattle.rules.specs.Run.{Call, message, attribute_report, alarm_report, Input, taken, room_drops, step, fresh}
use Rattle.rules.specs.WellFormed.{WellFormed}
use Rattle.rules.specs.Extends.{Extends, names_what_it_has}
use Rattle.rules.proofs.Laws.{both}
use Rattle.legality.proofs.LegalStates.{LegalState, open_state}
use Rattle.legality.proofs.Kept.{OfBytes, AllOfBytes, step_fine, the_fresh_state_is_legal}
use Rattle.extending.specs.Promise.{answered_with_0_1_or_7, within_the_promise, SameRun}
use Rattle.extending.specs.Matched.{MatchedState}
use Rattle.extending.proofs.Fresh.{fresh_matched}
use Rattle.extending.proofs.Uploads.{same_uploads}
use Rattle.extending.proofs.Reports.{attribute_report_matched, alarm_report_matched}
use Rattle.extending.proofs.Messages.{the_same, MatchedResult, handle_matched}

module _ (first second : Catalogue) (wf : WellFormed first) (wf' : WellFormed second) (ext : Extends first second) where
  module _ (s z : State) (h : LegalState first wf s) (h' : LegalState second wf' z) (mt : MatchedState first second s z) where
    taken_matched : (c : Call) → OfBytes c → names_what_it_has first s c ≡ true → answered_with_0_1_or_7 c (taken first s c).1 ≡ true
        → MatchedResult first second wf wf' ext c (taken first s c) (taken second z c)
    unfolding taken names_what_it_has
    taken_matched (message m) b has ok = handle_matched first second wf wf' ext s z h h' mt m b ok
    taken_matched (attribute_report c i n v) b has ok =
        let x = attribute_report_matched first second wf wf' ext s z h h' mt c i n v b has in
        record { states = x.0; outcomes = rw x.1 (the_same (attribute_report c i n v) (taken first s (attribute_report c i n v)).1) }
    taken_matched (alarm_report c i n on) b has ok =
        let x = alarm_report_matched first second wf wf' ext s z h h' mt c i n on has in
        record { states = x.0; outcomes = rw x.1 (the_same (alarm_report c i n on) (taken first s (alarm_report c i n on)).1) }

    pub step_matched : (p : Input) → OfBytes p.call → names_what_it_has first s p.call ≡ true → answered_with_0_1_or_7 p.call (step first s p).1 ≡ true
        → MatchedResult first second wf wf' ext p.call (step first s p) (step second z p)
    unfolding step unless_dropped
    step_matched p b has = go (first_that_applies (room_drops p))
      where
        go : (o : Option ℕ) → answered_with_0_1_or_7 p.call (given o (taken first s p.call) (λ n. (s, dropped n))).1 ≡ true
            → MatchedResult first second wf wf' ext p.call (given o (taken first s p.call) (λ n. (s, dropped n))) (given o (taken second z p.call) (λ n. (z, dropped n)))
        go none = taken_matched p.call b has
        go (some n) = λ ok. record { states = mt; outcomes = the_same p.call (dropped n) }

  same_run : (s z : State) → LegalState first wf s → LegalState second wf' z → MatchedState first second s z → (l : List Input) → AllOfBytes l
      → within_the_promise first s l ≡ true → SameRun first second s z l
  unfolding within_the_promise SameRun
  same_run s z h h' mt [] b w = tt
  same_run s z h h' mt (p ∷ l) b w =
      let has = both w in
      let x = step_matched s z h h' mt p b.0 has.0 (both has.1).0 in
      let g = (step_fine first wf s h p b.0).its_state in
      let g' = (step_fine second wf' z h' p b.0).its_state in (
        x.outcomes,
        same_uploads first second wf wf' ext (step first s p).0 (step second z p).0 g' x.states,
        same_run (step first s p).0 (step second z p).0 g g' x.states l b.1 (both has.1).1,
      )

  -- Power on both products and give them the same calls in the same lent sizes, each report naming what the first then has. If the first
  -- answers every Create, Delete and Set with 0, 1 or 7, then of every call: the second drops it exactly if the first does, and with the same
  -- number; where the first's reply has a result and it is 0, 1 or 7, the second's is the same; so are notifications and alarm walks; and each
  -- attribute in the upload that the first was asked for last stands with the same content in the second's.
  pub an_extension_has_the_same_run : (l : List Input) → AllOfBytes l → within_the_promise first (fresh first) l ≡ true
      → SameRun first second (fresh first) (fresh second) l
  an_extension_has_the_same_run l b w = same_run (fresh first) (fresh second)
      (open_state first wf (fresh first) (the_fresh_state_is_legal first wf)) (open_state second wf' (fresh second) (the_fresh_state_is_legal second wf'))
      (fresh_matched first second wf wf' ext) l b w
