-- Two products of which the second extends the first, after each call of a run within the promise: their states match, and are legal.
use mathlib.Core.Path.{◌≡◌}
use mathlib.Core.Bool.{true}
use mathlib.Core.List.{List, [], ◌∷◌}
use Rattle.rules.specs.Catalogue.{Catalogue}
use Rattle.rules.specs.State.{State}
use Rattle.rules.specs.Run.{Input, step, fresh, after}
use Rattle.rules.specs.WellFormed.{WellFormed}
use Rattle.rules.specs.Extends.{Extends}
use Rattle.rules.proofs.Laws.{both}
use Rattle.legality.proofs.LegalStates.{LegalState, open_state}
use Rattle.legality.proofs.Kept.{OfBytes, AllOfBytes, step_fine, the_fresh_state_is_legal}
use Rattle.extending.specs.Promise.{within_the_promise}
use Rattle.extending.specs.Matched.{MatchedState}
use Rattle.extending.proofs.Fresh.{fresh_matched}
use Rattle.extending.proofs.Messages.{MatchedResult}
use Rattle.extending.proofs.Runs.{step_matched}

module _ (first second : Catalogue) (wf : WellFormed first) (wf' : WellFormed second) (ext : Extends first second) where
  -- what a call within the promise leaves of two legal states that match
  pub record Stepped (s z : State) (p : Input) : Type 0 where
    pub result : MatchedResult first second wf wf' ext p.call (step first s p) (step second z p)
    pub first_legal : LegalState first wf (step first s p).0
    pub second_legal : LegalState second wf' (step second z p).0

  pub stepped : (s z : State) → LegalState first wf s → LegalState second wf' z → MatchedState first second s z → (p : Input) (l : List Input) → OfBytes p.call
      → within_the_promise first s (p ∷ l) ≡ true → Stepped s z p × (within_the_promise first (step first s p).0 l ≡ true)
  unfolding within_the_promise
  stepped s z h h' mt p l b w =
      let has = both w in (
        record {
          result = step_matched first second wf wf' ext s z h h' mt p b has.0 (both has.1).0;
          first_legal = (step_fine first wf s h p b).its_state;
          second_legal = (step_fine second wf' z h' p b).its_state;
        },
        (both has.1).1,
      )

  still_matched : (s z : State) → LegalState first wf s → LegalState second wf' z → MatchedState first second s z → (l : List Input) → AllOfBytes l
      → within_the_promise first s l ≡ true → MatchedState first second (after first s l) (after second z l)
  unfolding after
  still_matched s z h h' mt [] b w = mt
  still_matched s z h h' mt (p ∷ l) b w =
      let x = stepped s z h h' mt p l b.0 w in
      still_matched (step first s p).0 (step second z p).0 x.0.first_legal x.0.second_legal x.0.result.states l b.1 x.1

  fresh_first : LegalState first wf (fresh first)
  fresh_first = open_state first wf (fresh first) (the_fresh_state_is_legal first wf)

  fresh_second : LegalState second wf' (fresh second)
  fresh_second = open_state second wf' (fresh second) (the_fresh_state_is_legal second wf')

  -- The states in which such a run leaves the two products match.
  pub an_extension_s_state_matches : (l : List Input) → AllOfBytes l → within_the_promise first (fresh first) l ≡ true
      → MatchedState first second (after first (fresh first) l) (after second (fresh second) l)
  an_extension_s_state_matches l b w = still_matched (fresh first) (fresh second) fresh_first fresh_second (fresh_matched first second wf wf' ext) l b w
