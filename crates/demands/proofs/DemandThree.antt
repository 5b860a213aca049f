-- Demand 3 on bytes: two products in two stores, given the same calls in the same lent sizes.
use Prim.Native.Nat.{ℕ, ◌≤◌}
use mathlib.Core.Path.{◌≡◌}
use mathlib.Core.Bool.{true}
use mathlib.Core.Option.{some}
use mathlib.Core.List.{List, [], ◌∷◌, map}
use lib.ListN.{length}
use Rattle.rules.specs.Maps.{find}
use Rattle.rules.specs.Catalogue.{Catalogue}
use Rattle.rules.specs.State.{Table, State, read}
use Rattle.rules.specs.Walks.{sections}
use Rattle.rules.specs.WellFormed.{WellFormed}
use Rattle.rules.specs.Run.{Input, store_length, step, fresh, run, after}
use Rattle.rules.specs.Products.{Products}
use Rattle.rules.specs.Extends.{Extends}
use Rattle.rules.proofs.MapLaws.{none_some}
use Rattle.store.specs.Decode.{decode}
use Rattle.store.specs.Entries.{power_on}
use Rattle.store.specs.Fitting.{AllFit}
use Rattle.legality.proofs.LegalStates.{open_state}
use Rattle.legality.proofs.Kept.{AllOfBytes, the_fresh_state_is_legal, every_run_keeps_the_state_legal}
use Rattle.extending.specs.Promise.{within_the_promise, stands_in, SameUploads, SameRun, SameOutcomes}
use Rattle.extending.proofs.Runs.{an_extension_has_the_same_run}
use Rattle.demands.proofs.Fetched.{Fetched, each_attribute_is_fetched_from_the_second}
use Rattle.demands.specs.Lending.{outcomes, memory_after_all}
use Rattle.demands.proofs.RunsOnBytes.{a_powered_on_store_holds_the_fresh_state, a_run_on_bytes_has_the_rules_outcomes, a_run_on_bytes_leaves_the_rules_state}

-- what is said of a run's outcomes, from what is said of the run
outcomes_of_a_run : (first second : Catalogue) (s z : State) (l : List Input) → SameRun first second s z l
    → SameOutcomes l (map (λ x. x.1) (run first s l)) (map (λ x. x.1) (run second z l))
unfolding SameRun run
outcomes_of_a_run first second s z [] r = tt
outcomes_of_a_run first second s z (p ∷ l) r = (r.0, outcomes_of_a_run first second (step first s p).0 (step second z p).0 l r.2)

-- and of the uploads that were asked for last when it ends
uploads_of_a_run : (first second : Catalogue) (s z : State) (l : List Input) → SameUploads first second s z → SameRun first second s z l
    → SameUploads first second (after first s l) (after second z l)
unfolding SameRun after
uploads_of_a_run first second s z [] u r = u
uploads_of_a_run first second s z (p ∷ l) u r = uploads_of_a_run first second (step first s p).0 (step second z p).0 l r.1 r.2

nothing_asked_for : (first second : Catalogue) → SameUploads first second (fresh first) (fresh second)
unfolding fresh
nothing_asked_for first second t e = none_some e

-- Any products that fit the store, of which the second extends the first, powered on in any two stores that are long enough. Both get the
-- same calls in the same lent sizes, each report naming what the first then has, and the first answers every Create, Delete and Set with 0,
-- 1 or 7. (That is assumed of the rules' run from the fresh state; by RunsOnBytes it is the run on the first's store.)
module _ (products : Products) (fit : AllFit products) (p q : ℕ) (first second : Catalogue) (p_is : find p products ≡ some first) (q_is : find q products ≡ some second)
    (ext : Extends first second) (l : List Input) (bytes : AllOfBytes l) (promised : within_the_promise first (fresh first) l ≡ true) where
  the_run : SameRun first second (fresh first) (fresh second) l
  the_run = an_extension_has_the_same_run first second (fit.well_formed p first p_is) (fit.well_formed q second q_is) ext l bytes promised

  module _ (a b : List ℕ) (a_long : store_length ≤ length a) (b_long : store_length ≤ length b) where
    -- Of every call: the same drops; the same reply wherever the first's has a result and it is 0, 1 or 7; the same notifications and alarm walks.
    pub the_second_store_answers_as_the_first : SameOutcomes l (outcomes products (power_on products p a).1 l) (outcomes products (power_on products q b).1 l)
    the_second_store_answers_as_the_first = rw (
      a_run_on_bytes_has_the_rules_outcomes products fit l bytes (power_on products p a).1 _ (a_powered_on_store_holds_the_fresh_state products fit p first a p_is a_long),
      a_run_on_bytes_has_the_rules_outcomes products fit l bytes (power_on products q b).1 _ (a_powered_on_store_holds_the_fresh_state products fit q second b q_is b_long),
    ) (outcomes_of_a_run first second (fresh first) (fresh second) l the_run)

    -- The states that the two stores hold in the end: each attribute in the upload that the first was asked for last stands with the same content
    -- in the second's. A run may end anywhere (what begins a run within the promise is within it), so this is said at every upload.
    pub the_second_store_uploads_what_the_first_does :
        (decode products (memory_after_all products (power_on products p a).1 l) ≡ some (record { product = p; catalogue = first; state = after first (fresh first) l }))
        × (decode products (memory_after_all products (power_on products q b).1 l) ≡ some (record { product = q; catalogue = second; state = after second (fresh second) l }))
        × SameUploads first second (after first (fresh first) l) (after second (fresh second) l)
    the_second_store_uploads_what_the_first_does = (
      a_run_on_bytes_leaves_the_rules_state products fit l bytes (power_on products p a).1 _ (a_powered_on_store_holds_the_fresh_state products fit p first a p_is a_long),
      a_run_on_bytes_leaves_the_rules_state products fit l bytes (power_on products q b).1 _ (a_powered_on_store_holds_the_fresh_state products fit q second b q_is b_long),
      uploads_of_a_run first second (fresh first) (fresh second) l (nothing_asked_for first second) the_run,
    )

  -- And it is sent: for each attribute in the first's upload some Next of the second's, below its count, shows a section that names it, and its
  -- content there is the first's.
  pub the_second_store_sends_what_the_first_does : (t : Table) → (after first (fresh first) l).upload ≡ some t → (c i n : ℕ) → stands_in (sections first t) c i n ≡ true
      → (u : Table) × ((after second (fresh second) l).upload ≡ some u) × Fetched second (after second (fresh second) l) u c i n × (read second u c i n ≡ read first t c i n)
  the_second_store_sends_what_the_first_does =
      each_attribute_is_fetched_from_the_second first second wf' (after first (fresh first) l) (after second (fresh second) l)
      (uploads_of_a_run first second (fresh first) (fresh second) l (nothing_asked_for first second) the_run)
      (λ u e. rw e at (open_state second wf' (after second (fresh second) l)
      (every_run_keeps_the_state_legal second wf' (fresh second) l (the_fresh_state_is_legal second wf') bytes)).its_upload)
    where
      wf' : WellFormed second
      wf' = fit.well_formed q second q_is
