-- A run may end anywhere: what begins a run within the promise is within it, so that what is said of such runs is said at each of their calls.
use mathlib.Core.Path.{◌≡◌, refl}
use mathlib.Core.Bool.{true}
use mathlib.Core.List.{List, [], ◌∷◌, ◌++◌}
use Rattle.rules.specs.Catalogue.{Catalogue}
use Rattle.rules.specs.State.{State}
use Rattle.rules.specs.Run.{Input, step, after}
use Rattle.rules.proofs.Laws.{both, and_true}
use Rattle.legality.proofs.Kept.{AllOfBytes}
use Rattle.extending.specs.Promise.{within_the_promise}

-- What begins a run that is within the promise is within the promise, in any catalogue and from any state.
pub what_begins_a_run_within_the_promise_is_within_it : (cat : Catalogue) (s : State) (l rest : List Input) → within_the_promise cat s (l ++ rest) ≡ true
    → within_the_promise cat s l ≡ true
unfolding within_the_promise
what_begins_a_run_within_the_promise_is_within_it cat s [] rest w = refl
what_begins_a_run_within_the_promise_is_within_it cat s (p ∷ l) rest w =
    let here = both w in
    let later = both here.1 in
    and_true here.0 (and_true later.0 (what_begins_a_run_within_the_promise_is_within_it cat (step cat s p).0 l rest later.1))

-- and so is the rest of the run, from the state that what begins it leaves
pub the_rest_of_a_run_within_the_promise_is_within_it : (cat : Catalogue) (s : State) (l rest : List Input) → within_the_promise cat s (l ++ rest) ≡ true
    → within_the_promise cat (after cat s l) rest ≡ true
unfolding within_the_promise after
the_rest_of_a_run_within_the_promise_is_within_it cat s [] rest w = w
the_rest_of_a_run_within_the_promise_is_within_it cat s (p ∷ l) rest w = the_rest_of_a_run_within_the_promise_is_within_it cat (step cat s p).0 l rest (both (both w).1).1

-- the inputs that begin a run of bytes are bytes, and so are those behind them
pub bytes_of_both : (l rest : List Input) → AllOfBytes (l ++ rest) → AllOfBytes l × AllOfBytes rest
bytes_of_both [] rest b = (tt, b)
bytes_of_both (p ∷ l) rest b = let x = bytes_of_both l rest b.1 in ((b.0, x.0), x.1)

-- one run behind another
pub after_both : (cat : Catalogue) (s : State) (l rest : List Input) → after cat s (l ++ rest) ≡ after cat (after cat s l) rest
unfolding after
after_both cat s [] rest = refl
after_both cat s (p ∷ l) rest = after_both cat (step cat s p).0 l rest
