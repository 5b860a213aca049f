-- A command that is answered with 0, 1 or 7, where every refusal has another result, was accepted.
use Prim.Native.Nat.{ℕ}
use mathlib.Core.Path.{◌≡◌, refl}
use mathlib.Core.Bool.{Bool, true, false}
use mathlib.Core.Option.{none}
use mathlib.Core.List.{List, [], ◌∷◌}
use Rattle.rules.specs.Maps.{first_that_applies}
use Rattle.rules.specs.Bytes.{byte}
use Rattle.rules.specs.State.{State}
use Rattle.rules.specs.Messages.{Answer, unless_refused}
use Rattle.rules.proofs.Laws.{true_false}
use Rattle.legality.proofs.Refusals.{NoneApplies, unless_refused_is}
use Rattle.extending.specs.Promise.{is_0_1_or_7}
use Rattle.rules.proofs.MapLaws.{EachLine, first_has}

pub none_applied : (s : State) (lines : List (Bool × List ℕ)) (a : Answer) → EachLine (λ r. is_0_1_or_7 (byte r 0) ≡ false) lines
    → is_0_1_or_7 (byte (unless_refused s lines a).1 0) ≡ true → NoneApplies lines
none_applied s lines a others = unless_refused_is (λ b. is_0_1_or_7 (byte b.1 0) ≡ true → NoneApplies lines) s lines a
    (λ r e y. true_false y (first_has (λ r. is_0_1_or_7 (byte r 0) ≡ false) lines others r e))
    (λ clear y. clear)

no_line : (lines : List (Bool × List ℕ)) → NoneApplies lines → first_that_applies lines ≡ none
unfolding first_that_applies
no_line [] clear = refl
no_line (r ∷ l) clear = rw clear.0 (no_line l clear.1)

pub accepted_is : (s : State) (lines : List (Bool × List ℕ)) (a : Answer) → NoneApplies lines → unless_refused s lines a ≡ a
unfolding unless_refused
accepted_is s lines a clear = rw (no_line lines clear) refl
