-- A command whose result is 0 was refused by no line, and has done what it does.
use Prim.Native.Nat.{ℕ, suc}
use native.Mathlib.Omega.{arith}
use mathlib.Core.Path.{◌≡◌, refl, ◌∙◌, ap}
use mathlib.Core.Bool.{Bool}
use mathlib.Core.Option.{Option, some}
use mathlib.Core.Logic.{◌≢◌}
use mathlib.Core.List.{List, []}
use Rattle.rules.specs.Maps.{given}
use Rattle.rules.specs.Bytes.{byte}
use Rattle.rules.specs.Catalogue.{Catalogue}
use Rattle.rules.specs.State.{State}
use Rattle.rules.specs.Messages.{Answer, unless_refused}
use Rattle.rules.specs.Run.{perform, first_results, answer}
use Rattle.rules.proofs.MapLaws.{EachLine, first_has}
use Rattle.legality.proofs.Refusals.{NoneApplies, unless_refused_is}

pub above_0 : (n : ℕ) → suc n ≢ 0
above_0 n q = absurd (omega arith)

-- each of these lines refuses with another result than 0
abbrev pub Refuses : List (Bool × List ℕ) → Type 0
Refuses lines = EachLine (λ r. byte r 0 ≢ 0) lines

pub not_refused : (s : State) (lines : List (Bool × List ℕ)) (a : Answer) → Refuses lines → byte (unless_refused s lines a).1 0 ≡ 0
    → NoneApplies lines × (unless_refused s lines a ≡ a)
not_refused s lines a refuses = unless_refused_is (λ x. byte x.1 0 ≡ 0 → NoneApplies lines × (x ≡ a)) s lines a
    (λ r e y. absurd (first_has (λ r. byte r 0 ≢ 0) lines refuses r e y))
    (λ clear y. (clear, refl))

-- a command that the lines before its own haven't refused does what is its own
pub does_its_own : (cat : Catalogue) (s : State) (number c i : ℕ) (v : List ℕ) (a : Answer) → perform cat s number c i v ≡ some a
    → byte (answer cat s number c i v).1 0 ≡ 0 → NoneApplies (first_results cat number c) × (answer cat s number c i v ≡ a)
unfolding answer first_results
does_its_own cat s number c i v a performs zero =
    let passed = not_refused s (first_results cat number c) (given (perform cat s number c i v) (s, []) (λ a. a)) ((λ y. above_0 1), ((λ y. above_0 3), ((λ y. above_0 1), tt))) zero in
    (passed.0, passed.1 ∙ ap (λ (o : Option Answer). given o (s, []) (λ a. a)) performs)
