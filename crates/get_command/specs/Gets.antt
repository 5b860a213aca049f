-- A Get of an instance that is there: what refuses it, and what it answers, over the bytes of a live table.
use Rattle.std.specs.Prelude.{ℕ, true, List, ◌∷◌, ◌++◌, Result, Ok, Err}
use Rattle.std.proofs.Math.Option.{Option, none, some}
use Rattle.rules.specs.Maps.{given, first_that_applies}
use Rattle.rules.specs.Bytes.{bytes}
use Rattle.rules.specs.Masks.{named}
use Rattle.rules.specs.Messages.{done}
use Rattle.rules.specs.Commands.{get_results}
use Rattle.class_tables.specs.Built.{cat_of, class_for}
use Rattle.class_tables.specs.declared.Product.{Product}
use Rattle.attribute_read.specs.Values.{values_at}
use Rattle.outcome.specs.declared.refusals.Refusal.{Refusal}
use Rattle.outcome.specs.Refusals.{refused}

-- the reply contents that the code's answer about a refusal stands for, or none
abbrev pub get_contents : Result (Unit {0}) Refusal → Option (List ℕ)
get_contents (Ok u) = none
get_contents (Err r) = some (refused r)

-- what answers a Get with mask m of instance i of class c whose contents begin at a place of b
unfoldable pub answer_at : Product → List ℕ → ℕ → ℕ → ℕ → ℕ → List ℕ
answer_at pr b c i at m =
    given (first_that_applies (get_results true (class_for pr c) m)) (done ∷ bytes 2 m ++ values_at (cat_of pr) b c i at (named m)) (λ r. r)
