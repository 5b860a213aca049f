use native.Mathlib.Nat.{add-sub_cancel_left}
use borrow.Author.Rules.{rules}
use Rattle.table.proofs.attribute_part.Statement.{statement}
use Rattle.table.proofs.attribute_part.Tie as tie

returns : tie.Need-returns-in-Live
returns c = rw c.in-Live.is (simp add-sub_cancel_left)

returns-2 : tie.Need-returns-in-Frozen
returns-2 c = rw c.in-Frozen.is (simp add-sub_cancel_left)

pub attribute_part_spec : {M : Type 1} → statement M
attribute_part_spec =
    tie.close
    (tie.spec
    (λ c. search rules)
    (λ c. search rules)
    (λ c. search rules)
    (λ c. search rules)
    (λ c. search rules)
    (λ c. search rules)
    (λ c. search rules)
    (λ c. search rules)
    (λ c. search rules)
    returns
    returns-2)
