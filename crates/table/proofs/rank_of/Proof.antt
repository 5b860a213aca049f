use native.Mathlib.Omega.{arith}
use Rattle.table.proofs.Ranks.{few_passed}
use borrow.Author.Rules.{rules}
use Rattle.table.proofs.rank_of.Statement.{statement}
use Rattle.table.proofs.rank_of.Tie as tie

-- 32 places and 31 more are more than there are
past_requires : tie.Need-past-to_32-requires
past_requires c κs =
    let f = c.before.before in
    let z = few_passed f.args.b.now f.requires f.args.key in
    (f.requires, c.in_use-n.ensures, omega arith, omega arith, record { from_low = omega arith; near = omega arith })

pub rank_of_spec : {M : Type 1} → statement M
rank_of_spec =
    tie.close
    (tie.spec
    (λ c κs. search rules)
    past_requires
    (λ c κs. search rules)
    (λ c κs. search rules)
    (λ c κs. search rules)
    (λ c κs. search rules)
    (λ c κs. search rules)
    (λ c. search rules))
