use native.Mathlib.Omega.{arith}
use Rattle.table.proofs.Ranks.{few_passed, gone_past, stopped_short, at_the_end}
use borrow.Author.Rules.{rules}
use Rattle.table.proofs.past.Statement.{statement}
use Rattle.table.proofs.past.Tie as tie

add_next : tie.Need-overflow_add-next
add_next c =
    let f = c.before in
    let z = few_passed f.args.b.now f.requires.0 f.args.key in
    let y = f.requires.4.from_low in
    omega arith

returns : tie.Need-returns-then-key_at-key
returns c =
    let f = c.before.before.before.before in
    let k = c.key_at.ensures in
    gone_past f.args.b.now f.requires.0 f.args.key f.requires.1 f.requires.2 f.requires.4 (omega arith) (omega arith)

returns-2 : tie.Need-returns-else-key_at-key
returns-2 c =
    let f = c.before.before.before.before in
    let k = c.key_at.ensures in
    stopped_short f.args.b.now f.requires.0 f.args.key f.requires.1 f.requires.2 f.requires.4 (omega arith) (omega arith)

returns-3 : tie.Need-returns-else-next-n
returns-3 c =
    let f = c.before.before in
    at_the_end f.args.b.now f.requires.0 f.args.key f.requires.1 f.requires.2 f.requires.4 (omega arith)

pub past_spec : {M : Type 1} → statement M
past_spec =
    tie.close
    (tie.spec
    add_next
    (λ c. search rules)
    (λ c. search rules)
    (λ c. search rules)
    (λ c κs. search rules)
    returns
    returns-2
    returns-3)
