use native.Mathlib.Omega.{arith}
use mathlib.Core.Path.{refl}
use Rattle.table.proofs.Ranks.{few_passed, none_passed, last_looked_at}
use borrow.Author.Rules.{rules}
use Rattle.table.proofs.has_key.Statement.{statement}
use Rattle.table.proofs.has_key.Tie as tie

returns : tie.Need-returns-then-j-eq0
returns c =
    let f = c.before.before in
    none_passed f.args.b.now f.requires.0 f.args.key f.requires.1 _ refl c.if-j-eq0.true

mul_key_at : tie.Need-overflow_mul-j
mul_key_at c =
    let f = c.before.before in
    let z = few_passed f.args.b.now f.requires.0 f.args.key in
    omega arith

add_key_at : tie.Need-overflow_add-j
add_key_at c =
    let f = c.before.before in
    let z = few_passed f.args.b.now f.requires.0 f.args.key in
    omega arith

key_at_requires : tie.Need-key_at-requires
key_at_requires c κs =
    let f = c.before.before in
    let z = few_passed f.args.b.now f.requires.0 f.args.key in
    omega arith

returns-2 : tie.Need-returns
returns-2 c =
    let f = c.before.before.before in
    last_looked_at f.args.b.now f.requires.0 f.args.key f.requires.1 c.if-j-eq0.false _ c.key_at.ensures

pub has_key_spec : {M : Type 1} → statement M
has_key_spec =
    tie.close (tie.spec returns (λ c. search rules) mul_key_at add_key_at key_at_requires returns-2)
