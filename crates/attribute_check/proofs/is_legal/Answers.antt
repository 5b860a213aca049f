use Rattle.std.proofs.Common.{rules}
use Rattle.class_tables.specs.Built.{cat_of, class_for}
use Rattle.attribute_check.specs.Judges.{fixed_at, legal_by}
use Rattle.attribute_check.proofs.Verdicts.{with_two_bytes, found_fine, found_bad, found_asking}
use Rattle.attribute_check.proofs.is_legal.Goals as goal

pub returns-in-Fine : goal.returns-in-Fine
unfolding legal_by
returns-in-Fine c =
    let a = c.args in
    let k = class_for a.product a.class in
    found_fine k a.v.now (fixed_at k a.own.now a.at) c.requires.1 c.judge-verdict.ensures c.requires.2 c.value_in.ensures c.condition_of-condition.ensures _
    c.in-Fine.is

pub returns-in-Bad : goal.returns-in-Bad
unfolding legal_by
returns-in-Bad c =
    let a = c.args in
    let k = class_for a.product a.class in
    found_bad k a.v.now (fixed_at k a.own.now a.at) c.requires.1 c.judge-verdict.ensures c.requires.2 c.value_in.ensures c.condition_of-condition.ensures _
    c.in-Bad.is

pub returns-in-Asks : goal.returns-in-Asks
unfolding legal_by
returns-in-Asks c =
    let a = c.args in
    let k = class_for a.product a.class in
    found_asking k a.v.now (fixed_at k a.own.now a.at) c.requires.1 c.judge-verdict.ensures c.requires.2 c.value_in.ensures c.condition_of-condition.ensures _
    c.in-Asks.is (with_two_bytes (cat_of a.product) a.live.now _ _ c.is_there.ensures (search rules))
