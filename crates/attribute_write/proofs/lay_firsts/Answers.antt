use Rattle.std.proofs.Common.{rules}
use Rattle.attribute_write.proofs.FirstTurns.{one_may, one_first, all_firsts}
use Rattle.attribute_write.proofs.lay_firsts.Goals as goal

pub lay_first-requires : goal.lay_first-requires
lay_first-requires c = one_may _ _ c.loop-n.invariant c.in-Some.ensures.steps

pub loop-n-preserved : goal.loop-n-preserved
loop-n-preserved c = one_first _ _ c.loop-n.invariant c.in-Some.ensures.steps c.lay_first.ensures (search rules)

pub returns : goal.returns
returns c = all_firsts _ _ c.loop-n.invariant c.in-None.ensures.steps.0
