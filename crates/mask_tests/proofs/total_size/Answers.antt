use Rattle.std.proofs.Common.{◌∙◌, arith}
use Rattle.bits.proofs.MaskWalk.{nothing_walked, all_walked, one_walked, next_in_range}
use Rattle.mask_tests.proofs.Refused.{next_small, total_read}
use Rattle.mask_tests.proofs.total_size.Goals as goal

pub loop-n-init : goal.loop-n-init
loop-n-init c = nothing_walked _ cc

pub digit-sum-requires : goal.digit-sum-requires
digit-sum-requires c = next_in_range c.loop-n.invariant c.in-Some.ensures.steps

pub overflow_add-sum : goal.overflow_add-sum
overflow_add-sum c = let z = next_small _ c.loop-n.invariant c.in-Some.ensures.steps in omega (arith, c.digit-sum.ensures)

pub loop-n-preserved : goal.loop-n-preserved
loop-n-preserved c = one_walked c.loop-n.invariant c.in-Some.ensures.steps c.digit-sum.ensures

pub returns : goal.returns
returns c = all_walked c.loop-n.invariant c.in-None.ensures.steps.0 ∙ total_read _ _ _ c.sizes-sizes.ensures _
