use Rattle.std.proofs.Common.{arith}
use Rattle.attribute_write.proofs.Puts.{nothing_put, one_put, all_put}
use Rattle.attribute_write.proofs.put_bytes.Goals as goal

pub loop-i-init : goal.loop-i-init
loop-i-init c = nothing_put _ _ _ _

pub loop-i-preserved : goal.loop-i-preserved
loop-i-preserved c = one_put c.loop-i.invariant c.requires (omega arith) c.low.ensures

pub returns : goal.returns
returns c = all_put c.loop-i.invariant (omega arith)
