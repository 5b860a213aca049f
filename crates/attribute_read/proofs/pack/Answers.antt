use Rattle.std.proofs.Common.{arith}
use Rattle.attribute_read.proofs.Packed.{nothing_packed, length_packed, all_packed, its_entry, next_there, next_fits, one_more}
use Rattle.attribute_read.proofs.pack.Goals as goal

pub loop-n-init : goal.loop-n-init
loop-n-init c = nothing_packed _ (cc) c.requires

pub item_for-x-requires : goal.item_for-x-requires
item_for-x-requires c = (its_entry _ c.loop-n.invariant, next_there _ c.loop-n.invariant c.in-Some.ensures.steps)

pub put-requires : goal.put-requires
put-requires c = next_fits _ c.loop-n.invariant c.in-Some.ensures.steps c.item_for-x.ensures

-- what is no more than a list's length, which is a usize, fits a usize
pub overflow_add-to : goal.overflow_add-to
overflow_add-to c =
    let room = (next_fits _ c.loop-n.invariant c.in-Some.ensures.steps c.item_for-x.ensures).room_for_it in
    let long = length_packed _ c.loop-n.invariant in
    omega arith

pub loop-n-preserved : goal.loop-n-preserved
loop-n-preserved c = one_more _ c.loop-n.invariant c.in-Some.ensures.steps c.item_for-x.ensures c.put.ensures

pub returns : goal.returns
returns c = all_packed _ c.loop-n.invariant c.in-None.ensures.steps.0
