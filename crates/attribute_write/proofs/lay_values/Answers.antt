use Rattle.std.proofs.Common.{refl, length-take, length-drop, arith}
use Rattle.bits.proofs.MaskWalk.{next_in_range}
use Rattle.attribute_write.proofs.Turns.{next_kept, value_room, one_value, all_values}
use Rattle.attribute_write.proofs.lay_values.Goals as goal

pub digit-requires : goal.digit-requires
digit-requires c = next_in_range c.loop-n.invariant.walked c.in-Some.ensures.steps

pub overflow_add-end : goal.overflow_add-end
overflow_add-end c = let z = value_room _ _ c.loop-n.invariant c.in-Some.ensures.steps c.sizes-sizes.ensures c.digit.ensures refl in omega arith

pub begin_of-requires : goal.begin_of-requires
begin_of-requires c = next_kept _ _ c.loop-n.invariant c.in-Some.ensures.steps

pub overflow_add-at : goal.overflow_add-at
overflow_add-at c = let z = value_room _ _ c.loop-n.invariant c.in-Some.ensures.steps c.sizes-sizes.ensures c.digit.ensures c.begin_of.ensures in omega arith

pub slice_bounds-copy_in-end : goal.slice_bounds-copy_in-end
slice_bounds-copy_in-end c = let z = value_room _ _ c.loop-n.invariant c.in-Some.ensures.steps c.sizes-sizes.ensures c.digit.ensures c.begin_of.ensures in omega arith

pub copy_in-requires : goal.copy_in-requires
copy_in-requires c =
    let z = value_room _ _ c.loop-n.invariant c.in-Some.ensures.steps c.sizes-sizes.ensures c.digit.ensures c.begin_of.ensures in
    simp (length-take, length-drop) (omega arith)

pub loop-n-preserved : goal.loop-n-preserved
loop-n-preserved c = one_value _ _ c.loop-n.invariant c.in-Some.ensures.steps c.sizes-sizes.ensures c.digit.ensures c.begin_of.ensures c.copy_in.ensures

pub returns : goal.returns
returns c = all_values _ c.loop-n.invariant c.in-None.ensures.steps.0
