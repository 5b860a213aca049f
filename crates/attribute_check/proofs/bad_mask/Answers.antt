use Rattle.std.proofs.Common.{refl, ap, not, arith}
use Rattle.bits.proofs.MaskWalk.{next_in_range}
use Rattle.attribute_check.proofs.Marked.{bit_room, part_room, part_sized, one_marked, none_marked, all_marked}
use Rattle.attribute_check.proofs.bad_mask.Goals as goal

pub digit-requires : goal.digit-requires
digit-requires c = next_in_range c.loop-n.invariant.walked c.in-Some.ensures.steps

pub overflow_add-to : goal.overflow_add-to
overflow_add-to c =
    let z = part_room _ _ _ _ _ c.loop-n.invariant c.in-Some.ensures.steps c.sizes-sizes.ensures c.digit.ensures in
    omega arith

pub bit_of-bit-requires : goal.bit_of-bit-requires
bit_of-bit-requires c = next_in_range c.loop-n.invariant.walked c.in-Some.ensures.steps

pub slice_bounds-fits-end : goal.slice_bounds-fits-end
slice_bounds-fits-end c =
    let z = part_room _ _ _ _ _ c.loop-n.invariant c.in-Some.ensures.steps c.sizes-sizes.ensures c.digit.ensures in
    omega arith

pub fits-requires : goal.fits-requires
fits-requires c =
    let i = next_in_range c.loop-n.invariant.walked c.in-Some.ensures.steps in
    (c.requires.0, i.0, i.1, part_sized _ _ _ _ _ c.loop-n.invariant c.in-Some.ensures.steps c.sizes-sizes.ensures c.digit.ensures, c.requires.2)

pub overflow_add-bad : goal.overflow_add-bad
overflow_add-bad c = let z = bit_room _ _ _ _ _ c.loop-n.invariant c.in-Some.ensures.steps c.bit_of-bit.ensures in omega arith

pub loop-n-preserved-then-not-fits : goal.loop-n-preserved-then-not-fits
loop-n-preserved-then-not-fits c =
    one_marked _ _ _ _ _ c.loop-n.invariant c.in-Some.ensures.steps c.sizes-sizes.ensures c.digit.ensures c.bit_of-bit.ensures c.fits.ensures (ap not c.if-not-fits.true) refl

pub loop-n-preserved : goal.loop-n-preserved
loop-n-preserved c =
    none_marked _ _ _ _ _ c.loop-n.invariant c.in-Some.ensures.steps c.sizes-sizes.ensures c.digit.ensures c.bit_of-bit.ensures c.fits.ensures (ap not c.if-not-fits.false) refl

pub returns : goal.returns
returns c = all_marked _ _ _ _ _ c.loop-n.invariant c.in-None.ensures.steps.0
