use Rattle.std.proofs.Common.{arith}
use Rattle.bits.specs.Digits.{digit}
use Rattle.bits.proofs.MaskWalk.{next_in_range}
use Rattle.class_tables.proofs.SizeLaws.{read_off}
use Rattle.upload_sections.proofs.Cutting.{bit_room, one_more, full, used_up}
use Rattle.upload_sections.proofs.cuts.first_section.Goals as goal

pub digit-used-requires : goal.digit-used-requires
digit-used-requires c = next_in_range c.loop-n.invariant.walked c.in-Some.ensures.steps

pub overflow_add-used : goal.overflow_add-used
unfolding digit
overflow_add-used c =
    let room = c.loop-n.invariant.room in
    let small = c.digit-used.ensures in
    omega arith

pub returns-then-used-gt-ROOM : goal.returns-then-used-gt-ROOM
returns-then-used-gt-ROOM c =
    let i = next_in_range c.loop-n.invariant.walked c.in-Some.ensures.steps in
    full _ c.loop-n.invariant c.in-Some.ensures.steps (read_off _ _ _ i.0 i.1 c.sizes.ensures c.digit-used.ensures) c.if-used-gt-ROOM.true

pub bit_of-section-requires : goal.bit_of-section-requires
bit_of-section-requires c = next_in_range c.loop-n.invariant.walked c.in-Some.ensures.steps

pub overflow_add-section : goal.overflow_add-section
overflow_add-section c = let z = bit_room _ c.loop-n.invariant c.in-Some.ensures.steps c.bit_of-section.ensures in omega arith

pub loop-n-preserved : goal.loop-n-preserved
loop-n-preserved c =
    let i = next_in_range c.loop-n.invariant.walked c.in-Some.ensures.steps in
    one_more _ c.loop-n.invariant c.in-Some.ensures.steps (read_off _ _ _ i.0 i.1 c.sizes.ensures c.digit-used.ensures) c.bit_of-section.ensures (omega arith)

pub returns : goal.returns
returns c = used_up _ c.loop-n.invariant c.in-None.ensures.steps.0
