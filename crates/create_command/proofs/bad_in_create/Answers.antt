use native.Mathlib.Omega.{arith}
use Rattle.class_tables.proofs.Facts.{contents_fit}
use Rattle.create_command.proofs.Bad.{judged_is, sum_small, sum_is}
use Rattle.create_command.proofs.Steps.{named_room}
use Rattle.create_command.proofs.bad_in_create.Goals as goal

pub bad_mask-requires : goal.bad_mask-requires
bad_mask-requires c =
    let a = c.args in
    let fit = contents_fit a.product a.class in
    let long = c.requires.3 in
    (c.requires.0, named_room a.product a.class a.v.now c.requires.2 c.carried_mask-carried.ensures, omega arith)

pub overflow_add-result : goal.overflow_add-result
overflow_add-result c =
    let a = c.args in
    let one = judged_is a.product a.class a.live.now a.r.now a.v.now c.carried_mask-carried.ensures c.bad_mask.ensures in
    let other = c.unkept_bit.ensures in
    let small = sum_small a.product a.class a.live.now a.r.now a.v.now in
    omega arith

pub returns : goal.returns
returns c =
    let a = c.args in
    sum_is a.product a.class a.live.now a.r.now a.v.now
    (judged_is a.product a.class a.live.now a.r.now a.v.now c.carried_mask-carried.ensures c.bad_mask.ensures) c.unkept_bit.ensures
