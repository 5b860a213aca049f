use native.Mathlib.Omega.{arith}
use Rattle.create_command.proofs.Bad.{nothing_unkept, is_number, unkept_room, was_zero, was_not_zero}
use Rattle.create_command.proofs.unkept_bit.Goals as goal

pub returns-in_default : goal.returns-in_default
returns-in_default c = nothing_unkept c.args.product c.args.class c.args.v.now c.requires c.in_default.ensures

pub overflow_add-to : goal.overflow_add-to
overflow_add-to c =
    let room = unkept_room c.args.product c.args.class c.args.v.now c.requires c.in-Some.u c.in-Some.ensures c.carried_size-from.ensures in
    let long = c.requires in
    omega arith

pub slice_bounds-zeros-end : goal.slice_bounds-zeros-end
slice_bounds-zeros-end c =
    let room = unkept_room c.args.product c.args.class c.args.v.now c.requires c.in-Some.u c.in-Some.ensures c.carried_size-from.ensures in
    omega arith

pub returns-then-zeros : goal.returns-then-zeros
returns-then-zeros c =
    was_zero c.args.product c.args.class c.args.v.now c.requires c.in-Some.u c.in-Some.ensures c.carried_size-from.ensures c.zeros.ensures c.if-zeros.true

pub bit_of-requires : goal.bit_of-requires
bit_of-requires c = is_number c.args.product c.args.class c.args.v.now c.requires c.in-Some.u c.in-Some.ensures

pub returns : goal.returns
returns c =
    was_not_zero c.args.product c.args.class c.args.v.now c.requires c.in-Some.u c.in-Some.ensures c.carried_size-from.ensures c.zeros.ensures c.if-zeros.false
    c.bit_of.ensures
