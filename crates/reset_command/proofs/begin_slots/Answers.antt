use native.Mathlib.Omega.{arith}
use Rattle.class_tables.proofs.SlotLaws.{few_slots}
use Rattle.reset_command.proofs.SlotTurns.{slot_may, one_begun, all_begun}
use Rattle.reset_command.proofs.begin_slots.Goals as goal

pub overflow_mul-j : goal.overflow_mul-j
overflow_mul-j c = let f = few_slots c.args.product in omega arith

pub overflow_add-j : goal.overflow_add-j
overflow_add-j c = let f = few_slots c.args.product in omega arith

pub lay_firsts-requires : goal.lay_firsts-requires
lay_firsts-requires c =
    let i = c.slot_instance-i.result in
    let z = c.slot_instance-i.type_inv in
    slot_may _ _ i.class i.number c.loop-j.invariant c.requires (omega arith) (omega arith) c.slot_instance-i.ensures c.begun.ensures

pub loop-j-preserved : goal.loop-j-preserved
loop-j-preserved c =
    let i = c.slot_instance-i.result in
    let z = c.slot_instance-i.type_inv in
    one_begun _ _ i.class i.number c.loop-j.invariant c.requires (omega arith) (omega arith) c.slot_instance-i.ensures c.begun.ensures c.lay_firsts.ensures c.lay_firsts.auto.b

pub returns : goal.returns
returns c = all_begun _ _ c.loop-j.invariant (omega arith)
