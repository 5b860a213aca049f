use native.Mathlib.Omega.{arith}
use Rattle.class_tables.proofs.ClassLaws.{inside_fits}
use Rattle.table.proofs.Located.{with_its_leader, in_front, by_itself}
use Rattle.table.proofs.instances.locate.Goals as goal

pub in_place-requires : goal.in_place-requires
in_place-requires c =
    let w = inside_fits c.args.product c.args.class in
    let e = c.inside.ensures in
    (c.requires, omega arith)

pub returns-then-is_created : goal.returns-then-is_created
returns-then-is_created c = with_its_leader _ _ _ _ c.leader_of-leader.ensures c.is_created.ensures c.if-is_created.true c.inside.ensures c.in_place.ensures

pub returns-then-is_ont_data : goal.returns-then-is_ont_data
returns-then-is_ont_data c = in_front _ _ _ _ c.leader_of-leader.ensures c.is_created.ensures c.if-is_created.false c.is_ont_data.ensures c.if-is_ont_data.true

pub returns : goal.returns
returns c = by_itself _ _ _ _ c.leader_of-leader.ensures c.is_created.ensures c.if-is_created.false c.is_ont_data.ensures c.if-is_ont_data.false c.in_slot.ensures
