use native.Mathlib.Omega.{arith}
use lib.ListN.{length-take, length-drop}
use Rattle.attribute_write.proofs.FirstTurns.{first_room, first_put, none_carried, none_of_creator, none_counted, copy_kept, copy_room, first_copied}
use borrow.Author.Rules.{rules}
use Rattle.attribute_write.proofs.lay_first.Statement.{statement}
use Rattle.attribute_write.proofs.lay_first.Tie as tie
use Rattle.class_tables.proofs.Tables.{described}

add_place : tie.Need-overflow_add-place
add_place c = let z = (described c.attribute_of-a.ensures).near in omega arith

put_bytes_requires : tie.Need-put_bytes-requires
put_bytes_requires c κs =
    let x = c.before.before.before.before.before.before in
    let a = x.args in
    first_room a.product a.class a.n a.at a.from.now a.b.now x.requires (described c.attribute_of-a.ensures)

begin_of_requires : tie.Need-begin_of-start-requires
begin_of_requires c κs =
    let at_way2 = c.before in
    let at_attribute_of = at_way2.before.before in
    let x = at_attribute_of.before.before.before in
    let a = x.args in
    copy_kept a.product a.class a.n a.at a.from.now a.b.now x.requires (described at_attribute_of.attribute_of-a.ensures) at_way2.in-Copied.is c.leader_of.ensures

add_end : tie.Need-overflow_add-end
add_end c =
    let at_begin_of = c.before in
    let at_leader_of = at_begin_of.before in
    let at_way2 = at_leader_of.before in
    let at_attribute_of = at_way2.before.before in
    let x = at_attribute_of.before.before.before in
    let a = x.args in
    let z = copy_room a.product a.class a.n a.at a.from.now a.b.now x.requires (described at_attribute_of.attribute_of-a.ensures) at_way2.in-Copied.is
    at_leader_of.leader_of.ensures at_begin_of.begin_of-start.ensures in
    -- that the length of `from` is a usize
    let sized = x.well_formed.1.1.1.1.1 in
    omega arith

part_copy_in_end : tie.Need-slice_bounds-copy_in-end
part_copy_in_end c =
    let at_begin_of = c.before.before in
    let at_leader_of = at_begin_of.before in
    let at_way2 = at_leader_of.before in
    let at_attribute_of = at_way2.before.before in
    let x = at_attribute_of.before.before.before in
    let a = x.args in
    let z = copy_room a.product a.class a.n a.at a.from.now a.b.now x.requires (described at_attribute_of.attribute_of-a.ensures) at_way2.in-Copied.is
    at_leader_of.leader_of.ensures at_begin_of.begin_of-start.ensures in
    omega arith

copy_in_requires : tie.Need-copy_in-requires
copy_in_requires c κs =
    let at_begin_of = c.before.before.before in
    let at_leader_of = at_begin_of.before in
    let at_way2 = at_leader_of.before in
    let at_attribute_of = at_way2.before.before in
    let x = at_attribute_of.before.before.before in
    let a = x.args in
    let y = first_room a.product a.class a.n a.at a.from.now a.b.now x.requires (described at_attribute_of.attribute_of-a.ensures) in
    let z = copy_room a.product a.class a.n a.at a.from.now a.b.now x.requires (described at_attribute_of.attribute_of-a.ensures) at_way2.in-Copied.is
    at_leader_of.leader_of.ensures at_begin_of.begin_of-start.ensures in
    simp (length-take, length-drop) (omega arith)

returns : tie.Need-returns-in-First
returns c =
    let at_put_bytes = c.before.before in
    let at_way = at_put_bytes.before.before in
    let at_attribute_of = at_way.before.before in
    let x = at_attribute_of.before.before.before in
    let a = x.args in
    first_put a.product a.class a.n a.at a.from.now a.b.now x.requires (described at_attribute_of.attribute_of-a.ensures) at_way.in-First.is at_put_bytes.put_bytes.ensures

returns-2 : tie.Need-returns-in-Copied
returns-2 c =
    let at_copy_in = c.before.before in
    let at_begin_of = at_copy_in.before.before.before.before in
    let at_leader_of = at_begin_of.before in
    let at_way2 = at_leader_of.before in
    let at_attribute_of = at_way2.before.before in
    let x = at_attribute_of.before.before.before in
    let a = x.args in
    first_copied a.product a.class a.n a.at a.from.now a.b.now x.requires (described at_attribute_of.attribute_of-a.ensures) at_way2.in-Copied.is
    at_leader_of.leader_of.ensures at_begin_of.begin_of-start.ensures at_copy_in.copy_in.ensures

returns-3 : tie.Need-returns-in-Carried
returns-3 c =
    let x = c.before.before.before.before.before in
    let a = x.args in
    none_carried a.product a.class a.n a.at a.from.now a.b.now x.requires (described c.attribute_of-a.ensures) c.in-Carried.is

returns-4 : tie.Need-returns-in-OfCreator
returns-4 c =
    let x = c.before.before.before.before.before in
    let a = x.args in
    none_of_creator a.product a.class a.n a.at a.from.now a.b.now x.requires (described c.attribute_of-a.ensures) c.in-OfCreator.is

returns-5 : tie.Need-returns-in-CountOf
returns-5 c =
    let x = c.before.before.before.before.before in
    let a = x.args in
    none_counted a.product a.class a.n a.at a.from.now a.b.now x.requires (described c.attribute_of-a.ensures) c.in-CountOf.is

pub lay_first_spec : {M : Type 1} → statement M
lay_first_spec =
    tie.close
    (tie.spec
    (λ c κs. search rules)
    add_place
    (λ c. search rules)
    put_bytes_requires
    (λ c. search rules)
    (λ c κs. search rules)
    begin_of_requires
    add_end
    (λ c. search rules)
    (λ c. search rules)
    part_copy_in_end
    copy_in_requires
    (λ c. search rules)
    (λ c. search rules)
    (λ c. search rules)
    (λ c. search rules)
    returns
    (λ c. search rules)
    returns-2
    returns-3
    returns-4
    returns-5)
