use Rattle.std.proofs.Common.{arith, ◌+◌, ◌<◌, length}
use Rattle.class_tables.specs.Built.{class_for}
use Rattle.attribute_check.proofs.Looking.{looked_room, looked_there}
use Rattle.attribute_check.proofs.looked.Goals as goal

-- it is within the bytes that are lent
pub bounds-own-at : goal.bounds-own-at
bounds-own-at c =
    let a = c.args in
    looked_room (class_for a.product a.class) a.n a.own.now a.at c.requires.0 c.requires.1 c.begin_of.ensures

pub overflow_add-at : goal.overflow_add-at
overflow_add-at c =
    let a = c.args in
    omega (arith, looked_room (class_for a.product a.class) a.n a.own.now a.at c.requires.0 c.requires.1 c.begin_of.ensures)

pub returns : goal.returns
returns c =
    let a = c.args in
    looked_there (class_for a.product a.class) a.n a.own.now a.at c.requires.0 c.requires.1 c.begin_of.ensures c.from.ensures
