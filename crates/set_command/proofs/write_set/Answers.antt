use Rattle.set_command.proofs.Wrote.{wrote_counted, wrote_alone}
use Rattle.set_command.proofs.write_set.Goals as goal

pub returns-then-class-ne-ONT_DATA : goal.returns-then-class-ne-ONT_DATA
returns-then-class-ne-ONT_DATA c =
    let a = c.args in
    wrote_counted a.product a.class a.at a.asked a.v.now a.b.now
    c.lay_values.ensures c.if-class-ne-ONT_DATA.true
    c.move_counter.ensures

pub returns-else-class-ne-ONT_DATA : goal.returns-else-class-ne-ONT_DATA
returns-else-class-ne-ONT_DATA c =
    let a = c.args in
    wrote_alone a.product a.class a.at a.asked a.v.now a.b.now c.lay_values.ensures c.if-class-ne-ONT_DATA.false
