use Rattle.std.proofs.Common.{ap, ◌∙◌}
use Rattle.rules.specs.Bytes.{laid}
use Rattle.table.specs.Places.{chosen}
use Rattle.attribute_read.proofs.Written.{count_small, shown_at, shown_count}
use Rattle.attribute_read.proofs.put.Goals as goal

pub put_count-requires : goal.put_count-requires
put_count-requires c =
    let a = c.args in
    let b = chosen a.which a.live.now a.frozen.now in
    (rw c.naming-count.ensures (count_small c.in-Count.class c.in-Count.o a.number b c.requires.shaped), c.requires.sized, c.requires.room_for_it)

pub returns-in-At : goal.returns-in-At
returns-in-At c =
    let a = c.args in
    let b = chosen a.which a.live.now a.frozen.now in
    c.copy_in.ensures ∙ ap (λ v. laid a.to v a.out.now) (c.attribute_part-part.ensures ∙ shown_at b a.number a.x c.in-At.is)

pub returns-in-Count : goal.returns-in-Count
returns-in-Count c =
    let a = c.args in
    let b = chosen a.which a.live.now a.frozen.now in
    c.put_count.ensures ∙ ap (λ v. laid a.to v a.out.now) (shown_count b a.number a.x c.in-Count.is c.naming-count.ensures)
