use Rattle.std.proofs.Common.{arith, ap, length}
use Rattle.class_tables.proofs.Facts.{few_classes}
use Rattle.upload_sections.proofs.ClassTotals.{class_few, no_more_classes, all_sections, total_more, none_counted}
use Rattle.upload_sections.proofs.section_total.Goals as goal

pub returns-in_default : goal.returns-in_default
returns-in_default c =
    let a = c.args in
    let j = c.loop-j.j in
    omega (arith, none_counted a.product a.b.now j (no_more_classes a.product a.b.now j c.in_default.ensures), ap length (all_sections a.product a.b.now))

pub overflow_add-total : goal.overflow_add-total
overflow_add-total c = omega (arith, class_few c.args.product c.in-Some.class c.args.b.now c.requires)

pub loop-j-preserved : goal.loop-j-preserved
loop-j-preserved c =
    let a = c.args in
    let few = class_few a.product c.in-Some.class a.b.now c.requires in
    let more = total_more a.product a.b.now c.loop-j.j c.in-Some.ensures c.class_total-total.ensures in
    record { few = omega arith; so_far = omega arith }

pub returns : goal.returns
returns c =
    let a = c.args in
    let few = few_classes a.product in
    omega (arith, none_counted a.product a.b.now c.loop-j.j (omega arith), ap length (all_sections a.product a.b.now))
