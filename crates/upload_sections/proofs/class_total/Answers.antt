use Rattle.std.proofs.Common.{arith}
use Rattle.upload_sections.proofs.ClassTotals.{class_few, class_total_is}
use Rattle.upload_sections.proofs.class_total.Goals as goal

pub overflow_mul-result : goal.overflow_mul-result
overflow_mul-result c =
    let a = c.args in
    omega (arith, class_few a.product a.class a.b.now c.requires.0, class_total_is a.product a.class a.b.now c.instance_count.ensures c.requires.1)

pub returns : goal.returns
returns c = class_total_is _ _ c.args.b.now c.instance_count.ensures c.requires.1
