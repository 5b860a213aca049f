use Rattle.std.proofs.Common.{arith}
use Rattle.attribute_read.proofs.Items.{small_entry}
use Rattle.attribute_read.proofs.in_entry.Goals as goal

pub overflow_add-result : goal.overflow_add-result
overflow_add-result c = omega (arith, small_entry c.args.product c.args.class c.args.n c.requires.0 c.requires.1, c.inside.ensures, c.begin_of.ensures)
