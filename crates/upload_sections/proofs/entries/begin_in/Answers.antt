use Rattle.std.proofs.Common.{arith}
use Rattle.class_tables.proofs.ClassLaws.{inside_fits}
use Rattle.upload_sections.proofs.EntryLaws.{begins_in_slot, begins_in_place}
use Rattle.upload_sections.proofs.entries.begin_in.Goals as goal

pub returns-then-i-n : goal.returns-then-i-n
returns-then-i-n c = begins_in_slot _ _ c.slots-n.ensures c.if-i-n.true

pub overflow_add-result-4 : goal.overflow_add-result-4
overflow_add-result-4 c = omega (arith, inside_fits c.args.product c.args.class)

pub returns : goal.returns
returns c = begins_in_place _ _ c.slots-n.ensures (omega arith) c.inside.ensures
