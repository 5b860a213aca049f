use Rattle.std.proofs.Common.{arith}
use Rattle.class_tables.proofs.SlotLaws.{few_slots}
use Rattle.upload_sections.proofs.EntryLaws.{entries_length}
use Rattle.upload_sections.proofs.entries.entry_count.Goals as goal

pub overflow_add-result : goal.overflow_add-result
overflow_add-result c = omega (arith, few_slots c.args.product, c.requires.few)

pub returns : goal.returns
returns c = omega (arith, entries_length c.args.product c.args.b.now)
