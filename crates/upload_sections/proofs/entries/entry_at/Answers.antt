use Rattle.std.proofs.Common.{arith, rules}
use Rattle.upload_sections.proofs.EntryLaws.{entries_length, place_entry}
use Rattle.upload_sections.proofs.entries.entry_at.Goals as goal

-- the place is one of those that there are
pub overflow_mul-p : goal.overflow_mul-p
overflow_mul-p c = omega (arith, entries_length c.args.product c.args.b.now, c.requires.0.few, c.requires.1)

pub overflow_add-p : goal.overflow_add-p
overflow_add-p c = omega (arith, entries_length c.args.product c.args.b.now, c.requires.0.few, c.requires.1)

pub number_at-requires : goal.number_at-requires
number_at-requires c = omega (arith, entries_length c.args.product c.args.b.now, c.requires.0.few, c.requires.1, c.requires.0.long)

pub overflow_add-p-2 : goal.overflow_add-p-2
overflow_add-p-2 c = omega (arith, entries_length c.args.product c.args.b.now, c.requires.0.few, c.requires.1)

pub number_at-requires-2 : goal.number_at-requires-2
number_at-requires-2 c = omega (arith, entries_length c.args.product c.args.b.now, c.requires.0.few, c.requires.1, c.requires.0.long)

pub returns : goal.returns
returns c =
    let a = c.args in
    place_entry a.product a.b.now _ a.i c.slots-n.ensures _ _ (search rules) (omega arith) c.requires.1 c.number_at.ensures c.number_at-2.ensures
