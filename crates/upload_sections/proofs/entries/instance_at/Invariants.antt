use Rattle.std.proofs.Common.{◌≡◌, drop}
use Rattle.std.proofs.Math.Option.{some}
use Rattle.std.specs.Prelude.{get_or}
use Rattle.rules.specs.Maps.{nth}
use Rattle.class_tables.specs.Built.{cat_of}
use Rattle.table.specs.Places.{keys_in}
use Rattle.upload_sections.specs.Sections.{numbers_in}
use Rattle.upload_sections.proofs.EntryLaws.{all_keys, numbers_of}
use Rattle.upload_sections.proofs.entries.instance_at.Given as goal

-- the one that is so many on from the i-th entry is the answer
abbrev pub invariant-loop-i : goal.invariant-loop-i
invariant-loop-i l = nth (numbers_of l.leader (drop l.i (all_keys l.product l.b))) l.left ≡ some (get_or (numbers_in (cat_of l.product) (keys_in l.b) l.class) l.j 0)
