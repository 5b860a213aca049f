use Rattle.std.proofs.Common.{◌≡◌}
use Rattle.rules.specs.Maps.{nth}
use Rattle.class_tables.specs.Built.{cat_of}
use Rattle.table.specs.Places.{keys_in}
use Rattle.upload_sections.specs.Sections.{sections_in}
use Rattle.upload_sections.proofs.ClassTotals.{sections_on}
use Rattle.upload_sections.proofs.section_at.Given as goal

-- the one that is so many on from the j-th class is the answer
abbrev pub invariant-loop-j : goal.invariant-loop-j
invariant-loop-j l = nth (sections_on l.product l.b l.j) l.left ≡ nth (sections_in (cat_of l.product) (keys_in l.b)) l.n
