use Rattle.std.proofs.Common.{◌≡◌, ◌+◌, ◌<◌, length}
use Rattle.rules.specs.Walks.{sections_of}
use Rattle.class_tables.specs.Built.{class_for}
use Rattle.upload_sections.proofs.ClassCuts.{left_sections}
use Rattle.upload_sections.proofs.cuts.section_count.Given as goal

-- those counted, and those of what remains, make the answer
abbrev pub invariant-loop-product : goal.invariant-loop-product
invariant-loop-product l = (l.left < 65536) × (l.count + length (left_sections l.product l.class l.left) ≡ length (sections_of (class_for l.product l.class)))

abbrev pub decreases-loop-product : goal.decreases-loop-product
decreases-loop-product l = length (left_sections l.product l.class l.left)
