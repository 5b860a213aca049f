use Rattle.rules.specs.Masks.{named}
use Rattle.rules.specs.Catalogue.{size_of}
use Rattle.class_tables.specs.Built.{class_for}
use Rattle.upload_sections.proofs.Cutting.{Cutting}
use Rattle.upload_sections.proofs.cuts.first_section.Given as goal

abbrev pub invariant-loop-n : goal.invariant-loop-n
invariant-loop-n l = Cutting (size_of (class_for l.product l.class)) l.remaining (named l.n-iterator.left) l.used l.section
