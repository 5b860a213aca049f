use Rattle.std.proofs.Common.{◌≡◌, ◌-◌, ◌<◌}
use Rattle.rules.specs.Maps.{given, nth}
use Rattle.rules.specs.Masks.{mask}
use Rattle.rules.specs.Walks.{sections_of}
use Rattle.class_tables.specs.Built.{class_for}
use Rattle.upload_sections.proofs.ClassCuts.{left_sections}
use Rattle.upload_sections.proofs.cuts.section_mask.Given as goal

-- the section that is so many on from here is the answer
abbrev pub invariant-loop : goal.invariant-loop
invariant-loop l = (l.left < 65536) × (given (nth (left_sections l.product l.class l.left) (l.n - l.counter)) 0 mask ≡ given (nth (sections_of (class_for l.product l.class)) l.n) 0 mask)
