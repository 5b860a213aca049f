use Rattle.rules.specs.Masks.{named}
use Rattle.class_tables.specs.Built.{cat_of}
use Rattle.attribute_check.specs.Judges.{is_in}
use Rattle.attribute_check.proofs.Marked.{Marked}
use Rattle.attribute_check.proofs.bad_mask.Given as goal

abbrev pub invariant-loop-n : goal.invariant-loop-n
invariant-loop-n l = Marked (is_in (cat_of l.product) l.live) l.product l.class l.own l.at l.asked l.v (named l.n-iterator.left) l.from l.bad
