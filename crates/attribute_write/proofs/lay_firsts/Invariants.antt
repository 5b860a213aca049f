use Rattle.rules.specs.Masks.{named}
use Rattle.class_tables.specs.Built.{class_for}
use Rattle.attribute_write.specs.Lays.{leading_class}
use Rattle.attribute_write.proofs.FirstTurns.{FirstsLaid}
use Rattle.attribute_write.proofs.lay_firsts.Given as goal

abbrev pub invariant-loop-n : goal.invariant-loop-n
invariant-loop-n l = FirstsLaid (class_for l.product l.class) (leading_class l.product l.class) l.at l.asked l.from l.fn.b l.b (named l.n-iterator.left)
