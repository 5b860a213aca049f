use Rattle.rules.specs.Masks.{named}
use Rattle.class_tables.specs.Built.{class_for}
use Rattle.attribute_write.proofs.Turns.{Values}
use Rattle.attribute_write.proofs.lay_values.Given as goal

abbrev pub invariant-loop-n : goal.invariant-loop-n
invariant-loop-n l = Values (class_for l.product l.class) l.at l.asked l.v l.fn.b l.b (named l.n-iterator.left) l.from
