use Rattle.attribute_write.proofs.Puts.{Put}
use Rattle.attribute_write.proofs.put_bytes.Given as goal

abbrev pub invariant-loop-i : goal.invariant-loop-i
invariant-loop-i l = Put l.at l.size l.x l.fn.b l.b l.rest l.i
