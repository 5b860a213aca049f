use Rattle.rules.specs.Masks.{named}
use Rattle.attribute_read.proofs.Packed.{Packed}
use Rattle.attribute_read.proofs.pack.Given as goal

abbrev pub invariant-loop-n : goal.invariant-loop-n
invariant-loop-n l = Packed l.product l.which l.live l.frozen l.what.class l.what.number l.what.at l.what.mask (named l.n-iterator.left) l.to l.fn.out l.out
