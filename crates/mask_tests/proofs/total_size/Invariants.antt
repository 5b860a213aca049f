use Rattle.rules.specs.Masks.{named}
use Rattle.bits.specs.Digits.{digit}
use Rattle.bits.proofs.MaskWalk.{Walked}
use Rattle.mask_tests.proofs.total_size.Given as goal

abbrev pub invariant-loop-n : goal.invariant-loop-n
invariant-loop-n l = Walked (digit l.sizes) l.asked (named l.n-iterator.left) l.sum
