use Rattle.bits.proofs.Masks.{bit_shifted}
use Rattle.bits.proofs.bit_of.Goals as goal

pub returns : goal.returns
returns c = bit_shifted c.args.n c.requires.0 c.requires.1
