use Rattle.bits.proofs.Digits.{digit_read}
use Rattle.bits.proofs.digit.Goals as goal

pub returns : goal.returns
returns c = digit_read c.args.x c.args.n c.requires.1
