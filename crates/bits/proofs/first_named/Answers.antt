use Rattle.std.proofs.Common.{arith, rules}
use Rattle.bits.proofs.Masks.{first_named}
use Rattle.bits.proofs.first_named.Goals as goal

pub returns : goal.returns
returns c = first_named c.args.mask (omega (arith, c.requires)) (search rules)
