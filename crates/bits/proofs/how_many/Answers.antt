use Rattle.std.proofs.Common.{rules}
use Rattle.bits.proofs.Masks.{named_count}
use Rattle.bits.proofs.how_many.Goals as goal

pub returns : goal.returns
returns c = named_count c.args.mask (search rules)
