use Rattle.std.proofs.Common.{◌∙◌, rules}
use Rattle.bits.proofs.Bytes.{next_or_one}
use Rattle.bits.proofs.next_number.Goals as goal

pub returns : goal.returns
returns c = c.max.ensures ∙ next_or_one c.args.x (search rules)
