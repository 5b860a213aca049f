use Rattle.std.proofs.Common.{ap, sym, ◌∙◌, rules}
use Rattle.rules.specs.Bytes.{laid}
use Rattle.octets.proofs.Laid.{laid_part, laid_number}
use Rattle.octets.proofs.Writes.{two_bytes}
use Rattle.octets.proofs.put_number.Goals as goal

pub returns : goal.returns
returns c =
    laid_part c.args.i _ c.copy_from_slice.new.self c.args.s.now (search rules)
    ∙ ap (λ v. laid c.args.i v c.args.s.now) (c.copy_from_slice.ensures.after ∙ c.to_be_bytes.ensures ∙ two_bytes c.args.n)
    ∙ sym (laid_number c.args.i c.args.n c.args.s.now)
