use Rattle.std.proofs.Common.{rules, ap, ◌∙◌}
use Rattle.rules.specs.Bytes.{laid}
use Rattle.octets.proofs.Laid.{laid_part}
use Rattle.octets.proofs.copy_in.Goals as goal

pub returns : goal.returns
returns c =
    laid_part c.args.at _ c.copy_from_slice.new.self c.args.dst.now (search rules)
    ∙ ap (λ v. laid c.args.at v c.args.dst.now) c.copy_from_slice.ensures.after
