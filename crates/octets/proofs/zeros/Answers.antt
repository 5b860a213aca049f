use Rattle.std.proofs.Common.{◌≡◌, bit_or, fold, eqb, ap, ◌∙◌, rules}
use Rattle.octets.proofs.Tests.{zeros_folded}
use Rattle.octets.proofs.zeros.Goals as goal

pub returns : goal.returns
returns c =
    let e : c.fold.result ≡ fold bit_or 0 c.args.s.now = search rules in
    ap (λ x. eqb x 0) e ∙ zeros_folded 0 c.args.s.now
