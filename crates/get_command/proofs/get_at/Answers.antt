use mathlib.Core.Path.{◌≡◌, ◌∙◌, ap}
use Rattle.std.proofs.Common.{Err, arith}
use Rattle.std.proofs.lemmas.Grind.{common_steps}
use Rattle.rules.specs.Bytes.{fill}
use Rattle.get_command.proofs.Answers.{as_told, packable}
use Rattle.get_command.proofs.get_at.Goals as goal

pub returns-in_err-get_refusal-clause-contents : goal.returns-in_err-get_refusal-clause-contents
returns-in_err-get_refusal-clause-contents c =
    let a = c.args in
    let w = a.what in
    let e : c.from_residual.result ≡ Err c.in_err-get_refusal.field-0.0 = grind (arith, common_steps) in
    rw e (ap (fill 32) (as_told a.product a.b.now w.class w.number w.at w.mask c.in_err-get_refusal.ensures))

pub show-requires : goal.show-requires
show-requires c =
    let a = c.args in
    let w = a.what in
    (packable a.product a.b.now w.class w.number w.at w.mask c.in_ok-get_refusal.ensures c.requires.0 c.requires.1, c.requires.2)

pub returns-clause-contents : goal.returns-clause-contents
returns-clause-contents c =
    let a = c.args in
    let w = a.what in
    c.show.ensures ∙ ap (fill 32) (as_told a.product a.b.now w.class w.number w.at w.mask c.in_ok-get_refusal.ensures)
