use Rattle.std.proofs.Common.{rules, refl, length}
use Rattle.std.proofs.lemmas.Result.{err_from_is_err_and}
use Rattle.bench_script.proofs.LineLaws.{message_unknown, message_known}
use Rattle.bench_script.proofs.message.Goals as goal

pub returns-then-is_none : goal.returns-then-is_none
returns-then-is_none c =
    message_unknown (length c.args.bytes.now) c.args.rest.text.now c.args.bytes.now c.args.rest.at _ c.digit.ensures.value
    (search rules)

pub returns-in_err-length : goal.returns-in_err-length
returns-in_err-length c =
    let p = err_from_is_err_and c.from_residual.result c.from_residual.ensures.1 in
    rw (p.1, p.2)
    (message_known (length c.args.bytes.now) c.args.rest.text.now c.args.bytes.now c.args.rest.at _ c.digit.ensures.value
    (search rules) _ _ c.hex_bytes.new.bytes c.in_err-length.ensures refl)

pub returns : goal.returns
returns c =
    message_known (length c.args.bytes.now) c.args.rest.text.now c.args.bytes.now c.args.rest.at _ c.digit.ensures.value
    (search rules) _ _ c.hex_bytes.new.bytes c.in_ok-length.ensures refl
