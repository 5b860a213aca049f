use Rattle.std.proofs.Common.{refl}
use Rattle.std.proofs.lemmas.Result.{err_from_is_err_and}
use Rattle.bench_script.specs.Lines.{read_text}
use Rattle.bench_script.proofs.LineLaws.{untouched, followed}
use Rattle.bench_script.proofs.read_text.Goals as goal

pub returns-in_default : goal.returns-in_default
unfolding read_text
returns-in_default c = rw (← c.in_default.ensures.value) (untouched _ _ c.args.bytes.now refl)

pub returns-in_err-asked : goal.returns-in_err-asked
unfolding read_text
returns-in_err-asked c =
    let p = err_from_is_err_and c.from_residual.result c.from_residual.ensures.1 in
    rw (p.1, p.2, ← c.in-Ok.ensures.value, ← c.call_of-call.ensures)
    (followed _ _ _ _ c.args.bytes.now c.read_call.new.bytes c.in_err-asked.ensures refl)

pub returns : goal.returns
unfolding read_text
returns c =
    rw (← c.in-Ok.ensures.value, ← c.call_of-call.ensures)
    (followed _ _ _ _ c.args.bytes.now c.read_call.new.bytes c.in_ok-asked.ensures refl)
