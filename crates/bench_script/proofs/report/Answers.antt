use Rattle.std.proofs.Common.{refl}
use Rattle.std.proofs.lemmas.Result.{err_from_is_err_and}
use Rattle.bench_script.specs.Lines.{report}
use Rattle.bench_script.proofs.LineLaws.{untouched, followed}
use Rattle.bench_script.proofs.report.Goals as goal

pub returns-in_err-three : goal.returns-in_err-three
unfolding report
returns-in_err-three c =
    let p = err_from_is_err_and c.from_residual.result c.from_residual.ensures.1 in
    rw (p.1, p.2, ← c.in_err-three.ensures) (untouched _ _ c.args.bytes.now refl)

pub returns-in_err-length : goal.returns-in_err-length
unfolding report
returns-in_err-length c =
    let p = err_from_is_err_and c.from_residual-in_err-length.result c.from_residual-in_err-length.ensures.1 in
    rw (p.1, p.2, ← c.in_ok-three.ensures)
    (followed _ _ _ _ c.args.bytes.now c.hex_bytes.new.bytes (rw (c.behind.ensures.text, c.behind.ensures.at) at c.in_err-length.ensures) refl)

pub returns : goal.returns
unfolding report
returns c =
    rw (← c.in_ok-three.ensures)
    (followed _ _ _ _ c.args.bytes.now c.hex_bytes.new.bytes (rw (c.behind.ensures.text, c.behind.ensures.at) at c.in_ok-length.ensures) refl)
