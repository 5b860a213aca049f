use Rattle.std.proofs.lemmas.Result.{err_from_is_err_and}
use Rattle.bench_script.specs.Lines.{alarm}
use Rattle.bench_script.proofs.alarm.Goals as goal

pub returns-in_err-three : goal.returns-in_err-three
unfolding alarm
returns-in_err-three c =
    let p = err_from_is_err_and c.from_residual.result c.from_residual.ensures.1 in rw (p.1, p.2, ← c.in_err-three.ensures)

pub returns : goal.returns
unfolding alarm
returns c = rw (← c.in_ok-three.ensures) (rw (c.behind.ensures.text, c.behind.ensures.at) at c.on_or_off.ensures)
