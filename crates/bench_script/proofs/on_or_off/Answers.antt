use Rattle.std.proofs.lemmas.Result.{err_from_is_err_and}
use Rattle.bench_script.specs.Lines.{on_or_off}
use Rattle.bench_script.proofs.on_or_off.Goals as goal

pub returns-in_err-word : goal.returns-in_err-word
unfolding on_or_off
returns-in_err-word c =
    let p = err_from_is_err_and c.from_residual.result c.from_residual.ensures.1 in rw (p.1, p.2, ← c.in_err-word.ensures.value)

pub returns-in_err-on : goal.returns-in_err-on
unfolding on_or_off
returns-in_err-on c =
    let p = err_from_is_err_and c.from_residual-in_err-on.result c.from_residual-in_err-on.ensures.1 in
    let said = rw c.said_on.ensures at c.in_err-on.ensures.value in
    rw (p.1, p.2, ← c.in_ok-word.ensures.value, ← said)

pub returns : goal.returns
unfolding on_or_off
returns c =
    let said = rw c.said_on.ensures at c.in_ok-on.ensures.value in
    rw (← c.in_ok-word.ensures.value, ← said) (rw (c.behind.ensures.text, c.behind.ensures.at) at c.if_last.ensures)
