use Rattle.std.proofs.lemmas.Result.{err_from_is_err_and}
use Rattle.script_values.specs.Numbers.{next_number}
use Rattle.script_values.proofs.Rest.number.Goals as goal

pub returns-in_err-word-clause-value : goal.returns-in_err-word-clause-value
unfolding next_number
returns-in_err-word-clause-value c =
    let p = err_from_is_err_and c.from_residual.result c.from_residual.ensures.1 in rw (p.1, p.2, ← c.in_err-word.ensures.value)

pub returns-in_err-value-clause-value : goal.returns-in_err-value-clause-value
unfolding next_number
returns-in_err-value-clause-value c =
    let p = err_from_is_err_and c.from_residual-in_err-value.result c.from_residual-in_err-value.ensures.1 in
    rw (p.1, p.2, ← c.in_ok-word.ensures.value, ← c.in_err-value.ensures.value)

pub returns-clause-value : goal.returns-clause-value
unfolding next_number
returns-clause-value c = rw (← c.in_ok-word.ensures.value, ← c.in_ok-value.ensures.value)
