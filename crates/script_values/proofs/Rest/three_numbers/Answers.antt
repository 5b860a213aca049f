use Rattle.std.proofs.lemmas.Result.{err_from_is_err_and}
use Rattle.script_values.specs.Numbers.{three_numbers}
use Rattle.script_values.proofs.Rest.three_numbers.Goals as goal

pub returns-in_err-class : goal.returns-in_err-class
unfolding three_numbers
returns-in_err-class c =
    let p = err_from_is_err_and c.from_residual.result c.from_residual.ensures.1 in rw (p.1, p.2, ← c.in_err-class.ensures.value)

pub returns-in_err-number : goal.returns-in_err-number
unfolding three_numbers
returns-in_err-number c =
    let p = err_from_is_err_and c.from_residual-in_err-number.result c.from_residual-in_err-number.ensures.1 in
    let e = rw (c.behind.ensures.text, c.behind.ensures.at) at c.in_err-number.ensures.value in
    rw (p.1, p.2, ← c.in_ok-class.ensures.value, ← e)

pub returns-in_err-third : goal.returns-in_err-third
unfolding three_numbers
returns-in_err-third c =
    let p = err_from_is_err_and c.from_residual-in_err-third.result c.from_residual-in_err-third.ensures.1 in
    let e = rw (c.behind.ensures.text, c.behind.ensures.at) at c.in_ok-number.ensures.value in
    let f = rw (c.behind-2.ensures.text, c.behind-2.ensures.at) at c.in_err-third.ensures.value in
    rw (p.1, p.2, ← c.in_ok-class.ensures.value, ← e, ← f)

pub returns : goal.returns
unfolding three_numbers
returns c =
    let e = rw (c.behind.ensures.text, c.behind.ensures.at) at c.in_ok-number.ensures.value in
    let f = rw (c.behind-2.ensures.text, c.behind-2.ensures.at) at c.in_ok-third.ensures.value in
    rw (← c.in_ok-class.ensures.value, ← e, ← f)
