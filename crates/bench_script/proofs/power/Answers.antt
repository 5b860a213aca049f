use Rattle.std.proofs.lemmas.Result.{err_from_is_err_and}
use Rattle.bench_script.specs.Lines.{power}
use Rattle.bench_script.proofs.power.Goals as goal

pub returns-in_err-word : goal.returns-in_err-word
unfolding power
returns-in_err-word c =
    let p = err_from_is_err_and c.from_residual.result c.from_residual.ensures.1 in rw (p.1, p.2, ← c.in_err-word.ensures.value)

pub returns-in_err-product : goal.returns-in_err-product
unfolding power
returns-in_err-product c =
    let p = err_from_is_err_and c.from_residual-in_err-product.result c.from_residual-in_err-product.ensures.1 in
    let named = rw c.product_named.ensures at c.in_err-product.ensures.value in
    rw (p.1, p.2, ← c.in_ok-word.ensures.value, ← named)

pub returns : goal.returns
unfolding power
returns c =
    let named = rw c.product_named.ensures at c.in_ok-product.ensures.value in
    rw (← c.in_ok-word.ensures.value, ← named) (rw (c.behind.ensures.text, c.behind.ensures.at) at c.if_last.ensures)
