use Rattle.std.proofs.Common.{rules, arith, sym, ◌∙◌}
use Rattle.std.proofs.lemmas.Result.{err_from_is_err_and}
use native.Mathlib.Nat.{add-zero}
use Rattle.script_values.proofs.NumberLaws.{no_digits, some_digits, digits_end, digit_bad, digit_large, digit_good}
use Rattle.script_values.proofs.digits.Goals as goal

pub returns-then-is_empty-clause-value : goal.returns-then-is_empty-clause-value
returns-then-is_empty-clause-value c = sym (no_digits _ _ _ c.args.text.now (search rules))

pub loop-i-init : goal.loop-i-init
loop-i-init c = record {
  left = rw add-zero (some_digits c.args.base c.args.limit c.args.place c.args.text.now (search rules));
  within = omega arith;
}

pub returns-in_err-digit-clause-value : goal.returns-in_err-digit-clause-value
returns-in_err-digit-clause-value c =
    let p = err_from_is_err_and c.from_residual.result c.from_residual.ensures.1 in
    let none = c.in_err-digit.ensures.ok_part in
    let told = rw none at c.in_err-digit.ensures.value in
    rw (p.1, p.2, ← c.loop-i.invariant.left) (told
    ∙ sym (digit_bad c.args.base c.args.limit c.loop-i.value _ c.args.text.now c.loop-i.i (omega arith) (sym c.digit_in.ensures.value ∙ none)))

pub returns-then-from-more-clause-value : goal.returns-then-from-more-clause-value
returns-then-from-more-clause-value c =
    rw (← c.loop-i.invariant.left) (sym (digit_large c.args.base c.args.limit c.loop-i.value _ c.args.text.now c.loop-i.i (omega arith)
    c.in_ok-digit.digit (sym c.digit_in.ensures.value ∙ c.in_ok-digit.ensures.ok_part)
    (rw (c.from.ensures, c.from-in-loop-i.ensures, c.from-in-loop-i-2.ensures, c.from-in-loop-i-3.ensures) at c.if-from-more.true)))

pub loop-i-preserved : goal.loop-i-preserved
loop-i-preserved c =
    let within = rw (c.from.ensures, c.from-in-loop-i.ensures, c.from-in-loop-i-2.ensures, c.from-in-loop-i-3.ensures) at c.if-from-more.false in
    rw (c.from.ensures, c.from-in-loop-i.ensures, c.from-in-loop-i-2.ensures) (record {
      left =
          sym (digit_good c.args.base c.args.limit c.loop-i.value _ c.args.text.now c.loop-i.i (omega arith)
          c.in_ok-digit.digit (sym c.digit_in.ensures.value ∙ c.in_ok-digit.ensures.ok_part) _ (omega arith) within)
          ∙ c.loop-i.invariant.left;
      within = within;
    })

pub returns-clause-value : goal.returns-clause-value
returns-clause-value c = sym (digits_end _ _ _ _ c.args.text.now c.loop-i.i (omega arith)) ∙ c.loop-i.invariant.left
