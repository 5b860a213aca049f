use Rattle.std.proofs.Common.{◌∙◌}
use Rattle.script_values.proofs.NumberLaws.{hex_number, decimal_number}
use Rattle.script_values.proofs.number_in.Goals as goal

pub returns-in-Some-clause-value : goal.returns-in-Some-clause-value
returns-in-Some-clause-value c =
    let e = c.in-Some.ensures.cases in
    c.digits.ensures.value ∙ rw (e.1) (hex_number _ _ c.args.word.now e.0)

pub returns-in-None-clause-value : goal.returns-in-None-clause-value
returns-in-None-clause-value c = c.digits-in-None.ensures.value ∙ decimal_number _ _ c.args.word.now c.in-None.ensures.cases
