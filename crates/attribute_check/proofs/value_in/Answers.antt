use Rattle.std.proofs.Common.{rules, ◌∙◌}
use Rattle.attribute_check.proofs.Verdicts.{one_byte, two_bytes, no_bytes}
use Rattle.attribute_check.proofs.value_in.Goals as goal

pub returns-then-v-eq1 : goal.returns-then-v-eq1
returns-then-v-eq1 c = c.from.ensures ∙ one_byte c.args.v.now (search rules)

pub returns-then-v-eq2 : goal.returns-then-v-eq2
returns-then-v-eq2 c = c.number_at.ensures ∙ two_bytes c.args.v.now (search rules)

pub returns : goal.returns
returns c = no_bytes c.args.v.now c.if-v-eq1.false c.if-v-eq2.false
