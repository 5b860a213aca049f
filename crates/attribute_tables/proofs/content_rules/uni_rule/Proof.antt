use mathlib.Core.Path.{refl}
use mathlib.Core.List.{[], ◌∷◌}
use Rattle.class_tables.specs.Lines.{large_uni_lines, computing_lines}
use Rattle.class_tables.proofs.RuleLines.{its_rule, rest_otherwise}
use Rattle.attribute_tables.proofs.content_rules.uni_rule.Statement.{statement}
use Rattle.attribute_tables.proofs.content_rules.uni_rule.Tie as tie

returns : tie.Need-returns-in-4
returns c = rw c.in-4.is (unfold computing_lines in refl)

returns-2 : tie.Need-returns-in-5
returns-2 c = rw c.in-5.is (unfold computing_lines in refl)

returns-3 : tie.Need-returns-in-6
returns-3 c = rw c.in-6.is (unfold computing_lines in refl)

returns-4 : tie.Need-returns-in-9
returns-4 c = rw c.in-9.is (unfold computing_lines in refl)

returns-5 : tie.Need-returns-in-11
returns-5 c = rw c.in-11.is (unfold computing_lines in refl)

returns-6 : tie.Need-returns-in-12
returns-6 c = rw c.in-12.is (unfold computing_lines in refl)

returns-7 : tie.Need-returns-in_default
returns-7 c = rest_otherwise its_rule (12 ∷ 11 ∷ 9 ∷ 6 ∷ 5 ∷ 4 ∷ []) _ c.in_default.in_default-own.rest large_uni_lines (unfold computing_lines in refl)

pub uni_rule_spec : {M : Type 1} → statement M
uni_rule_spec = tie.close (tie.spec returns returns-2 returns-3 returns-4 returns-5 returns-6 returns-7)
