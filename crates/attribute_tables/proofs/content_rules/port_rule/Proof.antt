use mathlib.Core.Path.{refl}
use mathlib.Core.List.{[], ◌∷◌}
use Rattle.class_tables.specs.Lines.{large_port_lines, computing_lines}
use Rattle.class_tables.proofs.RuleLines.{its_rule, rest_otherwise}
use Rattle.attribute_tables.proofs.content_rules.port_rule.Statement.{statement}
use Rattle.attribute_tables.proofs.content_rules.port_rule.Tie as tie

returns : tie.Need-returns-in-1
returns c = rw c.in-1.is (unfold computing_lines in refl)

returns-2 : tie.Need-returns-in-3
returns-2 c = rw c.in-3.is (unfold computing_lines in refl)

returns-3 : tie.Need-returns-in-4
returns-3 c = rw c.in-4.is (unfold computing_lines in refl)

returns-4 : tie.Need-returns-in-5
returns-4 c = rw c.in-5.is (unfold computing_lines in refl)

returns-5 : tie.Need-returns-in-6
returns-5 c = rw c.in-6.is (unfold computing_lines in refl)

returns-6 : tie.Need-returns-in-7
returns-6 c = rw c.in-7.is (unfold computing_lines in refl)

returns-7 : tie.Need-returns-in-8
returns-7 c = rw c.in-8.is (unfold computing_lines in refl)

returns-8 : tie.Need-returns-in-9
returns-8 c = rw c.in-9.is (unfold computing_lines in refl)

returns-9 : tie.Need-returns-in_default
returns-9 c = rest_otherwise its_rule (9 ∷ 8 ∷ 7 ∷ 6 ∷ 5 ∷ 4 ∷ 3 ∷ 1 ∷ []) _ c.in_default.in_default-own.rest large_port_lines (unfold computing_lines in refl)

pub port_rule_spec : {M : Type 1} → statement M
port_rule_spec = tie.close (tie.spec returns returns-2 returns-3 returns-4 returns-5 returns-6 returns-7 returns-8 returns-9)
