use mathlib.Core.Path.{refl}
use mathlib.Core.List.{[], ◌∷◌}
use Rattle.rules.specs.Maps.{computing_maps}
use Rattle.class_tables.specs.Lines.{large_uni_lines, profile_lines, large_port_lines, large_lines, lines_in, computing_lines}
use Rattle.class_tables.proofs.RuleLines.{its_rule, part_in, rest_elsewhere}
use Rattle.attribute_tables.proofs.content_rules.rule_of.Statement.{statement}
use Rattle.attribute_tables.proofs.content_rules.rule_of.Tie as tie

returns : tie.Need-returns-in-11
returns c = part_in its_rule _ _ _ c.requires 11 c.in-11.is large_uni_lines (unfold lines_in large_lines computing_maps in refl) c.uni_rule.ensures

returns-2 : tie.Need-returns-in-45
returns-2 c = part_in its_rule _ _ _ c.requires 45 c.in-45.is profile_lines (unfold lines_in large_lines computing_maps in refl) c.profile_rule.ensures

returns-3 : tie.Need-returns-in-47
returns-3 c = part_in its_rule _ _ _ c.requires 47 c.in-47.is large_port_lines (unfold lines_in large_lines computing_maps in refl) c.port_rule.ensures

returns-4 : tie.Need-returns-in_default
returns-4 c = rest_elsewhere its_rule _ _ _ c.requires (47 ∷ 45 ∷ 11 ∷ []) c.in_default.in_default-own.rest (unfold computing_lines in refl)

pub rule_of_spec : {M : Type 1} → statement M
rule_of_spec = tie.close (tie.spec (λ c κs. tt) (λ c κs. tt) (λ c κs. tt) returns returns-2 returns-3 returns-4)
