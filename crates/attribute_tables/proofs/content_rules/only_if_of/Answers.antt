use mathlib.Core.Path.{refl}
use mathlib.Core.List.{[], ◌∷◌}
use Rattle.rules.specs.Maps.{computing_maps}
use Rattle.class_tables.specs.Lines.{large_port_lines, large_lines, lines_in, computing_lines}
use Rattle.class_tables.proofs.RuleLines.{its_condition, rest_otherwise, part_in, rest_elsewhere}
use Rattle.attribute_tables.proofs.content_rules.only_if_of.Goals as goal

pub returns-in-4 : goal.returns-in-4
returns-in-4 c =
    part_in its_condition _ _ _ c.requires 47 c.in-47.is large_port_lines (unfold lines_in large_lines computing_maps in refl)
    (rw c.in-4.is (unfold computing_lines in refl))

pub returns-in_default-n : goal.returns-in_default-n
returns-in_default-n c =
    part_in its_condition _ _ _ c.requires 47 c.in-47.is large_port_lines (unfold lines_in large_lines computing_maps in refl)
    (rest_otherwise its_condition (4 ∷ []) _ c.in_default-n.in_default-n-own.rest large_port_lines (unfold computing_lines in refl))

pub returns-in_default : goal.returns-in_default
returns-in_default c = rest_elsewhere its_condition _ _ _ c.requires (47 ∷ []) c.in_default.in_default-own.rest (unfold computing_lines in refl)
