use mathlib.Core.Path.{refl}
use mathlib.Core.List.{[], ◌∷◌}
use Rattle.rules.specs.Maps.{computing_maps}
use Rattle.class_tables.specs.Lines.{large_port_lines, port_lines, computing_lines}
use Rattle.class_tables.proofs.Tables.{as_before, listed}
use Rattle.attribute_tables.proofs.large_port.Statement.{statement}
use Rattle.attribute_tables.proofs.large_port.Tie as tie

returns : tie.Need-returns-in-9
returns c = listed large_port_lines 9 c.carried.ensures c.in-9.is (unfold computing_lines in refl)

returns-2 : tie.Need-returns-in_default
returns-2 c = unfold large_port_lines in as_before port_lines _ (9 ∷ []) _ c.port.ensures c.in_default.in_default-own.rest (unfold computing_maps in refl)

pub large_port_spec : {M : Type 1} → statement M
large_port_spec =
    tie.close
    (tie.spec
    (λ c κs. tt)
    (λ c κs. tt)
    returns
    returns-2)
