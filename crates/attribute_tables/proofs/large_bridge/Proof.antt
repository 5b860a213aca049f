use mathlib.Core.Path.{refl}
use mathlib.Core.List.{[], ◌∷◌}
use Rattle.rules.specs.Maps.{computing_maps}
use Rattle.class_tables.specs.Lines.{large_bridge_lines, bridge_lines, computing_lines}
use Rattle.class_tables.proofs.Tables.{as_before, listed}
use Rattle.attribute_tables.proofs.large_bridge.Statement.{statement}
use Rattle.attribute_tables.proofs.large_bridge.Tie as tie

returns : tie.Need-returns-in-7
returns c = listed large_bridge_lines 7 c.one.ensures c.in-7.is (unfold computing_lines in refl)

returns-2 : tie.Need-returns-in-8
returns-2 c = listed large_bridge_lines 8 c.one-in-8.ensures c.in-8.is (unfold computing_lines in refl)

returns-3 : tie.Need-returns-in_default
returns-3 c = unfold large_bridge_lines in as_before bridge_lines _ (8 ∷ 7 ∷ []) _ c.bridge.ensures c.in_default.in_default-own.rest (unfold computing_maps in refl)

pub large_bridge_spec : {M : Type 1} → statement M
large_bridge_spec =
    tie.close
    (tie.spec
    (λ c κs. tt)
    (λ c κs. tt)
    (λ c κs. tt)
    returns
    returns-2
    returns-3)
