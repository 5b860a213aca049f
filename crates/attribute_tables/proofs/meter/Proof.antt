use mathlib.Core.Path.{refl}
use mathlib.Core.List.{[], ◌∷◌}
use Rattle.rules.specs.Maps.{computing_maps}
use Rattle.class_tables.specs.Lines.{lines_in, meter_lines}
use Rattle.class_tables.proofs.Tables.{of_class, of_no_class}
use Rattle.attribute_tables.proofs.meter.Statement.{statement}
use Rattle.attribute_tables.proofs.meter.Tie as tie

returns : tie.Need-returns-in-2
returns c = of_class meter_lines 2 _ c.in-2.is c.ont_data.ensures (unfold lines_in meter_lines computing_maps in refl)

returns-2 : tie.Need-returns-in-11
returns-2 c = of_class meter_lines 11 _ c.in-11.is c.meter_uni.ensures (unfold lines_in meter_lines computing_maps in refl)

returns-3 : tie.Need-returns-in_default
returns-3 c = of_no_class meter_lines (11 ∷ 2 ∷ []) _ _ c.absent.ensures c.in_default.in_default-own.rest (unfold meter_lines computing_maps in refl)

pub meter_spec : {M : Type 1} → statement M
meter_spec =
    tie.close
    (tie.spec
    (λ c κs. tt)
    (λ c κs. tt)
    (λ c κs. tt)
    returns
    returns-2
    returns-3)
