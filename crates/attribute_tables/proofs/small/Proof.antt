use mathlib.Core.Path.{refl}
use mathlib.Core.List.{[], ◌∷◌}
use Rattle.rules.specs.Maps.{computing_maps}
use Rattle.class_tables.specs.Lines.{lines_in, small_lines}
use Rattle.class_tables.proofs.Tables.{of_class, of_no_class}
use Rattle.attribute_tables.proofs.small.Statement.{statement}
use Rattle.attribute_tables.proofs.small.Tie as tie

returns : tie.Need-returns-in-2
returns c = of_class small_lines 2 _ c.in-2.is c.ont_data.ensures (unfold lines_in small_lines computing_maps in refl)

returns-2 : tie.Need-returns-in-11
returns-2 c = of_class small_lines 11 _ c.in-11.is c.uni.ensures (unfold lines_in small_lines computing_maps in refl)

returns-3 : tie.Need-returns-in-45
returns-3 c = of_class small_lines 45 _ c.in-45.is c.profile.ensures (unfold lines_in small_lines computing_maps in refl)

returns-4 : tie.Need-returns-in-46
returns-4 c = of_class small_lines 46 _ c.in-46.is c.bridge.ensures (unfold lines_in small_lines computing_maps in refl)

returns-5 : tie.Need-returns-in-47
returns-5 c = of_class small_lines 47 _ c.in-47.is c.port.ensures (unfold lines_in small_lines computing_maps in refl)

returns-6 : tie.Need-returns-in_default
returns-6 c = of_no_class small_lines (47 ∷ 46 ∷ 45 ∷ 11 ∷ 2 ∷ []) _ _ c.absent.ensures c.in_default.in_default-own.rest (unfold small_lines computing_maps in refl)

pub small_spec : {M : Type 1} → statement M
small_spec =
    tie.close
    (tie.spec
    (λ c κs. tt)
    (λ c κs. tt)
    (λ c κs. tt)
    (λ c κs. tt)
    (λ c κs. tt)
    (λ c κs. tt)
    returns
    returns-2
    returns-3
    returns-4
    returns-5
    returns-6)
