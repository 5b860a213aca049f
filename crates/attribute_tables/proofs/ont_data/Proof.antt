use mathlib.Core.Path.{refl}
use mathlib.Core.List.{[], ◌∷◌}
use Rattle.class_tables.specs.Lines.{ont_data_lines, computing_lines}
use Rattle.class_tables.proofs.Tables.{listed, not_listed}
use Rattle.attribute_tables.proofs.ont_data.Statement.{statement}
use Rattle.attribute_tables.proofs.ont_data.Tie as tie

returns : tie.Need-returns-in-1
returns c = listed ont_data_lines 1 c.kept.ensures c.in-1.is (unfold computing_lines in refl)

returns-2 : tie.Need-returns-in_default
returns-2 c = not_listed ont_data_lines (1 ∷ []) _ c.absent.ensures c.in_default.in_default-own.rest (unfold computing_lines in refl)

pub ont_data_spec : {M : Type 1} → statement M
ont_data_spec =
    tie.close
    (tie.spec
    (λ c κs. tt)
    (λ c κs. tt)
    returns
    returns-2)
