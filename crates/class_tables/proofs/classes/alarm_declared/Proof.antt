use mathlib.Core.Path.{refl}
use mathlib.Core.List.{[], ◌∷◌}
use Rattle.class_tables.specs.Computing.{computing_tables}
use Rattle.class_tables.proofs.EveryProduct.{list_there, none_among}
use Rattle.class_tables.proofs.Matches.{among_1}
use Rattle.class_tables.proofs.classes.alarm_declared.Statement.{statement}
use Rattle.class_tables.proofs.classes.alarm_declared.Tie as tie

returns : tie.Need-returns-in-11
returns c = among_1 _ 0 (list_there (λ k. k.alarms) 11 _ c.in-11.is (unfold computing_tables in refl))

returns-2 : tie.Need-returns-in_default
returns-2 c = none_among _ _ (11 ∷ []) c.in_default.in_default-own.rest _ (λ k. k.alarms) (unfold computing_tables in (refl, refl))

pub alarm_declared_spec : {M : Type 1} → statement M
alarm_declared_spec = tie.close (tie.spec returns returns-2)
