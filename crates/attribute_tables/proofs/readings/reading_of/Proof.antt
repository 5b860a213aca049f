use mathlib.Core.Path.{refl}
use mathlib.Core.List.{[], ◌∷◌}
use Rattle.class_tables.specs.Computing.{computing_tables}
use Rattle.attribute_tables.proofs.ArmLaws.{answer_there, answer_otherwise, answer_elsewhere}
use Rattle.attribute_tables.proofs.ReadingLaws.{its_reading}
use Rattle.attribute_tables.proofs.readings.reading_of.Statement.{statement}
use Rattle.attribute_tables.proofs.readings.reading_of.Tie as tie

returns : tie.Need-returns-in-2
returns c = answer_there its_reading 46 2 _ c.in-46.is c.in-2.is c.requires (unfold computing_tables in refl)

returns-2 : tie.Need-returns-in-5
returns-2 c = answer_there its_reading 46 5 _ c.in-46.is c.in-5.is c.requires (unfold computing_tables in refl)

returns-3 : tie.Need-returns-in_default-n
returns-3 c = answer_otherwise its_reading 46 (5 ∷ 2 ∷ []) _ _ c.in-46.is c.in_default-n.in_default-n-own.rest c.requires (unfold computing_tables in refl)

returns-4 : tie.Need-returns-in_default
returns-4 c = answer_elsewhere its_reading _ _ _ (46 ∷ []) c.in_default.in_default-own.rest c.requires (unfold computing_tables in (refl, refl))

pub reading_of_spec : {M : Type 1} → statement M
reading_of_spec = tie.close (tie.spec returns returns-2 returns-3 returns-4)
