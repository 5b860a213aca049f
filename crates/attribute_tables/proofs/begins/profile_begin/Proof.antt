use mathlib.Core.Path.{refl}
use mathlib.Core.List.{[], ◌∷◌}
use Rattle.class_tables.specs.Computing.{computing_tables}
use Rattle.attribute_tables.proofs.ArmLaws.{answer_there, answer_otherwise}
use Rattle.attribute_tables.proofs.BeginLaws.{its_begin}
use Rattle.attribute_tables.proofs.begins.profile_begin.Statement.{statement}
use Rattle.attribute_tables.proofs.begins.profile_begin.Tie as tie

returns : tie.Need-returns-in-2
returns c = answer_there its_begin 45 2 _ refl c.in-2.is c.requires (unfold computing_tables in refl)

returns-2 : tie.Need-returns-in-3
returns-2 c = answer_there its_begin 45 3 _ refl c.in-3.is c.requires (unfold computing_tables in refl)

returns-3 : tie.Need-returns-in-4
returns-3 c = answer_there its_begin 45 4 _ refl c.in-4.is c.requires (unfold computing_tables in refl)

returns-4 : tie.Need-returns-in-5
returns-4 c = answer_there its_begin 45 5 _ refl c.in-5.is c.requires (unfold computing_tables in refl)

returns-5 : tie.Need-returns-in-6
returns-5 c = answer_there its_begin 45 6 _ refl c.in-6.is c.requires (unfold computing_tables in refl)

returns-6 : tie.Need-returns-in-7
returns-6 c = answer_there its_begin 45 7 _ refl c.in-7.is c.requires (unfold computing_tables in refl)

returns-7 : tie.Need-returns-in_default
returns-7 c = answer_otherwise its_begin 45 (7 ∷ 6 ∷ 5 ∷ 4 ∷ 3 ∷ 2 ∷ []) _ _ refl c.in_default.in_default-own.rest c.requires (unfold computing_tables in refl)

pub profile_begin_spec : {M : Type 1} → statement M
profile_begin_spec = tie.close (tie.spec returns returns-2 returns-3 returns-4 returns-5 returns-6 returns-7)
