use mathlib.Core.Path.{refl}
use mathlib.Core.List.{[], ◌∷◌}
use Rattle.class_tables.specs.Computing.{computing_tables}
use Rattle.attribute_tables.proofs.ArmLaws.{answer_there, answer_otherwise}
use Rattle.attribute_tables.proofs.BeginLaws.{its_begin}
use Rattle.attribute_tables.proofs.begins.port_begin.Statement.{statement}
use Rattle.attribute_tables.proofs.begins.port_begin.Tie as tie

returns : tie.Need-returns-in-2
returns c = answer_there its_begin 47 2 _ refl c.in-2.is c.requires (unfold computing_tables in refl)

returns-2 : tie.Need-returns-in-3
returns-2 c = answer_there its_begin 47 3 _ refl c.in-3.is c.requires (unfold computing_tables in refl)

returns-3 : tie.Need-returns-in-4
returns-3 c = answer_there its_begin 47 4 _ refl c.in-4.is c.requires (unfold computing_tables in refl)

returns-4 : tie.Need-returns-in-5
returns-4 c = answer_there its_begin 47 5 _ refl c.in-5.is c.requires (unfold computing_tables in refl)

returns-5 : tie.Need-returns-in-6
returns-5 c = answer_there its_begin 47 6 _ refl c.in-6.is c.requires (unfold computing_tables in refl)

returns-6 : tie.Need-returns-in-7
returns-6 c = answer_there its_begin 47 7 _ refl c.in-7.is c.requires (unfold computing_tables in refl)

returns-7 : tie.Need-returns-in-8
returns-7 c = answer_there its_begin 47 8 _ refl c.in-8.is c.requires (unfold computing_tables in refl)

returns-8 : tie.Need-returns-in-9
returns-8 c = answer_there its_begin 47 9 _ refl c.in-9.is c.requires (unfold computing_tables in refl)

returns-9 : tie.Need-returns-in_default
returns-9 c = answer_otherwise its_begin 47 (9 ∷ 8 ∷ 7 ∷ 6 ∷ 5 ∷ 4 ∷ 3 ∷ 2 ∷ []) _ _ refl c.in_default.in_default-own.rest c.requires (unfold computing_tables in refl)

pub port_begin_spec : {M : Type 1} → statement M
port_begin_spec = tie.close (tie.spec returns returns-2 returns-3 returns-4 returns-5 returns-6 returns-7 returns-8 returns-9)
