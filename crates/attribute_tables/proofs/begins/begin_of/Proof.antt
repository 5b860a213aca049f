use mathlib.Core.Path.{refl}
use mathlib.Core.List.{[], ◌∷◌}
use Rattle.class_tables.specs.Computing.{computing_tables}
use Rattle.attribute_tables.proofs.ArmLaws.{answer_elsewhere}
use Rattle.attribute_tables.proofs.BeginLaws.{its_begin}
use Rattle.attribute_tables.proofs.begins.begin_of.Statement.{statement}
use Rattle.attribute_tables.proofs.begins.begin_of.Tie as tie

uni_begin_requires : tie.Need-uni_begin-requires
uni_begin_requires c κs = rw c.in-11.is at c.requires

profile_begin_requires : tie.Need-profile_begin-requires
profile_begin_requires c κs = rw c.in-45.is at c.requires

bridge_begin_requires : tie.Need-bridge_begin-requires
bridge_begin_requires c κs = rw c.in-46.is at c.requires

port_begin_requires : tie.Need-port_begin-requires
port_begin_requires c κs = rw c.in-47.is at c.requires

returns : tie.Need-returns-in-11
returns c = rw c.in-11.is c.uni_begin.ensures

returns-2 : tie.Need-returns-in-45
returns-2 c = rw c.in-45.is c.profile_begin.ensures

returns-3 : tie.Need-returns-in-46
returns-3 c = rw c.in-46.is c.bridge_begin.ensures

returns-4 : tie.Need-returns-in-47
returns-4 c = rw c.in-47.is c.port_begin.ensures

returns-5 : tie.Need-returns-in_default
returns-5 c = answer_elsewhere its_begin _ _ _ (47 ∷ 46 ∷ 45 ∷ 11 ∷ []) c.in_default.in_default-own.rest c.requires (unfold computing_tables in (refl, refl))

pub begin_of_spec : {M : Type 1} → statement M
begin_of_spec =
    tie.close
    (tie.spec
    uni_begin_requires
    profile_begin_requires
    bridge_begin_requires
    port_begin_requires
    returns
    returns-2
    returns-3
    returns-4
    returns-5)
