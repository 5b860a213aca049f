use mathlib.Core.Path.{refl}
use Rattle.class_tables.specs.Computing.{computing_tables}
use Rattle.rules.specs.WellFormed.{computing_well_formed}
use Rattle.class_tables.proofs.SlotLaws.{last_slot, slot_key}
use Rattle.class_tables.proofs.slots.slot_instance.Statement.{statement}
use Rattle.class_tables.proofs.slots.slot_instance.Tie as tie

returns : tie.Need-returns-in-0
returns c = slot_key 0 _ c.in-0.is c.requires (unfold computing_tables computing_well_formed in refl)

returns-2 : tie.Need-returns-in-1
returns-2 c = slot_key 1 _ c.in-1.is c.requires (unfold computing_tables computing_well_formed in refl)

returns-3 : tie.Need-returns-in-2
returns-3 c = slot_key 2 _ c.in-2.is c.requires (unfold computing_tables computing_well_formed in refl)

returns-4 : tie.Need-returns-in_default
returns-4 c =
    slot_key 3 _ (last_slot _ _ c.in_default.in_default-own.rest c.requires) c.requires (unfold computing_tables computing_well_formed in refl)

pub slot_instance_spec : {M : Type 1} → statement M
slot_instance_spec = tie.close (tie.spec returns returns-2 returns-3 returns-4)
