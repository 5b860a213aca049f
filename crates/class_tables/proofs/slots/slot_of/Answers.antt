use native.Mathlib.Omega.{arith}
use mathlib.Core.Path.{refl}
use mathlib.Core.List.{[], ◌∷◌}
use Rattle.rules.specs.Catalogue.{key}
use Rattle.class_tables.specs.Computing.{computing_tables}
use Rattle.class_tables.proofs.SlotLaws.{no_slot}
use Rattle.class_tables.proofs.slots.slot_of.Goals as goal

pub returns-in_default : goal.returns-in_default
returns-in_default c = no_slot (key 11 0x0101 ∷ key 11 0x0102 ∷ key 11 0x0103 ∷ key 11 0x0104 ∷ []) _ _
    ((((tt, λ e. omega arith), λ e. omega arith), λ e. omega arith), λ e. omega arith) (unfold computing_tables in refl)
