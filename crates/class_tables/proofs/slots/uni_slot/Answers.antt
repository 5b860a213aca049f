use native.Mathlib.Omega.{arith}
use mathlib.Core.Path.{refl}
use mathlib.Core.List.{[], ◌∷◌}
use Rattle.rules.specs.Catalogue.{key}
use Rattle.class_tables.specs.Computing.{computing_tables}
use Rattle.class_tables.proofs.SlotLaws.{same_slot, large_slot, no_slot}
use Rattle.class_tables.proofs.slots.uni_slot.Goals as goal

pub returns-in-257 : goal.returns-in-257
returns-in-257 c = same_slot 11 0x0101 _ c.in-257.is (unfold computing_tables in refl)

pub returns-in-258 : goal.returns-in-258
returns-in-258 c = large_slot 11 0x0102 1 _ c.in-258.is c.only_large.ensures (unfold computing_tables in (refl, refl, refl))

pub returns-in-259 : goal.returns-in-259
returns-in-259 c = large_slot 11 0x0103 2 _ c.in-259.is c.only_large-in-259.ensures (unfold computing_tables in (refl, refl, refl))

pub returns-in-260 : goal.returns-in-260
returns-in-260 c = large_slot 11 0x0104 3 _ c.in-260.is c.only_large-in-260.ensures (unfold computing_tables in (refl, refl, refl))

pub returns-in_default : goal.returns-in_default
returns-in_default c = no_slot (key 11 0x0101 ∷ key 11 0x0102 ∷ key 11 0x0103 ∷ key 11 0x0104 ∷ []) _ _
    ((((tt, λ e. omega arith), λ e. omega arith), λ e. omega arith), λ e. omega arith) (unfold computing_tables in refl)
