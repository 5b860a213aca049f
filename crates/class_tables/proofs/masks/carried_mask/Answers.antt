use mathlib.Core.Path.{refl}
use mathlib.Core.List.{[], ◌∷◌}
use Rattle.rules.specs.Catalogue.{carried_numbers}
use Rattle.rules.specs.Masks.{mask}
use Rattle.class_tables.specs.Computing.{computing_tables}
use Rattle.class_tables.proofs.EveryProduct.{by_its_product, otherwise_0}
use Rattle.class_tables.proofs.masks.carried_mask.Goals as goal

pub returns-in-45 : goal.returns-in-45
returns-in-45 c = by_its_product (λ k. mask (carried_numbers k)) 45 _ c.in-45.is c.by.ensures (unfold computing_tables in (refl, refl, refl))

pub returns-in-47 : goal.returns-in-47
returns-in-47 c = by_its_product (λ k. mask (carried_numbers k)) 47 _ c.in-47.is c.by-in-47.ensures (unfold computing_tables in (refl, refl, refl))

pub returns-in_default : goal.returns-in_default
returns-in_default c = otherwise_0 _ _ (47 ∷ 45 ∷ []) c.in_default.in_default-own.rest (λ k. mask (carried_numbers k)) (unfold computing_tables in (refl, refl))
