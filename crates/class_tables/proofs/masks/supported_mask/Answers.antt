use mathlib.Core.Path.{refl}
use mathlib.Core.List.{[], ◌∷◌}
use Rattle.rules.specs.Maps.{keys}
use Rattle.rules.specs.Masks.{mask}
use Rattle.class_tables.specs.Computing.{computing_tables}
use Rattle.class_tables.proofs.EveryProduct.{number_there, by_its_product, otherwise_0}
use Rattle.class_tables.proofs.masks.supported_mask.Goals as goal

pub returns-in-2 : goal.returns-in-2
returns-in-2 c = number_there (λ k. mask (keys k.attributes)) 2 _ c.in-2.is (unfold computing_tables in refl)

pub returns-in-11 : goal.returns-in-11
returns-in-11 c = by_its_product (λ k. mask (keys k.attributes)) 11 _ c.in-11.is c.by.ensures (unfold computing_tables in (refl, refl, refl))

pub returns-in-45 : goal.returns-in-45
returns-in-45 c = by_its_product (λ k. mask (keys k.attributes)) 45 _ c.in-45.is c.by-in-45.ensures (unfold computing_tables in (refl, refl, refl))

pub returns-in-46 : goal.returns-in-46
returns-in-46 c = by_its_product (λ k. mask (keys k.attributes)) 46 _ c.in-46.is c.by-in-46.ensures (unfold computing_tables in (refl, refl, refl))

pub returns-in-47 : goal.returns-in-47
returns-in-47 c = by_its_product (λ k. mask (keys k.attributes)) 47 _ c.in-47.is c.by-in-47.ensures (unfold computing_tables in (refl, refl, refl))

pub returns-in_default : goal.returns-in_default
returns-in_default c = otherwise_0 _ _ (47 ∷ 46 ∷ 45 ∷ 11 ∷ 2 ∷ []) c.in_default.in_default-own.rest (λ k. mask (keys k.attributes)) (unfold computing_tables in (refl, refl))
