use mathlib.Core.Path.{refl, sym}
use mathlib.Core.List.{[], ◌∷◌}
use Rattle.rules.specs.Maps.{computing_maps}
use Rattle.rules.specs.Products.{built_products}
use Rattle.class_tables.proofs.EveryProduct.{names_built, names_nothing}
use Rattle.class_tables.specs.declared.Product.TheVariants.{Small, Large, Meter}
use Rattle.class_tables.proofs.built.ProductTryFromU8.try_from.Goals as goal

pub returns-in-1 : goal.returns-in-1
returns-in-1 c = names_built Small (sym c.in-1.is)

pub returns-in-2 : goal.returns-in-2
returns-in-2 c = names_built Large (sym c.in-2.is)

pub returns-in-3 : goal.returns-in-3
returns-in-3 c = names_built Meter (sym c.in-3.is)

pub returns-in_default : goal.returns-in_default
returns-in_default c = names_nothing (3 ∷ 2 ∷ 1 ∷ []) _ c.in_default.in_default-own.rest (unfold computing_maps built_products in refl)
