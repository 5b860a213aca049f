use mathlib.Core.Path.{refl}
use mathlib.Core.List.{[], ◌∷◌}
use Rattle.class_tables.specs.Families.{Companion}
use Rattle.class_tables.specs.Computing.{computing_tables}
use Rattle.class_tables.proofs.EveryProduct.{in_its_product}
use Rattle.class_tables.proofs.ClassLaws.{alone}
use Rattle.class_tables.proofs.classes.companion_of.Goals as goal

pub returns-in-45 : goal.returns-in-45
returns-in-45 c = rw c.in-45.is (in_its_product (λ pr x. Companion pr 45 x) _ c.by.ensures (unfold computing_tables in (refl, refl, refl)))

pub returns-in_default : goal.returns-in_default
returns-in_default c = alone _ _ (45 ∷ []) c.in_default.in_default-own.rest (unfold computing_tables in refl)
