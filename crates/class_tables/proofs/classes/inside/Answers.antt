use mathlib.Core.Path.{◌≡◌, refl}
use mathlib.Core.List.{[], ◌∷◌}
use Rattle.store.specs.Positions.{inside}
use Rattle.class_tables.specs.Built.{cat_of}
use Rattle.class_tables.specs.Computing.{computing_tables}
use Rattle.class_tables.proofs.EveryProduct.{in_its_product}
use Rattle.class_tables.proofs.ClassLaws.{starts_at_0}
use Rattle.class_tables.proofs.classes.inside.Goals as goal

pub returns-in-46 : goal.returns-in-46
returns-in-46 c = rw c.in-46.is (in_its_product (λ pr x. x ≡ inside (cat_of pr) 46) _ c.by.ensures (unfold computing_tables in (refl, refl, refl)))

pub returns-in_default : goal.returns-in_default
returns-in_default c = starts_at_0 _ _ (46 ∷ []) c.in_default.in_default-own.rest (unfold computing_tables in refl)
