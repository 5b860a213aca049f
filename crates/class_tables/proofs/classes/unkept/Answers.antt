use mathlib.Core.Path.{◌≡◌, refl}
use mathlib.Core.List.{[], ◌∷◌}
use Rattle.class_tables.specs.Built.{class_for}
use Rattle.class_tables.specs.Meaning.{unkept_of}
use Rattle.class_tables.specs.Computing.{computing_tables}
use Rattle.class_tables.proofs.EveryProduct.{in_its_product, otherwise_none}
use Rattle.class_tables.proofs.classes.unkept.Goals as goal

pub returns-in-47 : goal.returns-in-47
returns-in-47 c = rw c.in-47.is (in_its_product (λ pr x. unkept_of x ≡ (class_for pr 47).unkept) _ c.by.ensures (unfold computing_tables in (refl, refl, refl)))

pub returns-in_default : goal.returns-in_default
returns-in_default c = otherwise_none _ _ (47 ∷ []) c.in_default.in_default-own.rest (λ k. k.unkept) (unfold computing_tables in (refl, refl))
