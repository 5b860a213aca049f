use native.Mathlib.Omega.{arith}
use mathlib.Core.Path.{refl}
use Rattle.std.specs.Prelude.{Some}
use Rattle.class_tables.specs.Computing.{computing_tables}
use Rattle.class_tables.proofs.EveryProduct.{in_every_product}
use Rattle.class_tables.proofs.ClassLaws.{class_there, no_class_there}
use Rattle.class_tables.proofs.classes.class_at.Goals as goal

pub returns-in-0 : goal.returns-in-0
returns-in-0 c = class_there 0 _ c.in-0.is (in_every_product (Some 2) c.args.product) (unfold computing_tables in (refl, refl, refl))

pub returns-in-1 : goal.returns-in-1
returns-in-1 c = class_there 1 _ c.in-1.is (in_every_product (Some 11) c.args.product) (unfold computing_tables in (refl, refl, refl))

pub returns-in-2 : goal.returns-in-2
returns-in-2 c = class_there 2 _ c.in-2.is c.by.ensures (unfold computing_tables in (refl, refl, refl))

pub returns-in-3 : goal.returns-in-3
returns-in-3 c = class_there 3 _ c.in-3.is c.by-in-3.ensures (unfold computing_tables in (refl, refl, refl))

pub returns-in-4 : goal.returns-in-4
returns-in-4 c = class_there 4 _ c.in-4.is c.by-in-4.ensures (unfold computing_tables in (refl, refl, refl))

pub returns-in_default : goal.returns-in_default
returns-in_default c = no_class_there 5 _ _ (omega arith) (unfold computing_tables in refl)
