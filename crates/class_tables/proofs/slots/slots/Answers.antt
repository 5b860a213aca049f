use mathlib.Core.Path.{◌≡◌, refl}
use lib.ListN.{length}
use Rattle.rules.specs.Legal.{automatic_keys}
use Rattle.class_tables.specs.Built.{cat_of}
use Rattle.class_tables.specs.Computing.{computing_tables}
use Rattle.class_tables.proofs.EveryProduct.{in_its_product}
use Rattle.class_tables.proofs.slots.slots.Goals as goal

pub returns : goal.returns
returns c = in_its_product (λ pr x. x ≡ length (automatic_keys (cat_of pr))) _ c.by.ensures (unfold computing_tables in (refl, refl, refl))
