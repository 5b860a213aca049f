use native.Mathlib.Omega.{arith}
use mathlib.Core.Path.{refl}
use Rattle.table.proofs.Located.{slot_small}
use Rattle.table.proofs.instances.in_slot.Goals as goal

pub overflow_add-result : goal.overflow_add-result
overflow_add-result c = let z = slot_small c.args.product _ refl c.in_ok-j.ensures in omega arith

pub overflow_mul-result : goal.overflow_mul-result
overflow_mul-result c = let z = slot_small c.args.product _ refl c.in_ok-j.ensures in omega arith
