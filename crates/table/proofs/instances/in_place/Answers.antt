use native.Mathlib.Omega.{arith}
use mathlib.Core.Path.{refl}
use Prim.Native.Nat.{◌<◌}
use Rattle.store.specs.Layout.{place_count}
use Rattle.table.proofs.Located.{place_small}
use Rattle.table.proofs.instances.in_place.Goals as goal

few : (c : goal.In_ok-j) → c.in_ok-j.j < place_count
few c = place_small c.args.b.now c.requires.0 _ refl c.in_ok-j.ensures

pub overflow_mul-result : goal.overflow_mul-result
overflow_mul-result c = omega (arith, few c)

pub overflow_add-result : goal.overflow_add-result
overflow_add-result c = omega (arith, few c)

pub overflow_add-result-2 : goal.overflow_add-result-2
overflow_add-result-2 c = omega (arith, few c)

pub overflow_add-result-3 : goal.overflow_add-result-3
overflow_add-result-3 c = omega (arith, few c)
