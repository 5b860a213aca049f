use Rattle.std.proofs.Common.{◌≡◌, ◌-◌, ◌*◌, drop}
use Rattle.rules.specs.Maps.{◌and◌}
use Rattle.store.specs.Layout.{slot_count, slot_width}
use Rattle.slot_tests.specs.Tests.{unis_test}
use Rattle.slot_tests.proofs.unis_legal.Given as goal

-- the slots so far, and those that are left
abbrev pub invariant-loop-j : goal.invariant-loop-j
invariant-loop-j l =
    (l.legal and unis_test l.product (slot_count - l.j) (drop (l.j * slot_width) l.b)) ≡ unis_test l.product slot_count l.b
