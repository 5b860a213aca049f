use Rattle.std.proofs.Common.{sym, rules}
use Rattle.rules.specs.Maps.{◌and◌, ◌or◌}
use Rattle.rules.proofs.Laws.{eqb_true, eqb_false}
use Rattle.rules.proofs.Conjunctions.{and_end}
use Rattle.class_tests.proofs.Unis.{slot_found}
use Rattle.class_tests.proofs.pointer_legal.Goals as goal

pub returns-then-c-eq1 : goal.returns-then-c-eq1
unfolding ◌and◌ ◌or◌
returns-then-c-eq1 c =
    rw (eqb_true _ _ c.if-c-eq1.true, ← c.number_at.ensures)
    (slot_found c.args.product c.number_at.result (search rules) c.slot_of.result c.is_some.ensures c.slot_of.ensures)

pub returns-else-c-eq1 : goal.returns-else-c-eq1
unfolding ◌or◌
returns-else-c-eq1 c = rw (eqb_false _ _ c.if-c-eq1.false) (sym (and_end _))
