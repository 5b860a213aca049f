use Rattle.std.proofs.Common.{refl, sym, ◌∙◌, rules}
use Rattle.rules.specs.Maps.{◌and◌}
use Rattle.rules.specs.Legal.{automatic_keys}
use Rattle.class_tables.specs.Built.{cat_of}
use Rattle.slot_tests.specs.Tests.{alarms_test}
use Rattle.soundness.proofs.Turns.{to_the_end}
use Rattle.soundness.proofs.Parts.{absent, present}
use Rattle.soundness.proofs.walk_part_ok.Goals as goal

pub returns-then-b-eq0 : goal.returns-then-b-eq0
returns-then-b-eq0 c =
    let a = c.args in
    c.zeros_from.ensures ∙ sym (absent (alarms_test (cat_of a.product) (automatic_keys (cat_of a.product))) a.b.now c.if-b-eq0.true)

pub returns : goal.returns
unfolding ◌and◌
returns c =
    let a = c.args in
    rw (present (alarms_test (cat_of a.product) (automatic_keys (cat_of a.product))) a.b.now c.if-b-eq0.false, c.alarms_ok.ensures, to_the_end 4 1 a.b.now (search rules)) refl
