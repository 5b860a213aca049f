use Rattle.std.proofs.Common.{◌≡◌, ℕ, ◌+◌, ◌-◌, ◌*◌, suc, take, drop, sym, ap, ◌∙◌, arith}
use Rattle.rules.specs.Maps.{◌and◌}
use Rattle.rules.proofs.Laws.{true_and}
use Rattle.rules.proofs.Conjunctions.{and_end}
use Rattle.store.specs.Layout.{slot_count, slot_width}
use Rattle.slot_tests.specs.Tests.{unis_test}
use Rattle.slot_tests.proofs.Slots.{next_uni}
use Rattle.slot_tests.proofs.unis_legal.Goals as goal

pub loop-j-init : goal.loop-j-init
loop-j-init c = true_and (unis_test c.args.product slot_count c.args.b.now)

pub loop-j-preserved : goal.loop-j-preserved
unfolding ◌and◌
loop-j-preserved c =
    let left : slot_count - c.loop-j.j ≡ suc (slot_count - (c.loop-j.j + 1)) = omega arith in
    let n : c.loop-j.j * slot_width + slot_width - c.loop-j.j * slot_width ≡ slot_width = omega arith in
    let sliced = ap (λ (x : ℕ). take x (drop (c.loop-j.j * slot_width) c.args.b.now)) n in
    next_uni c.args.product c.args.b.now c.loop-j.legal c.loop-j.j (slot_count - (c.loop-j.j + 1)) sliced c.uni_legal-legal.ensures ∙ rw left at c.loop-j.invariant

pub returns : goal.returns
unfolding unis_test
returns c =
    let none : slot_count - c.loop-j.j ≡ 0 = omega arith in
    sym (and_end c.loop-j.legal) ∙ rw none at c.loop-j.invariant
