use Rattle.std.proofs.Common.{arith, rules}
use Rattle.upload_sections.proofs.ClassCuts.{within, next_mask, last_mask, first_mask}
use Rattle.upload_sections.proofs.cuts.section_mask.Goals as goal

pub loop-init : goal.loop-init
loop-init c = (search rules, first_mask _ _ _ c.supported_mask-left.ensures)

pub overflow_sub-left : goal.overflow_sub-left
overflow_sub-left c = let l = c.loop in within _ _ l.left l.invariant.0 c.first_section-left.ensures

pub loop-preserved : goal.loop-preserved
loop-preserved c =
    let l = c.loop in
    (omega arith, next_mask _ _ l.left l.invariant.0 c.first_section-left.ensures _ _ c.loop-test.true l.invariant.1)

pub returns : goal.returns
returns c =
    let l = c.loop in
    last_mask _ _ l.left l.invariant.0 c.first_section.ensures c.args.n l.counter (omega arith) l.invariant.1
