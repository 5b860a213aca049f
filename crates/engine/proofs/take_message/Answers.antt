use Rattle.std.proofs.Common.{sym, ◌∙◌, arith}
use Rattle.attribute_report.proofs.Reported.{handed_on}
use Rattle.engine.proofs.Repeated.{not_dropped_long, memory_whole, dropped_as, answered_anew, answered_again}
use Rattle.engine.proofs.take_message.Goals as goal

pub returns-in_err-message_drop : goal.returns-in_err-message_drop
returns-in_err-message_drop c =
    let a = c.args in
    dropped_as a.product a.store.now a.m.now a.reply.now c.requires.0 c.in_err-message_drop.ensures
    (handed_on c.from_residual.result c.from_residual.ensures.1)

pub is_repeat-requires : goal.is_repeat-requires
is_repeat-requires c =
    let a = c.args in
    let l = not_dropped_long a.m.now c.in_ok-message_drop.ensures in
    (memory_whole a.product a.store.now a.m.now a.reply.now c.requires.0, omega arith)

pub answer_anew-requires : goal.answer_anew-requires
answer_anew-requires c = (c.requires.0, not_dropped_long c.args.m.now c.in_ok-message_drop.ensures, c.requires.1)

pub returns-then-is_repeat : goal.returns-then-is_repeat
returns-then-is_repeat c =
    let a = c.args in
    answered_again a.product a.store.now a.m.now a.reply.now c.requires.0 c.in_ok-message_drop.ensures (sym c.is_repeat.ensures ∙ c.if-is_repeat.true)
    c.recall.ensures

pub returns-else-is_repeat : goal.returns-else-is_repeat
returns-else-is_repeat c =
    let a = c.args in
    c.answer_anew.ensures
    ∙ answered_anew a.product a.store.now a.m.now a.reply.now c.requires.0 c.in_ok-message_drop.ensures (sym c.is_repeat.ensures ∙ c.if-is_repeat.false)
