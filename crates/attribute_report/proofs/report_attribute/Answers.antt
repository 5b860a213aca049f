use Rattle.std.proofs.Common.{◌≡◌, Err, sym, ◌∙◌, ap, arith}
use Rattle.message_frame.specs.declared.drops.DropReason.TheVariants.{NoSuchInstance}
use Rattle.class_tables.specs.Finding.{found_of}
use Rattle.class_tables.proofs.Tables.{described}
use Rattle.table.proofs.SpotRoom.{spot_room}
use Rattle.attribute_check.proofs.Looking.{judgeable}
use Rattle.sound_store.proofs.Held.{live_shaped}
use Rattle.attribute_report.proofs.Reported.{taken, when_dropped, when_missing, handed_on}
use Rattle.attribute_report.proofs.report_attribute.Goals as goal

pub locate-requires : goal.locate-requires
locate-requires c = live_shaped c.args.product c.args.store.now c.requires.0

pub returns-in_err-spot : goal.returns-in_err-spot
returns-in_err-spot c =
    let a = c.args in
    let missing = c.in_err-spot.ensures.ok_part in
    let told = rw missing at c.in_err-spot.ensures.value in
    let reason : c.in_err-spot.field-0.0 ≡ NoSuchInstance = cc in
    when_missing a.product a.store.now a.reply.now c.requires.0 a.class a.number a.attribute a.content.now c.ranges.number.fits
    (sym c.locate.ensures ∙ ap found_of missing) (handed_on c.from_residual.result c.from_residual.ensures.1 ∙ ap Err reason)

pub content_drop-requires : goal.content_drop-requires
content_drop-requires c =
    let a = c.args in
    let shape = live_shaped a.product a.store.now c.requires.0 in
    (shape, judgeable (described c.attribute_of-a.ensures), spot_room a.product _ shape a.class a.number (sym c.locate.ensures ∙ ap found_of c.in_ok-spot.ensures.ok_part))

pub returns-in_err-content_drop : goal.returns-in_err-content_drop
returns-in_err-content_drop c =
    let a = c.args in
    let r = c.from_residual-in_err-content_drop in
    when_dropped a.product a.store.now a.reply.now c.requires.0 a.class a.number a.attribute a.content.now c.ranges.number.fits
    c.locate.ensures c.in_ok-spot.ensures.ok_part c.from-n.ensures (described c.attribute_of-a.ensures) c.in_err-content_drop.ensures
    (handed_on r.result r.ensures.1)

pub overflow_add-spot : goal.overflow_add-spot
overflow_add-spot c =
    let a = c.args in
    let t = taken a.product a.store.now a.reply.now c.requires.0 a.class a.number a.attribute a.content.now c.ranges.number.fits
    c.locate.ensures c.in_ok-spot.ensures.ok_part c.from-n.ensures (described c.attribute_of-a.ensures) c.in_ok-content_drop.ensures in
    let room = t.inside in
    omega arith

pub write-is_new-requires : goal.write-is_new-requires
write-is_new-requires c =
    let a = c.args in
    let t = taken a.product a.store.now a.reply.now c.requires.0 a.class a.number a.attribute a.content.now c.ranges.number.fits
    c.locate.ensures c.in_ok-spot.ensures.ok_part c.from-n.ensures (described c.attribute_of-a.ensures) c.in_ok-content_drop.ensures in
    let room = t.inside in
    let shape = live_shaped a.product a.store.now c.requires.0 in
    let long = shape.long in
    omega arith

pub notify-requires : goal.notify-requires
notify-requires c =
    let a = c.args in
    let t = taken a.product a.store.now a.reply.now c.requires.0 a.class a.number a.attribute a.content.now c.ranges.number.fits
    c.locate.ensures c.in_ok-spot.ensures.ok_part c.from-n.ensures (described c.attribute_of-a.ensures) c.in_ok-content_drop.ensures in
    let short = t.short in
    let read = c.from-n.ensures in
    let numbered = t.numbered in
    (c.requires.1, omega arith, omega arith, omega arith)

pub returns-then-is_new-a : goal.returns-then-is_new-a
returns-then-is_new-a c =
    let a = c.args in
    let t = taken a.product a.store.now a.reply.now c.requires.0 a.class a.number a.attribute a.content.now c.ranges.number.fits
    c.locate.ensures c.in_ok-spot.ensures.ok_part c.from-n.ensures (described c.attribute_of-a.ensures) c.in_ok-content_drop.ensures in
    t.if_answered c.write-is_new.ensures c.if-is_new-a.true (rw c.from-n.ensures at c.notify.ensures)

pub returns : goal.returns
returns c =
    let a = c.args in
    let t = taken a.product a.store.now a.reply.now c.requires.0 a.class a.number a.attribute a.content.now c.ranges.number.fits
    c.locate.ensures c.in_ok-spot.ensures.ok_part c.from-n.ensures (described c.attribute_of-a.ensures) c.in_ok-content_drop.ensures in
    t.if_quiet c.write-is_new.ensures c.if-is_new-a.false
