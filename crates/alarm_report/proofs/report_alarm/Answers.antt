use Rattle.std.proofs.Common.{sym, ◌∙◌, ap}
use Rattle.class_tables.specs.Finding.{found_of}
use Rattle.sound_store.proofs.Held.{live_shaped}
use Rattle.alarm_report.proofs.Raised.{in_slots, declared_small, told_there, there_in_slot, drop_11, drop_12, no_slot_12, as_reported}
use Rattle.alarm_report.proofs.report_alarm.Goals as goal

pub is_there-requires : goal.is_there-requires
is_there-requires c = live_shaped c.args.product c.args.store.now c.requires.0

pub returns-then-is_there : goal.returns-then-is_there
returns-then-is_there c =
    let a = c.args in
    let there = told_there a.product a.store.now c.requires.0 a.reply.now a.class a.number a.alarm a.on c.ranges.number.fits c.is_there.ensures c.if-is_there.true in
    no_slot_12 a.product a.store.now c.requires.0 a.reply.now a.class a.number a.alarm a.on c.ranges.number.fits there
    (sym (sym c.slot_of.ensures ∙ ap found_of c.in_default.is))

pub returns-in_default : goal.returns-in_default
returns-in_default c =
    let a = c.args in
    drop_11 a.product a.store.now c.requires.0 a.reply.now a.class a.number a.alarm a.on c.ranges.number.fits
    (told_there a.product a.store.now c.requires.0 a.reply.now a.class a.number a.alarm a.on c.ranges.number.fits c.is_there.ensures c.if-is_there.false)

pub returns-then-not-alarm_declared : goal.returns-then-not-alarm_declared
returns-then-not-alarm_declared c =
    let a = c.args in
    let slot = sym c.slot_of.ensures ∙ ap found_of c.in-Some.is in
    let there = there_in_slot a.product a.store.now c.requires.0 a.reply.now a.class a.number a.alarm a.on c.ranges.number.fits slot in
    drop_12 a.product a.store.now c.requires.0 a.reply.now a.class a.number a.alarm a.on c.ranges.number.fits there
    (sym c.alarm_declared.ensures ∙ c.if-not-alarm_declared.true)

pub turn_in-requires : goal.turn_in-requires
turn_in-requires c =
    let a = c.args in
    let slot = sym c.slot_of.ensures ∙ ap found_of c.in-Some.is in
    let small = declared_small a.product a.class a.alarm (sym c.alarm_declared.ensures ∙ c.if-not-alarm_declared.false) in
    (c.requires.0.long, in_slots a.product _ _ slot, small, c.requires.1)

pub returns : goal.returns
returns c =
    let a = c.args in
    let slot = sym c.slot_of.ensures ∙ ap found_of c.in-Some.is in
    let declared = sym c.alarm_declared.ensures ∙ c.if-not-alarm_declared.false in
    as_reported a.product a.store.now c.requires.0 a.reply.now a.class a.number a.alarm a.on c.ranges.number.fits declared _ slot _ c.turn_in.ensures
