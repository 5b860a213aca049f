use Rattle.std.proofs.Common.{sym, ◌∙◌, arith}
use Rattle.engine.proofs.Entered.{no_room, not_sound, entered_by, sound_long}
use Rattle.engine.proofs.begin.Goals as goal

pub returns-then-room-lt-REPLY : goal.returns-then-room-lt-REPLY
returns-then-room-lt-REPLY c = no_room c.args.room c.args.store.now c.if-room-lt-REPLY.true

pub bounds-store-0 : goal.bounds-store-0
bounds-store-0 c =
    let long = sound_long c.args.store.now (sym c.store_ok.ensures ∙ c.if-store_ok.true) in
    omega arith

pub returns-then-store_ok : goal.returns-then-store_ok
returns-then-store_ok c =
    entered_by c.args.room c.args.store.now c.if-room-lt-REPLY.false (sym c.store_ok.ensures ∙ c.if-store_ok.true)
    c.try_from.result c.try_from.ensures _ c.map_err.ensures.cases

pub returns-else-store_ok : goal.returns-else-store_ok
returns-else-store_ok c = not_sound c.args.room c.args.store.now c.if-room-lt-REPLY.false (sym c.store_ok.ensures ∙ c.if-store_ok.false)
