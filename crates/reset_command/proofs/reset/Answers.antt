use mathlib.Core.Path.{ap}
use mathlib.Core.Bool.{not}
use Rattle.sound_store.proofs.Held.{live_shaped}
use Rattle.reset_command.proofs.Answered.{refused, all_reset, accepted}
use Rattle.reset_command.proofs.reset.Goals as goal

pub is_there-requires : goal.is_there-requires
is_there-requires c = live_shaped _ _ c.requires

pub returns-then-not-is_there : goal.returns-then-not-is_there
returns-then-not-is_there c =
    let a = c.args in
    refused a.product a.store.now c.requires a.class a.number c.ranges.number.fits _ c.is_there.ensures (ap not c.if-not-is_there.true)

pub returns : goal.returns
returns c =
    let a = c.args in
    accepted a.product a.store.now c.requires a.class a.number c.ranges.number.fits _ c.is_there.ensures (ap not c.if-not-is_there.false)
    (all_reset a.product a.store.now c.requires _ _ _ c.reset_block.ensures c.zero.ensures c.zero-2.ensures)
