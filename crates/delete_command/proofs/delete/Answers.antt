use Rattle.sound_store.proofs.Held.{live_shaped}
use Rattle.delete_command.proofs.Deleted.{as_found, refused, deleted, place_in_use}
use Rattle.delete_command.proofs.delete.Goals as goal

pub place_of-requires : goal.place_of-requires
place_of-requires c = live_shaped _ _ c.requires.0

pub take_out-requires : goal.take_out-requires
take_out-requires c =
    let a = c.args in (
      live_shaped _ _ c.requires.0,
      place_in_use a.product a.store.now c.requires.0 a.class a.number c.ranges.number.fits c.requires.1 _
          (as_found a.product a.store.now c.requires.0 a.class a.number c.ranges.number.fits c.requires.1 c.key_of-key.ensures c.place_of.ensures c.in-Some.is),
    )

pub returns-in_default : goal.returns-in_default
returns-in_default c =
    let a = c.args in
    refused a.product a.store.now c.requires.0 a.class a.number c.ranges.number.fits c.requires.1
    (as_found a.product a.store.now c.requires.0 a.class a.number c.ranges.number.fits c.requires.1 c.key_of-key.ensures c.place_of.ensures c.in_default.is)

pub returns : goal.returns
returns c =
    let a = c.args in
    rw c.take_out.ensures
    (deleted a.product a.store.now c.requires.0 a.class a.number c.ranges.number.fits c.requires.1 _
    (as_found a.product a.store.now c.requires.0 a.class a.number c.ranges.number.fits c.requires.1 c.key_of-key.ensures c.place_of.ensures c.in-Some.is))
