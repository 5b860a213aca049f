use mathlib.Core.Path.{◌∙◌, ap}
use Rattle.rules.specs.Maps.{is_some}
use Rattle.store.specs.Layout.{live_at, block_length}
use Rattle.store.specs.Positions.{position}
use Rattle.octets.proofs.Parted.{part}
use Rattle.table.specs.Places.{keys_in}
use Rattle.table.specs.Spots.{rank}
use Rattle.sound_store.proofs.Held.{live_shaped}
use Rattle.create_command.proofs.Creates.{exists, held_is}
use Rattle.create_command.proofs.create.Goals as goal

pub rank_of-j-requires : goal.rank_of-j-requires
rank_of-j-requires c = live_shaped _ _ c.requires.0

pub has_key-requires : goal.has_key-requires
has_key-requires c = (live_shaped _ _ c.requires.0, c.rank_of-j.ensures)

pub returns-then-has_key : goal.returns-then-has_key
returns-then-has_key c =
    let a = c.args in
    exists a.product a.store.now c.requires.0 a.class a.number c.ranges.number.fits c.requires.1 a.v.now c.requires.2
    (c.has_key.ensures ∙ ap (λ k. is_some (position k (keys_in (part live_at block_length a.store.now)))) c.key_of-key.ensures) c.if-has_key.true

pub create_absent-requires : goal.create_absent-requires
create_absent-requires c =
    let a = c.args in
    let absent = held_is a.product a.store.now c.requires.0 a.class a.number c.ranges.number.fits c.requires.1 a.v.now c.requires.2
    (c.has_key.ensures ∙ ap (λ k. is_some (position k (keys_in (part live_at block_length a.store.now)))) c.key_of-key.ensures) ∙ c.if-has_key.false in
    let put = c.rank_of-j.ensures ∙ ap (λ k. rank k (keys_in (part live_at block_length a.store.now))) c.key_of-key.ensures in
    (c.requires.0, c.requires.1, c.requires.2, absent, put)
