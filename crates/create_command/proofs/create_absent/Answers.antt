use native.Mathlib.Omega.{arith}
use mathlib.Core.Path.{◌∙◌, ap}
use lib.ListN.{length}
use Rattle.rules.specs.Catalogue.{key}
use Rattle.rules.proofs.ByteLaws.{known_bytes}
use Rattle.store.specs.Layout.{live_at, block_length}
use Rattle.store.proofs.TablesBack.{place_has_its_length}
use Rattle.octets.proofs.Parted.{part}
use Rattle.sound_store.proofs.Held.{live_shaped}
use Rattle.create_command.proofs.Steps.{rank_small}
use Rattle.create_command.proofs.Creates.{refused_bad, refused_full, accepted}
use Rattle.create_command.proofs.create_absent.Goals as goal

pub bad_in_create-bad-requires : goal.bad_in_create-bad-requires
bad_in_create-bad-requires c = (live_shaped _ _ c.requires.0, c.requires.1, c.requires.2, ap length c.new_place.ensures ∙ place_has_its_length _)

pub returns-then-bad-ne0 : goal.returns-then-bad-ne0
returns-then-bad-ne0 c =
    let a = c.args in
    refused_bad a.product a.store.now c.requires.0 a.class a.number c.ranges.number.fits c.requires.1 a.v.now c.requires.2 c.requires.3
    _ c.new_place.ensures c.bad_in_create-bad.ensures c.if-bad-ne0.true

pub returns-then-in_use-ge-PLACE_COUNT : goal.returns-then-in_use-ge-PLACE_COUNT
returns-then-in_use-ge-PLACE_COUNT c =
    let a = c.args in
    let n = c.in_use.ensures in
    refused_full a.product a.store.now c.requires.0 a.class a.number c.ranges.number.fits c.requires.1 a.v.now c.requires.2 c.requires.3
    _ c.new_place.ensures c.bad_in_create-bad.ensures c.if-bad-ne0.false (omega arith)

pub put_in-requires : goal.put_in-requires
put_in-requires c =
    let a = c.args in
    let n = c.in_use.ensures in (
      live_shaped _ _ c.requires.0,
      omega arith,
      rank_small (key a.class a.number) (part live_at block_length a.store.now) c.requires.4,
      ap length c.new_place.ensures ∙ place_has_its_length _,
    )

pub returns : goal.returns
returns c =
    let a = c.args in
    let n = c.in_use.ensures in
    accepted a.product a.store.now c.requires.0 a.class a.number c.ranges.number.fits c.requires.1 a.v.now c.requires.2 c.requires.3
    _ c.new_place.ensures c.bad_in_create-bad.ensures c.if-bad-ne0.false (omega arith) (known_bytes a.v.now (λ i. (c.type_inv.v i).fits))
    c.requires.4 c.put_in.ensures
