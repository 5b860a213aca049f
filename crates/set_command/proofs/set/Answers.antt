use mathlib.Core.Path.{sym, ◌∙◌, ap}
use Rattle.std.proofs.Common.{arith}
use Rattle.rules.proofs.ByteLaws.{known_bytes}
use Rattle.class_tables.specs.Finding.{found_of}
use Rattle.sound_store.proofs.Held.{live_shaped}
use Rattle.set_command.proofs.Answered.{its_room, refused_absent, leaves}
use Rattle.set_command.proofs.set.Goals as goal

pub locate-requires : goal.locate-requires
locate-requires c = live_shaped _ _ c.requires.0

pub returns-in_default : goal.returns-in_default
returns-in_default c =
    let a = c.args in
    let spot = sym c.locate.ensures ∙ ap found_of c.in_default.is in
    refused_absent a.product a.store.now c.requires.0 a.class a.number c.ranges.number.fits a.v.now spot

pub set_at-requires : goal.set_at-requires
set_at-requires c =
    let a = c.args in
    let shape = live_shaped a.product a.store.now c.requires.0 in
    let whole = shape.long in
    let spot = sym c.locate.ensures ∙ ap found_of c.in-Some.is in
    let room = its_room a.product a.store.now c.requires.0 a.class a.number c.ranges.number.fits _ spot in
    (c.requires.0.long, shape, omega arith, c.requires.1)

pub returns : goal.returns
returns c =
    let a = c.args in
    let spot = sym c.locate.ensures ∙ ap found_of c.in-Some.is in
    leaves a.product a.store.now c.requires.0 a.class a.number c.ranges.number.fits _ spot
    a.v.now c.requires.1 (known_bytes a.v.now (λ i. (c.type_inv.v i).fits)) c.set_at.ensures
