use mathlib.Core.Path.{sym, ◌∙◌, ap}
use Rattle.rules.specs.Bytes.{fill}
use Rattle.class_tables.specs.Finding.{found_of}
use Rattle.sound_store.proofs.Held.{live_shaped}
use Rattle.get_command.proofs.Answers.{there, not_there}
use Rattle.get_command.proofs.get.Goals as goal

pub locate-requires : goal.locate-requires
locate-requires c = live_shaped _ _ c.requires.0

pub returns-in_default-clause-contents : goal.returns-in_default-clause-contents
returns-in_default-clause-contents c =
    let a = c.args in
    let spot = sym c.locate.ensures ∙ ap found_of c.in_default.is in
    ap (fill 32) (not_there a.product a.store.now c.requires.0 a.class a.number c.ranges.number.fits a.v.now spot)

pub get_at-requires : goal.get_at-requires
get_at-requires c = (live_shaped _ _ c.requires.0, sym c.locate.ensures ∙ ap found_of c.in-Some.is, c.requires.2)

pub returns-clause-contents : goal.returns-clause-contents
returns-clause-contents c =
    let a = c.args in
    let spot = sym c.locate.ensures ∙ ap found_of c.in-Some.is in
    c.get_at.ensures.contents
    ∙ ap (fill 32) (there a.product a.store.now c.requires.0 a.class a.number c.ranges.number.fits a.v.now spot c.number_at-mask.ensures)
