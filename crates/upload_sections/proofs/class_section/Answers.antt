use Rattle.upload_sections.proofs.ClassTotals.{some_each, class_nth, instance_there}
use Rattle.upload_sections.proofs.class_section.Goals as goal

pub nonzero_div-n : goal.nonzero_div-n
nonzero_div-n c = some_each _ _ c.args.b.now _ _ c.requires.1 c.requires.2

pub instance_at-spot-requires : goal.instance_at-spot-requires
instance_at-spot-requires c = (c.requires.0, instance_there _ _ c.args.b.now _ _ c.requires.1 c.requires.2)

pub nonzero_rem-n : goal.nonzero_rem-n
nonzero_rem-n c = some_each _ _ c.args.b.now _ _ c.requires.1 c.requires.2

pub returns : goal.returns
returns c =
    let spot = c.instance_at-spot.ensures in
    record { is = class_nth _ _ c.args.b.now c.args.n _ c.requires.1 c.requires.2 spot.0 c.section_mask.ensures; carries = spot.1 }
