use Rattle.std.proofs.Common.{rules, ap, ◌∙◌, length}
use Rattle.std.specs.Prelude.{get_or}
use Rattle.store.specs.Layout.{upload_at}
use Rattle.upload_walk.proofs.Uploads.{frozen_shape, showable, next_shown, next_none, next_not, tested}
use Rattle.upload_walk.proofs.upload_next.Goals as goal

pub section_at-section-requires : goal.section_at-section-requires
section_at-section-requires c =
    let a = c.args in
    frozen_shape a.product a.store.now c.requires.0 (tested c.is_ont_data.result (get_or a.store.now upload_at 0) c.if-is_ont_data-store.true).1

pub show-requires : goal.show-requires
show-requires c =
    let a = c.args in
    let test = tested c.is_ont_data.result (get_or a.store.now upload_at 0) c.if-is_ont_data-store.true in
    (showable a.product a.store.now c.requires.0 test.1 c.in-Some.ensures, ap length c.requires.2)

pub returns-in-Some : goal.returns-in-Some
returns-in-Some c =
    let a = c.args in
    let test = tested c.is_ont_data.result (get_or a.store.now upload_at 0) c.if-is_ont_data-store.true in
    next_shown a.product a.store.now c.requires.0 test.1 c.in-Some.ensures a.class a.number a.v.now c.is_ont_data.ensures test.0 (search rules)
    (c.from-n.ensures ∙ c.number_at.ensures) c.requires.2 c.show.ensures

pub returns-in_default : goal.returns-in_default
returns-in_default c =
    let a = c.args in
    let test = tested c.is_ont_data.result (get_or a.store.now upload_at 0) c.if-is_ont_data-store.true in
    next_none a.product a.store.now c.requires.0 test.1 a.class a.number _ a.v.now c.is_ont_data.ensures test.0 c.in_default.ensures.is
    (c.from-n.ensures ∙ c.number_at.ensures) c.requires.2

pub returns-else-is_ont_data-store : goal.returns-else-is_ont_data-store
returns-else-is_ont_data-store c =
    let a = c.args in
    next_not a.product a.store.now c.requires.0 a.class a.number a.v.now c.is_ont_data.ensures c.if-is_ont_data-store.false c.requires.2
