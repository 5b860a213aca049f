use Rattle.std.proofs.Common.{◌∙◌}
use Rattle.rules.specs.Run.{attribute_report, taken}
use Rattle.attribute_report.proofs.Reported.{handed_on}
use Rattle.engine.proofs.Entered.{first_dropped, taken_in}
use Rattle.engine.proofs.report_attribute.Goals as goal

pub returns-in_err-product : goal.returns-in_err-product
returns-in_err-product c =
    first_dropped (attribute_report c.args.class c.args.number c.args.attribute c.args.content.now) c.args.store.now c.args.reply.now (c.begin.ensures.dropped _ c.in_err-product.was)
    (handed_on c.from_residual.result c.from_residual.ensures.1)

pub report_attribute-requires : goal.report_attribute-requires
report_attribute-requires c =
    let found = c.in_ok-product.was in
    ((c.begin.ensures.opened _ found).its_sound, c.begin.ensures.has_room _ found)

pub returns : goal.returns
unfolding taken
returns c =
    let found = c.in_ok-product.was in
    c.report_attribute.ensures
    ∙ taken_in (attribute_report c.args.class c.args.number c.args.attribute c.args.content.now) c.args.store.now c.args.reply.now _ (c.begin.ensures.has_room _ found) (c.begin.ensures.opened _ found)
