use Rattle.std.proofs.Common.{sym, ◌∙◌}
use Rattle.message_frame.proofs.Laws.{wrong_length, wrong_device, wrong_type, no_correlation_id, wrong_fixed_bytes, nothing_wrong}
use Rattle.message_frame.proofs.message_drop.Goals as goal

pub returns-then-m-ne48 : goal.returns-then-m-ne48
returns-then-m-ne48 c = wrong_length c.args.m.now c.if-m-ne48.true

pub returns-then-m-ne10 : goal.returns-then-m-ne10
returns-then-m-ne10 c = wrong_device c.args.m.now c.if-m-ne48.false c.if-m-ne10.true

pub returns-then-m-ne2 : goal.returns-then-m-ne2
returns-then-m-ne2 c = wrong_type c.args.m.now c.if-m-ne48.false c.if-m-ne10.false c.if-m-ne2.true

pub returns-then-m : goal.returns-then-m
returns-then-m c = no_correlation_id c.args.m.now c.if-m-ne48.false c.if-m-ne10.false c.if-m-ne2.false c.if-m.true

pub returns-then-not-has_trailer : goal.returns-then-not-has_trailer
returns-then-not-has_trailer c =
    wrong_fixed_bytes c.args.m.now c.if-m-ne48.false c.if-m-ne10.false c.if-m-ne2.false c.if-m.false
    (sym c.has_trailer.ensures ∙ c.if-not-has_trailer.true)

pub returns : goal.returns
returns c =
    nothing_wrong c.args.m.now c.if-m-ne48.false c.if-m-ne10.false c.if-m-ne2.false c.if-m.false
    (sym c.has_trailer.ensures ∙ c.if-not-has_trailer.false)
