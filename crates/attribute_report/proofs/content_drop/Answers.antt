use Rattle.attribute_report.proofs.Drops.{not_reported, other_size, not_legal, none_told}
use Rattle.attribute_report.proofs.content_drop.Goals as goal

pub returns-then-not-is_reported : goal.returns-then-not-is_reported
returns-then-not-is_reported c = not_reported _ _ _ _ _ _ c.is_reported.ensures c.if-not-is_reported.true

pub returns-then-content-a : goal.returns-then-content-a
returns-then-content-a c = other_size _ _ _ _ _ _ c.is_reported.ensures c.if-not-is_reported.false c.if-content-a.true

pub returns-then-not-is_legal : goal.returns-then-not-is_legal
returns-then-not-is_legal c =
    not_legal _ _ _ _ _ _ c.is_reported.ensures c.if-not-is_reported.false c.if-content-a.false c.is_legal.ensures c.if-not-is_legal.true

pub returns : goal.returns
returns c =
    none_told _ _ _ _ _ _ c.is_reported.ensures c.if-not-is_reported.false c.if-content-a.false c.is_legal.ensures c.if-not-is_legal.false
