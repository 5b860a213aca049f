use Rattle.outcome.proofs.Replies.{one_mask, two_masks, mask_behind_values}
use Rattle.outcome.proofs.refusals.put_refusal.Goals as goal

pub returns-in-BadValues : goal.returns-in-BadValues
returns-in-BadValues c =
    let r = c.from.ensures in
    rw (c.put_number.ensures, c.requires, r, c.in-BadValues.is) (one_mask _ _)

pub returns-in-AttributesFailed : goal.returns-in-AttributesFailed
returns-in-AttributesFailed c =
    let r = c.from.ensures in
    rw (c.put_number-in-AttributesFailed-2.ensures, c.put_number-in-AttributesFailed.ensures, c.requires, r, c.in-AttributesFailed.is) (two_masks _ _ _)

pub returns-in-AttributesMissing : goal.returns-in-AttributesMissing
returns-in-AttributesMissing c =
    let r = c.from.ensures in
    rw (c.put_number-in-AttributesMissing.ensures, c.requires, r, c.in-AttributesMissing.is) (mask_behind_values _ _)
