use Rattle.set_command.proofs.Refused.{judged_fit, as_judged}
use Rattle.set_command.proofs.judge_set.Goals as goal

pub returns-then-barred-long : goal.returns-then-barred-long
returns-then-barred-long c =
    as_judged _ _ _ c.unsupported-unsupported.ensures c.unwritable-unwritable.ensures c.total_size-long.ensures c.if-barred-long.true
    c.unwritable-unwritable.ensures

pub returns : goal.returns
returns c =
    as_judged _ _ _ c.unsupported-unsupported.ensures c.unwritable-unwritable.ensures c.total_size-long.ensures c.if-barred-long.false
    c.bad_mask-bad.ensures
