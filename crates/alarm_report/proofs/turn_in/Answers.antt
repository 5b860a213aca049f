use Rattle.alarm_report.proofs.Turning.{left_quiet, left_turned}
use Rattle.alarm_report.proofs.turn_in.Goals as goal

pub returns-in-Some : goal.returns-in-Some
returns-in-Some c =
    let n = c.notify.ensures in
    left_turned _ _ _ _ _ _ _ _ c.turn.ensures.0 _ c.turn.ensures.1 c.requires.0 c.requires.1 _ c.in-Some.is _ _ n.0 n.1

pub returns-in-None : goal.returns-in-None
returns-in-None c = left_quiet _ _ _ _ _ _ _ _ c.turn.ensures.0 _ c.turn.ensures.1 c.in-None.is
