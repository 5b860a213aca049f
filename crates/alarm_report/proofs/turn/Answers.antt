use Rattle.std.proofs.Common.{refl}
use Rattle.octets.proofs.Laid.{one_laid}
use Rattle.alarm_report.proofs.Turning.{turned_not, turned_to}
use Rattle.alarm_report.proofs.turn.Goals as goal

pub returns-then-alarm_on-on : goal.returns-then-alarm_on-on
returns-then-alarm_on-on c = (turned_not _ _ _ _ c.alarm_on.ensures c.if-alarm_on-on.true, refl)

pub returns : goal.returns
returns c = (
  turned_to _ _ _ _ c.alarm_on.ensures c.if-alarm_on-on.false _ c.alarm_turned-is.ensures,
  one_laid c.args.slot _ c.args.alarms.now c.requires.0,
)
