use Rattle.bench_script.specs.Lines.{read_call}
use Rattle.bench_script.proofs.LineLaws.{untouched}
use Rattle.bench_script.proofs.read_call.Goals as goal

pub returns-in-Power : goal.returns-in-Power
unfolding read_call
returns-in-Power c =
    rw c.in-Power.is (untouched _ _ c.args.bytes.now (rw (c.behind-rest.ensures.text, c.behind-rest.ensures.at) at c.power.ensures))

pub returns-in-Report : goal.returns-in-Report
unfolding read_call
returns-in-Report c = rw c.in-Report.is (rw (c.behind-rest.ensures.text, c.behind-rest.ensures.at) at c.report.ensures)

pub returns-in-Alarm : goal.returns-in-Alarm
unfolding read_call
returns-in-Alarm c =
    rw c.in-Alarm.is (untouched _ _ c.args.bytes.now (rw (c.behind-rest.ensures.text, c.behind-rest.ensures.at) at c.alarm.ensures))

pub returns-in-Upload : goal.returns-in-Upload
unfolding read_call
returns-in-Upload c = let h = c.if_last.ensures in
    rw c.in-Upload.is (untouched _ _ c.args.bytes.now (rw (c.behind-rest.ensures.text, c.behind-rest.ensures.at) at c.if_last.ensures))

pub returns-in-Alarms : goal.returns-in-Alarms
unfolding read_call
returns-in-Alarms c =
    rw c.in-Alarms.is (untouched _ _ c.args.bytes.now (rw (c.behind-rest.ensures.text, c.behind-rest.ensures.at) at c.if_last-in-Alarms.ensures))

pub returns-in-Other : goal.returns-in-Other
unfolding read_call
returns-in-Other c = rw c.in-Other.is (rw (c.behind.ensures.text, c.behind.ensures.at) at c.message.ensures)
