use Rattle.gwezhelin.proofs.Told.{told}
use borrow.Author.Rules.{rules}
use Rattle.gwezhelin.proofs.gwz_report_alarm.Statement.{statement}
use Rattle.gwezhelin.proofs.gwz_report_alarm.Tie as tie
use Rattle.gwezhelin.proofs.gwz_report_alarm.Reads as reads
use Rattle.gwezhelin.proofs.gwz_report_alarm.Lts as lts
use Rattle.engine.proofs.report_alarm.Reads as report_alarm_reads
use Rattle.gwezhelin.proofs.number.Reads as number_reads

returns : tie.Need-returns
returns c = told c.report_alarm.result _ _ _ _ c.number.ensures c.report_alarm.ensures

pub gwz_report_alarm_spec : {M : Type 1} → statement M
gwz_report_alarm_spec =
    tie.close (tie.spec (λ c κs. search rules) (λ c κs. search rules) (λ c. search rules) (λ c. search rules) returns)
