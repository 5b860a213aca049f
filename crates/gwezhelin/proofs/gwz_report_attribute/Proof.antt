use Rattle.gwezhelin.proofs.Told.{told}
use borrow.Author.Rules.{rules}
use Rattle.gwezhelin.proofs.gwz_report_attribute.Statement.{statement}
use Rattle.gwezhelin.proofs.gwz_report_attribute.Tie as tie
use Rattle.gwezhelin.proofs.gwz_report_attribute.Reads as reads
use Rattle.gwezhelin.proofs.gwz_report_attribute.Lts as lts
use Rattle.engine.proofs.report_attribute.Reads as report_attribute_reads
use Rattle.gwezhelin.proofs.number.Reads as number_reads

returns : tie.Need-returns
returns c = told c.report_attribute.result _ _ _ _ c.number.ensures c.report_attribute.ensures

pub gwz_report_attribute_spec : {M : Type 1} → statement M
gwz_report_attribute_spec =
    tie.close
    (tie.spec (λ c κs. search rules) (λ c κs. search rules) (λ c. search rules) (λ c. search rules) returns)
