use Rattle.gwezhelin.proofs.Told.{start_told}
use borrow.Author.Rules.{rules}
use Rattle.gwezhelin.proofs.gwz_power_on.Statement.{statement}
use Rattle.gwezhelin.proofs.gwz_power_on.Tie as tie
use Rattle.gwezhelin.proofs.gwz_power_on.Reads as reads
use Rattle.gwezhelin.proofs.gwz_power_on.Lts as lts
use Rattle.engine.proofs.power_on.Reads as power_on_reads
use Rattle.gwezhelin.proofs.start_number.Reads as start_number_reads

returns : tie.Need-returns
returns c = start_told c.power_on.result _ _ _ c.start_number.ensures c.power_on.ensures

pub gwz_power_on_spec : {M : Type 1} → statement M
gwz_power_on_spec =
    tie.close (tie.spec (λ c κs. search rules) (λ c κs. search rules) (λ c. search rules) returns)
