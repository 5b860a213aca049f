use Rattle.gwezhelin.proofs.Told.{told}
use borrow.Author.Rules.{rules}
use Rattle.gwezhelin.proofs.gwz_handle.Statement.{statement}
use Rattle.gwezhelin.proofs.gwz_handle.Tie as tie
use Rattle.gwezhelin.proofs.gwz_handle.Reads as reads
use Rattle.gwezhelin.proofs.gwz_handle.Lts as lts
use Rattle.engine.proofs.handle.Reads as handle_reads
use Rattle.gwezhelin.proofs.number.Reads as number_reads

returns : tie.Need-returns
returns c = told c.handle.result _ _ _ _ c.number.ensures c.handle.ensures

pub gwz_handle_spec : {M : Type 1} → statement M
gwz_handle_spec =
    tie.close (tie.spec (λ c κs. search rules) (λ c κs. search rules) (λ c. search rules) (λ c. search rules) returns)
