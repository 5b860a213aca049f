use Rattle.std.proofs.Common.{length, ap, ◌∙◌, length-drop, rules}
use Rattle.bulk_octets.proofs.Pieces.{the_rest}
use Rattle.place_runs.proofs.behind.Statement.{statement}
use Rattle.place_runs.proofs.behind.Tie as tie

returns : tie.Need-returns
returns c = let a = c.args in let e = the_rest a.n a.r.now in (e, ap length e ∙ length-drop a.n a.r.now)

pub behind_spec : {M : Type 1} → statement M
behind_spec = tie.close (tie.spec (λ c. search rules) (λ c. search rules) (λ c. search rules) returns)
