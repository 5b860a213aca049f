use Rattle.std.proofs.Common.{◌≡◌, ◌+◌, ◌-◌, ◌*◌, drop, refl, arith, length-drop, length-take-le, rules}
use Rattle.store.specs.Layout.{place_length}
use Rattle.place_runs.proofs.place_at.Statement.{statement}
use Rattle.place_runs.proofs.place_at.Tie as tie

returns : tie.Need-returns
returns c =
    let i = c.args.i in
    let b = c.args.b.now in
    let n : i * place_length + place_length - i * place_length ≡ place_length = omega arith in
    rw n (refl, length-take-le place_length (drop (i * place_length) b) (simp length-drop (omega arith)))

pub place_at_spec : {M : Type 1} → statement M
place_at_spec =
    tie.close (tie.spec (λ c. search rules) (λ c. search rules) (λ c. search rules) (λ c. search rules) (λ c. search rules) returns)
