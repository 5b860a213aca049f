use native.Mathlib.Omega.{arith}
use Rattle.set_command.proofs.Wrote.{accepted_lays, accepted_at}
use Rattle.set_command.proofs.set_at.Goals as goal

pub write_set-requires : goal.write_set-requires
write_set-requires c =
    let a = c.args in
    let whole = c.requires.1.long in (
      accepted_lays a.product a.class a.at a.v.now a.store.now
          c.number_at-asked.ensures c.in_ok-set_refusal.ensures c.requires.3 c.requires.2,
      omega arith,
    )

pub returns : goal.returns
returns c =
    let a = c.args in
    accepted_at a.product a.class a.at a.v.now a.store.now
    c.number_at-asked.ensures c.in_ok-set_refusal.ensures c.requires.3 c.requires.2
    c.requires.1.long c.write_set.ensures
