use Rattle.std.proofs.Common.{rules}
use Rattle.rules.proofs.ByteLaws.{known_bytes}
use Rattle.class_tests.proofs.Entries.{port_ended}
use Rattle.class_tests.proofs.port_ok.Goals as goal

pub returns : goal.returns
returns c =
    let b = c.args.c.now in
    rw (c.number_at-cost.ensures, c.number_at-priority.ensures, c.pointer_legal-pointer.ensures)
    (port_ended b (search rules) (known_bytes b (λ i. (c.type_inv.c i).fits)) c.args.product c.by-end.ensures)
