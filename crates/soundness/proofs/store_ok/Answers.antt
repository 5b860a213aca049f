use Rattle.std.proofs.Common.{sym, ap, ◌∙◌}
use Rattle.rules.proofs.ByteLaws.{known_bytes}
use Rattle.class_tables.specs.Built.{named_catalogue}
use Rattle.soundness.proofs.SoundTested.{too_short, no_product, product_tested}
use Rattle.soundness.proofs.store_ok.Goals as goal

pub returns-then-s-lt-STORE : goal.returns-then-s-lt-STORE
returns-then-s-lt-STORE c = sym (too_short c.args.s.now c.if-s-lt-STORE.true)

pub returns-in-Ok : goal.returns-in-Ok
returns-in-Ok c =
    let s = c.args.s.now in
    let known = known_bytes s (λ i. (c.type_inv.s i).fits) in
    c.parts_ok.ensures ∙ sym (product_tested c.in-Ok.product s known c.if-s-lt-STORE.false (sym (c.try_from.ensures.its_number c.in-Ok.product c.in-Ok.is)))

pub returns-in-Err : goal.returns-in-Err
returns-in-Err c = sym (no_product c.args.s.now (sym c.try_from.ensures.found ∙ ap named_catalogue c.in-Err.is))
