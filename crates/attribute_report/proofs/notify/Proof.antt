use Rattle.attribute_report.proofs.Notified.{notified}
use borrow.Author.Rules.{rules}
use Rattle.attribute_report.proofs.notify.Statement.{statement}
use Rattle.attribute_report.proofs.notify.Tie as tie

returns : tie.Need-returns
returns c =
    let a = c.args in
    let bit = c.bit_of in
    notified a.class a.number a.attribute bit.result a.content.now _ bit.ensures (search rules)
    c.begin.ensures
    c.put_number.ensures c.copy_in.ensures

pub notify_spec : {M : Type 1} → statement M
notify_spec =
    tie.close
    (tie.spec
    (λ c κs. search rules)
    (λ c κs. search rules)
    (λ c κs. search rules)
    (λ c κs. search rules)
    (λ c. search rules)
    returns)
