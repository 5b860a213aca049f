use Rattle.std.proofs.Common.{arith, ap, sym, ◌∙◌, length}
use Rattle.upload_sections.proofs.EntryLaws.{all_keys, led_here, led_not, led_end, numbers_length, numbers_are}
use Rattle.upload_sections.proofs.entries.instance_count.Goals.{then-entry_at-leader, else-entry_at-leader}
use Rattle.upload_sections.proofs.entries.instance_count.Goals as goal

pub loop-i-preserved : goal.loop-i-preserved
loop-i-preserved c =
    let k = all_keys c.args.product c.args.b.now in
    let d = c.leader_of-leader.result in
    let i = c.loop-i.i in
    let e = c.entry_at.ensures.0 in
    elim c.if-entry_at-leader.branch [
      | then-entry_at-leader w ↦ omega (arith, ap length (led_here k d i (omega arith) (sym e ∙ w.if-entry_at-leader.true)))
      | else-entry_at-leader w ↦ omega (arith, ap length (led_not k d i (omega arith) (λ q. w.if-entry_at-leader.false (e ∙ q))))
    ]

pub returns : goal.returns
returns c =
    let a = c.args in
    let k = all_keys a.product a.b.now in
    let d = c.leader_of-leader.result in
    omega (arith, ap length (led_end k d c.loop-i.i (omega arith)), numbers_length d k, ap length (numbers_are a.product a.b.now a.class c.leader_of-leader.ensures))
