use native.Mathlib.Omega.{arith}
use mathlib.Core.Path.{sym, ◌∙◌}
use Rattle.table.proofs.Turns.{hold_here, other_number, other_class, hold_start, hold_end}
use Rattle.table.proofs.naming.Goals.{then-number_at-number+then-number_at-class, then-number_at-number+else-number_at-class, else-number_at-number}
use Rattle.table.proofs.naming.Goals as goal

pub loop-i-preserved : goal.loop-i-preserved
loop-i-preserved c =
    let a = c.args in
    let n = c.in_use-n.result in
    let i = c.loop-i.i in
    let q = c.number_at.ensures in
    elim c.if-number_at-number.branch [
      | then-number_at-number+then-number_at-class w ↦
          omega (arith, hold_here a.b.now a.class a.at a.number n i (omega arith) (sym w.number_at-then-number_at-number.ensures ∙ w.if-number_at-class.true) (sym q ∙ w.if-number_at-number.true))
      | then-number_at-number+else-number_at-class w ↦
          omega (arith, other_class a.b.now a.class a.at a.number n i (omega arith) (λ p. w.if-number_at-class.false (w.number_at-then-number_at-number.ensures ∙ p)))
      | else-number_at-number w ↦ omega (arith, other_number a.b.now a.class a.at a.number n i (omega arith) (λ p. w.if-number_at-number.false (q ∙ p)))
    ]

pub returns : goal.returns
returns c =
    let a = c.args in
    let n = c.in_use-n.result in
    omega (arith, hold_end a.b.now a.class a.at a.number n c.loop-i.i (omega arith), hold_start a.b.now a.class a.at a.number n c.in_use-n.ensures)
