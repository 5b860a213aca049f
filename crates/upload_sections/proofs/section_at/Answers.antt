use Rattle.std.proofs.Common.{arith, ap, List}
use Rattle.rules.specs.Maps.{nth}
use Rattle.rules.specs.Walks.{Section}
use Rattle.class_tables.proofs.Facts.{few_classes}
use Rattle.upload_sections.proofs.ClassTotals.{no_more_classes, all_sections, in_this_class, in_a_later_class, in_no_class}
use Rattle.upload_sections.proofs.section_at.Goals as goal

pub loop-j-init : goal.loop-j-init
loop-j-init c = ap (λ (k : List Section). nth k c.args.n) (all_sections c.args.product c.args.b.now)

pub returns-in_err-class : goal.returns-in_err-class
returns-in_err-class c =
    let a = c.args in
    let l = c.loop-j in
    let none = no_more_classes a.product a.b.now l.j c.in_err-class.ensures in
    rw c.from_residual.ensures (record { is = in_no_class a.product a.b.now l.j l.left l.invariant none; carries = tt })

pub returns-then-left-some : goal.returns-then-left-some
returns-then-left-some c =
    let a = c.args in
    let l = c.loop-j in
    let r = c.class_section.ensures in
    record {
      is = in_this_class a.product a.b.now l.j c.in_ok-class.ensures c.class_total-some.ensures l.left l.invariant c.if-left-some.true r.is;
      carries = r.carries;
    }

pub loop-j-preserved : goal.loop-j-preserved
loop-j-preserved c =
    let a = c.args in
    let l = c.loop-j in
    in_a_later_class a.product a.b.now l.j c.in_ok-class.ensures c.class_total-some.ensures l.left l.invariant (omega arith)

pub returns : goal.returns
returns c =
    let a = c.args in
    let l = c.loop-j in
    let few = few_classes a.product in
    record { is = in_no_class a.product a.b.now l.j l.left l.invariant (omega arith); carries = tt }
