use Rattle.std.proofs.Common.{arith, List, ℕ, ap, sym, ◌∙◌}
use Rattle.rules.specs.Maps.{nth}
use Rattle.class_tables.specs.Built.{cat_of}
use Rattle.table.specs.Places.{keys_in}
use Rattle.upload_sections.specs.Sections.{numbers_in}
use Rattle.upload_sections.proofs.EntryLaws.{all_keys, number_here, number_further, number_not, number_end, few_entries, numbers_are}
use Rattle.upload_sections.proofs.Gathered.{nth_there}
use Rattle.upload_sections.proofs.entries.instance_at.Goals.{then-e-leader+else-left-eq0, else-e-leader}
use Rattle.upload_sections.proofs.entries.instance_at.Goals as goal

pub loop-i-init : goal.loop-i-init
loop-i-init c =
    let a = c.args in
    ap (λ (l : List ℕ). nth l a.j) (numbers_are a.product a.b.now a.class c.leader_of-leader.ensures)
    ∙ nth_there 0 (numbers_in (cat_of a.product) (keys_in a.b.now) a.class) a.j c.requires.1

pub begin_in-requires : goal.begin_in-requires
begin_in-requires c = omega (arith, few_entries c.args.product c.args.b.now c.requires.0)

pub returns-then-left-eq0 : goal.returns-then-left-eq0
returns-then-left-eq0 c =
    let a = c.args in
    let l = c.loop-i in
    let e = c.entry_at-e.ensures in
    let its_class = sym e.0 ∙ c.if-e-leader.true in (
      e.1 ∙ number_here (all_keys a.product a.b.now) c.leader_of-leader.result l.i l.left l.invariant (omega arith) its_class c.if-left-eq0.true,
      record {
        entry = l.i;
        is_there = omega arith;
        its_class = its_class ∙ c.leader_of-leader.ensures;
        its_number = sym e.1;
        place = c.begin_in.ensures;
      },
    )

pub loop-i-preserved : goal.loop-i-preserved
loop-i-preserved c =
    let k = all_keys c.args.product c.args.b.now in
    let d = c.leader_of-leader.result in
    let l = c.loop-i in
    let e = c.entry_at-e.ensures.0 in
    elim c.if-e-leader.branch [
      | then-e-leader+else-left-eq0 w ↦ rw w.left-is (number_further k d l.i l.left l.invariant (omega arith) (sym e ∙ w.if-e-leader.true) w.if-left-eq0.false)
      | else-e-leader w ↦ rw w.left-is (number_not k d l.i l.left l.invariant (omega arith) (λ q. w.if-e-leader.false (e ∙ q)))
    ]

pub unreachable-requires : goal.unreachable-requires
unreachable-requires c =
    let l = c.loop-i in
    number_end (all_keys c.args.product c.args.b.now) c.leader_of-leader.result l.i l.left l.invariant (omega arith)
