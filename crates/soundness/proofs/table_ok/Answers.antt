use Rattle.std.proofs.Common.{sym, ◌∙◌, arith, rules}
use Rattle.rules.specs.Maps.{◌and◌}
use Rattle.rules.proofs.Laws.{true_and}
use Rattle.soundness.proofs.Turns.{too_many, table_bytes}
use Rattle.soundness.proofs.table_ok.Goals as goal

pub returns-then-n-gt-PLACE_COUNT : goal.returns-then-n-gt-PLACE_COUNT
returns-then-n-gt-PLACE_COUNT c = sym (too_many c.args.product c.args.b.now (search rules) (omega (arith, c.from-n.ensures)))

pub returns-then-not-slots_ok : goal.returns-then-not-slots_ok
unfolding ◌and◌
returns-then-not-slots_ok c =
    rw (sym c.slots_ok.ensures ∙ c.if-not-slots_ok.true) at (sym (table_bytes c.args.product c.args.b.now (search rules) (omega (arith, c.from-n.ensures))))

pub returns : goal.returns
returns c =
    rw (c.places_ok.ensures, c.from-n.ensures)
    (sym (table_bytes c.args.product c.args.b.now (search rules) (omega (arith, c.from-n.ensures)) ∙ rw (sym c.slots_ok.ensures ∙ c.if-not-slots_ok.false) (true_and _)))
