use mathlib.Core.Path.{refl, sym, ◌∙◌}
use Rattle.table.proofs.Ranks.{last_passed, one_passed, not_placed}
use Rattle.table.proofs.place_of.Goals as goal

pub overflow_sub-result : goal.overflow_sub-result
overflow_sub-result c = one_passed c.args.b.now c.requires c.args.key c.rank_of-j.ensures _ refl (sym c.if-has_key.true ∙ c.has_key.ensures)

pub returns-then-has_key : goal.returns-then-has_key
returns-then-has_key c = last_passed c.args.b.now c.requires c.args.key c.rank_of-j.ensures _ refl (sym c.if-has_key.true ∙ c.has_key.ensures)

pub returns : goal.returns
returns c = not_placed _ (sym c.if-has_key.false ∙ c.has_key.ensures)
