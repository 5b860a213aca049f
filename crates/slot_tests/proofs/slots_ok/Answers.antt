use Rattle.std.proofs.Common.{◌∙◌, rules}
use Rattle.rules.specs.Maps.{◌and◌}
use Rattle.rules.proofs.ByteLaws.{known_bytes}
use Rattle.slot_tests.proofs.Slots.{one_uni, large_slots}
use Rattle.slot_tests.proofs.slots_ok.Goals as goal

pub returns-in-Large : goal.returns-in-Large
returns-in-Large c =
    c.unis_legal.ensures ∙ rw c.in-Large.is (large_slots c.args.b.now (search rules) (known_bytes c.args.b.now (λ i. (c.type_inv.b i).fits)))

pub returns-in-Small : goal.returns-in-Small
unfolding ◌and◌
returns-in-Small c =
    let known = known_bytes c.args.b.now (λ i. (c.type_inv.b i).fits) in
    rw (c.uni_legal.ensures, c.zeros_from.ensures) (one_uni c.args.b.now (search rules) known c.args.product c.by.ensures c.in-Small.is)
