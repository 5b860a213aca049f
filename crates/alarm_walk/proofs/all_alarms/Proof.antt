use native.Mathlib.Omega.{arith}
use mathlib.Core.Path.{sym, ◌∙◌}
use lib.ListN.{length-set, length-take}
use Rattle.class_tables.proofs.SlotLaws.{few_slots}
use Rattle.alarm_walk.proofs.Shown.{blank_length}
use Rattle.alarm_walk.proofs.Walked.{nothing_frozen, length_frozen, all_frozen}
use borrow.Author.Rules.{rules}
use Rattle.alarm_walk.proofs.all_alarms.Statement.{statement}
use Rattle.alarm_walk.proofs.all_alarms.Tie as tie

returns : tie.Need-returns-then-not-is_ont_data
returns c =
    let f = c in
    let a = f.args in
    nothing_frozen a.product a.store.now f.requires.0 a.class a.number a.out.now (sym c.is_ont_data.ensures ∙ c.if-not-is_ont_data.true) f.requires.1

add_e : tie.Need-overflow_add-e
add_e c = let m = few_slots c.args.product in search rules

part_how_many_on_end : tie.Need-slice_bounds-how_many_on-end
part_how_many_on_end c =
    let f = c in
    let m = few_slots f.args.product in
    let z = f.requires.0.long in
    search rules

how_many_on_requires : tie.Need-how_many_on-n-requires
how_many_on_requires c κs =
    let m = few_slots c.args.product in
    simp length-take (search rules)

freeze_requires : tie.Need-freeze-requires
freeze_requires c κs =
    let z = c.requires.0.long in
    (omega arith, simp length-set (omega arith))

put_number_requires : tie.Need-put_number-requires
put_number_requires c κs =
    let f = c in
    let l = blank_length f.args.out.now f.requires.1 in
    search rules

same_length : tie.Need-shape_of-store
same_length c =
    let f = c in
    length_frozen f.args.product f.args.store.now f.requires.0 c.freeze.ensures

returns-2 : tie.Need-returns
returns-2 c =
    let at_put_number = c in
    let frozen = at_put_number in
    let counted = frozen in
    let slots = counted in
    let f = slots in
    let a = f.args in
    let asked = sym slots.is_ont_data.ensures ∙ slots.if-not-is_ont_data.false in
    all_frozen a.product a.store.now f.requires.0 a.class a.number asked frozen.freeze.ensures slots.slots-e.ensures counted.how_many_on-n.ensures f.requires.1
    at_put_number.put_number.ensures

pub all_alarms_spec : {M : Type 1} → statement M
all_alarms_spec =
    tie.close
    (tie.spec
    (λ c κs. search rules)
    returns
    (λ c κs. search rules)
    add_e
    (λ c. search rules)
    (λ c. search rules)
    part_how_many_on_end
    how_many_on_requires
    (λ c. search rules)
    freeze_requires
    put_number_requires
    same_length
    (λ c. search rules)
    returns-2)
