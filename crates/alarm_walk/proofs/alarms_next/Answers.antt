use Rattle.std.proofs.Common.{◌+◌, sym, ◌∙◌, arith, rules}
use Rattle.store.specs.Layout.{walk_at}
use Rattle.class_tables.proofs.SlotLaws.{few_slots}
use Rattle.alarm_walk.proofs.Walked.{length_lent, nothing_asked, nothing_walked, nothing_left, next_shown}
use Rattle.alarm_walk.proofs.alarms_next.Goals as goal

pub returns-then-not-is_ont_data : goal.returns-then-not-is_ont_data
returns-then-not-is_ont_data c =
    let a = c.args in
    nothing_asked a.product a.store.now c.requires.0 a.class a.number a.v.now a.out.now (sym c.is_ont_data.ensures ∙ c.if-not-is_ont_data.true) c.requires.2

pub returns-then-store-eq0 : goal.returns-then-store-eq0
returns-then-store-eq0 c =
    let a = c.args in
    let asked = sym c.is_ont_data.ensures ∙ c.if-not-is_ont_data.false in
    nothing_walked a.product a.store.now c.requires.0 a.class a.number a.v.now asked a.out.now c.if-store-eq0.true c.requires.2

pub overflow_add-e : goal.overflow_add-e
overflow_add-e c = let m = few_slots c.args.product in search rules

pub slice_bounds-nth_on-end : goal.slice_bounds-nth_on-end
slice_bounds-nth_on-end c =
    let m = few_slots c.args.product in
    let z = c.requires.0.long in
    search rules

pub overflow_add-j : goal.overflow_add-j
overflow_add-j c =
    let m = few_slots c.args.product in
    let s = length_lent (walk_at + 1) c.args.store.now c.slots-n.result in
    omega (arith, c.in-Some.ensures.1)

pub bounds-store-j : goal.bounds-store-j
bounds-store-j c =
    let m = few_slots c.args.product in
    let z = c.requires.0.long in
    let s = length_lent (walk_at + 1) c.args.store.now c.slots-n.result in
    omega (arith, c.in-Some.ensures.1)

pub returns-in-Some : goal.returns-in-Some
returns-in-Some c =
    let a = c.args in
    let asked = sym c.is_ont_data.ensures ∙ c.if-not-is_ont_data.false in
    let i = c.slot_instance-shown in
    next_shown a.product a.store.now c.requires.0 a.class a.number a.v.now asked c.if-store-eq0.false _ _
    c.slots-n.ensures c.number_at.ensures c.in-Some.ensures i.ensures (search rules) c.show.ensures

pub returns-in_default : goal.returns-in_default
returns-in_default c =
    let a = c.args in
    let asked = sym c.is_ont_data.ensures ∙ c.if-not-is_ont_data.false in
    nothing_left a.product a.store.now c.requires.0 a.class a.number a.v.now asked c.if-store-eq0.false a.out.now
    c.slots-n.ensures c.number_at.ensures c.in_default.ensures c.requires.2
