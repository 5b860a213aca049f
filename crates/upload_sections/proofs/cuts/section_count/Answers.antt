use Rattle.std.proofs.Common.{arith, rules, ap, sym, ◌∙◌, length}
use Rattle.upload_sections.proofs.ClassCuts.{all_left, none_left, within, one_less}
use Rattle.class_tables.proofs.Facts.{few_sections}
use Rattle.upload_sections.proofs.cuts.section_count.Goals as goal

pub loop-product-init : goal.loop-product-init
loop-product-init c = (search rules, omega (arith, ap length (all_left _ _ c.supported_mask-left.ensures)))

pub overflow_sub-left : goal.overflow_sub-left
overflow_sub-left c = let l = c.loop-product in within _ _ l.left l.invariant.0 c.first_section-left.ensures

pub overflow_add-count : goal.overflow_add-count
overflow_add-count c =
    let l = c.loop-product in
    let o = one_less _ _ l.left l.invariant.0 c.first_section-left.ensures (λ z. c.loop-product-test.true (c.how_many.ensures ∙ z)) in
    omega (arith, o, l.invariant.1, few_sections c.args.product c.args.class)

pub loop-product-smaller : goal.loop-product-smaller
loop-product-smaller c =
    let l = c.loop-product in
    omega (arith, one_less _ _ l.left l.invariant.0 c.first_section-left.ensures (λ z. c.loop-product-test.true (c.how_many.ensures ∙ z)))

pub loop-product-preserved : goal.loop-product-preserved
loop-product-preserved c =
    let l = c.loop-product in
    let o = one_less _ _ l.left l.invariant.0 c.first_section-left.ensures (λ z. c.loop-product-test.true (c.how_many.ensures ∙ z)) in
    (omega arith, omega (arith, o, l.invariant.1))

pub returns : goal.returns
returns c =
    let l = c.loop-product in
    omega (arith, l.invariant.1, none_left c.args.product c.args.class l.left (sym c.how_many.ensures ∙ c.loop-product-test.false))
