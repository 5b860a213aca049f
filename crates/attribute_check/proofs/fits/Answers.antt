use Rattle.std.proofs.Common.{rules}
use Rattle.class_tables.specs.Built.{cat_of}
use Rattle.attribute_check.proofs.Verdicts.{with_two_bytes}
use Rattle.attribute_check.proofs.ByRule.{no_such, one_there, fits_unjudged, looks_at, fits_any, fits_range, fits_listed, fits_pointer, fits_unmet}
use Rattle.attribute_check.proofs.fits.Goals as goal

pub returns-then-common-eq0 : goal.returns-then-common-eq0
returns-then-common-eq0 c =
    let a = c.args in
    fits_unjudged _ _ _ _ a.n a.v.now
    (no_such a.product a.class a.n c.requires.1 c.requires.2 c.bit_of.ensures c.supported_mask.ensures c.common.ensures c.if-common-eq0.true)

-- what passed the first test is an attribute of the class
pub rule_of-rule-requires : goal.rule_of-rule-requires
rule_of-rule-requires c =
    let a = c.args in
    one_there a.product a.class a.n c.requires.1 c.requires.2 c.bit_of.ensures c.supported_mask.ensures c.common.ensures (search rules) c.if-common-eq0.false

pub only_if_of-only_if-requires : goal.only_if_of-only_if-requires
only_if_of-only_if-requires c =
    let a = c.args in
    one_there a.product a.class a.n c.requires.1 c.requires.2 c.bit_of.ensures c.supported_mask.ensures c.common.ensures (search rules) c.if-common-eq0.false

pub condition_met-requires : goal.condition_met-requires
condition_met-requires c =
    let a = c.args in
    (looks_at a.product a.class a.n c.rule_of-rule.ensures c.in-Pointer.is c.only_if_of-only_if.ensures, c.requires.4)

pub returns-then-not-condition_met : goal.returns-then-not-condition_met
returns-then-not-condition_met c =
    let a = c.args in
    fits_unmet _ a.product a.class a.n a.own.now a.at a.v.now c.requires.3 c.value_in-value.ensures c.rule_of-rule.ensures _
    c.in-Pointer.is c.only_if_of-only_if.ensures c.condition_met.ensures c.if-not-condition_met.true

pub returns-in-Any : goal.returns-in-Any
returns-in-Any c =
    let a = c.args in
    fits_any _ a.product a.class a.n a.own.now a.at a.v.now c.requires.3 c.value_in-value.ensures c.rule_of-rule.ensures c.in-Any.is

pub returns-in-Range : goal.returns-in-Range
returns-in-Range c =
    let a = c.args in
    fits_range _ a.product a.class a.n a.own.now a.at a.v.now c.requires.3 c.value_in-value.ensures c.rule_of-rule.ensures _ _ c.in-Range.is

pub returns-in-Listed : goal.returns-in-Listed
returns-in-Listed c =
    let a = c.args in
    fits_listed _ a.product a.class a.n a.own.now a.at a.v.now c.requires.3 c.value_in-value.ensures c.rule_of-rule.ensures _ _ c.in-Listed.is

pub returns-else-not-condition_met : goal.returns-else-not-condition_met
returns-else-not-condition_met c =
    let a = c.args in
    fits_pointer _ a.product a.class a.n a.own.now a.at a.v.now c.requires.3 c.value_in-value.ensures c.rule_of-rule.ensures _
    c.in-Pointer.is c.only_if_of-only_if.ensures c.condition_met.ensures c.if-not-condition_met.false
    (with_two_bytes (cat_of a.product) a.live.now _ _ c.is_there.ensures (search rules))
