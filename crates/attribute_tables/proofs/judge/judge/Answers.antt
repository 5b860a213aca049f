use Rattle.attribute_tables.proofs.Judging.{judged_any, judged_range, judged_listed, judged_pointer, not_judged}
use Rattle.attribute_tables.proofs.judge.judge.Goals as goal

pub returns-in-Any : goal.returns-in-Any
returns-in-Any c = judged_any _ _ _ c.in-Any.is

pub returns-in-Range : goal.returns-in-Range
returns-in-Range c = judged_range _ _ _ _ _ c.in-Range.is c.fine_if.ensures

pub returns-in-Listed : goal.returns-in-Listed
returns-in-Listed c = judged_listed _ _ _ _ _ c.in-Listed.is c.fine_if-in-Listed.ensures

pub returns-then-is_none-condition : goal.returns-then-is_none-condition
returns-then-is_none-condition c = judged_pointer _ _ _ _ c.in-Pointer.is _ c.is_none.ensures c.if-is_none-condition.true

pub returns-else-is_none-condition : goal.returns-else-is_none-condition
returns-else-is_none-condition c = not_judged _ _ _ _ c.in-Pointer.is _ c.is_none.ensures c.if-is_none-condition.false
