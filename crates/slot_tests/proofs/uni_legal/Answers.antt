use Rattle.std.proofs.Common.{refl}
use Rattle.class_tables.specs.Computing.{computing_tables}
use Rattle.class_tests.specs.ContentTests.{computing_tests}
use Rattle.slot_tests.proofs.uni_legal.Goals as goal

pub returns-in-Small : goal.returns-in-Small
returns-in-Small c = rw c.in-Small.is (unfold computing_tables computing_tests in refl)

pub returns-in-Large : goal.returns-in-Large
returns-in-Large c = rw c.in-Large.is (unfold computing_tables computing_tests in refl)

pub returns-in-Meter : goal.returns-in-Meter
returns-in-Meter c = rw c.in-Meter.is (unfold computing_tables computing_tests in refl)
