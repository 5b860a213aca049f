use Rattle.std.proofs.Common.{rules, tests}
use Rattle.std.proofs.lemmas.Iterator.{YieldsList-from_slice}
use Rattle.std.proofs.lemmas.Iterator.Consumers.{YieldsList-from_enumerate, YieldsList-from_filter, nth_from_yields_List}
use Rattle.alarm_walk.proofs.AlarmBytes.{on_at, placed}
use Rattle.alarm_walk.proofs.nth_on.Goals as goal

pub returns : goal.returns
returns c =
    let z = placed c.args.n _ c.args.b.now c.from.ensures
    (nth_from_yields_List _ _ _ c.nth.ensures.ran
    (YieldsList-from_filter _ on_at (YieldsList-from_enumerate (YieldsList-from_slice c.args.b.now cc) cc) c.filter.ensures.closure
    (λ x r q k. search (rules, tests)))) in
    search rules
