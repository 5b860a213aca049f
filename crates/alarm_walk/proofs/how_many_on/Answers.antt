use Rattle.std.proofs.Common.{◌∙◌, rules, tests}
use Rattle.std.proofs.lemmas.Iterator.{YieldsList-from_slice}
use Rattle.std.proofs.lemmas.Iterator.Consumers.{YieldsList-from_filter, count_from_yields_List}
use Rattle.alarm_walk.proofs.AlarmBytes.{is_on, count_kept}
use Rattle.alarm_walk.proofs.how_many_on.Goals as goal

pub returns : goal.returns
returns c =
    count_from_yields_List _ _ c.count.ensures.ran
    (YieldsList-from_filter _ is_on (YieldsList-from_slice c.args.b.now cc) c.filter.ensures.closure (λ x r q k. search (rules, tests)))
    ∙ count_kept c.args.b.now
