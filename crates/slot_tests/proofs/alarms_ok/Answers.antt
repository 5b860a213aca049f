use Rattle.std.proofs.Common.{◌≡◌, true, rules, tests}
use Rattle.std.proofs.lemmas.Iterator.{YieldsList-from_slice}
use Rattle.std.proofs.lemmas.Iterator.Consumers.{fold_from_yields_List}
use lib.ListN.{take}
use Rattle.std.specs.List.{fold}
use Rattle.rules.specs.Maps.{◌and◌}
use Rattle.rules.proofs.ByteLaws.{known_bytes}
use Rattle.slot_tests.proofs.AlarmBytes.{one_more, one_alarm_by, last_behind}
use Rattle.slot_tests.proofs.alarms_ok.Goals as goal

pub returns-in-Large : goal.returns-in-Large
returns-in-Large c =
    let others : c.fold-others.result ≡ fold one_more true (take 3 c.args.b.now) =
    fold_from_yields_List _ one_more true _ c.fold-others.ensures.ran (YieldsList-from_slice (take 3 c.args.b.now) cc) (λ d x m q k. search (rules, tests)) in
    rw (others, c.in-Large.is) (last_behind c.args.b.now (search rules) (known_bytes c.args.b.now (λ i. (c.type_inv.b i).fits)))

pub returns-in-Small : goal.returns-in-Small
unfolding ◌and◌
returns-in-Small c =
    rw c.zeros_from.ensures (one_alarm_by c.args.b.now (known_bytes c.args.b.now (λ i. (c.type_inv.b i).fits)) c.args.product c.by.ensures c.in-Small.is)
