use Rattle.std.proofs.Common.{rules, length-set}
use Rattle.bulk_octets.proofs.Gathering.{gather_again, gather_end}
use Rattle.bulk_octets.proofs.gather.Goals as goal

pub loop-i-preserved : goal.loop-i-preserved
loop-i-preserved c =
    let l = c.loop-i in
    let all = c.args.all.now in
    let more = c.args.more.now in
    (simp length-set (search rules), gather_again all l.all more l.i l.invariant.1 c.requires (search rules))

pub returns : goal.returns
returns c =
    let l = c.loop-i in
    gather_end c.args.all.now l.all c.args.more.now l.i l.invariant.1 c.requires (search rules)
