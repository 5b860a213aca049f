use Rattle.std.proofs.Common.{true, false, rules}
use Rattle.bits.proofs.Turned.{turned_is}
use Rattle.bits.proofs.alarm_turned.Goals as goal

pub returns-then-on : goal.returns-then-on
returns-then-on c = rw c.if-on.true (turned_is c.args.b c.args.n true (search rules) (search rules))

pub returns-else-on : goal.returns-else-on
returns-else-on c = rw c.if-on.false (turned_is c.args.b c.args.n false (search rules) (search rules))
