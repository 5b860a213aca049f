use Rattle.std.proofs.Common.{◌≡◌, length}
use Rattle.bulk_octets.proofs.Gathering.{added}
use Rattle.bulk_octets.proofs.gather.Given as goal

abbrev pub invariant-loop-i : goal.invariant-loop-i
invariant-loop-i l = (length l.all ≡ length l.more) × (l.all ≡ added l.fn.all l.more l.i)
