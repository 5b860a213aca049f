use Rattle.reset_command.proofs.SlotTurns.{Begun}
use Rattle.reset_command.proofs.begin_slots.Given as goal

abbrev pub invariant-loop-j : goal.invariant-loop-j
invariant-loop-j l = Begun l.product l.every l.fn.b l.b l.j
