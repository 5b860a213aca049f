use Rattle.std.proofs.Common.{◌≡◌, ◌+◌, ◌≤◌}
use Rattle.table.proofs.Turns.{hold_from}
use Rattle.table.proofs.naming.Given as goal

-- those counted, and those from the i-th place on, make the answer
abbrev pub invariant-loop-i : goal.invariant-loop-i
invariant-loop-i l = record {
  few : l.count ≤ l.i;
  so_far : l.count + hold_from l.b l.class l.at l.number l.n l.i ≡ hold_from l.b l.class l.at l.number l.n 0;
}
