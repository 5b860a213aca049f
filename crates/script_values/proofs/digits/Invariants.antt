use Rattle.std.proofs.Common.{◌≡◌, ◌≤◌, ◌+◌, drop}
use Rattle.script_values.specs.Numbers.{digits_from, digits_at}
use Rattle.script_values.proofs.digits.Given as goal

-- the digits from here on, behind the value that was read, give the answer
abbrev pub invariant-loop-i : goal.invariant-loop-i
invariant-loop-i l = record {
  left : digits_from l.base l.limit l.value (l.place + l.i) (drop l.i l.text) ≡ digits_at l.base l.limit l.place l.text;
  within : l.value ≤ l.limit;
}
