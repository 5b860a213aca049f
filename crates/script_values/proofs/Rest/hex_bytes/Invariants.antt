use Rattle.std.proofs.Common.{◌≡◌, ◌≤◌, ◌-◌, length, take, drop}
use Rattle.script_values.specs.Runs.{is_gap, run_length}
use Rattle.script_values.specs.HexBytes.{marks, pairs, hex_from}
use Rattle.script_values.proofs.Rest.hex_bytes.Given as goal

-- n bytes are laid, no gap stands at i, and what is left from there on gives the answer
abbrev pub invariant-loop-i : goal.invariant-loop-i
invariant-loop-i l = record {
  within : l.n ≤ length l.bytes;
  same_length : length l.bytes ≡ length l.fn.bytes;
  rest : drop l.n l.bytes ≡ drop l.n l.fn.bytes;
  no_gap : run_length is_gap (drop l.i l.self.text.now) ≡ 0;
  left : pairs (length l.fn.bytes) (take l.n l.bytes) (marks l.i (drop l.i l.self.text.now)) ≡ hex_from (length l.fn.bytes) l.self.text.now l.self.at;
}

abbrev pub decreases-loop-i : goal.decreases-loop-i
decreases-loop-i l = length l.self.text.now - l.i
