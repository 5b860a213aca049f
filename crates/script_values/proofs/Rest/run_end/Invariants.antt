use Rattle.std.proofs.Common.{◌≡◌, ◌<◌, ℕ, Bool, length}
use Rattle.script_values.specs.Runs.{Computes, run_end}
use Rattle.script_values.proofs.Rest.run_end.Given as goal

-- the run ends where it ends from here on, and where the place is behind the text nothing is read
abbrev pub invariant-loop-i : goal.invariant-loop-i
invariant-loop-i g l = record {
  left : (p : ℕ → Bool) → Computes (goal.F-post g l.goes_on) p → run_end p l.text l.at ≡ run_end p l.text l.i;
  behind : length l.text < l.at → l.i ≡ l.at;
}
