use Rattle.std.proofs.Common.{◌≡◌, ◌-◌, ◌≤◌, length}
use Rattle.rules.specs.Bytes.{all_zero}
use Rattle.rules.specs.Catalogue.{key}
use Rattle.class_tables.specs.Built.{cat_of}
use Rattle.place_runs.specs.Runs.{run_end}
use Rattle.place_runs.proofs.Turns.{zeroed}
use Rattle.place_runs.proofs.Spare.{spare_length}
use Rattle.place_runs.proofs.ports.Given as goal

-- what was gathered stands for the places up to here
abbrev pub invariant-loop-i : goal.invariant-loop-i
invariant-loop-i l = record {
  low_enough : l.low ≤ key 48 0;
  ends_here : l.end ≡ l.i;
  wide : length l.spare ≡ spare_length;
  from_there : zeroed (all_zero l.spare) (run_end (cat_of l.product) 47 l.b (l.n - l.i) l.i l.low)
      ≡ run_end (cat_of l.product) 47 l.b (l.n - l.from) l.from (key 47 0);
}
