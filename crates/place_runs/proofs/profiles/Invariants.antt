use Rattle.std.proofs.Common.{◌≡◌, ◌-◌, ◌≤◌}
use Rattle.rules.specs.Catalogue.{key}
use Rattle.class_tables.specs.Built.{cat_of}
use Rattle.place_runs.specs.Runs.{run_end}
use Rattle.place_runs.proofs.profiles.Given as goal

abbrev pub invariant-loop-i : goal.invariant-loop-i
invariant-loop-i l = record {
  low_enough : l.low ≤ key 46 0;
  from_there : run_end (cat_of l.product) 45 l.b (l.n - l.i) l.i l.low ≡ run_end (cat_of l.product) 45 l.b (l.n - l.from) l.from (key 45 0);
}
