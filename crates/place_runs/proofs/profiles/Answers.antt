use Rattle.std.proofs.Common.{◌≡◌, not, sym, ap, ◌∙◌, true, arith}
use Rattle.rules.specs.Catalogue.{key}
use Rattle.rules.proofs.Laws.{true_and}
use Rattle.rules.proofs.Conjunctions.{and_end}
use Rattle.class_tables.specs.Built.{cat_of}
use Rattle.place_runs.proofs.Turns.{key_below, run_done, run_over, run_bad, run_on}
use Rattle.place_runs.proofs.profiles.Goals as goal

pub returns-then-not-in_run : goal.returns-then-not-in_run
returns-then-not-in_run c =
    let a = c.args in
    let l = c.loop-i in
    run_over (cat_of a.product) 45 a.b.now a.n l.i l.low true _ l.invariant.from_there (omega arith) c.place_at-r.result.now c.place_at-r.ensures.0
    c.key_at-k.result c.key_at-k.ensures c.in_run.result c.in_run.ensures (ap not c.if-not-in_run.true)

pub returns-then-not-profile_ok : goal.returns-then-not-profile_ok
returns-then-not-profile_ok c =
    let a = c.args in
    let l = c.loop-i in
    run_bad (cat_of a.product) 45 a.b.now a.n l.i l.low true _ l.invariant.from_there (omega arith) c.place_at-r.result.now c.place_at-r.ensures.0
    c.key_at-k.result c.key_at-k.ensures c.in_run.result c.in_run.ensures (ap not c.if-not-in_run.false) c.behind.result.now
    c.behind.ensures.0 c.profile_ok.result true (sym (and_end _ ∙ c.profile_ok.ensures)) (ap not c.if-not-profile_ok.true)

pub loop-i-preserved : goal.loop-i-preserved
loop-i-preserved c =
    let a = c.args in
    let l = c.loop-i in
    record {
      low_enough = omega (arith, key_below l.low c.key_at-k.result (key 46 0) c.in_run.result c.in_run.ensures (ap not c.if-not-in_run.false));
      from_there = rw (true_and true) at (run_on (cat_of a.product) 45 a.b.now a.n l.i l.low true _ l.invariant.from_there (omega arith) c.place_at-r.result.now
          c.place_at-r.ensures.0 c.key_at-k.result c.key_at-k.ensures c.in_run.result c.in_run.ensures (ap not c.if-not-in_run.false) c.behind.result.now
          c.behind.ensures.0 c.profile_ok.result true (sym (and_end _ ∙ c.profile_ok.ensures)) (ap not c.if-not-profile_ok.false));
    }

pub returns : goal.returns
returns c =
    let a = c.args in
    let l = c.loop-i in
    let ended : l.i ≡ a.n = omega (arith, l.auto.i-end c.requires.begins) in
    rw ended at (run_done (cat_of a.product) 45 a.b.now a.n l.i l.low true _ l.invariant.from_there (omega arith))
