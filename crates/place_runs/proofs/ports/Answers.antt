use Rattle.std.proofs.Common.{◌≡◌, ◌-◌, not, length, drop, refl, ap, ◌∙◌, arith}
use Rattle.std.specs.Prelude.{Some}
use Rattle.rules.specs.Bytes.{all_zero}
use Rattle.rules.specs.Catalogue.{key}
use Rattle.class_tables.specs.Built.{cat_of}
use Rattle.class_tests.specs.Tests.{port_front}
use Rattle.place_runs.specs.Runs.{run_end}
use Rattle.place_runs.proofs.Turns.{zeroed, zeroed_some, key_below, run_done, run_over, run_bad, run_on}
use Rattle.place_runs.proofs.Spare.{nothing_gathered, port_tested, more_gathered}
use Rattle.bulk_octets.proofs.Gathering.{length_gathered}
use Rattle.place_runs.proofs.ports.Goals as goal
use Rattle.place_runs.proofs.ports.Goals.{else-loop-i-test, then-loop-i-test+then-not-in_run}

pub loop-i-init : goal.loop-i-init
loop-i-init c = record { low_enough = omega arith; ends_here = refl; wide = refl; from_there = nothing_gathered _ }

pub returns-then-not-port_ok : goal.returns-then-not-port_ok
returns-then-not-port_ok c =
    let a = c.args in
    let l = c.loop-i in
    run_bad (cat_of a.product) 47 a.b.now a.n l.i l.low (all_zero l.spare) _ l.invariant.from_there (omega arith) c.place_at-r.result.now
    c.place_at-r.ensures.0 c.key_at-k.result c.key_at-k.ensures c.in_run.result c.in_run.ensures (ap not c.if-not-in_run.false) c.behind.result.now
    c.behind.ensures.0 c.port_ok.result (all_zero (drop port_front c.behind.result.now))
    (port_tested a.product c.behind.result.now c.port_ok.result c.port_ok.ensures (omega arith)) (ap not c.if-not-port_ok.true)

pub loop-i-preserved : goal.loop-i-preserved
loop-i-preserved c =
    let a = c.args in
    let l = c.loop-i in
    let more = c.behind-in-loop-i in
    record {
      low_enough = omega (arith, key_below l.low c.key_at-k.result (key 48 0) c.in_run.result c.in_run.ensures (ap not c.if-not-in_run.false));
      ends_here = refl;
      wide = ap length c.gather.ensures ∙ length_gathered l.spare more.result.now ∙ l.invariant.wide;
      from_there = rw (more_gathered l.spare c.gather.new.all c.place_at-r.result.now c.behind.result.now more.result.now
          c.gather.ensures (omega arith) c.behind.ensures.0 more.ensures.0)
          at (run_on (cat_of a.product) 47 a.b.now a.n l.i l.low (all_zero l.spare) _ l.invariant.from_there (omega arith) c.place_at-r.result.now
          c.place_at-r.ensures.0 c.key_at-k.result c.key_at-k.ensures c.in_run.result c.in_run.ensures (ap not c.if-not-in_run.false) c.behind.result.now
          c.behind.ensures.0 c.port_ok.result (all_zero (drop port_front c.behind.result.now))
          (port_tested a.product c.behind.result.now c.port_ok.result c.port_ok.ensures (omega arith)) (ap not c.if-not-port_ok.false));
    }

pub returns : goal.returns
returns c =
    let a = c.args in
    let l = c.loop-i in
    let q = all_zero l.spare in
    let left : zeroed q (Some l.i) ≡ run_end (cat_of a.product) 47 a.b.now (a.n - a.from) a.from (key 47 0) =
    elim c.loop-i-test.branch [
      | else-loop-i-test w ↦ run_done (cat_of a.product) 47 a.b.now a.n l.i l.low q _ l.invariant.from_there (omega arith)
      | then-loop-i-test+then-not-in_run w ↦ run_over (cat_of a.product) 47 a.b.now a.n l.i l.low q _ l.invariant.from_there (omega arith) w.place_at-r.result.now w.place_at-r.ensures.0
          w.key_at-k.result w.key_at-k.ensures w.in_run.result w.in_run.ensures (ap not w.if-not-in_run.true)
    ] in
    c.then_some.ensures ∙ zeroed_some c.zeros.ensures l.invariant.ends_here ∙ left
