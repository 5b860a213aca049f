use Rattle.std.proofs.Common.{◌≡◌, sym, ◌∙◌, arith, rules, length, ◌≤◌}
use Rattle.script_values.proofs.RunLaws.{run_more, run_stops, run_over}
use Rattle.script_values.proofs.Rest.run_end.Goals as goal

pub returns-then-not-goes_on-clause-run : goal.returns-then-not-goes_on-clause-run
returns-then-not-goes_on-clause-run g c = λ p gives.
    let s = c.args.self.text.now in
    sym (c.loop-i.invariant.left p gives ∙ run_stops p s c.loop-i.i (omega arith) (sym (gives _ _ (search rules) c.goes_on.ensures) ∙ c.if-not-goes_on.true))

pub loop-i-preserved : goal.loop-i-preserved
loop-i-preserved g c = record {
  left = λ p gives.
      let s = c.args.self.text.now in
      c.loop-i.invariant.left p gives ∙ run_more p s c.loop-i.i (omega arith) (sym (gives _ _ (search rules) c.goes_on.ensures) ∙ c.if-not-goes_on.false);
  behind = λ h. omega arith;
}

pub returns-clause-run : goal.returns-clause-run
returns-clause-run g c = λ p gives.
    let s = c.args.self.text.now in
    let z : length s ≤ c.loop-i.i = omega arith in
    let y : c.max.result ≡ c.loop-i.i = search rules in
    y ∙ sym (c.loop-i.invariant.left p gives ∙ run_over p s c.loop-i.i z)
