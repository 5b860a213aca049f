use Rattle.std.proofs.Common.{rules, length}
use Rattle.script_values.specs.Runs.{in_code}
use Rattle.bench_script.proofs.Fits.{line_fits}
use Rattle.bench_script.proofs.read_line.Goals as goal

pub returns-clause-fits : goal.returns-clause-fits
returns-clause-fits c =
    let code = c.run_end-end.ensures.run in_code (λ b r h e. search rules) in
    let says = rw code at c.read_text.ensures.says in
    rw says (line_fits (length c.args.bytes.now) c.args.line.now)
