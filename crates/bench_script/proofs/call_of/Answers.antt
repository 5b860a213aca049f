use Rattle.std.proofs.Common.{rules, arith}
use Rattle.std.specs.Prelude.{codes}
use Rattle.std.proofs.lemmas.Slice.Eq.{text_from_reads}
use Rattle.bench_script.specs.Lines.{call_of}
use Rattle.bench_script.proofs.call_of.Goals as goal

pub returns-in-report : goal.returns-in-report
unfolding call_of
returns-in-report c = rw (text_from_reads c.args.word.now (codes "report") (omega arith) (search rules))

pub returns-in-upload : goal.returns-in-upload
unfolding call_of
returns-in-upload c = rw (text_from_reads c.args.word.now (codes "upload") (omega arith) (search rules))

pub returns-in-alarms : goal.returns-in-alarms
unfolding call_of
returns-in-alarms c = rw (text_from_reads c.args.word.now (codes "alarms") (omega arith) (search rules))
