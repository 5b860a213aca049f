use Rattle.std.proofs.Common.{rules, arith}
use Rattle.script_values.specs.Runs.{in_word}
use Rattle.script_values.proofs.RunLaws.{word_missing, word_is}
use Rattle.script_values.proofs.Rest.next_word.Goals as goal

pub returns-then-self-from-clause-value : goal.returns-then-self-from-clause-value
returns-then-self-from-clause-value c = word_missing c.args.self.text.now c.args.self.at _ c.blanks_end-from.ensures.run (omega arith)

pub returns-clause-value : goal.returns-clause-value
returns-clause-value c =
    word_is c.args.self.text.now c.args.self.at _ c.blanks_end-from.ensures.run _ (omega arith)
    (rw (c.behind.ensures.text, c.behind.ensures.at) at (c.run_end-to.ensures.run in_word (λ b r h e. search rules)))
