use Rattle.set_command.specs.Sets.{refusing}
use Rattle.set_command.proofs.Refused.{refused_empty, refused_long, refused_failed, accepted}
use Rattle.set_command.proofs.set_refusal.Goals as goal

pub returns-then-asked-eq0 : goal.returns-then-asked-eq0
unfolding refusing
returns-then-asked-eq0 c = refused_empty _ _ _ c.if-asked-eq0.true

pub returns-then-found : goal.returns-then-found
unfolding refusing
returns-then-found c = refused_long _ _ _ c.if-asked-eq0.false c.judge_set-found.ensures c.if-found.true

pub returns-then-found-2 : goal.returns-then-found-2
unfolding refusing
returns-then-found-2 c = refused_failed _ _ _ c.if-asked-eq0.false c.judge_set-found.ensures c.if-found.false c.if-found-2.true

pub returns : goal.returns
unfolding refusing
returns c = accepted _ _ _ c.if-asked-eq0.false c.judge_set-found.ensures c.if-found.false c.if-found-2.false
