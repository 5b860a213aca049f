use Rattle.create_command.proofs.Steps.{may_lay_others, others_laid}
use Rattle.create_command.proofs.lay_others.Goals as goal

pub lay_firsts-requires : goal.lay_firsts-requires
lay_firsts-requires c =
    let a = c.args in
    may_lay_others a.product a.class c.stored_mask.ensures c.carried_mask.ensures c.without-others.ensures c.inside.ensures a.own.now a.c.now c.requires.0 c.requires.1

pub returns : goal.returns
returns c =
    let a = c.args in
    others_laid a.product a.class c.stored_mask.ensures c.carried_mask.ensures c.without-others.ensures c.inside.ensures a.own.now a.c.now c.lay_firsts.ensures
