use Rattle.get_command.proofs.Refused.{refused_empty, refused_missing, refused_long, accepted}
use Rattle.get_command.proofs.get_refusal.Goals as goal

pub returns-then-asked-eq0 : goal.returns-then-asked-eq0
returns-then-asked-eq0 c = refused_empty _ _ c.if-asked-eq0.true

pub returns-then-missing-ne0 : goal.returns-then-missing-ne0
returns-then-missing-ne0 c = refused_missing _ _ c.if-asked-eq0.false c.unsupported-missing.ensures c.if-missing-ne0.true

pub returns-then-total_size-gt-GET_ROOM : goal.returns-then-total_size-gt-GET_ROOM
returns-then-total_size-gt-GET_ROOM c =
    refused_long _ _ c.if-asked-eq0.false c.unsupported-missing.ensures c.if-missing-ne0.false
    c.total_size.ensures c.if-total_size-gt-GET_ROOM.true

pub returns : goal.returns
returns c =
    accepted _ _ c.if-asked-eq0.false c.unsupported-missing.ensures c.if-missing-ne0.false
    c.total_size.ensures c.if-total_size-gt-GET_ROOM.false
