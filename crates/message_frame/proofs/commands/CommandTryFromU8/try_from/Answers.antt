use Rattle.std.proofs.Common.{rules}
use Rattle.rules.specs.Maps.{among, ◌or◌}
use Rattle.message_frame.proofs.commands.CommandTryFromU8.try_from.Goals as goal

pub returns-in_default : goal.returns-in_default
unfolding among ◌or◌
returns-in_default c = search rules
