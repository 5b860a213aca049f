use Rattle.std.proofs.Common.{refl}
use Rattle.rules.specs.Maps.{◌and◌}
use Rattle.remembered_command.proofs.is_repeat.Goals as goal

pub returns : goal.returns
unfolding ◌and◌
returns c = rw c.same_bytes.ensures refl
