use Rattle.delete_command.proofs.Deleted.{taken_out_is}
use Rattle.delete_command.proofs.take_out.Goals as goal

pub returns : goal.returns
returns c = taken_out_is _ _ _ _ c.remove_place.ensures c.move_counter.ensures
