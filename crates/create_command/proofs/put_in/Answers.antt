use Rattle.create_command.proofs.Steps.{put_in_is}
use Rattle.create_command.proofs.put_in.Goals as goal

pub returns : goal.returns
returns c = put_in_is c.args.j c.args.r.now c.args.b.now c.insert_place.ensures c.move_counter.ensures
