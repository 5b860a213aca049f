use Rattle.upload_walk.proofs.Showing.{with_values}
use Rattle.upload_walk.proofs.show.Goals as goal

pub returns : goal.returns
returns c = with_values c.args.product c.args.store.now c.requires.0 c.args.out.now c.requires.1 c.put_head.ensures c.pack.ensures
