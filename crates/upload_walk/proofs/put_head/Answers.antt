use Rattle.upload_walk.proofs.Showing.{head_written}
use Rattle.upload_walk.proofs.put_head.Goals as goal

pub returns : goal.returns
returns c =
    let a = c.args in
    head_written a.what.class a.what.number a.what.mask a.out.now _ _ _ c.requires c.put_number.ensures c.put_number-2.ensures c.put_number-3.ensures
