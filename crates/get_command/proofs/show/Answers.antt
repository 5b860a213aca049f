use Rattle.get_command.proofs.Contents.{contents_shown, values_short}
use Rattle.get_command.proofs.show.Goals as goal

pub returns : goal.returns
returns c =
    let a = c.args in
    let w = a.what in
    contents_shown a.out.now c.put_number.new.s w.mask c.requires.1 c.put_number.ensures _ c.pack.new.out
    (values_short a.product a.b.now w.class w.number w.at w.mask c.requires.0) c.pack.ensures
