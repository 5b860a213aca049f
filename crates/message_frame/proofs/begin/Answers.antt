use Rattle.std.proofs.Common.{refl, rules, ◌++◌}
use Rattle.rules.specs.Bytes.{bytes}
use Rattle.message_frame.proofs.Frames.{written}
use Rattle.message_frame.proofs.begin.Goals as goal

pub returns : goal.returns
unfolding bytes
returns c =
    let a = c.args in
    written (bytes 2 a.id) a.kind (bytes 2 a.class ++ bytes 2 a.number) c.put_header.new.h c.put_rest.new.r a.buffer.now
    refl refl (search rules) c.put_header.ensures c.put_rest.ensures
