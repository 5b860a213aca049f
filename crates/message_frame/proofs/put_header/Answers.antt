use Rattle.std.proofs.Common.{rules}
use Rattle.message_frame.proofs.Frames.{header}
use Rattle.message_frame.proofs.put_header.Goals as goal

pub returns : goal.returns
returns c =
    let a = c.args in
    rw (c.put_number-3.ensures, c.put_number-2.ensures, c.put_number.ensures) (header a.h.now (search rules) a.id a.kind a.class a.number)
