use Rattle.std.proofs.Common.{rules}
use Rattle.message_frame.proofs.Laws.{trailer_test}
use Rattle.message_frame.proofs.has_trailer.Goals as goal

pub returns : goal.returns
returns c = trailer_test c.args.m.now (search rules)
