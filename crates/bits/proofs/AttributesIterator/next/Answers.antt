use Rattle.bits.proofs.MaskWalk.{not_none}
use Rattle.bits.proofs.AttributesIterator.next.Goals as goal

pub first_named-n-requires : goal.first_named-n-requires
first_named-n-requires c = not_none _ c.how_many.ensures c.if-how_many-eq0.false
