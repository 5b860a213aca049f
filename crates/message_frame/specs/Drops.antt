-- Document 01's number of each drop, and the drop that an answer tells.
use Rattle.std.specs.Prelude.{ℕ, Result, Ok, Err}
use Rattle.std.proofs.Math.Option.{Option, none, some}
use Rattle.message_frame.specs.declared.drops.DropReason.{DropReason}
use Rattle.message_frame.specs.declared.drops.DropReason.TheVariants as reason

abbrev pub drop_number : DropReason → ℕ
drop_number reason.ShortReply = 1
drop_number reason.UnsoundStore = 2
drop_number reason.WrongLength = 3
drop_number reason.WrongDevice = 4
drop_number reason.WrongType = 5
drop_number reason.NoCorrelationId = 6
drop_number reason.WrongFixedBytes = 7
drop_number reason.NoSuchInstance = 11
drop_number reason.NotReported = 12
drop_number reason.BadContent = 13

-- the number of the drop that an answer tells, or none
abbrev pub drop_of : {T : Type 0} → Result T DropReason → Option ℕ
drop_of (Ok t) = none
drop_of (Err d) = some (drop_number d)
