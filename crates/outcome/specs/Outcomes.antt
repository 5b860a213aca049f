-- What the code's answer stands for: document 01's number or bytes for each case.
use Rattle.std.specs.Prelude.{ℕ, List, take, Result, Ok, Err}
use Rattle.std.proofs.Math.Option.{Option}
use Rattle.rules.specs.State.{State}
use Rattle.rules.specs.Reports as rules
use Rattle.rules.specs.Run.{reply_length}
use Rattle.store.specs.Entries.{Left, leave}
use Rattle.message_frame.specs.Drops.{drop_number, drop_of}
use Rattle.message_frame.specs.declared.drops.DropReason.{DropReason}
use Rattle.class_tables.specs.Built.{cat_of, product_of}
use Rattle.class_tables.specs.declared.Product.{Product}
use Rattle.outcome.specs.declared.Outcome.{Outcome}
use Rattle.outcome.specs.declared.Outcome.TheVariants.{Answered, Quiet}

-- with the reply buffer as the call left it
abbrev pub outcome_of : Result Outcome DropReason → List ℕ → rules.Outcome
outcome_of (Ok Answered) buffer = rules.answered (take reply_length buffer)
outcome_of (Ok Quiet) buffer = rules.quiet
outcome_of (Err reason) buffer = rules.dropped (drop_number reason)

-- what a call left: its outcome, the store, the reply buffer
abbrev pub left_by : Result Outcome DropReason → List ℕ → List ℕ → Left
left_by r store buffer = record { outcome = outcome_of r buffer; store = store; buffer = buffer }

-- what a state of a product, and an outcome, leave of a store and a reply buffer
abbrev pub leaves : Product → State → List ℕ → List ℕ → State × rules.Outcome → Left
leaves pr s store buffer x = leave (record { product = product_of pr; catalogue = cat_of pr; state = s }) store buffer x.0 x.1

-- the drop of a power-on, or none
abbrev pub started_of : Result (Unit {0}) DropReason → Option ℕ
started_of r = drop_of r
