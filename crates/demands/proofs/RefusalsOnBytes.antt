-- What a refusal leaves, on bytes: whatever buffer is lent.
use Prim.Native.Nat.{ℕ}
use mathlib.Core.Path.{◌≡◌}
use mathlib.Core.Bool.{true, false}
use mathlib.Core.Option.{some}
use mathlib.Core.Logic.{◌≢◌}
use mathlib.Core.List.{List}
use Rattle.rules.specs.Maps.{among}
use Rattle.rules.specs.Bytes.{byte, are_bytes}
use Rattle.rules.specs.Messages.{message_number, without_result}
use Rattle.rules.specs.Reports.{answered}
use Rattle.rules.specs.Run.{message}
use Rattle.rules.specs.Products.{Products}
use Rattle.store.specs.Decode.{Held, decode}
use Rattle.store.specs.Entries.{enter}
use Rattle.store.specs.Fitting.{AllFit}
use Rattle.demands.proofs.LentMemories.{an_answered_call_has_room_and_a_state}
use Rattle.demands.proofs.AnsweredOnBytes.{LeavesAStateThat}
use Rattle.demands.proofs.Refused.{SameButRemembered, a_refusal_leaves_the_same_table_in_the_store}

-- On a store that holds a state: after a message that is refused, the store holds a state with the same table, alarms, alarm number and walks.
pub a_refusal_on_bytes_leaves_the_same_table : (products : Products) (fit : AllFit products) (m store buffer : List ℕ) → are_bytes m ≡ true
    → among (message_number m) without_result ≡ false → (h : Held) → decode products store ≡ some h
    → (r : List ℕ) → (enter products (message m) store buffer).outcome ≡ answered r → byte r 8 ≢ 0
    → LeavesAStateThat products (message m) store buffer h (SameButRemembered h.state)
a_refusal_on_bytes_leaves_the_same_table products fit m store buffer b other h e r y z =
    a_refusal_leaves_the_same_table_in_the_store products fit m store buffer b other (an_answered_call_has_room_and_a_state products (message m) store buffer r y).room h e r y z
