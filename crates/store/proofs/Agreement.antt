-- On a store that holds a state, an entry does what the rules do to that state.
use Prim.Native.Nat.{ℕ}
use native.Mathlib.Omega.{arith}
use mathlib.Core.Path.{◌≡◌}
use mathlib.Core.Bool.{true, false}
use mathlib.Core.Option.{some}
use mathlib.Core.List.{List, ◌++◌}
use lib.ListN.{length, length-append}
use lib.Dec.{ltb}
use Rattle.rules.specs.Maps.{find, first_that_applies}
use Rattle.rules.specs.Legal.{legal_state}
use Rattle.rules.specs.Reports.{unless_dropped}
use Rattle.rules.specs.Run.{Call, Input, store_length, reply_length, room_drops, step}
use Rattle.rules.specs.Products.{Products}
use Rattle.rules.proofs.Laws.{cases, le-ltb}
use Rattle.store.specs.Layout.{encode}
use Rattle.store.specs.Decode.{Held}
use Rattle.store.specs.Entries.{leave, refuse, enter}
use Rattle.store.specs.Fitting.{AllFit}
use Rattle.store.proofs.Soundness.{decode_of_held, legal_length}

-- the call with the sizes that are lent to it
abbrev pub lent : Call → List ℕ → List ℕ → Input
lent c store buffer = record { store_room = length store; reply_room = length buffer; call = c }

module _ (products : Products) (fit : AllFit products) (h : Held) (here : find h.product products ≡ some h.catalogue)
    (legal : legal_state h.catalogue h.state ≡ true) where
  abbrev pub store_of : List ℕ → List ℕ
  store_of rest = encode h.product h.catalogue h.state ++ rest

  pub an_entry_does_what_the_rules_do : (c : Call) (rest buffer : List ℕ)
      → enter products c (store_of rest) buffer
      ≡ leave h (store_of rest) buffer (step h.catalogue h.state (lent c (store_of rest) buffer)).0 (step h.catalogue h.state (lent c (store_of rest) buffer)).1
  unfolding enter step room_drops unless_dropped first_that_applies refuse leave
  an_entry_does_what_the_rules_do c rest buffer =
      let long : ltb (length (store_of rest)) store_length ≡ false = le-ltb (length (store_of rest)) store_length
      (omega (arith, length-append (encode h.product h.catalogue h.state) rest, legal_length h.product h.catalogue h.state legal)) in
      cases (ltb (length buffer) reply_length)
      (λ e. rw e)
      (λ e. rw (e, long, decode_of_held products fit h rest here legal))
