-- A MIB reset on lent bytes.
use Prim.Native.Nat.{ℕ}
use mathlib.Core.Path.{◌≡◌, refl, sym, ◌∙◌, ap}
use mathlib.Core.Option.{some}
use mathlib.Core.List.{List}
use Rattle.rules.specs.Maps.{first_that_applies}
use Rattle.rules.specs.Bytes.{byte}
use Rattle.rules.specs.Catalogue.{Catalogue}
use Rattle.rules.specs.State.{State}
use Rattle.rules.specs.Messages.{contents_in, Answer}
use Rattle.rules.specs.Commands.{reset}
use Rattle.rules.specs.Run.{message, perform, remember}
use Rattle.rules.specs.Products.{Products}
use Rattle.store.specs.Decode.{Held, decode}
use Rattle.store.specs.Entries.{enter}
use Rattle.store.specs.Fitting.{AllFit}
use Rattle.demands.specs.Sent.{number_at}
use Rattle.demands.proofs.AnsweredOnBytes.{AnsweredAnew, its_answer, its_reply, its_result, its_store}
use Rattle.demands.proofs.NotRefused.{does_its_own}
use Rattle.demands.proofs.Resets.{ResetAccepted, after_reset}

-- A MIB reset on lent bytes that is answered anew: if the result in its reply (byte 8) is 0, then it was accepted by the rules of the reset, and
-- the store holds the state that they leave, with the message remembered; so what is proved in `Resets` holds of the message.
pub a_reset_on_bytes_does_what_the_rules_of_reset_say : (products : Products) (fit : AllFit products) (store m buffer r : List ℕ) (h : Held)
    → AnsweredAnew products 15 store m buffer r h → byte r 8 ≡ 0
    → ResetAccepted h.catalogue h.state (number_at m 4) (number_at m 6)
    × (decode products (enter products (message m) store buffer).store
    ≡ some (record { product = h.product; catalogue = h.catalogue; state = remember m r (after_reset h.catalogue h.state (number_at m 4) (number_at m 6)) }))
unfolding perform first_that_applies
a_reset_on_bytes_does_what_the_rules_of_reset_say products fit store m buffer r h a ok =
    let cat : Catalogue = h.catalogue in
    let s : State = h.state in
    let zero : byte (its_answer products 15 store m buffer r h a).1 0 ≡ 0 = sym (its_result products 15 store m buffer r h a) ∙ ok in
    let done = (does_its_own cat s 15 (number_at m 4) (number_at m 6) (contents_in m) (reset cat s (number_at m 4) (number_at m 6)) refl zero).1 in (
      ap (λ (x : Answer). byte x.1 0) (sym done) ∙ zero,
      its_store products fit 15 store m buffer r h a
          ∙ (λ i. some (record { product = h.product; catalogue = cat; state = remember m (sym (its_reply products 15 store m buffer r h a) i) (done i).0 })),
    )
