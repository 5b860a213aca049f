-- Document 02, ticket 9, on bytes: of a Set that is answered anew, whatever buffer is lent.
use Prim.Native.Nat.{ℕ, ◌/◌, ◌%◌}
use native.Mathlib.Omega.{arith}
use mathlib.Core.Path.{◌≡◌, refl}
use mathlib.Core.Bool.{false}
use mathlib.Core.Option.{Option, none, some}
use mathlib.Core.Logic.{◌≢◌}
use mathlib.Core.List.{List, ◌∷◌}
use lib.ListN.{take, drop, replicate}
use Rattle.rules.specs.Maps.{given, same}
use Rattle.rules.specs.Bytes.{byte}
use Rattle.rules.specs.State.{Memory, State}
use Rattle.rules.specs.Legal.{header_drops}
use Rattle.rules.specs.Messages.{message_drops}
use Rattle.rules.specs.Run.{is_repeat}
use Rattle.rules.specs.Products.{Products}
use Rattle.rules.proofs.Laws.{cases, not-false, eqb_eq, same_eq}
use Rattle.store.specs.Decode.{Held}
use Rattle.legality.proofs.Refusals.{none_applies}
use Rattle.demands.specs.Repeating.{IsNoRepeat}
use Rattle.demands.proofs.AccidentOnBytes as accident
use Rattle.demands.proofs.AnsweredOnBytes.{AnsweredAnew, has_room, passes_its_drops}
use Rattle.demands.proofs.SetFailures.{a_set_on_bytes_shows_masks_with_9_alone}

-- what has other bytes than the remembered command isn't told as its repeat
no_repeat_by_the_rules : (s : State) (m : List ℕ) → IsNoRepeat s m → accident.IsNoRepeat s m
unfolding is_repeat
no_repeat_by_the_rules s m new = go s.remembered refl
  where
    go : (o : Option Memory) → s.remembered ≡ o → given o false (is_repeat m) ≡ false
    go none e = refl
    go (some r) e = cases (same (take 40 m) r.command) (λ t. absurd (new r e (same_eq (take 40 m) r.command t))) (λ t. t)

-- On a store that holds a state, for a Set (message number 8) that is answered anew: if byte 8 of the reply isn't 9, bytes 9 to 39, and so both masks, are zero.
pub a_set_answered_anew_shows_masks_with_9_alone : (products : Products) (store m buffer r : List ℕ) (h : Held) → AnsweredAnew products 8 store m buffer r h → byte r 8 ≢ 9
    → take 32 (drop 8 r) ≡ byte r 8 ∷ replicate 31 0
unfolding message_drops header_drops
a_set_answered_anew_shows_masks_with_9_alone products store m buffer r h a =
    let passes = passes_its_drops products 8 store m buffer r h a in
    let type_bits : byte m 2 / 32 ≡ 2 = eqb_eq (byte m 2 / 32) 2 (not-false (none_applies (message_drops m) passes).1.1.0) in
    let number : byte m 2 % 32 ≡ 8 = a.its_number in
    a_set_on_bytes_shows_masks_with_9_alone products m store buffer (has_room products 8 store m buffer r h a) h a.held (let z : byte m 2 ≡ 72 = omega arith in z) passes
    (no_repeat_by_the_rules h.state m a.no_repeat) r a.told
