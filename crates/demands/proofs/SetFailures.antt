-- Document 02, ticket 9: an exchange that reads the masks of a Set's reply only with result 9 misses none. (What is said is of a Set that is answered
-- anew: a repeat gets the bytes that are remembered.)
use Prim.Native.Nat.{ℕ, ◌%◌, ◌≤◌}
use mathlib.Core.Path.{◌≡◌, refl, sym, ◌∙◌, ap}
use mathlib.Core.Option.{none, some}
use mathlib.Core.Logic.{◌≢◌}
use mathlib.Core.List.{List, [], ◌∷◌, ◌++◌}
use lib.ListN.{length, take, drop, replicate}
use Rattle.rules.specs.Maps.{first_that_applies}
use Rattle.rules.specs.Bytes.{byte, two, fill}
use Rattle.rules.specs.Catalogue.{Catalogue, class}
use Rattle.rules.specs.State.{State, holds}
use Rattle.rules.specs.Messages.{message_number, class_in, instance_in, contents_in, message_drops, attribute_failed, set_number, trailer, checksum, reply_to}
use Rattle.rules.specs.Commands.{bad_in_set, set_results, set}
use Rattle.rules.specs.Reports.{Outcome, answered}
use Rattle.rules.specs.Run.{perform, first_results, answer, answer_anew, message, taken}
use Rattle.rules.specs.Products.{Products}
use Rattle.rules.proofs.Laws.{not-false, eqb_eq}
use Rattle.rules.proofs.MapLaws.{first_has}
use Rattle.store.specs.Decode.{Held, decode}
use Rattle.store.specs.Entries.{enter}
use Rattle.legality.proofs.Refusals.{none_applies, unless_refused_is}
use Rattle.legality.proofs.ReplyBytes.{the_contents_follow_byte_7, the_result_is_byte_8}
use Rattle.legality.proofs.Outcomes.{sent}
use Rattle.demands.proofs.DemandOne.{the_outcome_is_the_rules}
use Rattle.demands.proofs.AccidentOnBytes.{IsNoRepeat, answered_anew}

-- a reply's contents are a result and zeros
abbrev pub ResultAlone : List ℕ → Type 0
ResultAlone r = fill 32 r ≡ fill 32 (byte r 0 ∷ [])

module _ (cat : Catalogue) (s : State) (c i : ℕ) (v : List ℕ) where
  -- a Set of an instance: with any result but 9 both masks are zero
  pub a_set_shows_masks_with_9_alone : byte (set cat s c i v).1 0 ≢ attribute_failed → ResultAlone (set cat s c i v).1
  unfolding set set_results
  a_set_shows_masks_with_9_alone =
      unless_refused_is (λ a. byte a.1 0 ≢ attribute_failed → ResultAlone a.1) s (set_results (holds cat s.table c i) (class cat c) (two v 0) (bad_in_set cat s c i v)) _
      (λ r e. first_has (λ r. byte r 0 ≢ attribute_failed → ResultAlone r) (set_results (holds cat s.table c i) (class cat c) (two v 0) (bad_in_set cat s c i v))
      ((λ y z. refl), ((λ y z. refl), ((λ y z. absurd (z refl)), ((λ y z. refl), ((λ y z. absurd (z refl)), tt))))) r e)
      (λ clear y. refl)

  -- and so with a Set of whatever class and instance, in any catalogue
  pub masks_show_with_9_alone : byte (answer cat s set_number c i v).1 0 ≢ attribute_failed → ResultAlone (answer cat s set_number c i v).1
  unfolding answer perform first_results first_that_applies
  masks_show_with_9_alone =
      unless_refused_is (λ a. byte a.1 0 ≢ attribute_failed → ResultAlone a.1) s (first_results cat set_number c) (set cat s c i v)
      (λ r e. first_has (λ r. byte r 0 ≢ attribute_failed → ResultAlone r) (first_results cat set_number c) ((λ y z. refl), ((λ y z. refl), ((λ y z. refl), tt))) r e)
      (λ clear. a_set_shows_masks_with_9_alone)

-- ---- in the bytes of a reply

module _ (cat : Catalogue) (s : State) (m : List ℕ) (long : length m ≡ 48) (is_set : message_number m ≡ set_number) where
  shows_alone : (r : List ℕ) → (answer_anew cat s m).1 ≡ answered r → byte r 8 ≢ attribute_failed → take 32 (drop 8 r) ≡ byte r 8 ∷ replicate 31 0
  unfolding answer_anew
  shows_alone r e y =
      let c : List ℕ = (answer cat s (message_number m) (class_in m) (instance_in m) (contents_in m)).1 in
      let z : reply_to m c ≡ r = ap sent e in
      let b : byte c 0 ≡ byte r 8 = sym (the_result_is_byte_8 m c long) ∙ ap (λ (l : List ℕ). byte l 8) z in
      let of_9 : byte c 0 ≢ attribute_failed → ResultAlone c = rw is_set (masks_show_with_9_alone cat s (class_in m) (instance_in m) (contents_in m)) in
      ap (λ (l : List ℕ). take 32 (drop 8 l)) (sym z)
      ∙ ap (take 32) (the_contents_follow_byte_7 m c long)
      ∙ ap (λ (l : List ℕ). take 32 (l ++ (trailer ++ checksum))) (of_9 (λ q. y (sym b ∙ q)))
      ∙ ap (λ (x : ℕ). x ∷ replicate 31 0) b

-- On a store that holds a state, with room in the buffer, for a Set (byte 2 is 0x48) that passes its drops and is no repeat: if byte 8 of the reply isn't 9, bytes 9 to 39, and so
-- both masks, are zero.
pub a_set_on_bytes_shows_masks_with_9_alone : (products : Products) (m store buffer : List ℕ) → 48 ≤ length buffer → (h : Held) → decode products store ≡ some h
    → byte m 2 ≡ 0x48 → first_that_applies (message_drops m) ≡ none → IsNoRepeat h.state m
    → (r : List ℕ) → (enter products (message m) store buffer).outcome ≡ answered r → byte r 8 ≢ 9 → take 32 (drop 8 r) ≡ byte r 8 ∷ replicate 31 0
unfolding taken message_drops
a_set_on_bytes_shows_masks_with_9_alone products m store buffer room h e type passes anew r answered_so y =
    let clear = none_applies (message_drops m) passes in
    let told = sym (the_outcome_is_the_rules products (message m) store buffer room h e) ∙ answered_so in
    shows_alone h.catalogue h.state m (eqb_eq (length m) 48 (not-false clear.0)) (ap (λ (x : ℕ). x % 32) type) r
    (sym (ap (λ (o : State × Outcome). o.1) (answered_anew h.catalogue h.state m passes anew)) ∙ told) y
