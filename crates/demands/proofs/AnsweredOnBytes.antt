-- A command on lent bytes that is answered anew: what is assumed of it, in one record, and what follows of its reply and of the store,
-- whatever it does.
use Prim.Native.Nat.{ℕ, ◌+◌, ◌%◌, ◌≤◌, ◌<◌}
use native.Mathlib.Omega.{arith}
use mathlib.Core.Path.{◌≡◌, sym, ◌∙◌, ap}
use mathlib.Core.Bool.{true}
use mathlib.Core.Option.{none, some}
use mathlib.Core.List.{List}
use lib.ListN.{length, drop}
use lib.Seq.{get_or-take, get_or-drop}
use Rattle.rules.specs.Maps.{first_that_applies}
use Rattle.rules.specs.Bytes.{byte, two, are_bytes}
use Rattle.rules.specs.State.{State}
use Rattle.rules.specs.Legal.{legal_state}
use Rattle.rules.specs.Messages.{contents_in, message_drops, reply_to, Answer}
use Rattle.rules.specs.Reports.{Outcome, answered}
use Rattle.rules.specs.Run.{Call, answer, remember, answer_anew, message, taken}
use Rattle.rules.specs.Products.{Products}
use Rattle.rules.specs.WellFormed.{WellFormed}
use Rattle.rules.proofs.Laws.{not-false, eqb_eq}
use Rattle.store.specs.Decode.{Held, decode}
use Rattle.store.specs.Entries.{enter}
use Rattle.store.specs.Fitting.{AllFit}
use Rattle.store.proofs.Soundness.{sound_is_an_encoding}
use Rattle.legality.proofs.Refusals.{none_applies}
use Rattle.legality.proofs.Outcomes.{drop_of, sent}
use Rattle.legality.proofs.ReplyBytes.{the_result_is_byte_8}
use Rattle.demands.specs.Sent.{number_at}
use Rattle.demands.proofs.LentMemories.{an_answered_call_has_room_and_a_state}
use Rattle.demands.proofs.DemandOne.{else_the_first_of_its_own_drops, the_outcome_is_the_rules, the_store_holds_what_the_rules_leave}
use Rattle.demands.specs.Repeating.{IsNoRepeat}
use Rattle.demands.proofs.FrozenInBetween.{answered_anew}

-- The store holds h; the message m has this number and isn't what h remembers; and it is answered, with r. (So it passes its drops, and the buffer
-- has room.)
pub record AnsweredAnew (products : Products) (number : ℕ) (store m buffer r : List ℕ) (h : Held) : Type 0 where
  pub held : decode products store ≡ some h
  pub of_bytes : are_bytes m ≡ true
  pub its_number : byte m 2 % 32 ≡ number
  pub no_repeat : IsNoRepeat h.state m
  pub told : (enter products (message m) store buffer).outcome ≡ answered r

-- the store that a call leaves holds a state of the same product and catalogue of which this is so
abbrev pub LeavesAStateThat : Products → Call → List ℕ → List ℕ → Held → (State → Type 0) → Type 0
LeavesAStateThat products c store buffer h is_so =
    (after : State) × (decode products (enter products c store buffer).store ≡ some (record { product = h.product; catalogue = h.catalogue; state = after })) × is_so after

-- a number in a message's contents, c0 being byte 8
pub two_in_contents : (m : List ℕ) (k : ℕ) → k + 1 < 32 → two (contents_in m) k ≡ two m (8 + k)
two_in_contents m k lt =
    let first : byte (contents_in m) k ≡ byte m (8 + k) = get_or-take 32 (drop 8 m) k 0 (omega arith) ∙ get_or-drop 8 m k 0 in
    let second : byte (contents_in m) (k + 1) ≡ byte m (8 + k + 1) = get_or-take 32 (drop 8 m) (k + 1) 0 lt ∙ get_or-drop 8 m (k + 1) 0 ∙ ap (byte m) (omega arith) in
    omega arith

module _ (products : Products) (number : ℕ) (store m buffer r : List ℕ) (h : Held) (a : AnsweredAnew products number store m buffer r h) where
  -- the buffer has room for a reply
  pub has_room : 48 ≤ length buffer
  has_room = (an_answered_call_has_room_and_a_state products (message m) store buffer r a.told).room

  -- the message passes its drops
  pub passes_its_drops : first_that_applies (message_drops m) ≡ none
  passes_its_drops = sym (else_the_first_of_its_own_drops products (message m) store buffer has_room h a.held) ∙ ap drop_of a.told

  pub its_length : length m ≡ 48
  unfolding message_drops
  its_length = eqb_eq (length m) 48 (not-false (none_applies (message_drops m) passes_its_drops).0)

  pub its_state_is_legal : legal_state h.catalogue h.state ≡ true
  its_state_is_legal = (sound_is_an_encoding products store h a.held).1

  -- what the rules answer
  abbrev pub its_answer : Answer
  its_answer = answer h.catalogue h.state number (number_at m 4) (number_at m 6) (contents_in m)

  is_handled : taken h.catalogue h.state (message m) ≡ (remember m (reply_to m its_answer.1) its_answer.0, answered (reply_to m its_answer.1))
  unfolding taken answer_anew
  is_handled = answered_anew h.catalogue h.state m passes_its_drops a.no_repeat
      ∙ ap (λ (n : ℕ).
      let x : Answer = answer h.catalogue h.state n (number_at m 4) (number_at m 6) (contents_in m) in
      (remember m (reply_to m x.1) x.0, answered (reply_to m x.1))) a.its_number

  -- the reply is theirs
  pub its_reply : r ≡ reply_to m its_answer.1
  its_reply = ap sent (sym a.told ∙ the_outcome_is_the_rules products (message m) store buffer has_room h a.held ∙ ap (λ (x : State × Outcome). x.1) is_handled)

  -- and its byte 8 the first of what they answer
  pub its_result : byte r 8 ≡ byte its_answer.1 0
  its_result = ap (λ (l : List ℕ). byte l 8) its_reply ∙ the_result_is_byte_8 m its_answer.1 its_length

  -- what the store holds then: the state that they leave, with the command remembered
  abbrev pub held_after : Held
  held_after = record { product = h.product; catalogue = h.catalogue; state = remember m (reply_to m its_answer.1) its_answer.0 }

module _ (products : Products) (fit : AllFit products) (number : ℕ) (store m buffer r : List ℕ) (h : Held) (a : AnsweredAnew products number store m buffer r h) where
  pub its_catalogue_is_well_formed : WellFormed h.catalogue
  its_catalogue_is_well_formed = fit.well_formed h.product h.catalogue (sound_is_an_encoding products store h a.held).0

  pub its_store : decode products (enter products (message m) store buffer).store ≡ some (held_after products number store m buffer r h a)
  its_store = the_store_holds_what_the_rules_leave products fit (message m) a.of_bytes store buffer h a.held (has_room products number store m buffer r h a)
      ∙ ap (λ (x : State × Outcome). some (record { product = h.product; catalogue = h.catalogue; state = x.0 })) (is_handled products number store m buffer r h a)
