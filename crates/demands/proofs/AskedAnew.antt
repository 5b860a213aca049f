-- A message to the ONT data in lent sizes that is answered anew; and that there is always an Upload Next that is.
use Prim.Native.Nat.{ℕ, ◌≤◌}
use native.Mathlib.Omega.{arith}
use mathlib.Core.Path.{◌≡◌, refl, sym, ◌∙◌, ap}
use mathlib.Core.Bool.{Bool, true, false, cond}
use mathlib.Core.Option.{Option, none, some}
use mathlib.Core.List.{List, ◌++◌}
use lib.ListN.{length, take, replicate, length-replicate}
use lib.Dec.{eqb}
use Rattle.rules.specs.Maps.{◌and◌, given, same, first_that_applies}
use Rattle.rules.specs.Bytes.{byte, bytes}
use Rattle.rules.specs.State.{Memory, State}
use Rattle.rules.specs.Legal.{header_drops}
use Rattle.rules.specs.Messages.{message_number, class_in, instance_in, contents_in, message_drops, framed, reply_to}
use Rattle.rules.specs.Reports.{Outcome, answered, unless_dropped}
use Rattle.rules.specs.Run.{answer, answer_anew, message, taken, Input, store_length, reply_length, room_drops, step}
use Rattle.rules.specs.Products.{Products}
use Rattle.rules.proofs.Laws.{cases, le-ltb, eqb_eq, eqb_ne}
use Rattle.rules.proofs.ByteLaws.{bytes_append, bytes_of_number}
use Rattle.rules.proofs.MapLaws.{some_eq}
use Rattle.store.specs.Decode.{Held, decode}
use Rattle.store.specs.Fitting.{AllFit}
use Rattle.legality.proofs.ReplyBytes.{framed_bytes}
use Rattle.demands.specs.Sent.{number_at}
use Rattle.demands.specs.Lending.{lend}
use Rattle.demands.specs.Repeating.{IsNoRepeat}
use Rattle.demands.specs.Between.{RepeatsNothingIn}
use Rattle.demands.proofs.DemandOne.{the_outcome_is_the_rules}
use Rattle.demands.proofs.FrozenInBetween.{answered_anew}
use Rattle.demands.proofs.FrozenOnBytes.{Passes}
use Rattle.demands.proofs.AnsweredOnBytes.{AnsweredAnew}
use Rattle.demands.proofs.RunsOnBytes.{cut_behind}

-- A call whose message m has this number and is to the ONT data. It passes its drops, enough is lent, and the state that the memory holds doesn't
-- remember m as the last answered command.
pub record AskedAnew (products : Products) (number : ℕ) (memory : List ℕ) (p : Input) (m : List ℕ) : Type 0 where
  pub its_call : p.call ≡ message m
  pub passes : Passes number m
  pub store_lent : store_length ≤ p.store_room
  pub reply_lent : reply_length ≤ p.reply_room
  pub no_repeat : RepeatsNothingIn products memory m

module _ (products : Products) (fit : AllFit products) (number : ℕ) (memory : List ℕ) (p : Input) (m : List ℕ) (h : Held) (held : decode products memory ≡ some h)
    (a : AskedAnew products number memory p m) where
  enough_for_a_reply : 48 ≤ length {A = ℕ} (replicate p.reply_room 0)
  enough_for_a_reply = rw (length-replicate {A = ℕ} p.reply_room 0) a.reply_lent

  -- it is answered
  pub its_reply_is : (r : List ℕ) × ((lend products p memory).outcome ≡ answered r)
  unfolding lend taken answer_anew
  its_reply_is = (
    reply_to m (answer h.catalogue h.state (message_number m) (class_in m) (instance_in m) (contents_in m)).1,
    rw a.its_call (
        the_outcome_is_the_rules products (message m) (take p.store_room memory) (replicate p.reply_room 0) enough_for_a_reply h
        (cut_behind products fit p.store_room memory h a.store_lent held)
        ∙ ap (λ (x : State × Outcome). x.1) (answered_anew h.catalogue h.state m a.passes.no_drop (a.no_repeat h held))),
  )

  -- and the rules step as they answer it anew
  pub its_step_is : step h.catalogue h.state p ≡ answer_anew h.catalogue h.state m
  unfolding step unless_dropped room_drops first_that_applies taken
  its_step_is = rw (le-ltb p.reply_room 48 a.reply_lent, le-ltb p.store_room store_length a.store_lent, a.its_call)
      (answered_anew h.catalogue h.state m a.passes.no_drop (a.no_repeat h held))

  -- on the bytes that are lent, too
  pub anew_on_lent_bytes : (r : List ℕ) → (lend products p memory).outcome ≡ answered r
      → AnsweredAnew products number (take p.store_room memory) m (replicate p.reply_room 0) r h
  unfolding lend
  anew_on_lent_bytes r e = record {
    held = cut_behind products fit p.store_room memory h a.store_lent held;
    of_bytes = a.passes.its_bytes;
    its_number = a.passes.its_number;
    no_repeat = a.no_repeat h held;
    told = rw a.its_call at e;
  }

-- ---- there is a Next

-- an Upload Next with this index that is asked anew of the memory
pub record NextAskedAnew (products : Products) (memory : List ℕ) (index : ℕ) : Type 0 where
  pub next : Input
  pub its_message : List ℕ
  pub asks : AskedAnew products 14 memory next its_message
  pub its_index : number_at its_message 8 ≡ index

-- an Upload Next with id 1, or with id 2
unfoldable a_next : Bool → ℕ → List ℕ
a_next second index = framed (bytes 2 (cond second 2 1)) 0x4E (bytes 2 2 ++ bytes 2 0) (bytes 2 index)

-- does the id of the last answered command end in 1?
unfoldable ends_in_1 : Option Memory → Bool
ends_in_1 o = given o false (λ k. eqb (byte k.command 1) 1)

it_repeats_nothing : (s : State) (index : ℕ) → IsNoRepeat s (a_next (ends_in_1 s.remembered) index)
unfolding a_next framed bytes ends_in_1
it_repeats_nothing s index k e y = cases (eqb (byte k.command 1) 1)
    (λ is_1. let z = eqb_eq (byte k.command 1) 1 is_1 in let it_is_2 : 2 ≡ byte k.command 1 = id_is true is_1 in absurd (omega arith))
    (λ is_not_1. eqb_ne (byte k.command 1) 1 is_not_1 (sym (id_is false is_not_1)))
  where
    id_is : (b : Bool) → eqb (byte k.command 1) 1 ≡ b → byte (take 40 (a_next b index)) 1 ≡ byte k.command 1
    id_is b is = ap (λ (x : Bool). byte (take 40 (a_next x index)) 1) (sym is ∙ ap ends_in_1 (sym e)) ∙ ap (λ (l : List ℕ). byte l 1) y

-- Of every memory that holds a state, and for every index that two bytes can hold, there is an Upload Next with that index which is asked anew.
pub there_is_a_next : (products : Products) (memory : List ℕ) (h : Held) → decode products memory ≡ some h → (index : ℕ) → index ≤ 65535
    → NextAskedAnew products memory index
unfolding a_next framed bytes message_drops header_drops first_that_applies same ◌and◌
there_is_a_next products memory h held index small = record {
  next = record { store_room = store_length; reply_room = reply_length; call = message (a_next second index) };
  its_message = a_next second index;
  asks = record {
    its_call = refl;
    passes = record {
      its_bytes = framed_bytes (bytes 2 (cond second 2 1)) 0x4E (bytes 2 2 ++ bytes 2 0) (bytes 2 index) (bytes_of_number 2 (cond second 2 1)) (omega arith)
          (bytes_append (bytes 2 2) (bytes 2 0) (bytes_of_number 2 2) (bytes_of_number 2 0)) (bytes_of_number 2 index);
      no_drop = passes_the_drops second;
      its_number = refl;
      its_class = refl;
      its_instance = refl;
    };
    store_lent = omega arith;
    reply_lent = omega arith;
    no_repeat = λ g e k f. it_repeats_nothing h.state index k (ap (λ (x : Held). x.state.remembered) (some_eq (sym held ∙ e)) ∙ f);
  };
  its_index = omega arith;
}
  where
    second : Bool
    second = ends_in_1 h.state.remembered

    passes_the_drops : (b : Bool) → first_that_applies (message_drops (a_next b index)) ≡ none
    passes_the_drops true = refl
    passes_the_drops false = refl
