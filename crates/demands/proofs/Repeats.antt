-- Demand 2: a repeated command gets its old reply and does nothing.
use Prim.Native.Nat.{ℕ, ◌≤◌}
use mathlib.Core.Path.{◌≡◌, refl, sym, ◌∙◌, ap}
use mathlib.Core.Bool.{true}
use mathlib.Core.Option.{Option, none, some}
use mathlib.Core.List.{List, ◌++◌}
use lib.ListN.{length, take, drop, take-append-drop}
use Rattle.rules.specs.Maps.{given, same, first_that_applies}
use Rattle.rules.specs.Bytes.{are_bytes}
use Rattle.rules.specs.Catalogue.{Catalogue}
use Rattle.rules.specs.State.{Memory, State}
use Rattle.rules.specs.Messages.{message_drops}
use Rattle.rules.specs.Reports.{Outcome, answered, unless_dropped}
use Rattle.rules.specs.Run.{is_repeat, remember, answer_anew, answer_again, handle, Call, message, store_length, taken}
use Rattle.rules.specs.Products.{Products}
use Rattle.rules.proofs.Laws.{cases, same_eq, eq_same, le-ltb}
use Rattle.rules.proofs.MapLaws.{none_some}
use Rattle.store.specs.Decode.{Held, decode}
use Rattle.store.specs.Entries.{written, leave, enter}
use Rattle.store.specs.Fitting.{AllFit}
use Rattle.store.proofs.Soundness.{sound_is_an_encoding}
use Rattle.legality.proofs.Refusals.{unless_dropped_is}
use Rattle.legality.proofs.Outcomes.{drop_of, sent}
use Rattle.demands.proofs.DemandOne.{the_outcome_is_the_rules, the_store_holds_what_the_rules_leave}

-- a message whose first 40 bytes are those of the command that is remembered gets the remembered reply, and the state stays
pub a_repeat_gets_the_remembered_reply_and_does_nothing : (cat : Catalogue) (s : State) (m : List ℕ) (r : Memory) → s.remembered ≡ some r → take 40 m ≡ r.command
    → first_that_applies (message_drops m) ≡ none → handle cat s m ≡ (s, answered r.reply)
unfolding handle unless_dropped answer_again is_repeat
a_repeat_gets_the_remembered_reply_and_does_nothing cat s m r e f g = rw (g, e, eq_same (take 40 m) r.command f) refl

-- what a state remembers after a message that was answered: the message's first 40 bytes, and its reply
pub record Remembers (s : State) (m r : List ℕ) : Type 0 where
  pub memory : Memory
  pub remembered_one : s.remembered ≡ some memory
  pub its_command : take 40 m ≡ memory.command
  pub its_reply : memory.reply ≡ r

-- every answered message is remembered so, refused ones too
pub an_answered_command_is_remembered : (cat : Catalogue) (s : State) (m r : List ℕ) → (handle cat s m).1 ≡ answered r → Remembers (handle cat s m).0 m r
unfolding handle answer_anew answer_again remember is_repeat
an_answered_command_is_remembered cat s m r = unless_dropped_is (λ x. x.1 ≡ answered r → Remembers x.0 m r) s (message_drops m) _
    (λ n e y. none_some (ap drop_of (sym y)))
    (λ clear. go s.remembered refl)
  where
    anew : (answer_anew cat s m).1 ≡ answered r → Remembers (answer_anew cat s m).0 m r
    anew y = record { memory = _; remembered_one = refl; its_command = refl; its_reply = ap sent y }

    go : (o : Option Memory) → s.remembered ≡ o → (given o (answer_anew cat s m) (answer_again cat s m)).1 ≡ answered r
        → Remembers (given o (answer_anew cat s m) (answer_again cat s m)).0 m r
    go none e = anew
    go (some k) e = cases (same (take 40 m) k.command)
        (λ t. rw t (λ y. record { memory = k; remembered_one = e; its_command = same_eq (take 40 m) k.command t; its_reply = ap sent y }))
        (λ t. rw t anew)

-- A command is answered; a message with the same first 40 bytes, that isn't dropped, comes next: it gets the same 48 bytes, and the state
-- stays.
pub a_repeated_command_gets_its_old_reply_and_does_nothing : (cat : Catalogue) (s : State) (m again r : List ℕ) → (handle cat s m).1 ≡ answered r → take 40 again ≡ take 40 m
    → first_that_applies (message_drops again) ≡ none → handle cat (handle cat s m).0 again ≡ ((handle cat s m).0, answered r)
a_repeated_command_gets_its_old_reply_and_does_nothing cat s m again r e f g =
    let k = an_answered_command_is_remembered cat s m r e in
    a_repeat_gets_the_remembered_reply_and_does_nothing cat (handle cat s m).0 again k.memory k.remembered_one (f ∙ k.its_command) g
    ∙ ap (λ (l : List ℕ). ((handle cat s m).0, answered l)) k.its_reply

-- ---- stores

-- a state that a store holds, written over it, leaves it as it was
pub as_it_was : (products : Products) (store : List ℕ) (h : Held) → decode products store ≡ some h → written h h.state store ≡ store
unfolding written
as_it_was products store h e =
    ap (λ (b : List ℕ). b ++ drop store_length store) (sym (sound_is_an_encoding products store h e).2) ∙ take-append-drop store_length store

pub entered_is : (products : Products) (store : List ℕ) (h : Held) → decode products store ≡ some h → (c : Call) (buffer : List ℕ) → 48 ≤ length buffer
    → enter products c store buffer ≡ leave h store buffer (taken h.catalogue h.state c).0 (taken h.catalogue h.state c).1
unfolding enter
entered_is products store h e c buffer long = rw (le-ltb (length buffer) 48 long, e) refl

answered_is : (products : Products) (store : List ℕ) (h : Held) → decode products store ≡ some h → (buffer r : List ℕ)
    → leave h store buffer h.state (answered r) ≡ record { outcome = answered r; store = store; buffer = r ++ drop 48 buffer }
unfolding leave
answered_is products store h e buffer r = λ i. record { outcome = answered r; store = as_it_was products store h e i; buffer = r ++ drop 48 buffer }

-- On a store that holds a state: a command is answered with r; a message with the same first 40 bytes, that isn't dropped, comes next, with
-- room in its buffer. It is answered with r, and not a byte of the store changes.
pub a_repeat_leaves_every_byte_of_the_store : (products : Products) (fit : AllFit products) (store : List ℕ) (h : Held) → decode products store ≡ some h
    → (m again buffer room r : List ℕ) → are_bytes m ≡ true → 48 ≤ length buffer → 48 ≤ length room
    → (enter products (message m) store buffer).outcome ≡ answered r → take 40 again ≡ take 40 m → first_that_applies (message_drops again) ≡ none
    → enter products (message again) (enter products (message m) store buffer).store room
    ≡ record { outcome = answered r; store = (enter products (message m) store buffer).store; buffer = r ++ drop 48 room }
unfolding taken
a_repeat_leaves_every_byte_of_the_store products fit store h e m again buffer room r b long long' y f g =
    let cat : Catalogue = h.catalogue in
    let s : State = (handle cat h.state m).0 in
    let left : List ℕ = (enter products (message m) store buffer).store in
    let k : Held = record { product = h.product; catalogue = cat; state = s } in
    let d : decode products left ≡ some k = the_store_holds_what_the_rules_leave products fit (message m) b store buffer h e long in
    let told : (handle cat h.state m).1 ≡ answered r = sym (the_outcome_is_the_rules products (message m) store buffer long h e) ∙ y in
    let q : handle cat s again ≡ (s, answered r) = a_repeated_command_gets_its_old_reply_and_does_nothing cat h.state m again r told f g in
    entered_is products left k d (message again) room long'
    ∙ ap (λ (x : State × Outcome). leave k left room x.0 x.1) q
    ∙ answered_is products left k d room r
