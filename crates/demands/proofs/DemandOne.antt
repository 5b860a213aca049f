-- Demand 1: which calls are dropped, by which number, and what a drop, a quiet call, an answer and a refusal leave as it was; and that a
-- sound store stays sound.
use Prim.Native.Nat.{ℕ, ◌/◌, ◌≤◌, ◌<◌}
use native.Mathlib.Omega.{arith}
use mathlib.Core.Path.{◌≡◌, refl, sym, ◌∙◌, ap}
use mathlib.Core.Bool.{Bool, true, false, not, cond}
use mathlib.Core.Option.{Option, none, some}
use mathlib.Core.Logic.{◌≢◌}
use mathlib.Core.List.{List, [], ◌∷◌, ◌++◌}
use lib.ListN.{length, take, drop, get_or}
use lib.Seq.{drop_at}
use lib.Dec.{eqb, ltb}
use Rattle.rules.specs.Maps.{◌and◌, ◌or◌, given, find, among, same, is_some, first_that_applies}
use Rattle.rules.specs.Bytes.{byte, two}
use Rattle.rules.specs.Catalogue.{Catalogue, class, attribute, key}
use Rattle.rules.specs.State.{Memory, State, holds, contents, content, alarms_of}
use Rattle.rules.specs.Legal.{legal_content, legal_state, header_drops}
use Rattle.rules.specs.Messages.{message_drops}
use Rattle.rules.specs.Reports.{Outcome, dropped, quiet, answered, unless_dropped, attribute_drops, report_attribute, alarm_drops, turned, report_alarm}
use Rattle.rules.specs.Run.{is_repeat, answer_anew, answer_again, handle, Call, message, attribute_report, alarm_report, store_length, reply_length, taken, fresh}
use Rattle.rules.specs.Products.{Products, built_products}
use Rattle.rules.proofs.Laws.{cases, never, true_false, ltb_lt, ltb_le, lt-ltb, le-ltb}
use Rattle.rules.proofs.MapLaws.{some_eq, none_some, first_has}
use Rattle.store.specs.Layout.{encode}
use Rattle.store.specs.Decode.{Held, decode, sound}
use Rattle.store.specs.Entries.{Left, written, leave, refuse, enter, power_on}
use Rattle.store.specs.Fitting.{AllFit}
use Rattle.store.proofs.Built.{built_products_fit}
use Rattle.store.proofs.Soundness.{sound_is_an_encoding, legal_length, decode_of_held, decode_of_written, length_written}
use Rattle.legality.proofs.Outcomes.{drop_of, sent}
use Rattle.legality.proofs.LegalStates.{open_state, close_state}
use Rattle.legality.proofs.Kept.{OfBytes, SentIsAMessage, taken_fine, the_fresh_state_is_legal}

-- ---- which drop

-- a call's own drops, in the order in which they are tried
abbrev pub call_drops : Catalogue → State → Call → List (Bool × ℕ)
call_drops cat s (message m) = message_drops m
call_drops cat s (attribute_report c i n v) = attribute_drops cat s c i n v
call_drops cat s (alarm_report c i n on) = alarm_drops cat s c i n

abbrev pub is_quiet : Outcome → Option ℕ
is_quiet (dropped n) = none
is_quiet quiet = some 0
is_quiet (answered r) = none

-- the messages' list is the page's: 3 length, 4 device, 5 type bits, 6 id, 7 fixed bytes
pub the_drops_of_a_message : (m : List ℕ) → message_drops m
    ≡ (not (eqb (length m) 48), 3)
    ∷ (not (eqb (byte m 3) 0x0A), 4)
    ∷ (not (eqb (byte m 2 / 32) 2), 5)
    ∷ (eqb (two m 0) 0, 6)
    ∷ (not (same (take 4 (drop 40 m)) (0 ∷ 0 ∷ 0 ∷ 0x28 ∷ [])), 7)
    ∷ []
unfolding message_drops header_drops
the_drops_of_a_message m = refl

-- an attribute report's: 11 no such instance, 12 not L, 13 wrong length or not legal
pub the_drops_of_an_attribute_report : (cat : Catalogue) (s : State) (c i n : ℕ) (v : List ℕ) → attribute_drops cat s c i n v
    ≡ (not (holds cat s.table c i), 11)
    ∷ (not (attribute (class cat c) n).L, 12)
    ∷ (
      not (eqb (length v) (attribute (class cat c) n).size and legal_content (holds cat s.table) (class cat c) (contents cat s.table c i) n v),
      13,
    )
    ∷ []
unfolding attribute_drops
the_drops_of_an_attribute_report cat s c i n v = refl

-- an alarm report's: 11 no such instance, 12 not declared
pub the_drops_of_an_alarm_report : (cat : Catalogue) (s : State) (c i n : ℕ) → alarm_drops cat s c i n
    ≡ (not (holds cat s.table c i), 11) ∷ (not (among n (class cat c).alarms), 12) ∷ []
unfolding alarm_drops
the_drops_of_an_alarm_report cat s c i n = refl

-- a call that isn't dropped by its list isn't dropped; one that is leaves the state as it was
record AsListed (s : State) (drops : List (Bool × ℕ)) (r : State × Outcome) : Type 0 where
  number : drop_of r.1 ≡ first_that_applies drops
  state : (n : ℕ) → r.1 ≡ dropped n → r.0 ≡ s

dropped_by : (s : State) (drops : List (Bool × ℕ)) (r : State × Outcome) → drop_of r.1 ≡ none → AsListed s drops (unless_dropped s drops r)
unfolding unless_dropped
dropped_by s drops r e = record { number = go (first_that_applies drops); state = stays (first_that_applies drops) }
  where
    go : (o : Option ℕ) → drop_of (given o r (λ n. (s, dropped n))).1 ≡ o
    go none = e
    go (some n) = refl

    stays : (o : Option ℕ) (n : ℕ) → (given o r (λ n. (s, dropped n))).1 ≡ dropped n → (given o r (λ n. (s, dropped n))).0 ≡ s
    stays none n y = none_some (sym e ∙ ap drop_of y)
    stays (some k) n y = refl

handled : (cat : Catalogue) (s : State) (m : List ℕ) (o : Option Memory) → drop_of (given o (answer_anew cat s m) (answer_again cat s m)).1 ≡ none
unfolding answer_anew answer_again
handled cat s m none = refl
handled cat s m (some r) = cases (is_repeat m r) (λ e. rw e refl) (λ e. rw e refl)

as_listed : (cat : Catalogue) (s : State) (c : Call) → AsListed s (call_drops cat s c) (taken cat s c)
unfolding taken handle report_attribute report_alarm turned
as_listed cat s (message m) = dropped_by s (message_drops m) _ (handled cat s m s.remembered)
as_listed cat s (attribute_report c i n v) = dropped_by s (attribute_drops cat s c i n v) _ (
    let b : Bool = not (same v (content n (contents cat s.table c i))) and (attribute (class cat c) n).avc in
    cases b (λ e. rw e refl) (λ e. rw e refl))
as_listed cat s (alarm_report c i n on) = dropped_by s (alarm_drops cat s c i n) _ (
    let is_on : Bool = get_or (alarms_of (key c i) s.alarms) n false in
    cases ((is_on and on) or not (is_on or on)) (λ e. rw e refl) (λ e. rw e refl))

-- on a state, a call is dropped exactly as its own list says: with the first number that applies, and not if none does
pub a_call_drops_as_its_list_says : (cat : Catalogue) (s : State) (c : Call) → drop_of (taken cat s c).1 ≡ first_that_applies (call_drops cat s c)
a_call_drops_as_its_list_says cat s c = (as_listed cat s c).number

-- a dropped call leaves the state as it was
pub a_dropped_call_keeps_the_state : (cat : Catalogue) (s : State) (c : Call) (n : ℕ) → (taken cat s c).1 ≡ dropped n → (taken cat s c).0 ≡ s
a_dropped_call_keeps_the_state cat s c n e = (as_listed cat s c).state n e

-- an entry drops with 1 or 2 before anything else, or does what the rules do to the state that the store holds
pub entered {ℓ} : (X : Left → Type ℓ) (products : Products) (c : Call) (store buffer : List ℕ)
    → (ltb (length buffer) reply_length ≡ true → X (refuse store buffer 1))
    → (ltb (length buffer) reply_length ≡ false → decode products store ≡ none → X (refuse store buffer 2))
    → (ltb (length buffer) reply_length ≡ false → (h : Held) → decode products store ≡ some h
    → X (leave h store buffer (taken h.catalogue h.state c).0 (taken h.catalogue h.state c).1))
    → X (enter products c store buffer)
unfolding enter
entered X products c store buffer f g k = cases (ltb (length buffer) reply_length) (λ e. rw e (f e)) (λ e. rw e (go (decode products store) refl e))
  where
    go : (o : Option Held) → decode products store ≡ o → ltb (length buffer) reply_length ≡ false
        → X (given o (refuse store buffer 2) (λ h. leave h store buffer (taken h.catalogue h.state c).0 (taken h.catalogue h.state c).1))
    go none e y = g y e
    go (some h) e y = k y h e

pub left_outcome : (h : Held) (store buffer : List ℕ) (s : State) (o : Outcome) → (leave h store buffer s o).outcome ≡ o
unfolding leave
left_outcome h store buffer s (dropped n) = refl
left_outcome h store buffer s quiet = refl
left_outcome h store buffer s (answered r) = refl

-- Which drop, for every input: 1 if the buffer is under 48 bytes; else 2 if the store encodes no state; else the first of the call's own
-- list that applies; else the call isn't dropped.
pub which_drop : (products : Products) (c : Call) (store buffer : List ℕ) → drop_of (enter products c store buffer).outcome
    ≡ cond (ltb (length buffer) 48) (some 1) (given (decode products store) (some 2) (λ h. first_that_applies (call_drops h.catalogue h.state c)))
unfolding refuse
which_drop products c store buffer = entered
    (λ l. drop_of l.outcome ≡ cond (ltb (length buffer) 48) (some 1) (given (decode products store) (some 2) (λ h. first_that_applies (call_drops h.catalogue h.state c))))
    products c store buffer
    (λ e. rw e refl)
    (λ e f. rw (e, f) refl)
    (λ e h f. rw (e, f, left_outcome h store buffer (taken h.catalogue h.state c).0 (taken h.catalogue h.state c).1) (a_call_drops_as_its_list_says h.catalogue h.state c))

-- no call's own list has 1 or 2
pub own_drops_are_over_2 : (cat : Catalogue) (s : State) (c : Call) (n : ℕ) → first_that_applies (call_drops cat s c) ≡ some n → 2 < n
unfolding message_drops header_drops attribute_drops alarm_drops
own_drops_are_over_2 cat s (message m) n e = first_has (λ n. 2 < n) (message_drops m)
    ((λ y. omega arith), ((λ y. omega arith), ((λ y. omega arith), ((λ y. omega arith), ((λ y. omega arith), tt))))) n e
own_drops_are_over_2 cat s (attribute_report c i k v) n e = first_has (λ n. 2 < n) (attribute_drops cat s c i k v)
    ((λ y. omega arith), ((λ y. omega arith), ((λ y. omega arith), tt))) n e
own_drops_are_over_2 cat s (alarm_report c i k on) n e = first_has (λ n. 2 < n) (alarm_drops cat s c i k)
    ((λ y. omega arith), ((λ y. omega arith), tt)) n e

-- the numbers of the list that a call can be dropped with
abbrev pub numbers_for : Call → List ℕ
numbers_for (message m) = 1 ∷ 2 ∷ 3 ∷ 4 ∷ 5 ∷ 6 ∷ 7 ∷ []
numbers_for (attribute_report c i n v) = 1 ∷ 2 ∷ 11 ∷ 12 ∷ 13 ∷ []
numbers_for (alarm_report c i n on) = 1 ∷ 2 ∷ 11 ∷ 12 ∷ []

first_two : (c : Call) → (among 1 (numbers_for c) ≡ true) × (among 2 (numbers_for c) ≡ true)
unfolding among ◌or◌
first_two (message m) = (refl, refl)
first_two (attribute_report c i n v) = (refl, refl)
first_two (alarm_report c i n on) = (refl, refl)

own_drops_are_listed : (cat : Catalogue) (s : State) (c : Call) (n : ℕ) → first_that_applies (call_drops cat s c) ≡ some n → among n (numbers_for c) ≡ true
unfolding message_drops header_drops attribute_drops alarm_drops among ◌or◌
own_drops_are_listed cat s (message m) n e = first_has (λ n. among n (1 ∷ 2 ∷ 3 ∷ 4 ∷ 5 ∷ 6 ∷ 7 ∷ []) ≡ true) (message_drops m)
    ((λ y. refl), ((λ y. refl), ((λ y. refl), ((λ y. refl), ((λ y. refl), tt))))) n e
own_drops_are_listed cat s (attribute_report c i k v) n e = first_has (λ n. among n (1 ∷ 2 ∷ 11 ∷ 12 ∷ 13 ∷ []) ≡ true) (attribute_drops cat s c i k v)
    ((λ y. refl), ((λ y. refl), ((λ y. refl), tt))) n e
own_drops_are_listed cat s (alarm_report c i k on) n e = first_has (λ n. among n (1 ∷ 2 ∷ 11 ∷ 12 ∷ []) ≡ true) (alarm_drops cat s c i k)
    ((λ y. refl), ((λ y. refl), tt)) n e

drop_number : (o : Outcome) (n : ℕ) → drop_of o ≡ some n → o ≡ dropped n
drop_number (dropped m) n e = ap dropped (some_eq e)
drop_number quiet n e = none_some e
drop_number (answered r) n e = none_some e

module _ (products : Products) (c : Call) (store buffer : List ℕ) where
  -- drop 1 exactly if the reply buffer is under 48 bytes
  pub drop_1_if_the_buffer_is_short : length buffer < 48 → (enter products c store buffer).outcome ≡ dropped 1
  drop_1_if_the_buffer_is_short h = drop_number (enter products c store buffer).outcome 1 (which_drop products c store buffer ∙ rw (lt-ltb (length buffer) 48 h) refl)

  -- and only then
  pub drop_1_only_if_the_buffer_is_short : (enter products c store buffer).outcome ≡ dropped 1 → length buffer < 48
  drop_1_only_if_the_buffer_is_short e = cases (ltb (length buffer) 48) (λ y. ltb_lt (length buffer) 48 y)
      (λ y.
      let w = which_drop products c store buffer in
      let z : some 1 ≡ given (decode products store) (some 2) (λ h. first_that_applies (call_drops h.catalogue h.state c)) = rw (e, y) at w in
      go (decode products store) z)
    where
      go : (o : Option Held) → some 1 ≡ given o (some 2) (λ h. first_that_applies (call_drops h.catalogue h.state c)) → length buffer < 48
      go none z = let y : ◌≡◌ {A = ℕ} 1 2 = some_eq z in absurd (omega arith)
      go (some h) z = let y : 2 < 1 = own_drops_are_over_2 h.catalogue h.state c 1 (sym z) in absurd (omega arith)

  -- with room in the buffer: drop 2 exactly if the store isn't sound
  pub drop_2_if_the_store_is_unsound : 48 ≤ length buffer → sound products store ≡ false → (enter products c store buffer).outcome ≡ dropped 2
  unfolding sound
  drop_2_if_the_store_is_unsound h u = drop_number (enter products c store buffer).outcome 2 (which_drop products c store buffer ∙ rw (le-ltb (length buffer) 48 h) (go (decode products store) u))
    where
      go : (o : Option Held) → is_some o ≡ false → given o (some 2) (λ h. first_that_applies (call_drops h.catalogue h.state c)) ≡ some 2
      go none e = refl
      go (some h) e = never (sym e)

  -- and only then
  pub drop_2_only_if_the_store_is_unsound : (enter products c store buffer).outcome ≡ dropped 2 → (48 ≤ length buffer) × (sound products store ≡ false)
  unfolding sound
  drop_2_only_if_the_store_is_unsound e = cases (ltb (length buffer) 48)
      (λ y. let w = which_drop products c store buffer in let z : ◌≡◌ {A = Option ℕ} (some 2) (some 1) = rw (e, y) at w in let x : ◌≡◌ {A = ℕ} 2 1 = some_eq z in absurd (omega arith))
      (λ y.
      let w = which_drop products c store buffer in
      let z : some 2 ≡ given (decode products store) (some 2) (λ h. first_that_applies (call_drops h.catalogue h.state c)) = rw (e, y) at w in
      (ltb_le (length buffer) 48 y, go (decode products store) z))
    where
      go : (o : Option Held) → some 2 ≡ given o (some 2) (λ h. first_that_applies (call_drops h.catalogue h.state c)) → is_some o ≡ false
      go none z = refl
      go (some h) z = let y : 2 < 2 = own_drops_are_over_2 h.catalogue h.state c 2 (sym z) in absurd (omega arith)

  -- with room in the buffer and a store that holds a state: the first of the call's own list, or no drop
  pub else_the_first_of_its_own_drops : 48 ≤ length buffer → (h : Held) → decode products store ≡ some h
      → drop_of (enter products c store buffer).outcome ≡ first_that_applies (call_drops h.catalogue h.state c)
  else_the_first_of_its_own_drops b h e = which_drop products c store buffer ∙ rw (le-ltb (length buffer) 48 b, e) refl

  -- the outcome is then what the rules say of that state
  pub the_outcome_is_the_rules : 48 ≤ length buffer → (h : Held) → decode products store ≡ some h
      → (enter products c store buffer).outcome ≡ (taken h.catalogue h.state c).1
  unfolding enter
  the_outcome_is_the_rules b h e =
      rw (le-ltb (length buffer) 48 b, e) (left_outcome h store buffer (taken h.catalogue h.state c).0 (taken h.catalogue h.state c).1)

  -- a call that is dropped is dropped with a number from its list: 1 to 7 for a message, 1, 2 and 11 to 13 for an attribute report, 1, 2, 11
  -- and 12 for an alarm report
  pub every_drop_is_from_the_list : (n : ℕ) → (enter products c store buffer).outcome ≡ dropped n → among n (numbers_for c) ≡ true
  unfolding refuse
  every_drop_is_from_the_list n = entered (λ l. l.outcome ≡ dropped n → among n (numbers_for c) ≡ true) products c store buffer
      (λ e y. let z : ◌≡◌ {A = ℕ} 1 n = some_eq (ap drop_of y) in rw (← z) (first_two c).0)
      (λ e f y. let z : ◌≡◌ {A = ℕ} 2 n = some_eq (ap drop_of y) in rw (← z) (first_two c).1)
      (λ e h f y. own_drops_are_listed h.catalogue h.state c n (
      sym (a_call_drops_as_its_list_says h.catalogue h.state c)
      ∙ ap drop_of (sym (left_outcome h store buffer (taken h.catalogue h.state c).0 (taken h.catalogue h.state c).1) ∙ y)))

  -- ---- what stays as it was

  -- a dropped call leaves every byte of store and reply buffer as it was
  pub a_drop_changes_nothing : (n : ℕ) → (enter products c store buffer).outcome ≡ dropped n
      → ((enter products c store buffer).store ≡ store) × ((enter products c store buffer).buffer ≡ buffer)
  unfolding refuse
  a_drop_changes_nothing n = entered (λ l. l.outcome ≡ dropped n → (l.store ≡ store) × (l.buffer ≡ buffer)) products c store buffer
      (λ e y. (refl, refl))
      (λ e f y. (refl, refl))
      (λ e h f y. go h (taken h.catalogue h.state c).0 (taken h.catalogue h.state c).1 y)
    where
      go : (h : Held) (s : State) (o : Outcome) → (leave h store buffer s o).outcome ≡ dropped n → ((leave h store buffer s o).store ≡ store) × ((leave h store buffer s o).buffer ≡ buffer)
      go h s (dropped k) y = unfold leave in (refl, refl)
      go h s quiet y = none_some (ap drop_of (sym (left_outcome h store buffer s quiet) ∙ y))
      go h s (answered r) y = none_some (ap drop_of (sym (left_outcome h store buffer s (answered r)) ∙ y))

  -- a quiet call leaves the reply buffer as it was
  pub quiet_keeps_the_buffer : (enter products c store buffer).outcome ≡ quiet → (enter products c store buffer).buffer ≡ buffer
  unfolding refuse
  quiet_keeps_the_buffer = entered (λ l. l.outcome ≡ quiet → l.buffer ≡ buffer) products c store buffer
      (λ e y. refl)
      (λ e f y. refl)
      (λ e h f y. go h (taken h.catalogue h.state c).0 (taken h.catalogue h.state c).1 y)
    where
      go : (h : Held) (s : State) (o : Outcome) → (leave h store buffer s o).outcome ≡ quiet → (leave h store buffer s o).buffer ≡ buffer
      go h s (dropped k) y = unfold leave in refl
      go h s quiet y = unfold leave in refl
      go h s (answered r) y = none_some (ap (λ (o : Outcome). is_quiet o) (sym (left_outcome h store buffer s (answered r)) ∙ y))

-- ---- sound stores stay sound

module _ (products : Products) (fit : AllFit products) (c : Call) (of_bytes : OfBytes c) (store buffer : List ℕ) where
  -- what the call leaves of the state that a store holds is legal, and an answer is 48 bytes
  pub fine_after : (h : Held) → decode products store ≡ some h
      → (legal_state h.catalogue (taken h.catalogue h.state c).0 ≡ true) × SentIsAMessage (taken h.catalogue h.state c).1
  fine_after h e =
      let d = sound_is_an_encoding products store h e in
      let wf = fit.well_formed h.product h.catalogue d.0 in
      let f = taken_fine h.catalogue wf h.state (open_state h.catalogue wf h.state d.1) c of_bytes in
      (close_state h.catalogue wf (taken h.catalogue h.state c).0 f.its_state, f.its_message)

  -- an answer fills the buffer's first 48 bytes with what is sent, and leaves the others
  pub an_answer_fills_48_bytes_only : (r : List ℕ) → (enter products c store buffer).outcome ≡ answered r
      → (length r ≡ 48) × ((enter products c store buffer).buffer ≡ r ++ drop 48 buffer) × (drop 48 (enter products c store buffer).buffer ≡ drop 48 buffer)
  unfolding refuse leave
  an_answer_fills_48_bytes_only r = entered
      (λ l. l.outcome ≡ answered r → (length r ≡ 48) × (l.buffer ≡ r ++ drop 48 buffer) × (drop 48 l.buffer ≡ drop 48 buffer)) products c store buffer
      (λ e y. none_some (ap drop_of (sym y)))
      (λ e f y. none_some (ap drop_of (sym y)))
      (λ e h f y. go h (taken h.catalogue h.state c).0 (taken h.catalogue h.state c).1 (fine_after h f).1 y)
    where
      go : (h : Held) (s : State) (o : Outcome) → SentIsAMessage o → (leave h store buffer s o).outcome ≡ answered r
          → (length r ≡ 48) × ((leave h store buffer s o).buffer ≡ r ++ drop 48 buffer) × (drop 48 (leave h store buffer s o).buffer ≡ drop 48 buffer)
      go h s (dropped k) g y = none_some (ap drop_of (sym (sym (left_outcome h store buffer s (dropped k)) ∙ y)))
      go h s quiet g y = none_some (ap is_quiet (sym (sym (left_outcome h store buffer s quiet) ∙ y)))
      go h s (answered q) g y =
          let z : q ≡ r = ap sent (sym (left_outcome h store buffer s (answered q)) ∙ y) in
          let long : length r ≡ 48 = ap length (sym z) ∙ g.its_length in
          (long, ap (λ (l : List ℕ). l ++ drop 48 buffer) z, drop_at q (drop 48 buffer) 48 g.its_length)

  -- the bytes past the store's length stay, whatever is called
  pub bytes_past_the_store_stay : drop store_length (enter products c store buffer).store ≡ drop store_length store
  unfolding refuse
  bytes_past_the_store_stay = entered (λ l. drop store_length l.store ≡ drop store_length store) products c store buffer
      (λ e. refl)
      (λ e f. refl)
      (λ e h f. go h (taken h.catalogue h.state c).0 (taken h.catalogue h.state c).1 (fine_after h f).0)
    where
      go : (h : Held) (s : State) (o : Outcome) → legal_state h.catalogue s ≡ true → drop store_length (leave h store buffer s o).store ≡ drop store_length store
      go h s (dropped k) g = unfold leave in refl
      go h s quiet g = unfold leave written in drop_at (encode h.product h.catalogue s) (drop store_length store) store_length (legal_length h.product h.catalogue s g)
      go h s (answered q) g =
          unfold leave written in drop_at (encode h.product h.catalogue s) (drop store_length store) store_length (legal_length h.product h.catalogue s g)

  -- the store keeps its length, whatever is called
  pub a_store_keeps_its_length : length (enter products c store buffer).store ≡ length store
  unfolding refuse
  a_store_keeps_its_length = entered (λ l. length l.store ≡ length store) products c store buffer
      (λ e. refl)
      (λ e f. refl)
      (λ e h f. go h (taken h.catalogue h.state c).0 (taken h.catalogue h.state c).1 (fine_after h f).0 (sound_is_an_encoding products store h f).3)
    where
      go : (h : Held) (s : State) (o : Outcome) → legal_state h.catalogue s ≡ true → store_length ≤ length store → length (leave h store buffer s o).store ≡ length store
      go h s (dropped k) g l = unfold leave in refl
      go h s quiet g l = unfold leave in length_written h s store g l
      go h s (answered q) g l = unfold leave in length_written h s store g l

  -- what a call leaves in a sound store is sound
  pub a_sound_store_stays_sound : sound products store ≡ true → sound products (enter products c store buffer).store ≡ true
  unfolding refuse sound
  a_sound_store_stays_sound h = entered (λ l. is_some (decode products l.store) ≡ true) products c store buffer
      (λ e. h)
      (λ e f. h)
      (λ e k f. go k (taken k.catalogue k.state c).0 (taken k.catalogue k.state c).1 (sound_is_an_encoding products store k f).0 (fine_after k f).0)
    where
      go : (k : Held) (s : State) (o : Outcome) → find k.product products ≡ some k.catalogue → legal_state k.catalogue s ≡ true
          → is_some (decode products (leave k store buffer s o).store) ≡ true
      go k s (dropped n) e g = unfold leave in h
      go k s quiet e g = unfold leave in rw (decode_of_written products fit k s store e g) refl
      go k s (answered q) e g = unfold leave in rw (decode_of_written products fit k s store e g) refl

  -- on a store that holds a state, with room in the buffer: the store after the call holds the state that the rules leave
  pub the_store_holds_what_the_rules_leave : (h : Held) → decode products store ≡ some h → 48 ≤ length buffer
      → decode products (enter products c store buffer).store ≡ some (record { product = h.product; catalogue = h.catalogue; state = (taken h.catalogue h.state c).0 })
  unfolding enter
  the_store_holds_what_the_rules_leave h e long =
      rw (le-ltb (length buffer) 48 long, e) (go (taken h.catalogue h.state c).1 (a_dropped_call_keeps_the_state h.catalogue h.state c))
    where
      go : (o : Outcome) → ((n : ℕ) → o ≡ dropped n → (taken h.catalogue h.state c).0 ≡ h.state)
          → decode products (leave h store buffer (taken h.catalogue h.state c).0 o).store
          ≡ some (record { product = h.product; catalogue = h.catalogue; state = (taken h.catalogue h.state c).0 })
      go (dropped n) f = unfold leave in e ∙ ap (λ (s : State). some (record { product = h.product; catalogue = h.catalogue; state = s })) (sym (f n refl))
      go quiet f = unfold leave in decode_of_written products fit h (taken h.catalogue h.state c).0 store (sound_is_an_encoding products store h e).0 (fine_after h e).0
      go (answered r) f =
          unfold leave in decode_of_written products fit h (taken h.catalogue h.state c).0 store (sound_is_an_encoding products store h e).0 (fine_after h e).0

-- ---- runs from power-on

-- what is called, and the reply buffer that is lent to it
abbrev pub Lent : Type 0
Lent = Call × List ℕ

-- the store after a run of calls
unfoldable pub store_after : Products → List Lent → List ℕ → List ℕ
store_after products [] store = store
store_after products (x ∷ l) store = store_after products l (enter products x.0 store x.1).store

-- what is handed to a run is bytes
abbrev pub RunOfBytes : List Lent → Type 0
RunOfBytes [] = Unit {0}
RunOfBytes (x ∷ l) = OfBytes x.0 × RunOfBytes l

module _ (products : Products) (fit : AllFit products) where
  -- a store that power-on has accepted is sound
  pub a_powered_on_store_is_sound : (p : ℕ) (lent : List ℕ) → (power_on products p lent).0 ≡ none → sound products (power_on products p lent).1 ≡ true
  unfolding power_on sound
  a_powered_on_store_is_sound p lent e = cases (ltb (length lent) store_length)
      (λ y. none_some (sym (rw y at e)))
      (λ y. rw y (go (find p products) refl (rw y at e)))
    where
      go : (o : Option Catalogue) → find p products ≡ o
          → (given {B = Option ℕ × List ℕ} o (some 12, lent) (λ cat. (none, encode p cat (fresh cat) ++ drop store_length lent))).0 ≡ none
          → is_some (decode products (given {B = Option ℕ × List ℕ} o (some 12, lent) (λ cat. (none, encode p cat (fresh cat) ++ drop store_length lent))).1) ≡ true
      go none f z = none_some (sym z)
      go (some cat) f z = rw (decode_of_held products fit (record { product = p; catalogue = cat; state = fresh cat }) (drop store_length lent) f
          (the_fresh_state_is_legal cat (fit.well_formed p cat f))) refl

  -- so is the store after every run of calls
  pub a_sound_store_stays_sound_in_a_run : (l : List Lent) (store : List ℕ) → RunOfBytes l → sound products store ≡ true → sound products (store_after products l store) ≡ true
  unfolding store_after
  a_sound_store_stays_sound_in_a_run [] store b h = h
  a_sound_store_stays_sound_in_a_run (x ∷ l) store b h =
      a_sound_store_stays_sound_in_a_run l (enter products x.0 store x.1).store b.1 (a_sound_store_stays_sound products fit x.0 b.0 store x.1 h)

  -- a run of any calls from an accepted power-on: whatever was called before it, no call meets drop 2
  pub a_run_from_power_on_never_meets_drop_2 : (p : ℕ) (lent : List ℕ) (before : List Lent) (c : Call) (buffer : List ℕ)
      → (power_on products p lent).0 ≡ none → RunOfBytes before
      → (enter products c (store_after products before (power_on products p lent).1) buffer).outcome ≢ dropped 2
  a_run_from_power_on_never_meets_drop_2 p lent before c buffer on b e =
      true_false (a_sound_store_stays_sound_in_a_run before (power_on products p lent).1 b (a_powered_on_store_is_sound p lent on))
      (drop_2_only_if_the_store_is_unsound products c (store_after products before (power_on products p lent).1) buffer e).1

  -- which drop a power-on has: 2 if the store is too short, else 12 if there is no such product, else none
  pub which_drop_at_power_on : (p : ℕ) (lent : List ℕ) → (power_on products p lent).0 ≡ cond (ltb (length lent) store_length) (some 2) (given (find p products) (some 12) (λ cat. none))
  unfolding power_on
  which_drop_at_power_on p lent = cases (ltb (length lent) store_length) (λ e. rw e refl) (λ e. rw e (go (find p products)))
    where
      go : (o : Option Catalogue) → (given {B = Option ℕ × List ℕ} o (some 12, lent) (λ cat. (none, encode p cat (fresh cat) ++ drop store_length lent))).0 ≡ given o (some 12) (λ cat. none)
      go none = refl
      go (some cat) = refl

  -- a dropped power-on leaves every byte of the store as it was
  pub a_dropped_power_on_changes_nothing : (p : ℕ) (lent : List ℕ) (n : ℕ) → (power_on products p lent).0 ≡ some n → (power_on products p lent).1 ≡ lent
  unfolding power_on
  a_dropped_power_on_changes_nothing p lent n e = cases (ltb (length lent) store_length) (λ y. rw y refl) (λ y. rw y (go (find p products) (rw y at e)))
    where
      go : (o : Option Catalogue) → (given {B = Option ℕ × List ℕ} o (some 12, lent) (λ cat. (none, encode p cat (fresh cat) ++ drop store_length lent))).0 ≡ some n
          → (given {B = Option ℕ × List ℕ} o (some 12, lent) (λ cat. (none, encode p cat (fresh cat) ++ drop store_length lent))).1 ≡ lent
      go none z = refl
      go (some cat) z = none_some z

  -- the bytes past the store's length stay at a power-on
  pub bytes_past_the_store_stay_at_power_on : (p : ℕ) (lent : List ℕ) → drop store_length (power_on products p lent).1 ≡ drop store_length lent
  unfolding power_on
  bytes_past_the_store_stay_at_power_on p lent = cases (ltb (length lent) store_length) (λ y. rw y refl) (λ y. rw y (go (find p products) refl))
    where
      go : (o : Option Catalogue) → find p products ≡ o
          → drop store_length (given {B = Option ℕ × List ℕ} o (some 12, lent) (λ cat. (none, encode p cat (fresh cat) ++ drop store_length lent))).1 ≡ drop store_length lent
      go none f = refl
      go (some cat) f = drop_at (encode p cat (fresh cat)) (drop store_length lent) store_length
          (legal_length p cat (fresh cat) (the_fresh_state_is_legal cat (fit.well_formed p cat f)))

  -- power-on is accepted if the product is one of the list and the store is long enough
  pub power_on_is_accepted : (p : ℕ) (cat : Catalogue) (lent : List ℕ) → find p products ≡ some cat → store_length ≤ length lent → (power_on products p lent).0 ≡ none
  unfolding power_on
  power_on_is_accepted p cat lent e h = rw (le-ltb (length lent) store_length h, e) refl

-- Of the products that are built, Small (1), Large (2) and Meter (3): powered on in any store of at least the store's length, they meet drop 2 in no run.
pub the_built_products_never_meet_drop_2 : (p : ℕ) (cat : Catalogue) (lent : List ℕ) (before : List Lent) (c : Call) (buffer : List ℕ)
    → find p built_products ≡ some cat → store_length ≤ length lent → RunOfBytes before
    → (enter built_products c (store_after built_products before (power_on built_products p lent).1) buffer).outcome ≢ dropped 2
the_built_products_never_meet_drop_2 p cat lent before c buffer e long b =
    a_run_from_power_on_never_meets_drop_2 built_products built_products_fit p lent before c buffer (power_on_is_accepted built_products built_products_fit p cat lent e long) b
