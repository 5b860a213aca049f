-- Demand 1's last sentence: a command that is answered with a refusal changes no entity and no counter, nor any alarm or walk; only what
-- is remembered changes.
use Prim.Native.Nat.{ℕ, ◌≤◌}
use mathlib.Core.Path.{◌≡◌, refl, sym, ◌∙◌, ap}
use mathlib.Core.Bool.{true, false}
use mathlib.Core.Option.{Option, none, some}
use mathlib.Core.Logic.{◌≢◌}
use mathlib.Core.List.{List, []}
use lib.ListN.{length}
use Rattle.rules.specs.Maps.{given, among}
use Rattle.rules.specs.Bytes.{byte, two, are_bytes}
use Rattle.rules.specs.Catalogue.{Catalogue, class}
use Rattle.rules.specs.State.{Memory, State, holds}
use Rattle.rules.specs.Messages.{message_number, class_in, instance_in, contents_in, message_drops, without_result, reply_to, Answer}
use Rattle.rules.specs.Commands.{create_results, create, delete_results, delete, bad_in_set, set_results, set, get_results, get, reset_results, reset}
use Rattle.rules.specs.Reports.{answered}
use Rattle.rules.specs.Run.{perform, first_results, answer, is_repeat, remember, answer_anew, answer_again, handle, message, taken}
use Rattle.rules.specs.Products.{Products}
use Rattle.rules.proofs.Laws.{cases, true_false, not-false, eqb_eq, or_none}
use Rattle.store.specs.Decode.{Held, decode}
use Rattle.store.specs.Entries.{enter}
use Rattle.store.specs.Fitting.{AllFit}
use Rattle.legality.proofs.Refusals.{unless_refused_is, unless_dropped_is}
use Rattle.legality.proofs.ReplyBytes.{the_result_is_byte_8}
use Rattle.legality.proofs.Outcomes.{sent}
use Rattle.demands.proofs.DemandOne.{the_outcome_is_the_rules, the_store_holds_what_the_rules_leave}
use Rattle.rules.proofs.MapLaws.{first_has}

-- ---- commands

-- the result in the reply's contents isn't 0
abbrev pub Refused : Answer → Type 0
Refused a = byte a.1 0 ≢ 0

module _ (cat : Catalogue) (s : State) (c i : ℕ) (v : List ℕ) where
  -- a refused Create leaves the state as it was
  pub a_refused_create_changes_nothing : Refused (create cat s c i v) → (create cat s c i v).0 ≡ s
  unfolding create
  a_refused_create_changes_nothing = unless_refused_is (λ a. Refused a → a.0 ≡ s) s (create_results cat s c i v) _ (λ r e y. refl) (λ clear y. absurd (y refl))

  -- a refused Delete
  pub a_refused_delete_changes_nothing : Refused (delete cat s c i) → (delete cat s c i).0 ≡ s
  unfolding delete
  a_refused_delete_changes_nothing = unless_refused_is (λ a. Refused a → a.0 ≡ s) s (delete_results cat s c i) _ (λ r e y. refl) (λ clear y. absurd (y refl))

  -- a refused Set
  pub a_refused_set_changes_nothing : Refused (set cat s c i v) → (set cat s c i v).0 ≡ s
  unfolding set
  a_refused_set_changes_nothing = unless_refused_is (λ a. Refused a → a.0 ≡ s) s (set_results (holds cat s.table c i) (class cat c) (two v 0) (bad_in_set cat s c i v)) _ (λ r e y. refl)
      (λ clear y. absurd (y refl))

  -- a refused Get (and every other Get)
  pub a_get_changes_nothing : (get cat s c i v).0 ≡ s
  unfolding get
  a_get_changes_nothing = unless_refused_is (λ a. a.0 ≡ s) s (get_results (holds cat s.table c i) (class cat c) (two v 0)) _ (λ r e. refl) (λ clear. refl)

  -- a refused MIB reset
  pub a_refused_reset_changes_nothing : Refused (reset cat s c i) → (reset cat s c i).0 ≡ s
  unfolding reset
  a_refused_reset_changes_nothing = unless_refused_is (λ a. Refused a → a.0 ≡ s) s (reset_results cat s c i) _ (λ r e y. refl) (λ clear y. absurd (y refl))

  -- Any message but an upload or an alarm walk (which have no result): if the result isn't 0, the state after it is the state before.
  pub a_refused_command_changes_nothing : (n : ℕ) → among n without_result ≡ false → Refused (answer cat s n c i v) → (answer cat s n c i v).0 ≡ s
  unfolding answer perform among
  a_refused_command_changes_nothing n other = unless_refused_is (λ a. Refused a → a.0 ≡ s) s (first_results cat n c) (given (perform cat s n c i v) (s, []) (λ a. a))
      (λ r e y. refl)
      (λ clear. pick (perform cat s n c i v) refl)
    where
      pick : (o : Option Answer) → perform cat s n c i v ≡ o → Refused (given o (s, []) (λ a. a)) → (given o (s, []) (λ a. a)).0 ≡ s
      pick none e = λ y. refl
      pick (some a) e =
          let f = or_none other in
          let g = or_none f.1 in
          let h = or_none g.1 in
          let k = or_none h.1 in
          first_has (λ a. Refused a → a.0 ≡ s) _ (
            (λ y. a_refused_create_changes_nothing),
            (
              (λ y. a_refused_delete_changes_nothing),
              (
                (λ y. a_refused_set_changes_nothing),
                (
                  (λ y z. a_get_changes_nothing),
                  (
                    (λ y. a_refused_reset_changes_nothing),
                    ((λ y. true_false y f.0), ((λ y. true_false y g.0), ((λ y. true_false y h.0), ((λ y. true_false y k.0), tt)))),
                  ),
                ),
              ),
            ),
          ) a e

-- ---- messages

-- two states that differ in what is remembered alone
pub record SameButRemembered (s t : State) : Type 0 where
  pub tables : t.table ≡ s.table
  pub alarm_bitmaps : t.alarms ≡ s.alarms
  pub alarm_numbers : t.alarm_number ≡ s.alarm_number
  pub uploads : t.upload ≡ s.upload
  pub alarm_walks : t.walk ≡ s.walk

module _ (cat : Catalogue) (s : State) (m : List ℕ) (other : among (message_number m) without_result ≡ false) where
  same_state : SameButRemembered s s
  same_state = record { tables = refl; alarm_bitmaps = refl; alarm_numbers = refl; uploads = refl; alarm_walks = refl }

  same_anew : length m ≡ 48 → (r : List ℕ) → (answer_anew cat s m).1 ≡ answered r → byte r 8 ≢ 0 → SameButRemembered s (answer_anew cat s m).0
  unfolding answer_anew remember
  same_anew long r e y =
      let a : Answer = answer cat s (message_number m) (class_in m) (instance_in m) (contents_in m) in
      let z : reply_to m a.1 ≡ r = ap sent e in
      let refused : Refused a = λ q. y (ap (λ (l : List ℕ). byte l 8) (sym z) ∙ the_result_is_byte_8 m a.1 long ∙ q) in
      let k : a.0 ≡ s = a_refused_command_changes_nothing cat s (class_in m) (instance_in m) (contents_in m) (message_number m) other refused in
      record {
        tables = ap (λ (t : State). t.table) k;
        alarm_bitmaps = ap (λ (t : State). t.alarms) k;
        alarm_numbers = ap (λ (t : State). t.alarm_number) k;
        uploads = ap (λ (t : State). t.upload) k;
        alarm_walks = ap (λ (t : State). t.walk) k;
      }

  -- A message whose reply has a result that isn't 0 (byte 8): the state after it has the same table, so the same entities and the same
  -- counter, the same alarms, alarm number and walks.
  pub a_refused_message_changes_only_what_is_remembered : (r : List ℕ) → (handle cat s m).1 ≡ answered r → byte r 8 ≢ 0 → SameButRemembered s (handle cat s m).0
  unfolding handle answer_again message_drops
  a_refused_message_changes_only_what_is_remembered r = unless_dropped_is (λ x. x.1 ≡ answered r → byte r 8 ≢ 0 → SameButRemembered s x.0) s (message_drops m) _
      (λ n e y z. same_state)
      (λ clear. go s.remembered (eqb_eq (length m) 48 (not-false clear.0)))
    where
      go : (o : Option Memory) → length m ≡ 48 → (given o (answer_anew cat s m) (answer_again cat s m)).1 ≡ answered r → byte r 8 ≢ 0
          → SameButRemembered s (given o (answer_anew cat s m) (answer_again cat s m)).0
      go none long = same_anew long r
      go (some k) long = cases (is_repeat m k) (λ e. rw e (λ y z. same_state)) (λ e. rw e (same_anew long r))

-- ---- stores

-- On a store that holds a state, with room in the buffer: after a message that is refused, the store holds a state with the same table,
-- alarms, alarm number and walks.
pub a_refusal_leaves_the_same_table_in_the_store : (products : Products) (fit : AllFit products) (m store buffer : List ℕ) → are_bytes m ≡ true
    → among (message_number m) without_result ≡ false → 48 ≤ length buffer → (h : Held) → decode products store ≡ some h
    → (r : List ℕ) → (enter products (message m) store buffer).outcome ≡ answered r → byte r 8 ≢ 0
    → (t : State) × (decode products (enter products (message m) store buffer).store ≡ some (record { product = h.product; catalogue = h.catalogue; state = t }))
    × SameButRemembered h.state t
unfolding taken
a_refusal_leaves_the_same_table_in_the_store products fit m store buffer b other long h e r y z = (
  (handle h.catalogue h.state m).0,
  the_store_holds_what_the_rules_leave products fit (message m) b store buffer h e long,
  a_refused_message_changes_only_what_is_remembered h.catalogue h.state m other r (sym (the_outcome_is_the_rules products (message m) store buffer long h e) ∙ y) z,
)
