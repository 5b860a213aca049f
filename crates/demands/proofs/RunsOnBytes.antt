-- A run of calls on a store in memory has the outcomes that the rules give to the state that the store holds, for every lent size.
use Prim.Native.Nat.{ℕ, zero, suc, ◌+◌, ◌-◌, ◌≤◌, ◌<◌}
use native.Mathlib.Omega.{arith}
use mathlib.Core.Path.{◌≡◌, refl, sym, ◌∙◌, ap}
use mathlib.Core.Option.{Option, none, some}
use mathlib.Core.List.{List, [], ◌∷◌, ◌++◌, map, append_assoc}
use lib.ListN.{length, take, drop, replicate, length-replicate, take-append-drop}
use lib.Seq.{take-add}
use lib.Dec.{ltb}
use Rattle.rules.specs.Maps.{given, find, first_that_applies}
use Rattle.rules.specs.Catalogue.{Catalogue}
use Rattle.rules.specs.State.{State}
use Rattle.rules.specs.Reports.{quiet, answered, Outcome, dropped, unless_dropped}
use Rattle.rules.specs.Run.{Call, taken, reply_length, Input, store_length, room_drops, step, fresh, run, after}
use Rattle.rules.specs.Products.{Products}
use Rattle.rules.proofs.Laws.{cases, ltb_lt, ltb_le, le-ltb}
use Rattle.store.specs.Decode.{Held, decode}
use Rattle.store.specs.Entries.{leave, refuse, enter, power_on}
use Rattle.store.specs.Fitting.{AllFit}
use Rattle.store.proofs.Soundness.{sound_is_an_encoding, decode_of_held, decode_front}
use Rattle.legality.proofs.Kept.{OfBytes, AllOfBytes, the_fresh_state_is_legal}
use Rattle.demands.specs.Lending.{lend, memory_after, outcomes, memory_after_all}
use Rattle.demands.proofs.DemandOne.{the_outcome_is_the_rules, the_store_holds_what_the_rules_leave}

-- What the reply buffer held before changes neither the outcome nor the store.
pub what_the_buffer_held_changes_nothing : (products : Products) (c : Call) (store buffer buffer' : List ℕ) → length buffer ≡ length buffer'
    → ((enter products c store buffer).outcome ≡ (enter products c store buffer').outcome) × ((enter products c store buffer).store ≡ (enter products c store buffer').store)
unfolding enter refuse leave
what_the_buffer_held_changes_nothing products c store buffer buffer' e = rw e (cases (ltb (length buffer') reply_length)
    (λ x. rw x (refl, refl))
    (λ x. rw x (go (decode products store))))
  where
    left : (h : Held) (s : State) (o : Outcome)
        → ((leave h store buffer s o).outcome ≡ (leave h store buffer' s o).outcome) × ((leave h store buffer s o).store ≡ (leave h store buffer' s o).store)
    left h s (dropped n) = (refl, refl)
    left h s quiet = (refl, refl)
    left h s (answered r) = (refl, refl)

    go : (o : Option Held)
        → ((given o (refuse store buffer 2) (λ h. leave h store buffer (taken h.catalogue h.state c).0 (taken h.catalogue h.state c).1)).outcome
        ≡ (given o (refuse store buffer' 2) (λ h. leave h store buffer' (taken h.catalogue h.state c).0 (taken h.catalogue h.state c).1)).outcome)
        × ((given o (refuse store buffer 2) (λ h. leave h store buffer (taken h.catalogue h.state c).0 (taken h.catalogue h.state c).1)).store
        ≡ (given o (refuse store buffer' 2) (λ h. leave h store buffer' (taken h.catalogue h.state c).0 (taken h.catalogue h.state c).1)).store)
    go none = (refl, refl)
    go (some h) = left h (taken h.catalogue h.state c).0 (taken h.catalogue h.state c).1

length_take_most : (n : ℕ) (l : List ℕ) → length (take n l) ≤ n
length_take_most zero l = omega arith
length_take_most (suc n) [] = omega arith
length_take_most (suc n) (x ∷ l) = let z = length_take_most n l in omega arith

module _ (products : Products) (fit : AllFit products) where
  -- a store that is lent too short holds nothing
  short_holds_nothing : (store : List ℕ) → length store < store_length → decode products store ≡ none
  short_holds_nothing store short = go (decode products store) refl
    where
      go : (o : Option Held) → decode products store ≡ o → decode products store ≡ none
      go none e = e
      go (some h) e = absurd (let long = (sound_is_an_encoding products store h e).3 in omega arith)

  -- bytes behind a sound store change nothing
  pub behind : (store rest : List ℕ) (h : Held) → decode products store ≡ some h → decode products (store ++ rest) ≡ some h
  behind store rest h e =
      let d = sound_is_an_encoding products store h e in
      ap (λ (x : List ℕ). decode products (x ++ rest)) (sym (take-append-drop store_length store))
      ∙ ap (decode products) (append_assoc (take store_length store) (drop store_length store) rest)
      ∙ decode_front products fit store h (drop store_length store ++ rest) e

  -- nor do bytes that are cut off behind the store's length
  pub cut_behind : (n : ℕ) (store : List ℕ) (h : Held) → store_length ≤ n → decode products store ≡ some h → decode products (take n store) ≡ some h
  cut_behind n store h long e =
      ap (λ k. decode products (take k store)) (let z : n ≡ store_length + (n - store_length) = omega arith in z)
      ∙ ap (decode products) (take-add store_length (n - store_length) store)
      ∙ decode_front products fit store h (take (n - store_length) (drop store_length store)) e

  -- one call with its lent sizes: the outcome is that of the rules, and the memory then holds the state that the rules leave
  module _ (p : Input) (b : OfBytes p.call) (store : List ℕ) (h : Held) (e : decode products store ≡ some h) where
    abbrev Lent : Type 0
    Lent = ((lend products p store).outcome ≡ (step h.catalogue h.state p).1)
        × (decode products (memory_after products p store) ≡ some (record { product = h.product; catalogue = h.catalogue; state = (step h.catalogue h.state p).0 }))

    if_refused : (n : ℕ) → lend products p store ≡ refuse (take p.store_room store) (replicate p.reply_room 0) n
        → step h.catalogue h.state p ≡ (h.state, dropped n) → Lent
    unfolding memory_after refuse
    if_refused n x y = rw (x, y) (refl, rw (take-append-drop p.store_room store) e)

    if_taken : store_length ≤ p.store_room → 48 ≤ p.reply_room → step h.catalogue h.state p ≡ taken h.catalogue h.state p.call → Lent
    unfolding memory_after lend
    if_taken long room y =
        let lent : List ℕ = take p.store_room store in
        let buffer : List ℕ = replicate p.reply_room 0 in
        let d : decode products lent ≡ some h = cut_behind p.store_room store h long e in
        let wide : 48 ≤ length buffer = rw (length-replicate {A = ℕ} p.reply_room 0) room in
        rw y (
          the_outcome_is_the_rules products p.call lent buffer wide h d,
          behind (enter products p.call lent buffer).store (drop p.store_room store) _ (the_store_holds_what_the_rules_leave products fit p.call b lent buffer h d wide),
        )

    short : p.store_room < store_length → length (take p.store_room store) < store_length
    short lt = let z = length_take_most p.store_room store in omega arith

    pub a_lent_call_is_the_rules : Lent
    unfolding lend step unless_dropped room_drops first_that_applies enter
    a_lent_call_is_the_rules = cases (ltb p.reply_room 48)
        (λ x. if_refused 1 (rw (length-replicate {A = ℕ} p.reply_room 0, x) refl) (rw x refl))
        (λ x. cases (ltb p.store_room store_length)
        (λ y. if_refused 2
        (rw (length-replicate {A = ℕ} p.reply_room 0, x, short_holds_nothing (take p.store_room store) (short (ltb_lt p.store_room store_length y))) refl)
        (rw (x, y) refl))
        (λ y. if_taken (ltb_le p.store_room store_length y) (ltb_le p.reply_room 48 x) (rw (x, y) refl)))

  -- a run of any calls with any lent sizes
  pub a_run_on_bytes_has_the_rules_outcomes : (l : List Input) → AllOfBytes l → (store : List ℕ) (h : Held) → decode products store ≡ some h
      → outcomes products store l ≡ map (λ x. x.1) (run h.catalogue h.state l)
  unfolding outcomes run
  a_run_on_bytes_has_the_rules_outcomes [] b store h e = refl
  a_run_on_bytes_has_the_rules_outcomes (p ∷ l) b store h e =
      let x = a_lent_call_is_the_rules p b.0 store h e in
      rw x.0 (ap (λ r. (step h.catalogue h.state p).1 ∷ r) (a_run_on_bytes_has_the_rules_outcomes l b.1 (memory_after products p store) _ x.1))

  pub a_run_on_bytes_leaves_the_rules_state : (l : List Input) → AllOfBytes l → (store : List ℕ) (h : Held) → decode products store ≡ some h
      → decode products (memory_after_all products store l) ≡ some (record { product = h.product; catalogue = h.catalogue; state = after h.catalogue h.state l })
  unfolding memory_after_all after
  a_run_on_bytes_leaves_the_rules_state [] b store h e = e
  a_run_on_bytes_leaves_the_rules_state (p ∷ l) b store h e =
      a_run_on_bytes_leaves_the_rules_state l b.1 (memory_after products p store) _ (a_lent_call_is_the_rules p b.0 store h e).1

  -- and it begins with the fresh state
  pub a_powered_on_store_holds_the_fresh_state : (p : ℕ) (cat : Catalogue) (lent : List ℕ) → find p products ≡ some cat → store_length ≤ length lent
      → decode products (power_on products p lent).1 ≡ some (record { product = p; catalogue = cat; state = fresh cat })
  unfolding power_on
  a_powered_on_store_holds_the_fresh_state p cat lent e long = rw (le-ltb (length lent) store_length long, e)
      (decode_of_held products fit (record { product = p; catalogue = cat; state = fresh cat }) (drop store_length lent) e
      (the_fresh_state_is_legal cat (fit.well_formed p cat e)))
