-- Demand 1 on a memory that calls are lent parts of: when exactly a call meets drop 2, said by the bytes that states encode to; that bytes past the store's
-- length are never read; that an answer is 48 bytes; and that a sound memory stays sound in any run, with any lent sizes.
use Prim.Native.Nat.{ℕ, zero, suc, ◌≤◌, ◌<◌}
use native.Mathlib.Omega.{arith}
use mathlib.Core.Path.{◌≡◌, refl, sym, ◌∙◌, ap}
use mathlib.Core.Bool.{Bool, true, cond}
use mathlib.Core.Option.{Option, none, some}
use mathlib.Core.Logic.{◌≢◌}
use mathlib.Core.List.{List, [], ◌∷◌, ◌++◌}
use lib.ListN.{length, take, drop, replicate, take-append-drop}
use lib.Seq.{length-take-le, take_all, take_at, drop_at}
use lib.Dec.{ltb}
use Rattle.rules.specs.Maps.{given, find, is_some}
use Rattle.rules.specs.Bytes.{byte}
use Rattle.rules.specs.Catalogue.{Catalogue}
use Rattle.rules.specs.State.{State}
use Rattle.rules.specs.Legal.{legal_state}
use Rattle.rules.specs.Reports.{Outcome, dropped, quiet, answered}
use Rattle.rules.specs.Run.{Call, Input, store_length, reply_length, taken, fresh}
use Rattle.rules.specs.Products.{Products, built_products}
use Rattle.rules.proofs.Laws.{cases, true_false, ltb_lt, ltb_le, le-ltb}
use Rattle.rules.proofs.MapLaws.{some_eq, none_some}
use Rattle.store.specs.Layout.{encode}
use Rattle.store.specs.Decode.{Held, decode_as, decode, sound}
use Rattle.store.specs.Entries.{Left, written, leave, refuse, enter, power_on}
use Rattle.store.specs.Fitting.{AllFit}
use Rattle.store.proofs.Built.{built_products_fit}
use Rattle.store.proofs.Soundness.{sound_is_an_encoding, legal_length, decode_of_held, decode_of_written, length_written}
use Rattle.legality.proofs.Outcomes.{drop_of, sent}
use Rattle.legality.proofs.Kept.{OfBytes, AllOfBytes, SentIsAMessage, the_fresh_state_is_legal}
use Rattle.demands.specs.Lending.{lend, memory_after, memory_after_all}
use Rattle.demands.proofs.DemandOne.{is_quiet, entered, left_outcome, own_drops_are_over_2, fine_after, a_call_drops_as_its_list_says, a_sound_store_stays_sound, power_on_is_accepted, a_powered_on_store_is_sound}
use Rattle.demands.proofs.RunsOnBytes.{behind}

-- no legal state of a product of the list encodes to the store's first bytes, as many as the store's length
abbrev pub EncodesNoState : Products → List ℕ → Type 0
EncodesNoState products store = (p : ℕ) (cat : Catalogue) (s : State) → find p products ≡ some cat → legal_state cat s ≡ true → take store_length store ≢ encode p cat s

holds_nothing : (products : Products) (store : List ℕ) → EncodesNoState products store → decode products store ≡ none
holds_nothing products store nothing = go (decode products store) refl
  where
    go : (o : Option Held) → decode products store ≡ o → decode products store ≡ none
    go none e = e
    go (some h) e = let d = sound_is_an_encoding products store h e in absurd (nothing h.product h.catalogue h.state d.0 d.1 d.2)

holds_what_is_encoded : (products : Products) → AllFit products → (store : List ℕ) (p : ℕ) (cat : Catalogue) (s : State) → find p products ≡ some cat → legal_state cat s ≡ true
    → take store_length store ≡ encode p cat s → decode products store ≡ some (record { product = p; catalogue = cat; state = s })
holds_what_is_encoded products fit store p cat s found legal t =
    ap (decode products) (sym (take-append-drop store_length store))
    ∙ ap (λ (l : List ℕ). decode products (l ++ drop store_length store)) t
    ∙ decode_of_held products fit (record { product = p; catalogue = cat; state = s }) (drop store_length store) found legal

-- room in the buffer, and a store that holds a state
pub record HasRoomAndAState (products : Products) (store buffer : List ℕ) : Type 0 where
  pub room : 48 ≤ length buffer
  pub held_one : Held
  pub holds_it : decode products store ≡ some held_one

module _ (products : Products) (c : Call) (store buffer : List ℕ) where
  -- a call that was answered had both
  pub an_answered_call_has_room_and_a_state : (r : List ℕ) → (enter products c store buffer).outcome ≡ answered r → HasRoomAndAState products store buffer
  unfolding refuse
  an_answered_call_has_room_and_a_state r = entered (λ l. l.outcome ≡ answered r → HasRoomAndAState products store buffer) products c store buffer
      (λ e y. none_some (ap drop_of (sym y)))
      (λ e f y. none_some (ap drop_of (sym y)))
      (λ e h f y. record { room = ltb_le (length buffer) 48 e; held_one = h; holds_it = f })

  -- with room in the buffer: drop 2 exactly if no legal state of any product encodes to the store's first bytes
  pub drop_2_if_no_state_is_encoded : 48 ≤ length buffer → EncodesNoState products store → (enter products c store buffer).outcome ≡ dropped 2
  unfolding enter refuse
  drop_2_if_no_state_is_encoded room nothing = rw (le-ltb (length buffer) 48 room, holds_nothing products store nothing) refl

  -- and only then, where all products fit: each number is a byte, each catalogue is well formed, and its states fit the store
  pub drop_2_only_if_no_state_is_encoded : AllFit products → (enter products c store buffer).outcome ≡ dropped 2 → (48 ≤ length buffer) × EncodesNoState products store
  unfolding enter refuse
  drop_2_only_if_no_state_is_encoded fit e = cases (ltb (length buffer) 48)
      (λ y. let z : dropped 1 ≡ dropped 2 = rw y at e in let x : ◌≡◌ {A = ℕ} 1 2 = some_eq (ap drop_of z) in absurd (omega arith))
      (λ y. (ltb_le (length buffer) 48 y, go (decode products store) refl (rw y at e)))
    where
      go : (o : Option Held) → decode products store ≡ o
          → (given o (refuse store buffer 2) (λ h. leave h store buffer (taken h.catalogue h.state c).0 (taken h.catalogue h.state c).1)).outcome ≡ dropped 2
          → EncodesNoState products store
      go none f z = λ p cat s found legal t. none_some (sym f ∙ holds_what_is_encoded products fit store p cat s found legal t)
      go (some h) f z =
          let told : (taken h.catalogue h.state c).1 ≡ dropped 2 = sym (left_outcome h store buffer (taken h.catalogue h.state c).0 (taken h.catalogue h.state c).1) ∙ z in
          let y : 2 < 2 = own_drops_are_over_2 h.catalogue h.state c 2 (sym (a_call_drops_as_its_list_says h.catalogue h.state c) ∙ ap drop_of told) in
          absurd (omega arith)

-- ---- what the first bytes decide

as_short : (n : ℕ) (l : List ℕ) → ltb (length (take n l)) n ≡ ltb (length l) n
as_short n l = cases (ltb (length l) n)
    (λ y. let short : length l < n = ltb_lt (length l) n y in ap (λ (k : List ℕ). ltb (length k) n) (take_all n l (omega arith)))
    (λ y. let long : length (take n l) ≡ n = length-take-le n l (ltb_le (length l) n y) in le-ltb (length (take n l)) n (omega arith) ∙ sym y)

same_first_byte : (n : ℕ) (l : List ℕ) → 0 < n → byte (take n l) 0 ≡ byte l 0
same_first_byte zero l h = absurd (omega arith)
same_first_byte (suc n) [] h = refl
same_first_byte (suc n) (x ∷ l) h = refl

-- what a store holds is decided by its first bytes
decode_reads_the_first_bytes : (products : Products) (a b : List ℕ) → take store_length a ≡ take store_length b → decode products a ≡ decode products b
unfolding decode
decode_reads_the_first_bytes products a b e = by_parts
    (sym (as_short store_length a) ∙ ap (λ (l : List ℕ). ltb (length l) store_length) e ∙ as_short store_length b)
    (sym (same_first_byte store_length a (omega arith)) ∙ ap (λ (l : List ℕ). byte l 0) e ∙ same_first_byte store_length b (omega arith))
    e
  where
    found : Bool → ℕ → List ℕ → Option Held
    found short p l = cond short none (given (find p products) none (λ cat. decode_as p cat l))

    by_parts : {short short' : Bool} {p p' : ℕ} {l l' : List ℕ} → short ≡ short' → p ≡ p' → l ≡ l' → found short p l ≡ found short' p' l'
    by_parts x y z = λ i. found (x i) (y i) (z i)

-- a store over which a state was written: its first bytes are the state's, those past them are as they were, and it holds the state
module _ (h : Held) (s : State) (legal : legal_state h.catalogue s ≡ true) (store left : List ℕ) (e : left ≡ written h s store) where
  first_bytes_written : take store_length left ≡ encode h.product h.catalogue s
  unfolding written
  first_bytes_written = ap (take store_length) e
      ∙ take_at (encode h.product h.catalogue s) (drop store_length store) store_length (legal_length h.product h.catalogue s legal)

  last_bytes_kept : drop store_length left ≡ drop store_length store
  unfolding written
  last_bytes_kept = ap (drop store_length) e
      ∙ drop_at (encode h.product h.catalogue s) (drop store_length store) store_length (legal_length h.product h.catalogue s legal)

  length_kept : store_length ≤ length store → length left ≡ length store
  length_kept long = ap length e ∙ length_written h s store legal long

  holds_what_was_written : (products : Products) → AllFit products → find h.product products ≡ some h.catalogue
      → decode products left ≡ some (record { product = h.product; catalogue = h.catalogue; state = s })
  holds_what_was_written products fit found = ap (decode products) e ∙ decode_of_written products fit h s store found legal

-- two calls leave the same, but for the bytes past the store's length
abbrev pub SameButPastTheStore : Left → Left → Type 0
SameButPastTheStore a b = (a.outcome ≡ b.outcome) × (a.buffer ≡ b.buffer) × (take store_length a.store ≡ take store_length b.store)

module _ (products : Products) (fit : AllFit products) (c : Call) (of_bytes : OfBytes c) (store buffer : List ℕ) where
  -- an answer is 48 bytes
  pub an_answer_is_48_bytes : (r : List ℕ) → (enter products c store buffer).outcome ≡ answered r → length r ≡ 48
  unfolding refuse
  an_answer_is_48_bytes r = entered (λ l. l.outcome ≡ answered r → length r ≡ 48) products c store buffer
      (λ e y. none_some (ap drop_of (sym y)))
      (λ e f y. none_some (ap drop_of (sym y)))
      (λ e h f y. go (taken h.catalogue h.state c).1 (fine_after products fit c of_bytes store buffer h f).1
      (sym (left_outcome h store buffer (taken h.catalogue h.state c).0 (taken h.catalogue h.state c).1) ∙ y))
    where
      go : (o : Outcome) → SentIsAMessage o → o ≡ answered r → length r ≡ 48
      go (dropped k) g y = none_some (ap drop_of (sym y))
      go quiet g y = none_some (ap is_quiet (sym y))
      go (answered q) g y = ap length (sym (ap sent y)) ∙ g.its_length

  -- Bytes past the store's length are never read: two stores that agree on their first bytes, as many as the store's length (or all, if they are
  -- fewer), come with the same call and buffer to the same outcome and the same buffer, and what is left of them agrees so again.
  pub bytes_past_the_store_are_never_read : (other : List ℕ) → take store_length store ≡ take store_length other
      → SameButPastTheStore (enter products c store buffer) (enter products c other buffer)
  unfolding enter refuse leave
  bytes_past_the_store_are_never_read other e =
      let same_held : decode products store ≡ decode products other = decode_reads_the_first_bytes products store other e in
      rw same_held (cases (ltb (length buffer) reply_length) (λ y. rw y (refl, refl, e)) (λ y. rw y (go (decode products other) same_held)))
    where
      left : (h : Held) (s : State) (o : Outcome) → legal_state h.catalogue s ≡ true
          → SameButPastTheStore (leave h store buffer s o) (leave h other buffer s o)
      left h s (dropped n) g = (refl, refl, e)
      left h s quiet g =
          (refl, refl, first_bytes_written h s g store (leave h store buffer s quiet).store refl ∙ sym (first_bytes_written h s g other (leave h other buffer s quiet).store refl))
      left h s (answered r) g = (
        refl,
        refl,
        first_bytes_written h s g store (leave h store buffer s (answered r)).store refl ∙ sym (first_bytes_written h s g other (leave h other buffer s (answered r)).store refl),
      )

      go : (o : Option Held) → decode products store ≡ o
          → SameButPastTheStore (given o (refuse store buffer 2) (λ h. leave h store buffer (taken h.catalogue h.state c).0 (taken h.catalogue h.state c).1))
          (given o (refuse other buffer 2) (λ h. leave h other buffer (taken h.catalogue h.state c).0 (taken h.catalogue h.state c).1))
      go none f = (refl, refl, e)
      go (some h) f = left h (taken h.catalogue h.state c).0 (taken h.catalogue h.state c).1 (fine_after products fit c of_bytes store buffer h f).0

-- ---- power-on and runs

module _ (products : Products) (fit : AllFit products) where
  -- Nor are they read: two stores that agree on their first bytes, as many as the store's length (or all, if they are fewer), have the same drop of a power-on,
  -- or none, and what is left of them agrees so again.
  pub bytes_past_the_store_are_never_read_at_power_on : (p : ℕ) (lent other : List ℕ) → take store_length lent ≡ take store_length other
      → ((power_on products p lent).0 ≡ (power_on products p other).0) × (take store_length (power_on products p lent).1 ≡ take store_length (power_on products p other).1)
  unfolding power_on
  bytes_past_the_store_are_never_read_at_power_on p lent other e =
      let as_long : ltb (length lent) store_length ≡ ltb (length other) store_length =
      sym (as_short store_length lent) ∙ ap (λ (l : List ℕ). ltb (length l) store_length) e ∙ as_short store_length other in
      rw as_long (cases (ltb (length other) store_length) (λ y. rw y (refl, e)) (λ y. rw y (go (find p products) refl)))
    where
      go : (o : Option Catalogue) → find p products ≡ o
          → ((given {B = Option ℕ × List ℕ} o (some 12, lent) (λ cat. (none, encode p cat (fresh cat) ++ drop store_length lent))).0
          ≡ (given {B = Option ℕ × List ℕ} o (some 12, other) (λ cat. (none, encode p cat (fresh cat) ++ drop store_length other))).0)
          × (take store_length (given {B = Option ℕ × List ℕ} o (some 12, lent) (λ cat. (none, encode p cat (fresh cat) ++ drop store_length lent))).1
          ≡ take store_length (given {B = Option ℕ × List ℕ} o (some 12, other) (λ cat. (none, encode p cat (fresh cat) ++ drop store_length other))).1)
      go none f = (refl, e)
      go (some cat) f =
          let long : length (encode p cat (fresh cat)) ≡ store_length = legal_length p cat (fresh cat) (the_fresh_state_is_legal cat (fit.well_formed p cat f)) in
          (refl, take_at (encode p cat (fresh cat)) (drop store_length lent) store_length long ∙ sym (take_at (encode p cat (fresh cat)) (drop store_length other) store_length long))

  -- bytes behind a store that holds a state change nothing
  pub bytes_behind_change_nothing : (store rest : List ℕ) (h : Held) → decode products store ≡ some h → decode products (store ++ rest) ≡ some h
  bytes_behind_change_nothing = behind products fit

  sound_with_bytes_behind : (store rest : List ℕ) → sound products store ≡ true → sound products (store ++ rest) ≡ true
  unfolding sound
  sound_with_bytes_behind store rest t = go (decode products store) refl
    where
      go : (o : Option Held) → decode products store ≡ o → is_some (decode products (store ++ rest)) ≡ true
      go none e = true_false t (ap is_some e)
      go (some h) e = ap is_some (bytes_behind_change_nothing store rest h e)

  -- what a call with any lent sizes leaves in a memory that is sound is sound
  pub a_sound_memory_stays_sound : (p : Input) (memory : List ℕ) → OfBytes p.call → sound products memory ≡ true → sound products (memory_after products p memory) ≡ true
  unfolding memory_after lend sound refuse
  a_sound_memory_stays_sound p memory b h =
      let lent : List ℕ = take p.store_room memory in
      let rest : List ℕ = drop p.store_room memory in
      let buffer : List ℕ = replicate p.reply_room 0 in
      let as_it_was : is_some (decode products (lent ++ rest)) ≡ true = rw (take-append-drop p.store_room memory) h in
      cases (is_some (decode products lent))
      (λ t. sound_with_bytes_behind (enter products p.call lent buffer).store rest (a_sound_store_stays_sound products fit p.call b lent buffer t))
      (λ t. entered (λ l. is_some (decode products (l.store ++ rest)) ≡ true) products p.call lent buffer
      (λ e. as_it_was)
      (λ e f. as_it_was)
      (λ e k f. true_false (ap is_some f) t))

  -- so is the memory after every run of calls, with any lent sizes
  pub a_sound_memory_stays_sound_in_a_run : (l : List Input) (memory : List ℕ) → AllOfBytes l → sound products memory ≡ true → sound products (memory_after_all products memory l) ≡ true
  unfolding memory_after_all
  a_sound_memory_stays_sound_in_a_run [] memory b h = h
  a_sound_memory_stays_sound_in_a_run (p ∷ l) memory b h =
      a_sound_memory_stays_sound_in_a_run l (memory_after products p memory) b.1 (a_sound_memory_stays_sound p memory b.0 h)

  -- a run of any calls with any lent sizes from an accepted power-on: whatever was called before it, no call that is lent the whole memory meets drop 2
  pub a_run_with_any_lent_sizes_never_meets_drop_2 : (p : ℕ) (lent : List ℕ) (before : List Input) (c : Call) (buffer : List ℕ)
      → (power_on products p lent).0 ≡ none → AllOfBytes before
      → (enter products c (memory_after_all products (power_on products p lent).1 before) buffer).outcome ≢ dropped 2
  unfolding sound
  a_run_with_any_lent_sizes_never_meets_drop_2 p lent before c buffer on b e =
      let later : List ℕ = memory_after_all products (power_on products p lent).1 before in
      true_false (a_sound_memory_stays_sound_in_a_run before (power_on products p lent).1 b (a_powered_on_store_is_sound products fit p lent on))
      (ap is_some (holds_nothing products later (drop_2_only_if_no_state_is_encoded products c later buffer fit e).1))

-- Of the products that are built, Small (1), Large (2) and Meter (3): powered on in any store of at least the store's length, no call that is
-- lent the whole memory meets drop 2, whatever was called before it with any lent sizes.
pub the_built_products_never_meet_drop_2_with_any_lent_sizes : (p : ℕ) (cat : Catalogue) (lent : List ℕ) (before : List Input) (c : Call) (buffer : List ℕ)
    → find p built_products ≡ some cat → store_length ≤ length lent → AllOfBytes before
    → (enter built_products c (memory_after_all built_products (power_on built_products p lent).1 before) buffer).outcome ≢ dropped 2
the_built_products_never_meet_drop_2_with_any_lent_sizes p cat lent before c buffer e long b =
    a_run_with_any_lent_sizes_never_meets_drop_2 built_products built_products_fit p lent before c buffer (power_on_is_accepted built_products built_products_fit p cat lent e long) b
