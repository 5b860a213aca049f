-- Demand 2 on lent bytes: the reply to a Get has what is read, at the bytes that `Sent` names, and zeros behind it.
use Prim.Native.Nat.{ℕ, ◌+◌, ◌≤◌, ◌<◌}
use native.Mathlib.Omega.{arith}
use mathlib.Core.Path.{◌≡◌, refl, sym, ◌∙◌, ap}
use mathlib.Core.Bool.{Bool, true}
use mathlib.Core.List.{List, ◌∷◌, ◌++◌}
use lib.ListN.{length, take, drop}
use Rattle.rules.specs.Maps.{gather, among, first_that_applies}
use Rattle.rules.specs.Bytes.{byte, two, bytes}
use Rattle.rules.specs.Masks.{named, total}
use Rattle.rules.specs.Catalogue.{Class, Catalogue, class, supported, size_of}
use Rattle.rules.specs.State.{Table, holds, read}
use Rattle.rules.specs.Messages.{contents_in, reply_to, Answer, unless_refused}
use Rattle.rules.specs.Commands.{values, get_results, get}
use Rattle.rules.specs.Run.{perform}
use Rattle.rules.specs.Products.{Products}
use Rattle.rules.specs.WellFormed.{WellFormed}
use Rattle.rules.proofs.Laws.{not-false, ltb_le, all_among}
use Rattle.rules.proofs.ByteLaws.{two_small, two_of_bytes}
use Rattle.rules.proofs.MapLaws.{rising_up}
use Rattle.bits.proofs.Masks.{named_within, named_rising}
use Rattle.store.specs.Decode.{Held}
use Rattle.store.specs.Fitting.{AllFit}
use Rattle.legality.proofs.Refusals.{NoneApplies, all_supported}
use Rattle.legality.proofs.LegalStates.{open_state}
use Rattle.legality.proofs.Holds.{holds_there}
use Rattle.demands.specs.Sent.{number_at, mask_names, bytes_before, value_from, shown_in_get}
use Rattle.demands.proofs.SentLaws.{named_are, same_before, two_in_a_reply, shown_is, zero_behind_them}
use Rattle.demands.proofs.Readings.{values_gathered, read_sized}
use Rattle.demands.proofs.NotRefused.{above_0, not_refused, does_its_own}
use Rattle.demands.proofs.AnsweredOnBytes.{AnsweredAnew, two_in_contents, its_answer, its_length, its_catalogue_is_well_formed, its_state_is_legal, its_reply, its_result}

-- What the reply r to a Get m shows of a table: the mask that was asked for, and of each attribute that it names what is read. Behind the last
-- value (the bytes before 17 are those of all, as the last attribute is 16) the contents are 0 up to their end, which is byte 39.
pub record Shows (cat : Catalogue) (t : Table) (m r : List ℕ) : Type 0 where
  pub its_mask : number_at r 9 ≡ number_at m 8
  pub its_values : (n : ℕ) → mask_names (number_at m 8) n ≡ true → shown_in_get (class cat (number_at m 4)) r n ≡ read cat t (number_at m 4) (number_at m 6) n
  pub the_rest_is_zero : (j : ℕ) → 11 + bytes_before (size_of (class cat (number_at m 4))) (mask_names (number_at m 8)) 17 ≤ j → j < 40 → byte r j ≡ 0

module _ (products : Products) (fit : AllFit products) (store m buffer r : List ℕ) (h : Held) (a : AnsweredAnew products 9 store m buffer r h) (ok : byte r 8 ≡ 0) where
  abbrev cat : Catalogue
  cat = h.catalogue

  abbrev t : Table
  t = h.state.table

  abbrev k : Class
  k = class h.catalogue (number_at m 4)

  -- the attributes that it names
  abbrev l : List ℕ
  l = named (two (contents_in m) 0)

  -- the lines that could have refused it
  abbrev lines : List (Bool × List ℕ)
  lines = get_results (holds h.catalogue h.state.table (number_at m 4) (number_at m 6)) (class h.catalogue (number_at m 4)) (two (contents_in m) 0)

  abbrev reading : ℕ → List ℕ
  reading n = read h.catalogue h.state.table (number_at m 4) (number_at m 6) n

  -- where no line refused it, the instance is there and every attribute supported, so that what is read has its size
  sized : NoneApplies lines → (n : ℕ) → among n l ≡ true → length (reading n) ≡ size_of k n
  unfolding get_results
  sized clear n y =
      let wf : WellFormed cat = its_catalogue_is_well_formed products fit 9 store m buffer r h a in
      let legal = (open_state cat wf h.state (its_state_is_legal products 9 store m buffer r h a)).its_table in
      read_sized cat wf _ t legal (number_at m 4) (number_at m 6) n (holds_there cat t (number_at m 4) (number_at m 6) (not-false clear.0))
      (all_among (supported k) l (all_supported k l (not-false clear.1.1.0)) n y)

  same_bytes_before : (n : ℕ) → bytes_before (size_of k) (mask_names (number_at m 8)) n ≡ bytes_before (size_of k) (λ j. among j l) n
  same_bytes_before n = same_before (size_of k) (mask_names (number_at m 8)) (λ j. among j l) n
      (λ j lt. ap (λ (x : ℕ). mask_names x j) (sym (two_in_contents m 0 (omega arith))) ∙ sym (named_are (two (contents_in m) 0) j))

  -- Of a Get that is answered with 0: the reply has the mask that was asked for, and of each attribute that it names what is read, at the bytes
  -- from c3 on, and zeros behind the last of them.
  pub a_get_shows_what_is_read : Shows cat t m r
  unfolding get get_results value_from bytes perform first_that_applies
  a_get_shows_what_is_read =
      let zero : byte (its_answer products 9 store m buffer r h a).1 0 ≡ 0 = sym (its_result products 9 store m buffer r h a) ∙ ok in
      let done = (does_its_own cat h.state 9 (number_at m 4) (number_at m 6) (contents_in m) (get cat h.state (number_at m 4) (number_at m 6) (contents_in m)) refl zero).1 in
      let front : List ℕ = 0 ∷ bytes 2 (two (contents_in m) 0) in
      let shows : Answer = (h.state, front ++ values cat t (number_at m 4) (number_at m 6) l) in
      let is_this : get cat h.state (number_at m 4) (number_at m 6) (contents_in m) ≡ unless_refused h.state lines shows = refl in
      let passed = not_refused h.state lines shows ((λ u. above_0 4), ((λ u. above_0 2), ((λ u. above_0 8), ((λ u. above_0 2), tt))))
      (ap (λ (x : Answer). byte x.1 0) (sym (done ∙ is_this)) ∙ zero) in
      let is_reply : r ≡ reply_to m (front ++ gather reading l) = its_reply products 9 store m buffer r h a
      ∙ ap (λ (x : Answer). reply_to m x.1) (done ∙ is_this ∙ passed.1)
      ∙ ap (λ (w : List ℕ). reply_to m (front ++ w)) (values_gathered cat t (number_at m 4) (number_at m 6) l) in
      let long : length m ≡ 48 = its_length products 9 store m buffer r h a in
      let small = two_small m 8 a.of_bytes in
      let Asked_is = two_in_contents m 0 (omega arith) in
      let fits : total (size_of k) l ≤ 25 = ltb_le 25 (total (size_of k) l) passed.0.1.1.1.0 in
      let mask_is : number_at r 9 ≡ number_at m 8 = ap (λ (x : List ℕ). two x 9) is_reply
      ∙ two_in_a_reply m (front ++ gather reading l) 1 long (omega arith) (omega arith)
      ∙ two_of_bytes (two (contents_in m) 0) (omega arith)
      ∙ Asked_is in
      record {
        its_mask = mask_is;
        its_values = λ n named_one.
            ap (λ (x : ℕ). take (size_of k n) (drop (11 + bytes_before (size_of k) (mask_names x) n) r)) mask_is
            ∙ ap (λ (b : ℕ). take (size_of k n) (drop (11 + b) r)) (same_bytes_before n)
            ∙ ap (λ (x : List ℕ). take (size_of k n) (drop (11 + bytes_before (size_of k) (λ j. among j l) n) x)) is_reply
            ∙ shown_is m front 3 (size_of k) reading l long refl (omega arith) (rising_up l (named_rising (two (contents_in m) 0))) (sized passed.0) n
            (named_are (two (contents_in m) 0) n ∙ ap (λ (x : ℕ). mask_names x n) Asked_is ∙ named_one);
        the_rest_is_zero = λ j behind in_40. ap (λ (x : List ℕ). byte x j) is_reply
            ∙ zero_behind_them m front 3 (size_of k) reading l long refl (named_within (two (contents_in m) 0)) (sized passed.0) j
            (let z = same_bytes_before 17 in omega arith) in_40;
      }
