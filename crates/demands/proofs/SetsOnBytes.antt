-- Demand 2 on lent bytes: an accepted Set changes the named attributes of one instance and no other stored attribute, and moves the sync
-- counter on; a Set of that counter stores just what it was sent.
use Prim.Native.Nat.{ℕ, ◌+◌, ◌≤◌}
use native.Mathlib.Omega.{arith}
use mathlib.Core.Path.{◌≡◌, refl, sym, ◌∙◌, ap}
use mathlib.Core.Bool.{Bool, true, false, cond}
use mathlib.Core.Option.{some}
use mathlib.Core.Logic.{◌≢◌}
use mathlib.Core.List.{List, [], ◌∷◌}
use lib.ListN.{length, take, drop}
use lib.Seq.{drop-cons}
use lib.Dec.{eqb}
use Rattle.rules.specs.Maps.{◌and◌, find, has, among, first_that_applies}
use Rattle.rules.specs.Bytes.{byte, two, number}
use Rattle.rules.specs.Masks.{named, total}
use Rattle.rules.specs.Catalogue.{Class, Catalogue, class, attribute, size_of}
use Rattle.rules.specs.State.{Contents, Table, State, holds, contents, content, counter, overwrite, change, with_counter, with_table, with_memory}
use Rattle.rules.specs.Messages.{contents_in, reply_to, next_number, Answer, unless_refused}
use Rattle.rules.specs.Commands.{cut, set_by, bad_in_set, set_results, moved_by_set, set}
use Rattle.rules.specs.Run.{perform, answer, remember, message}
use Rattle.rules.specs.WellFormed.{WellFormed}
use Rattle.rules.specs.Products.{Products}
use Rattle.rules.proofs.Laws.{cases, eqb_false, eqb_ne, find_some}
use Rattle.rules.proofs.MapLaws.{rising_up}
use Rattle.bits.proofs.Masks.{named_rising}
use Rattle.store.specs.Decode.{Held}
use Rattle.store.specs.Fitting.{AllFit}
use Rattle.legality.proofs.LegalStates.{open_state}
use Rattle.legality.proofs.Tables.{LegalLive}
use Rattle.legality.proofs.Contents.{content_found}
use Rattle.legality.proofs.Holds.{There, holds_there}
use Rattle.extending.proofs.Cuts.{cut_none}
use Rattle.demands.specs.Sent.{number_at, mask_names, bytes_before, value_from, sent_in_set}
use Rattle.demands.specs.Counting.{OneOn, sync_counter}
use Rattle.demands.proofs.SentLaws.{named_are, cut_from_a_message}
use Rattle.demands.proofs.NotRefused.{not_refused, does_its_own}
use Rattle.demands.proofs.Counting.{one_on_if_next}
use Rattle.demands.proofs.AnsweredOnBytes.{AnsweredAnew, LeavesAStateThat, two_in_contents, its_length, its_catalogue_is_well_formed, its_state_is_legal, its_result, its_store}
use Rattle.demands.proofs.ContentLaws.{stays_beside, set_lines_refuse, its_instance_is_there, at_most_30_bytes}
use Rattle.demands.proofs.ContentLaws.{what_it_names_can_be_written}
use Rattle.demands.proofs.Sets.{contents_elsewhere, others_stay, named_change, cut_some, number_one, written_is_there, counter_is_there}
use Rattle.demands.proofs.Creates.{holds_changed}

-- What an accepted Set m has done: s is the state before it, t the state after it. Its class is m's number at byte 4, its instance that at byte 6 and its mask
-- that at byte 8.
pub record AfterSet (cat : Catalogue) (m : List ℕ) (s t : State) : Type 0 where
  -- the mask names only attributes that can be written
  pub the_named_can_be_written : (n : ℕ) → mask_names (number_at m 8) n ≡ true → (attribute (class cat (number_at m 4)) n).W ≡ true
  -- each attribute of the instance that the mask names has just what the message has for it
  pub the_named_are_as_sent : (n : ℕ) → mask_names (number_at m 8) n ≡ true
      → content n (contents cat t.table (number_at m 4) (number_at m 6)) ≡ sent_in_set (class cat (number_at m 4)) m n
  -- every other stored attribute of every instance is as it was, but for the sync counter where the Set's class isn't 2
  pub the_others_are_as_they_were : (d j n : ℕ) → (d ≡ number_at m 4 → j ≡ number_at m 6 → mask_names (number_at m 8) n ≡ false)
      → (number_at m 4 ≢ 2 → d ≡ 2 → j ≡ 0 → n ≢ 1)
      → content n (contents cat t.table d j) ≡ content n (contents cat s.table d j)
  -- where the Set's class isn't 2, the sync counter is one on
  pub the_counter_is_one_on : number_at m 4 ≢ 2 → OneOn (sync_counter cat s) (sync_counter cat t)
  -- a Set of the counter stores just what it was sent: its one byte is c2, which is byte 10
  pub the_counter_is_as_sent : number_at m 4 ≡ 2 → number_at m 6 ≡ 0 → mask_names (number_at m 8) 1 ≡ true
      → (content 1 (contents cat t.table 2 0) ≡ byte m 10 ∷ []) × (sync_counter cat t ≡ byte m 10)
  pub the_same_instances_are_there : (d j : ℕ) → holds cat t.table d j ≡ holds cat s.table d j
  -- the alarms, the alarm number and both walks are as they were: all but the table and what is remembered
  pub nothing_else_changes : t ≡ with_memory t.remembered (with_table t.table s)

-- where attribute 1 is named, of one byte, its value is the message's byte 10
first_of_one_byte : (size : ℕ → ℕ) (m : List ℕ) → length m ≡ 48 → size 1 ≡ 1 → value_from 10 size (mask_names (number_at m 8)) m 1 ≡ byte m 10 ∷ []
unfolding value_from bytes_before mask_names ◌and◌
first_of_one_byte size m long one = rw one (ap (take 1) (drop-cons m 10 0 (omega arith)))

module _ (products : Products) (fit : AllFit products) (store m buffer r : List ℕ) (h : Held) (a : AnsweredAnew products 8 store m buffer r h) where
  -- On a store that holds a state, with room in the buffer, for a Set (message number 8) that passes its drops and is no repeat: if the result
  -- in its reply (byte 8) is 0, the attributes that its mask names have what was sent for them from c2 on, every other stored attribute of
  -- every instance is as it was. If the Set's class isn't 2, the sync counter is one on; a Set of class 2 doesn't move it on, and stores what was sent.
  -- (Class 2 has nothing but the counter in catalogues that fit the store: `BeyondTheStore` has the Set of class 2 that doesn't name it.)
  pub an_accepted_set_does_what_its_bytes_say : byte r 8 ≡ 0 → LeavesAStateThat products (message m) store buffer h (AfterSet h.catalogue m h.state)
  unfolding remember find
  an_accepted_set_does_what_its_bytes_say zero =
      let cat : Catalogue = h.catalogue in
      let s : State = h.state in
      let c : ℕ = number_at m 4 in
      let i : ℕ = number_at m 6 in
      let v : List ℕ = contents_in m in
      let k : Class = class cat c in
      let l : List ℕ = named (two v 0) in
      let bad : List ℕ = bad_in_set cat s c i v in
      let there : Bool = holds cat s.table c i in
      let new : Contents = cut (size_of k) l (drop 2 v) in
      let written : Table = change cat c i (overwrite new) s.table in
      let x : ℕ = next_number (number (content 1 (contents cat written 2 0))) in
      let on : Contents = (1, x ∷ []) ∷ [] in
      let table : Table = cond (eqb c 2) written (change cat 2 0 (overwrite on) written) in
      let result : byte (answer cat s 8 c i v).1 0 ≡ 0 = sym (its_result products 8 store m buffer r h a) ∙ zero in
      let lines : List (Bool × List ℕ) = set_results there k (two v 0) bad in
      let is_set : answer cat s 8 c i v ≡ set cat s c i v = (does_its_own cat s 8 c i v (set cat s c i v) (unfold perform first_that_applies in refl) result).1 in
      let is_this : set cat s c i v ≡ unless_refused s lines (with_table table s, 0 ∷ []) = unfold set set_by moved_by_set with_counter counter in refl in
      let passed = not_refused s lines (with_table table s, 0 ∷ []) (set_lines_refuse there k (two v 0) bad) (ap (λ (z : Answer). byte z.1 0) (sym (is_set ∙ is_this)) ∙ result) in
      let wf : WellFormed cat = its_catalogue_is_well_formed products fit 8 store m buffer r h a in
      let live : LegalLive cat wf s.table = (open_state cat wf s (its_state_is_legal products 8 store m buffer r h a)).its_table in
      let is_there : There cat s.table c i = holds_there cat s.table c i (its_instance_is_there there k (two v 0) bad passed.0) in
      let fits : 2 + total (size_of k) l ≤ 32 = let z = at_most_30_bytes there k (two v 0) bad passed.0 in omega arith in
      let names : (n : ℕ) → among n l ≡ mask_names (number_at m 8) n = λ n. ap (λ (w : ℕ). among n (named w)) (two_in_contents m 0 (omega arith)) ∙ named_are (number_at m 8) n in
      let as_sent : (n : ℕ) → mask_names (number_at m 8) n ≡ true → content n (contents cat table c i) ≡ sent_in_set k m n = λ n y.
      let is_named : among n l ≡ true = names n ∙ y in
      let f = find_some n new (cut_some (size_of k) l (drop 2 v) n is_named) in
      let kept = written_is_there cat wf s.table live c i n is_there (what_it_names_can_be_written there k (two v 0) bad passed.0 n is_named) in
      stays_beside cat written (eqb c 2) 2 0 on c i n (λ e p q. absurd (eqb_ne c 2 e p))
      ∙ named_change cat s.table c i new n f.0 f.1 kept
      ∙ sym (content_found n f.0 new f.1)
      ∙ cut_from_a_message (size_of k) (mask_names (number_at m 8)) 0 l m 2 (rising_up l (named_rising (two v 0))) names fits n is_named in (
        remember m (reply_to m (0 ∷ [])) (with_table table s),
        its_store products fit 8 store m buffer r h a
            ∙ ap (λ (z : Answer). some (record { product = h.product; catalogue = cat; state = remember m (reply_to m z.1) z.0 })) (is_set ∙ is_this ∙ passed.1),
        record {
          the_named_can_be_written = λ n y. what_it_names_can_be_written there k (two v 0) bad passed.0 n (names n ∙ y);
          the_named_are_as_sent = as_sent;
          the_others_are_as_they_were = λ d j n other no_counter.
              stays_beside cat written (eqb c 2) 2 0 on d j n (λ e p q. rw (eqb_false n 1 (no_counter (eqb_ne c 2 e) p q)) refl)
              ∙ others_stay cat s.table c i new d j n (λ p q. cut_none (size_of k) l (drop 2 v) n (names n ∙ other p q));
          the_counter_is_one_on = λ ne.
              let before : contents cat written 2 0 ≡ contents cat s.table 2 0 = contents_elsewhere cat s.table c i (overwrite new) 2 0 (λ p q. ne (sym p)) in
              let kept : has 1 (contents cat written 2 0) ≡ true = ap (has 1) before ∙ counter_is_there cat wf s.table live in
              let is_x : number (content 1 (contents cat table 2 0)) ≡ x = rw (eqb_false c 2 ne) (ap number (named_change cat written 2 0 on 1 (x ∷ []) refl kept) ∙ number_one x) in
              one_on_if_next (number (content 1 (contents cat s.table 2 0))) _ (is_x ∙ ap (λ (z : Contents). next_number (number (content 1 z))) before);
          the_counter_is_as_sent = λ p q y.
              let one : size_of k 1 ≡ 1 = ap (λ (d : ℕ). size_of (class cat d) 1) p ∙ wf.class_2_has_the_counter.one_byte in
              let is_byte_10 : content 1 (contents cat table 2 0) ≡ byte m 10 ∷ [] = (λ z. content 1 (contents cat table (sym p z) (sym q z)))
              ∙ as_sent 1 y ∙ first_of_one_byte (size_of k) m (its_length products 8 store m buffer r h a) one in
              (is_byte_10, ap number is_byte_10 ∙ number_one (byte m 10));
          the_same_instances_are_there = λ d j.
              let as_before : holds cat written d j ≡ holds cat s.table d j = holds_changed cat s.table c i (overwrite new) d j in
              cases (eqb c 2) (λ e. rw e as_before) (λ e. rw e (holds_changed cat written 2 0 (overwrite on) d j ∙ as_before));
          nothing_else_changes = refl;
        },
      )
