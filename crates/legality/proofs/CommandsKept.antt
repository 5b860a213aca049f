-- Every command leaves a legal state, and shows bytes.
use Prim.Native.Nat.{ℕ, ◌<◌}
use native.Mathlib.Omega.{arith}
use mathlib.Core.Path.{◌≡◌, refl}
use mathlib.Core.Bool.{Bool, true, not}
use mathlib.Core.Option.{Option, none, some}
use mathlib.Core.List.{List, [], ◌∷◌, ◌++◌}
use lib.ListN.{length, replicate}
use lib.Dec.{eqb}
use Rattle.rules.specs.Maps.{◌and◌, Map, given, put, remove, nth}
use Rattle.rules.specs.Bytes.{two, bytes, are_bytes}
use Rattle.rules.specs.Masks.{mask, total}
use Rattle.rules.specs.Catalogue.{Class, Catalogue, class, size_of, is_created, leader, key, ont_data}
use Rattle.rules.specs.State.{Contents, Entry, Table, Alarms, State, class_of, number_of, holds, overwrite, change, with_counter, with_table, counter}
use Rattle.rules.specs.Legal.{legal_frozen}
use Rattle.rules.specs.Messages.{Answer, next_number}
use Rattle.rules.specs.Commands.{new_entry, carried_by, bad_in_create, create_results, with_created, create, move_counter, goes_with, without, delete_results, delete, asked}
use Rattle.rules.specs.Commands.{unsupported, unwritable, set_by, bad_in_set, set_results, moved_by_set, set, values, get_results, get, reset_table, stays, was_reset}
use Rattle.rules.specs.Commands.{reset_results, reset}
use Rattle.rules.specs.Walks.{if_ont_data, sections, section_contents, frozen, Section, upload, upload_next, all_alarms, bitmap, alarms_contents, alarms_next}
use Rattle.rules.specs.WellFormed.{WellFormed}
use Rattle.rules.proofs.Laws.{cases, true_false, not-true, not-false, both, and_true, eqb_true, leb_lt, ltb_le}
use Rattle.rules.proofs.ByteLaws.{bytes_append, bytes_cons, bytes_none, bytes_zeros, bytes_of_number, bytes_of_bits}
use Rattle.rules.proofs.Standing.{standing, key_class}
use Rattle.legality.proofs.Tables.{LegalEntry, LegalLive, open_table, close_table, new_entry_legal, create_legal, delete_legal, reset_legal, frozen_legal}
use Rattle.legality.proofs.Holds.{holds_change, holds_create, holds_delete, holds_reset}
use Rattle.legality.proofs.Counter.{with_counter_legal, move_counter_legal}
use Rattle.legality.proofs.Carried.{create_carries_legal, set_carries_legal}
use Rattle.legality.proofs.Written.{set_legal, moved_by_set_legal}
use Rattle.legality.proofs.Refusals.{unless_refused_is}
use Rattle.legality.proofs.AlarmsKept.{kept_legal}
use Rattle.legality.proofs.WalksKept.{walk_legal}
use Rattle.legality.proofs.ReplyBytes.{values_bytes}
use Rattle.legality.proofs.LegalStates.{LegalState, with_table_legal, Good, with_walk_legal, with_upload_legal, with_alarms_legal, with_number_legal}
use Rattle.rules.proofs.MapLaws.{first_has}

module _ (cat : Catalogue) (wf : WellFormed cat) (s : State) (h : LegalState cat wf s) where
  small_result : (r : ℕ) → r < 256 → are_bytes (r ∷ []) ≡ true
  small_result r lt = bytes_cons r [] lt bytes_none

  masked : (r : ℕ) (m : ℕ) → r < 256 → are_bytes (r ∷ bytes 2 m) ≡ true
  masked r m lt = bytes_cons r (bytes 2 m) lt (bytes_of_number 2 m)

  stays_good : (c : List ℕ) → are_bytes c ≡ true → Good cat wf (s, c)
  stays_good c b = record { its_state = h; its_contents = b }

  -- the counter's move hides nothing
  counter_holds : (t : Table) → LegalLive cat wf t → (n d j : ℕ) → holds cat t d j ≡ true → holds cat (with_counter cat n t) d j ≡ true
  unfolding with_counter
  counter_holds t l n d j y = holds_change cat wf t l ont_data 0 (overwrite ((1, n ∷ []) ∷ [])) d j y

  pub create_good : (c i : ℕ) (v : List ℕ) → is_created (class cat c).creation ≡ true → i < 65536 → length v ≡ 32 → are_bytes v ≡ true
      → Good cat wf (create cat s c i v)
  unfolding create create_results
  create_good c i v cr lt long b =
      let carried : Contents = carried_by (class cat c) v in
      let k : ℕ = key c i in
      let e : Entry = new_entry cat c carried in
      let t : Table = with_created (put k e s.table.created) s.table in
      unless_refused_is (Good cat wf) s (create_results cat s c i v) (with_table (move_counter cat t) s, 0 ∷ [])
      (λ r f. stays_good r (first_has (λ r. are_bytes r ≡ true) (create_results cat s c i v)
      ((λ y. small_result 7 (omega arith)), ((λ y. masked 3 (mask (bad_in_create cat s c v)) (omega arith)), ((λ y. small_result 1 (omega arith)), tt))) r f))
      (λ none.
      let z : class_of k ≡ c = key_class c i lt in
      let legal_carried = create_carries_legal cat wf s h.its_table c v long b (not-false none.1.0) in
      let le : LegalEntry cat k e = rw z at (new_entry_legal cat wf k carried (rw z legal_carried)) in
      let l : LegalLive cat wf t = create_legal cat wf k e s.table (rw z cr) (leb_lt cat.places (length s.table.created) none.1.1.0) le h.its_table in
      record {
        its_state = with_table_legal cat wf s (move_counter cat t) h (move_counter_legal cat wf t l)
            (λ d j y. counter_holds t l (next_number (counter cat t)) d j (holds_create cat wf s.table h.its_table k e le d j y));
        its_contents = small_result 0 (omega arith);
      })

  pub delete_good : (c i : ℕ) → i < 65536 → Good cat wf (delete cat s c i)
  unfolding delete delete_results without goes_with
  delete_good c i lt =
      let t : Table = with_created (remove (key c i) s.table.created) s.table in
      let l : LegalLive cat wf t = delete_legal cat wf (key c i) s.table h.its_table in
      unless_refused_is (Good cat wf) s (delete_results cat s c i) (without cat c i s, 0 ∷ [])
      (λ r f. stays_good r (first_has (λ r. are_bytes r ≡ true) (delete_results cat s c i) ((λ y. small_result 5 (omega arith)), tt) r f))
      (λ none. record {
        its_state = with_alarms_legal cat wf s (move_counter cat t) _ h (move_counter_legal cat wf t l)
            (kept_legal cat (holds cat s.table) (holds cat (move_counter cat t)) (λ j. not (goes_with cat c i j)) s.alarms
            (λ k p y. counter_holds t l (next_number (counter cat t)) (class_of k) (number_of k)
            (holds_delete cat wf s.table h.its_table c i (class_of k) (number_of k) lt (omega arith)
            (λ led same. absurd (true_false (and_true (eqb_true (leader cat (class_of k)) c led) (eqb_true (number_of k) i same)) (not-true p))) y))
            h.its_alarms);
        its_contents = small_result 0 (omega arith);
      })

  moved_holds : (c : ℕ) (t : Table) → LegalLive cat wf t → (d j : ℕ) → holds cat t d j ≡ true → holds cat (moved_by_set cat c t) d j ≡ true
  unfolding moved_by_set
  moved_holds c t l d j y = cases (eqb c ont_data) (λ e. rw e y) (λ e. rw e (counter_holds t l (next_number (counter cat t)) d j y))

  pub set_good : (c i : ℕ) (v : List ℕ) → i < 65536 → length v ≡ 32 → are_bytes v ≡ true → Good cat wf (set cat s c i v)
  unfolding set set_results
  set_good c i v lt long b =
      let k : Class = class cat c in
      let new : Contents = set_by k v in
      let t : Table = change cat c i (overwrite new) s.table in
      let results : List (Bool × List ℕ) = set_results (holds cat s.table c i) (class cat c) (two v 0) (bad_in_set cat s c i v) in
      unless_refused_is (Good cat wf) s results (with_table (moved_by_set cat c t) s, 0 ∷ [])
      (λ r f. stays_good r (first_has (λ r. are_bytes r ≡ true) results (
        (λ y. small_result 5 (omega arith)),
        (
          (λ y. small_result 3 (omega arith)),
          (
            (λ y. bytes_append (9 ∷ bytes 2 (mask (unsupported k (asked v)))) (bytes 2 (mask (unwritable k (asked v))))
                (masked 9 (mask (unsupported k (asked v))) (omega arith)) (bytes_of_number 2 (mask (unwritable k (asked v))))),
            (
              (λ y. small_result 3 (omega arith)),
              (
                (λ y. bytes_cons 9 _ (omega arith) (bytes_cons 0 _ (omega arith) (masked 0 (mask (bad_in_set cat s c i v)) (omega arith)))),
                tt,
              ),
            ),
          ),
        ),
      ) r f))
      (λ none.
      let fine_bits = both (not-false none.1.1.0) in
      let w = set_carries_legal cat wf s h.its_table c i v long b fine_bits.0 fine_bits.1 (ltb_le 30 (total (size_of k) (asked v)) none.1.1.1.0) (not-false none.1.1.1.1.0) in
      let l : LegalLive cat wf t = set_legal cat wf s.table h.its_table c i new lt w in
      record {
        its_state = with_table_legal cat wf s (moved_by_set cat c t) h (moved_by_set_legal cat wf s.table h.its_table c t l)
            (λ d j y. moved_holds c t l d j (holds_change cat wf s.table h.its_table c i (overwrite new) d j y));
        its_contents = small_result 0 (omega arith);
      })

  pub get_good : (c i : ℕ) (v : List ℕ) → Good cat wf (get cat s c i v)
  unfolding get get_results
  get_good c i v = unless_refused_is (Good cat wf) s (get_results (holds cat s.table c i) (class cat c) (two v 0)) (s, 0 ∷ bytes 2 (two v 0) ++ values cat s.table c i (asked v))
      (λ r f. stays_good r (first_has (λ r. are_bytes r ≡ true) (get_results (holds cat s.table c i) (class cat c) (two v 0)) (
        (λ y. small_result 5 (omega arith)),
        (
          (λ y. small_result 3 (omega arith)),
          (
            (λ y. bytes_append (9 ∷ replicate 27 0) (bytes 2 (mask (unsupported (class cat c) (asked v)))) (bytes_cons 9 (replicate 27 0) (omega arith) (bytes_zeros 27))
                (bytes_of_number 2 (mask (unsupported (class cat c) (asked v))))),
            ((λ y. small_result 3 (omega arith)), tt),
          ),
        ),
      ) r f))
      (λ none. stays_good _ (bytes_append (0 ∷ bytes 2 (two v 0)) (values cat s.table c i (asked v)) (masked 0 (two v 0) (omega arith))
      (values_bytes cat wf (standing cat wf) s.table h.its_table c i (asked v))))

  pub reset_good : (c i : ℕ) → Good cat wf (reset cat s c i)
  unfolding reset reset_results was_reset
  reset_good c i =
      let t : Table = reset_table cat s.table in
      let l : LegalLive cat wf t = reset_legal cat wf s.table h.its_table in
      unless_refused_is (Good cat wf) s (reset_results cat s c i) (was_reset cat s, 0 ∷ [])
      (λ r f. stays_good r (first_has (λ r. are_bytes r ≡ true) (reset_results cat s c i) ((λ y. small_result 5 (omega arith)), tt) r f))
      (λ clear. record {
        its_state =
            let changed = with_alarms_legal cat wf s (with_counter cat 0 t) _ h (with_counter_legal cat wf 0 t (omega arith) l)
            (kept_legal cat (holds cat s.table) (holds cat (with_counter cat 0 t)) (stays cat) s.alarms
            (λ k p y. counter_holds t l 0 (class_of k) (number_of k) (holds_reset cat wf s.table h.its_table (class_of k) (number_of k) (not-true p) y))
            h.its_alarms) in
            with_upload_legal cat wf _ none (with_walk_legal cat wf _ none changed refl) refl;
        its_contents = small_result 0 (omega arith);
      })

  -- ---- walks

  if_ont_data_good : (c i : ℕ) (a : Answer) → Good cat wf a → Good cat wf (if_ont_data c i s a)
  unfolding if_ont_data
  if_ont_data_good c i a g = cases (eqb c ont_data and eqb i 0) (λ e. rw e g) (λ e. rw e (stays_good [] bytes_none))

  pub upload_good : (c i : ℕ) → Good cat wf (upload cat s c i)
  unfolding upload
  upload_good c i = if_ont_data_good c i _ (record {
    its_state = with_upload_legal cat wf s (some (frozen s.table)) h (close_table cat wf _ (frozen s.table) (frozen_legal cat wf s.table h.its_table));
    its_contents = bytes_of_number 2 (length (sections cat (frozen s.table)));
  })

  section_bytes : (t : Table) → legal_frozen cat t ≡ true → (p : Section) → are_bytes (section_contents cat t p) ≡ true
  unfolding section_contents
  section_bytes t l p = bytes_append (bytes 2 p.of_class ++ bytes 2 p.of_instance ++ bytes 2 (mask p.shows)) (values cat t p.of_class p.of_instance p.shows)
      (bytes_append (bytes 2 p.of_class ++ bytes 2 p.of_instance) (bytes 2 (mask p.shows))
      (bytes_append (bytes 2 p.of_class) (bytes 2 p.of_instance) (bytes_of_number 2 p.of_class) (bytes_of_number 2 p.of_instance))
      (bytes_of_number 2 (mask p.shows)))
      (values_bytes cat wf _ t (open_table cat wf _ t l) p.of_class p.of_instance p.shows)

  pub upload_next_good : (c i : ℕ) (v : List ℕ) → Good cat wf (upload_next cat s c i v)
  unfolding upload_next
  upload_next_good c i v = if_ont_data_good c i _ (stays_good _ (go s.upload h.its_upload))
    where
      shown : (t : Table) → legal_frozen cat t ≡ true → (o : Option Section) → are_bytes (given o [] (section_contents cat t)) ≡ true
      shown t l none = bytes_none
      shown t l (some p) = section_bytes t l p

      go : (o : Option Table) → given o true (legal_frozen cat) ≡ true
          → are_bytes (given o [] (λ t. given (nth (sections cat t) (two v 0)) [] (section_contents cat t))) ≡ true
      go none l = bytes_none
      go (some t) l = shown t l (nth (sections cat t) (two v 0))

  pub all_alarms_good : (c i : ℕ) → Good cat wf (all_alarms s c i)
  unfolding all_alarms
  all_alarms_good c i = if_ont_data_good c i _ (record {
    its_state = with_walk_legal cat wf _ (some s.alarms) (with_number_legal cat wf s 0 h (omega arith)) (walk_legal cat wf s.table h.its_table s.alarms h.its_alarms);
    its_contents = bytes_of_number 2 (length s.alarms);
  })

  pub alarms_next_good : (c i : ℕ) (v : List ℕ) → Good cat wf (alarms_next s c i v)
  unfolding alarms_next alarms_contents
  alarms_next_good c i v = if_ont_data_good c i _ (stays_good _ (go s.walk))
    where
      shown : (o : Option (ℕ × Alarms)) → are_bytes (given o [] (λ e. bytes 2 (class_of e.0) ++ bytes 2 (number_of e.0) ++ bitmap e.1)) ≡ true
      shown none = bytes_none
      shown (some e) = bytes_append (bytes 2 (class_of e.0) ++ bytes 2 (number_of e.0)) (bitmap e.1)
          (bytes_append (bytes 2 (class_of e.0)) (bytes 2 (number_of e.0)) (bytes_of_number 2 (class_of e.0)) (bytes_of_number 2 (number_of e.0)))
          (bytes_of_bits 28 e.1)

      go : (o : Option (Map Alarms)) → are_bytes (given o [] (λ w. given (nth w (two v 0)) [] (λ e. bytes 2 (class_of e.0) ++ bytes 2 (number_of e.0) ++ bitmap e.1))) ≡ true
      go none = bytes_none
      go (some w) = shown (nth w (two v 0))
