-- A Create that the first product answers with 0, 1 or 7, the second answers in the same way, and they still match.
use Prim.Native.Nat.{ℕ, ◌<◌}
use mathlib.Core.Path.{◌≡◌, refl, ◌∙◌}
use mathlib.Core.Bool.{true, false}
use mathlib.Core.List.{List, [], ◌∷◌}
use lib.ListN.{length}
use lib.Dec.{eqb, ltb, leb}
use Rattle.rules.specs.Maps.{◌or◌, Map, put, among, empty, first_that_applies}
use Rattle.rules.specs.Bytes.{byte, bytes, are_bytes}
use Rattle.rules.specs.Masks.{mask}
use Rattle.rules.specs.Catalogue.{Catalogue, class, known, is_created, key}
use Rattle.rules.specs.State.{Entry, Table, State, class_of, holds, content, with_table}
use Rattle.rules.specs.Messages.{done, no_place, bad_parameter, instance_exists, unless_refused}
use Rattle.rules.specs.Commands.{new_entry, carried_by, bad_in_create, create_results, with_created, create, move_counter}
use Rattle.rules.specs.WellFormed.{WellFormed}
use Rattle.rules.specs.Extends.{Extends}
use Rattle.rules.proofs.Laws.{cases, never, leb_lt}
use Rattle.rules.proofs.Standing.{key_class}
use Rattle.legality.proofs.Tables.{LegalEntry, LegalLive, new_entry_legal, create_legal}
use Rattle.legality.proofs.Carried.{create_carries_legal}
use Rattle.legality.proofs.LegalStates.{LegalState}
use Rattle.extending.specs.Promise.{is_0_1_or_7}
use Rattle.extending.specs.Matched.{MatchedEntry, MatchedRows, MatchedTable, MatchedState}
use Rattle.extending.proofs.Found.{same_created, same_row_count, held_too, not_held_either}
use Rattle.extending.proofs.Changed.{moved_match, untouched_moved, with_tables_match}
use Rattle.extending.proofs.NewEntries.{new_entries_match}
use Rattle.extending.proofs.Carried.{MatchedCarried}
use Rattle.extending.proofs.AcceptedCreates.{accepted_match, accepted_too}

-- ---- how a Create is answered

module _ (cat : Catalogue) (s : State) (c i : ℕ) (v : List ℕ) where
  -- the table with the new entry, before the counter moves
  abbrev with_new : Table
  with_new = with_created (put (key c i) (new_entry cat c (carried_by (class cat c) v)) s.table.created) s.table

  already_there : holds cat s.table c i ≡ true → create cat s c i v ≡ (s, instance_exists ∷ [])
  unfolding create create_results unless_refused first_that_applies
  already_there held = rw held refl

  module _ (new : holds cat s.table c i ≡ false) where
    something_bad : empty (bad_in_create cat s c v) ≡ false → create cat s c i v ≡ (s, bad_parameter ∷ bytes 2 (mask (bad_in_create cat s c v)))
    unfolding create create_results unless_refused first_that_applies
    something_bad bad = rw (new, bad) refl

    module _ (good : empty (bad_in_create cat s c v) ≡ true) where
      no_room : leb cat.places (length s.table.created) ≡ true → create cat s c i v ≡ (s, no_place ∷ [])
      unfolding create create_results unless_refused first_that_applies
      no_room full = rw (new, good, full) refl

      accepted : leb cat.places (length s.table.created) ≡ false → create cat s c i v ≡ (with_table (move_counter cat with_new) s, done ∷ [])
      unfolding create create_results unless_refused first_that_applies
      accepted room = rw (new, good, room) refl

  with_new_legal : (wf : WellFormed cat) → LegalLive cat wf s.table → is_created (class cat c).creation ≡ true → i < 65536
      → length v ≡ 32 → are_bytes v ≡ true → empty (bad_in_create cat s c v) ≡ true
      → leb cat.places (length s.table.created) ≡ false → LegalLive cat wf with_new
  with_new_legal wf h cr lt long b good room =
      let e : Entry = new_entry cat c (carried_by (class cat c) v) in
      let its_class : class_of (key c i) ≡ c = key_class c i lt in
      let le : LegalEntry cat (key c i) e =
      rw its_class at (new_entry_legal cat wf (key c i) (carried_by (class cat c) v) (rw its_class (create_carries_legal cat wf s h c v long b good))) in
      create_legal cat wf (key c i) e s.table (rw its_class cr) (leb_lt cat.places (length s.table.created) room) le h

-- ---- rows with an entry put in

put_rows : (first second : Catalogue) (k : ℕ) (e f : Entry) → MatchedEntry first second e f → (m n : Map Entry) → MatchedRows first second m n
    → MatchedRows first second (put k e m) (put k f n)
unfolding put
put_rows first second k e f x [] [] r = (refl, x, tt)
put_rows first second k e f x [] (b ∷ n) r = absurd r
put_rows first second k e f x (a ∷ m) [] r = absurd r
put_rows first second k e f x (a ∷ m) (b ∷ n) r = rw r.0 (cases (ltb k a.0)
    (λ t. rw t (refl, x, (refl, r.1, r.2)))
    (λ t. cases (eqb k a.0)
    (λ u. rw (t, u) (refl, x, r.2))
    (λ u. rw (t, u) (refl, r.1, put_rows first second k e f x m n r.2))))

-- ---- in both products

module _ (first second : Catalogue) (wf : WellFormed first) (wf' : WellFormed second) (ext : Extends first second) (s z : State)
    (h : LegalState first wf s) (h' : LegalState second wf' z) (m : MatchedState first second s z)
    (c i : ℕ) (v : List ℕ) (cr : is_created (class first c).creation ≡ true) (kn : known first c ≡ true)
    (lt : i < 65536) (long : length v ≡ 32) (b : are_bytes v ≡ true) where
  -- equally many places, of which equally many are taken
  same_room : leb second.places (length z.table.created) ≡ leb first.places (length s.table.created)
  same_room = rw (← ext.same_places, same_row_count first second wf wf' ext s.table.created z.table.created m.tables.created_match) refl

  module _ (good : empty (bad_in_create first s c v) ≡ true) where
    good_too : empty (bad_in_create second z c v) ≡ true
    good_too = accepted_too first second wf wf' ext s z h.its_table h'.its_table m.tables c kn v long b good

    -- the same key in both, and an entry that matches
    new_tables_match : MatchedTable first second (with_new first s c i v) (with_new second z c i v)
    unfolding with_created content
    new_tables_match =
        let carried : MatchedCarried (class first c) (class second c) (carried_by (class first c) v) (carried_by (class second c) v) =
        accepted_match first second wf wf' ext s z h.its_table h'.its_table m.tables c kn v long b good in
        record {
          created_match = put_rows first second (key c i) _ _
              (new_entries_match first second wf wf' ext c (carried_by (class first c) v) (carried_by (class second c) v)
              (λ n sup. rw (carried.same_carried n sup) refl) (λ n absent y. rw (carried.added_carried_zero n absent y) refl))
              s.table.created z.table.created m.tables.created_match;
          automatic_match = m.tables.automatic_match;
        }

    accepted_matched : leb first.places (length s.table.created) ≡ false
        → MatchedState first second (with_table (move_counter first (with_new first s c i v)) s) (with_table (move_counter second (with_new second z c i v)) z)
    accepted_matched room = with_tables_match first second wf wf' ext s z m (move_counter first (with_new first s c i v)) (move_counter second (with_new second z c i v))
        (moved_match first second wf wf' ext (with_new first s c i v) (with_new second z c i v)
        (with_new_legal first s c i v wf h.its_table cr lt long b good room)
        (with_new_legal second z c i v wf' h'.its_table (rw (same_created first second wf wf' ext c kn) cr) lt long b good_too (rw same_room room))
        new_tables_match)
        (untouched_moved first second wf wf' ext (with_new first s c i v) (unfold with_created in m.untouched))

    -- with nothing bad in it, both have a place for it or neither has
    good_matched : holds first s.table c i ≡ false → holds second z.table c i ≡ false
        → MatchedState first second (create first s c i v).0 (create second z c i v).0 × ((create second z c i v).1 ≡ (create first s c i v).1)
    good_matched new new' = cases (leb first.places (length s.table.created))
        (λ full. rw (no_room first s c i v new good full, no_room second z c i v new' good_too (same_room ∙ full)) (m, refl))
        (λ room. rw (accepted first s c i v new good room, accepted second z c i v new' good_too (same_room ∙ room)) (accepted_matched room, refl))

  -- Of the results, 7 is held in both, 0 and 1 come where nothing is bad in either, and 3 is none of those that were assumed.
  pub create_matched : is_0_1_or_7 (byte (create first s c i v).1 0) ≡ true
      → MatchedState first second (create first s c i v).0 (create second z c i v).0 × ((create second z c i v).1 ≡ (create first s c i v).1)
  unfolding among ◌or◌
  create_matched settled = cases (holds first s.table c i)
      (λ held. rw (
        already_there first s c i v held,
        already_there second z c i v (held_too first second wf wf' ext s.table z.table m.tables h.its_table h'.its_table c i held),
      ) (m, refl))
      (λ new. cases (empty (bad_in_create first s c v))
      (λ good. good_matched good new (not_held_either first second wf wf' ext s.table z.table m.tables h.its_table h'.its_table c i cr lt new))
      (λ bad. never (rw (something_bad first s c i v new bad) at settled)))
