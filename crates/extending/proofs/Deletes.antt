-- A Delete that the first product accepts, the second accepts too, and leaves a state that matches.
use Prim.Native.Nat.{ℕ}
use mathlib.Core.Path.{◌≡◌, refl, ◌∙◌, ap}
use mathlib.Core.Bool.{true, not}
use mathlib.Core.List.{[], ◌∷◌}
use lib.Dec.{eqb}
use Rattle.rules.specs.Maps.{◌or◌, Map, keep, remove, among}
use Rattle.rules.specs.Bytes.{byte}
use Rattle.rules.specs.Catalogue.{Catalogue, known, key}
use Rattle.rules.specs.State.{Entry, Table, State, class_of}
use Rattle.rules.specs.Messages.{done}
use Rattle.rules.specs.Commands.{with_created, goes_with, without, delete_results, delete}
use Rattle.rules.specs.WellFormed.{WellFormed}
use Rattle.rules.specs.Extends.{Extends}
use Rattle.rules.proofs.Laws.{cases, not-false}
use Rattle.legality.proofs.Tables.{delete_legal}
use Rattle.legality.proofs.LegalStates.{LegalState}
use Rattle.legality.proofs.Refusals.{NoneApplies}
use Rattle.extending.specs.Promise.{is_0_1_or_7}
use Rattle.extending.specs.Matched.{MatchedRows, MatchedTable, MatchedState}
use Rattle.extending.proofs.Found.{same_leader, held_too}
use Rattle.extending.proofs.Accepted.{none_applied, accepted_is}
use Rattle.extending.proofs.Changed.{moved_match, untouched_moved}
use Rattle.extending.proofs.SameAlarms.{same_alarms_kept}

-- ---- a Delete that isn't refused

-- no refusal of a Delete has the result 0, 1 or 7
delete_clear : (cat : Catalogue) (s : State) (c i : ℕ) → is_0_1_or_7 (byte (delete cat s c i).1 0) ≡ true → NoneApplies (delete_results cat s c i)
unfolding delete delete_results among ◌or◌
delete_clear cat s c i = none_applied s (delete_results cat s c i) _ ((λ t. refl), tt)

delete_is : (cat : Catalogue) (s : State) (c i : ℕ) → NoneApplies (delete_results cat s c i) → delete cat s c i ≡ (without cat c i s, done ∷ [])
unfolding delete
delete_is cat s c i clear = accepted_is s (delete_results cat s c i) _ clear

module _ (first second : Catalogue) (wf : WellFormed first) (wf' : WellFormed second) (ext : Extends first second) where
  -- ---- created instances

  rows_without : (k : ℕ) (m n : Map Entry) → MatchedRows first second m n → MatchedRows first second (remove k m) (remove k n)
  unfolding keep
  rows_without k [] [] r = tt
  rows_without k [] (b ∷ n) r = absurd r
  rows_without k (a ∷ m) [] r = absurd r
  rows_without k (a ∷ m) (b ∷ n) r = rw r.0 (cases (eqb a.0 k)
      (λ t. rw t (rows_without k m n r.2))
      (λ t. rw t (refl, r.1, rows_without k m n r.2)))

  -- ---- alarms

  -- of instances that the first holds, the same go with a deleted one
  same_goes : (c i j : ℕ) → known first (class_of j) ≡ true → goes_with second c i j ≡ goes_with first c i j
  unfolding goes_with
  same_goes c i j kn = rw (same_leader first second wf wf' ext (class_of j) kn) refl

  -- ---- Delete

  without_match : (s z : State) → LegalState first wf s → LegalState second wf' z → MatchedState first second s z → (c i : ℕ)
      → MatchedState first second (without first c i s) (without second c i z)
  unfolding without with_created
  without_match s z h h' m c i =
      let k : ℕ = key c i in
      let t : Table = with_created (remove k s.table.created) s.table in
      let u : Table = with_created (remove k z.table.created) z.table in
      let match : MatchedTable first second t u = record {
        created_match = rows_without k s.table.created z.table.created m.tables.created_match;
        automatic_match = m.tables.automatic_match;
      } in
      record {
        tables = moved_match first second wf wf' ext t u
            (delete_legal first wf k s.table h.its_table) (delete_legal second wf' k z.table h'.its_table) match;
        untouched = untouched_moved first second wf wf' ext t m.untouched;
        same_alarms = ap (keep (λ j b. not (goes_with second c i j))) m.same_alarms
            ∙ same_alarms_kept first wf s h (λ j. not (goes_with first c i j)) (λ j. not (goes_with second c i j)) (λ j kn. ap not (same_goes c i j kn));
        same_alarm_number = m.same_alarm_number;
        memories = m.memories;
        uploads = m.uploads;
        same_walk = m.same_walk;
      }

  pub delete_matched : (s z : State) → LegalState first wf s → LegalState second wf' z → MatchedState first second s z
      → (c i : ℕ) → is_0_1_or_7 (byte (delete first s c i).1 0) ≡ true
      → MatchedState first second (delete first s c i).0 (delete second z c i).0 × ((delete second z c i).1 ≡ (delete first s c i).1)
  delete_matched s z h h' m c i settled =
      let clear = delete_clear first s c i settled in
      rw (delete_is first s c i clear, delete_is second z c i (clear_too clear)) (without_match s z h h' m c i, refl)
    where
      clear_too : NoneApplies (delete_results first s c i) → NoneApplies (delete_results second z c i)
      clear_too clear = unfold delete_results in
          (rw (held_too first second wf wf' ext s.table z.table m.tables h.its_table h'.its_table c i (not-false clear.0)) refl, tt)
