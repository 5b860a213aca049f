-- Each attribute that the first product's upload shows, the second's shows with the same content.
use Prim.Native.Nat.{ℕ}
use mathlib.Core.Path.{◌≡◌, refl}
use mathlib.Core.Bool.{Bool, true, not}
use mathlib.Core.Option.{some}
use mathlib.Core.List.{List, [], ◌∷◌}
use lib.Dec.{eqb}
use Rattle.rules.specs.Maps.{◌and◌, Map, find, keep}
use Rattle.rules.specs.Catalogue.{Catalogue, leader, key, ont_data}
use Rattle.rules.specs.State.{Table, State, class_of, entries}
use Rattle.rules.specs.Legal.{automatic_keys}
use Rattle.rules.specs.Walks.{if_ont_data, frozen, upload, upload_next}
use Rattle.rules.specs.WellFormed.{WellFormed}
use Rattle.rules.specs.Extends.{Extends}
use Rattle.rules.proofs.Laws.{cases, true_false, eqb_eq, find_some}
use Rattle.rules.proofs.MapLaws.{none_some, find_kept}
use Rattle.legality.proofs.Tables.{LegalTable, open_table}
use Rattle.legality.proofs.LegalStates.{LegalState}
use Rattle.extending.specs.Promise.{SameUpload, SameUploads}
use Rattle.extending.specs.Matched.{MatchedTable, MatchedState}
use Rattle.extending.proofs.Found.{both_there, known_too, class_extends, same_leader, frozen_apart, matched_entry}
use Rattle.extending.proofs.Sections.{Shown, stands_shown, shown_stands}
use Rattle.extending.proofs.Readings.{same_read_in}

-- ---- freezing

-- what a test of the keys keeps was there, and passes
kept_by_key : {A : Type 0} (p : ℕ → Bool) (k : ℕ) (a : A) (m : Map A) → find k (keep (λ j b. p j) m) ≡ some a → (find k m ≡ some a) × (p k ≡ true)
unfolding find keep
kept_by_key p k a [] h = none_some h
kept_by_key p k a (x ∷ m) h = cases (p x.0)
    (λ t. cases (eqb k x.0)
    (λ e. (rw e (rw (t, e) at h), rw (eqb_eq k x.0 e) t))
    (λ e. rw e (kept_by_key p k a m (rw (t, e) at h))))
    (λ t. let r = kept_by_key p k a m (rw t at h) in
    cases (eqb k x.0) (λ e. true_false r.1 (rw (eqb_eq k x.0 e) t)) (λ e. rw e r))

pub next_keeps : (cat : Catalogue) (s : State) (c i : ℕ) (v : List ℕ) → (upload_next cat s c i v).0 ≡ s
unfolding upload_next if_ont_data
next_keeps cat s c i v = cases (eqb c ont_data and eqb i 0) (λ e. rw e refl) (λ e. rw e refl)

-- ---- the two products

module _ (first second : Catalogue) (wf : WellFormed first) (wf' : WellFormed second) (ext : Extends first second) where
  pub frozen_match : (t u : Table) → MatchedTable first second t u → MatchedTable first second (frozen t) (frozen u)
  unfolding frozen
  frozen_match t u m = record {
    created_match = m.created_match;
    automatic_match = λ k e x.
        let y = kept_by_key (λ j. not (eqb (class_of j) ont_data)) k e t.automatic x in
        let f = m.automatic_match k e y.0 in
        (f.0, find_kept (λ j b. not (eqb (class_of j) ont_data)) k f.0 u.automatic f.1 y.1, f.2);
  }

  -- an upload that both products are asked for freezes tables that match
  pub upload_matched : (s z : State) → MatchedState first second s z → (c i : ℕ) → MatchedState first second (upload first s c i).0 (upload second z c i).0
  unfolding upload if_ont_data
  upload_matched s z m c i = cases (eqb c ont_data and eqb i 0)
      (λ e. rw e (record {
        tables = m.tables;
        untouched = m.untouched;
        same_alarms = m.same_alarms;
        same_alarm_number = m.same_alarm_number;
        memories = m.memories;
        uploads = frozen_match s.table z.table m.tables;
        same_walk = m.same_walk;
      }))
      (λ e. rw e m)

  -- the second's upload shows what the first's shows
  pub same_upload : (t u : Table) → MatchedTable first second t u
      → LegalTable second wf' (automatic_keys second) u → SameUpload first second t u
  same_upload t u m h' = record {
    stands_too = λ c i n y.
        let x : Shown first t c i n = stands_shown first wf t c i n y in
        let e = find_some (key (leader first c) i) (entries t) x.in_table in
        let f = matched_entry first second wf wf' ext t u m (frozen_apart first second wf wf' ext u h') (key (leader first c) i) e.0 e.1 in
        shown_stands second u c i n (record {
          is_known = known_too first second wf wf' ext c x.is_known;
          is_supported = ((class_extends first second wf wf' ext c x.is_known).attributes_kept n x.is_supported).0;
          small = x.small;
          in_table = rw (same_leader first second wf wf' ext c x.is_known, f.1) refl;
        });
    same_content = λ c i n y.
        let x : Shown first t c i n = stands_shown first wf t c i n y in
        let e = find_some (key (leader first c) i) (entries t) x.in_table in
        same_read_in first second wf wf' ext t u m (frozen_apart first second wf wf' ext u h') c i n e.0 x.is_known e.1 x.is_supported;
  }

  -- and so it is with the uploads that were asked for last
  pub same_uploads : (s z : State) → LegalState second wf' z → MatchedState first second s z → SameUploads first second s z
  same_uploads s z h' m t asked_for =
      let x = both_there (MatchedTable first second) z.upload (rw asked_for at m.uploads) in (
        x.0,
        x.1,
        same_upload t x.0 x.2 (open_table second wf' (automatic_keys second) x.0 (rw x.1 at h'.its_upload)),
      )
