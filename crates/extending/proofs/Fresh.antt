-- Two products that have just been turned on match.
use Prim.Native.Nat.{ℕ}
use mathlib.Core.Path.{◌≡◌, refl, sym, ◌∙◌, ap}
use mathlib.Core.Bool.{true, false}
use mathlib.Core.Option.{some}
use mathlib.Core.List.{List, [], ◌∷◌, map}
use lib.Dec.{eqb}
use Rattle.rules.specs.Maps.{find, among}
use Rattle.rules.specs.Catalogue.{Creation, created, automatic, comes_with, Catalogue, class, known, is_created, automatic_numbers, leader, key, ont_data}
use Rattle.rules.specs.State.{class_of, number_of}
use Rattle.rules.specs.Legal.{automatic_keys}
use Rattle.rules.specs.Commands.{new_contents, new_entry}
use Rattle.rules.specs.Run.{fresh_table, fresh}
use Rattle.rules.specs.WellFormed.{WellFormed}
use Rattle.rules.specs.Extends.{SameCreation, Extends}
use Rattle.rules.proofs.Laws.{cases, never, or_cases, or_left, or_right, true_false, not-true, both, eqb_eq, eqb_ne, eqb_true, all_among}
use Rattle.rules.proofs.MapLaws.{some_eq, none_some, among_past}
use Rattle.rules.proofs.Lookups.{known_class}
use Rattle.rules.proofs.Standing.{stands, automatic_keys_stand, standing, standing_not_created, automatic_among, key_back}
use Rattle.legality.proofs.NewContents.{C_is_created}
use Rattle.legality.proofs.ResetContents.{nothing_carried}
use Rattle.extending.specs.Matched.{MatchedEntry, MatchedTable, Untouched, MatchedState}
use Rattle.extending.proofs.NewEntries.{found_start, find_in_new, in_new, new_entries_match}
use Rattle.extending.proofs.Found.{known_too, class_extends}

-- ---- a table that has an entry for each number of a list

module _ {A : Type 0} (f : ℕ → A) (k : ℕ) where
  find_in_map : (l : List ℕ) → among k l ≡ true → find k (map (λ j. (j, f j)) l) ≡ some (f k)
  unfolding find among
  find_in_map [] h = never h
  find_in_map (x ∷ l) h = cases (eqb k x)
      (λ t. rw t (ap (λ (j : ℕ). some (f j)) (sym (eqb_eq k x t))))
      (λ t. rw t (find_in_map l (among_past k x l h (eqb_ne k x t))))

  found_in_map : (l : List ℕ) (a : A) → find k (map (λ j. (j, f j)) l) ≡ some a → (among k l ≡ true) × (f k ≡ a)
  unfolding find among
  found_in_map [] a h = none_some h
  found_in_map (x ∷ l) a h = cases (eqb k x)
      (λ t. let z : k ≡ x = eqb_eq k x t in let y : f x ≡ a = some_eq (rw t at h) in (or_left (among k l) t, ap f z ∙ y))
      (λ t. let g = found_in_map l a (rw t at h) in (or_right (eqb k x) g.0, g.1))

-- ---- instances that are there by themselves

pub listed_too : (i : ℕ) (a b : Creation) → SameCreation a b → among i (automatic_numbers a) ≡ true → among i (automatic_numbers b) ≡ true
unfolding among
listed_too i created b x h = never h
listed_too i (automatic l) created x h = absurd x
listed_too i (automatic l) (automatic m) x h = all_among (λ j. among j m) l x i h
listed_too i (automatic l) (comes_with e) x h = absurd x
listed_too i (comes_with d) b x h = never h

module _ (first second : Catalogue) (wf : WellFormed first) (wf' : WellFormed second) (ext : Extends first second) where
  -- what the first has by itself, the second has too
  stands_too : (k : ℕ) → among k (standing first wf) ≡ true → among k (standing second wf') ≡ true
  unfolding among
  stands_too k h = or_cases h
      (λ e. or_left (among k (automatic_keys second)) e)
      (λ e.
      let c : ℕ = class_of k in
      let i : ℕ = number_of k in
      let s = both (all_among (stands first) (automatic_keys first) (automatic_keys_stand first wf) k e) in
      let q = both s.1 in
      let kn : known second c ≡ true = known_too first second wf wf' ext c s.0 in
      let l : among i (automatic_numbers (class second c).creation) ≡ true =
      listed_too i (class first c).creation (class second c).creation (class_extends first second wf wf' ext c s.0).same_creation q.1 in
      or_right (eqb k (key ont_data 0)) (rw (key_back k) at
      (automatic_among second c i (class second c) (known_class second c kn) (eqb_ne c ont_data (not-true q.0)) l)))

  -- an automatic class has nothing that a Create carries
  automatic_entries_match : (k : ℕ) → among k (standing first wf) ≡ true
      → MatchedEntry first second (new_entry first (class_of k) []) (new_entry second (class_of k) [])
  automatic_entries_match k h = new_entries_match first second wf wf' ext (class_of k) [] [] (λ m s. refl)
      (λ n s e. true_false (C_is_created second wf' (class_of k) n e) (standing_not_created second wf' k (stands_too k h)))

  -- ---- power-on

  fresh_tables : MatchedTable first second (fresh_table first) (fresh_table second)
  unfolding fresh_table
  fresh_tables = record {
    created_match = tt;
    automatic_match = λ k e x.
        let g = found_in_map (λ k. new_entry first (class_of k) []) k (standing first wf) e x in (
          new_entry second (class_of k) [],
          find_in_map (λ k. new_entry second (class_of k) []) k (standing second wf') (stands_too k g.0),
          rw (← g.1) (automatic_entries_match k g.0),
        );
  }

  fresh_untouched : Untouched first second (fresh_table first)
  unfolding fresh_table
  fresh_untouched k e c r n v x y z w l =
      let g = found_in_map (λ k. new_entry first (class_of k) []) k (standing first wf) e x in
      let y' : find c (new_entry first (class_of k) []) ≡ some r = rw g.1 y in
      let f = in_new first wf (class_of k) c [] r y' in
      let stay : is_created (class first (leader first c)).creation ≡ false = rw f.1 (standing_not_created first wf k g.0) in
      let new : new_contents [] (class first c) ≡ r =
      some_eq (rw (find_in_new first wf c f.0 (class_of k) [], eqb_true (leader first c) (class_of k) f.1) at y') in
      sym (rw (nothing_carried first wf c stay n) at (found_start first wf c f.0 [] n v (rw new z)))

  pub fresh_matched : MatchedState first second (fresh first) (fresh second)
  unfolding fresh
  fresh_matched = record {
    tables = fresh_tables;
    untouched = fresh_untouched;
    same_alarms = refl;
    same_alarm_number = refl;
    memories = tt;
    uploads = tt;
    same_walk = refl;
  }
