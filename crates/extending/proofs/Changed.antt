-- Tables that match still do after the same change of one instance that both have; and what was untouched stays so.
use Prim.Native.Nat.{ℕ}
use mathlib.Core.Path.{◌≡◌, refl, ◌∙◌, ap}
use mathlib.Core.Bool.{true, false, cond}
use mathlib.Core.Option.{Option, none, some}
use mathlib.Core.List.{List, [], ◌∷◌}
use lib.Dec.{eqb}
use Rattle.rules.specs.Maps.{◌or◌, Map, given, find, each, at_key}
use Rattle.rules.specs.Catalogue.{Class, Catalogue, class, known, attribute, supported, leader, key, ont_data}
use Rattle.rules.specs.State.{Contents, Entry, Table, State, contents, content, counter, overwrite, change, with_counter, with_table}
use Rattle.rules.specs.Messages.{next_number}
use Rattle.rules.specs.Commands.{move_counter}
use Rattle.rules.specs.WellFormed.{WellFormed}
use Rattle.rules.specs.Extends.{Extends}
use Rattle.rules.proofs.Laws.{cases, true_false, or_left, none_or, eqb_eq, among_here, find_each}
use Rattle.rules.proofs.MapLaws.{some_eq, none_some}
use Rattle.rules.proofs.Lookups.{W_supported}
use Rattle.rules.proofs.Standing.{class_2_known}
use Rattle.legality.proofs.Tables.{LegalLive}
use Rattle.legality.proofs.Contents.{content_each}
use Rattle.extending.specs.Matched.{BothMatch, MatchedContents, MatchedEntry, MatchedRows, MatchedTable, Untouched, MatchedState}
use Rattle.extending.proofs.Found.{same_leader, live_apart, matched_instance, automatic_held}

-- what is found after a change of each entry was there before it
pub found_each : {A : Type 0} (f : ℕ → A → A) (k : ℕ) (m : Map A) (b : A) → find k (each f m) ≡ some b → (a : A) × (find k m ≡ some a) × (f k a ≡ b)
found_each {A} f k m b x = go (find k m) refl (rw (find_each f k m) at x)
  where
    go : (o : Option A) → find k m ≡ o → given o none (λ a. some (f k a)) ≡ some b → (a : A) × (find k m ≡ some a) × (f k a ≡ b)
    go none e y = none_some y
    go (some a) e y = (a, e, some_eq y)

-- ---- contents

-- what the first has is overwritten in both
pub overwritten_match : (k l : Class) (new r q : Contents) → ((n : ℕ) (v : List ℕ) → find n new ≡ some v → supported k n ≡ true)
    → MatchedContents k l r q → MatchedContents k l (overwrite new r) (overwrite new q)
unfolding overwrite
overwritten_match k l new r q named m = record {
  same_contents = λ n sup. rw (find_each put n q, find_each put n r, m.same_contents n sup) refl;
  added_is_zero = λ n sup fixed. content_each put n q (λ v. kept n v sup (find n new) refl) ∙ m.added_is_zero n sup fixed;
}
  where
    put : ℕ → List ℕ → List ℕ
    put n v = given (find n new) v (λ w. w)

    kept : (n : ℕ) (v : List ℕ) → supported k n ≡ false → (o : Option (List ℕ)) → find n new ≡ o → given o v (λ w. w) ≡ v
    kept n v sup none e = refl
    kept n v sup (some w) e = true_false (named n w e) sup

module _ (first second : Catalogue) (wf : WellFormed first) (wf' : WellFormed second) (ext : Extends first second) where
  -- two changes of contents of class c that keep them matched
  abbrev pub KeepMatched : ℕ → (Contents → Contents) → (Contents → Contents) → Type 0
  KeepMatched c f g = (r q : Contents) → MatchedContents (class first c) (class second c) r q → MatchedContents (class first c) (class second c) (f r) (g q)

  -- ---- an entry, and rows of them

  entry_changed : (c : ℕ) (f g : Contents → Contents) → KeepMatched c f g → (e x : Entry) → MatchedEntry first second e x
      → MatchedEntry first second (at_key c f e) (at_key c g x)
  entry_changed c f g step e x m d kn =
      rw (find_each (λ j a. cond (eqb j c) (f a) a) d e, find_each (λ j a. cond (eqb j c) (g a) a) d x) (go (find d e) (find d x) (m d kn))
    where
      go : (o p : Option Contents) → BothMatch (MatchedContents (class first d) (class second d)) o p
          → BothMatch (MatchedContents (class first d) (class second d))
          (given o none (λ a. some (cond (eqb d c) (f a) a))) (given p none (λ a. some (cond (eqb d c) (g a) a)))
      go none none y = tt
      go none (some b) y = absurd y
      go (some a) none y = absurd y
      go (some a) (some b) y = cases (eqb d c)
          (λ t. let z : d ≡ c = eqb_eq d c t in rw (t, z) (step a b (rw z at y)))
          (λ t. rw t y)

  rows_changed : (k c : ℕ) (f g : Contents → Contents) → KeepMatched c f g → (m n : Map Entry) → MatchedRows first second m n
      → MatchedRows first second (at_key k (at_key c f) m) (at_key k (at_key c g) n)
  unfolding each
  rows_changed k c f g step [] [] r = tt
  rows_changed k c f g step [] (b ∷ n) r = absurd r
  rows_changed k c f g step (a ∷ m) [] r = absurd r
  rows_changed k c f g step (a ∷ m) (b ∷ n) r = (
    r.0,
    rw r.0 (cases (eqb a.0 k) (λ t. rw t (entry_changed c f g step a.1 b.1 r.1)) (λ t. rw t r.1)),
    rows_changed k c f g step m n r.2,
  )

  -- ---- tables

  -- an instance of a class that both have, changed in each
  pub changed_match : (c i : ℕ) → known first c ≡ true → (f g : Contents → Contents) → KeepMatched c f g
      → (t u : Table) → MatchedTable first second t u → MatchedTable first second (change first c i f t) (change second c i g u)
  unfolding change
  changed_match c i kn f g step t u m = rw (same_leader first second wf wf' ext c kn) (record {
    created_match = rows_changed (key (leader first c) i) c f g step t.created u.created m.created_match;
    automatic_match = λ k e x. automatic_changed k e (found_each (at f) k t.automatic e x);
  })
    where
      at : (Contents → Contents) → ℕ → Entry → Entry
      at h j a = cond (eqb j (key (leader first c) i)) (at_key c h a) a

      automatic_changed : (k : ℕ) (e : Entry) → (a : Entry) × (find k t.automatic ≡ some a) × (at f k a ≡ e)
          → (x : Entry) × (find k (each (at g) u.automatic) ≡ some x) × MatchedEntry first second e x
      automatic_changed k e y =
          let a : Entry = y.0 in
          let b = m.automatic_match k a y.1 in (
            at g k b.0,
            rw (find_each (at g) k u.automatic, b.1) refl,
            rw (← y.2) (cases (eqb k (key (leader first c) i)) (λ h. rw h (entry_changed c f g step a b.0 b.2)) (λ h. rw h b.2)),
          )

  -- ---- the counter

  -- the ONT data's contents match
  ont_data_match : (t u : Table) → LegalLive first wf t → LegalLive second wf' u → MatchedTable first second t u
      → MatchedContents (class first ont_data) (class second ont_data) (contents first t ont_data 0) (contents second u ont_data 0)
  ont_data_match t u h h' m = (matched_instance first second wf wf' ext t u m (live_apart first second wf wf' ext u h') ont_data 0 (class_2_known first wf)
      (automatic_held first wf t h ont_data 0 (rw wf.class_2_has_instance_0_alone (among_here 0 [])))).1

  pub same_counter : (t u : Table) → LegalLive first wf t → LegalLive second wf' u → MatchedTable first second t u → counter second u ≡ counter first t
  unfolding counter content
  same_counter t u h h' m =
      rw ((ont_data_match t u h h' m).same_contents 1 (W_supported (class first ont_data) 1 wf.class_2_has_the_counter.is_W)) refl

  -- what a new counter overwrites can be written
  counter_written : (x n : ℕ) (v : List ℕ) → find n ((1, x ∷ []) ∷ []) ≡ some v → (attribute (class first ont_data) n).W ≡ true
  unfolding find
  counter_written x n v e = cases (eqb n 1)
      (λ t. rw (eqb_eq n 1 t) wf.class_2_has_the_counter.is_W)
      (λ t. none_some (rw t at e))

  -- both counters set to the same number
  pub counter_match : (x : ℕ) (t u : Table) → MatchedTable first second t u → MatchedTable first second (with_counter first x t) (with_counter second x u)
  unfolding with_counter
  counter_match x t u m =
      let new : Contents = (1, x ∷ []) ∷ [] in
      changed_match ont_data 0 (class_2_known first wf) (overwrite new) (overwrite new)
      (λ r q y. overwritten_match (class first ont_data) (class second ont_data) new r q
      (λ n v e. W_supported (class first ont_data) n (counter_written x n v e)) y) t u m

  pub moved_match : (t u : Table) → LegalLive first wf t → LegalLive second wf' u → MatchedTable first second t u
      → MatchedTable first second (move_counter first t) (move_counter second u)
  moved_match t u h h' m = rw (same_counter t u h h' m) (counter_match (next_number (counter first t)) t u m)

  -- ---- what the first's Sets and reports don't write

  pub untouched_changed : (c i : ℕ) (new : Contents)
      → ((n : ℕ) (v : List ℕ) → find n new ≡ some v → ((attribute (class first c) n).W or (attribute (class first c) n).L) ≡ true)
      → (t : Table) → Untouched first second t → Untouched first second (change first c i (overwrite new) t)
  unfolding change overwrite
  untouched_changed c i new written t old k e d r n v x y z w l =
      let a = found_each (λ j a. cond (eqb j (key (leader first c) i)) (at_key c (overwrite new) a) a) k t.automatic e x in
      let b = class_before a.0 a.2 in
      old k a.0 d b.0 n v a.1 b.1 b.2 w l
    where
      value_before : (q : Contents) → find n (overwrite new q) ≡ some v → d ≡ c → find n q ≡ some v
      value_before q g here = let b = found_each (λ m u. given (find m new) u (λ w. w)) n q v g in
          b.1 ∙ ap some (kept b.0 (find n new) refl b.2)
        where
          kept : (a : List ℕ) (o : Option (List ℕ)) → find n new ≡ o → given o a (λ b. b) ≡ v → a ≡ v
          kept a none g h = h
          kept a (some b) g h =
              let u : ((attribute (class first d) n).W or (attribute (class first d) n).L) ≡ true = rw here (written n b g) in
              true_false u (none_or w l)

      class_before : (f : Entry) → cond (eqb k (key (leader first c) i)) (at_key c (overwrite new) f) f ≡ e
          → (q : Contents) × (find d f ≡ some q) × (find n q ≡ some v)
      class_before f g = cases (eqb k (key (leader first c) i))
          (λ h. let b = found_each (λ j q. cond (eqb j c) (overwrite new q) q) d f r (rw (rw h at g) y) in (
            b.0,
            b.1,
            cases (eqb d c)
                (λ s. value_before b.0 (rw (rw s at b.2) z) (eqb_eq d c s))
                (λ s. rw (rw s at b.2) z),
          ))
          (λ h. (r, rw (rw h at g) y, z))

  pub untouched_counter : (x : ℕ) (t : Table) → Untouched first second t → Untouched first second (with_counter first x t)
  unfolding with_counter
  untouched_counter x t old = untouched_changed ont_data 0 ((1, x ∷ []) ∷ [])
      (λ n v e. or_left (attribute (class first ont_data) n).L (counter_written x n v e)) t old

  pub untouched_moved : (t : Table) → Untouched first second t → Untouched first second (move_counter first t)
  untouched_moved t old = untouched_counter (next_number (counter first t)) t old

  -- ---- states with other tables

  pub with_tables_match : (s z : State) → MatchedState first second s z → (t u : Table) → MatchedTable first second t u → Untouched first second t
      → MatchedState first second (with_table t s) (with_table u z)
  with_tables_match s z m t u match old = record {
    tables = match;
    untouched = old;
    same_alarms = m.same_alarms;
    same_alarm_number = m.same_alarm_number;
    memories = m.memories;
    uploads = m.uploads;
    same_walk = m.same_walk;
  }
