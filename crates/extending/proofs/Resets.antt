-- A reset of two products that match leaves them so, and gives the same reply.
use Prim.Native.Nat.{ℕ}
use mathlib.Core.Path.{◌≡◌, refl, sym, ◌∙◌, ap}
use mathlib.Core.Bool.{true, false, cond}
use mathlib.Core.Option.{Option, none, some}
use mathlib.Core.List.{List, []}
use Rattle.rules.specs.Maps.{given, find, keep, each, among, first_that_applies}
use Rattle.rules.specs.Catalogue.{Catalogue, no_class, class, known, attribute, supported, leader, ont_data}
use Rattle.rules.specs.State.{Contents, Entry, Table, State, class_of, holds}
use Rattle.rules.specs.Messages.{reset_number, unless_refused}
use Rattle.rules.specs.Commands.{first_content, reset_contents, reset_table, stays, was_reset, reset_results, reset}
use Rattle.rules.specs.WellFormed.{WellFormed, never_W_and_L, reset_of_class_2_only}
use Rattle.rules.specs.Extends.{Extends}
use Rattle.rules.proofs.Laws.{cases, never, true_false, not-true, both, and_true, bool_eq, eqb_eq, find_each}
use Rattle.rules.proofs.Lookups.{implied, unknown_class, class_says, supported_known, attribute_says}
use Rattle.legality.proofs.Tables.{LegalLive}
use Rattle.legality.proofs.Contents.{content_each}
use Rattle.legality.proofs.Holds.{holds_known}
use Rattle.legality.proofs.LegalStates.{LegalState}
use Rattle.extending.specs.Matched.{BothMatch, MatchedContents, MatchedEntry, MatchedTable, Untouched, MatchedState}
use Rattle.extending.proofs.Found.{class_extends, same_leader, same_created, leader_known, held_too, automatic_held}
use Rattle.extending.proofs.SameAlarms.{same_alarms_kept}
use Rattle.extending.proofs.Changed.{found_each, counter_match, untouched_counter}

-- no other class has a reset
pub reset_of_others : (cat : Catalogue) → WellFormed cat → (c : ℕ) → among reset_number (class cat c).commands ≡ true → c ≡ ont_data
unfolding no_class among reset_of_class_2_only
reset_of_others cat wf c h = cases (known cat c)
    (λ kn. eqb_eq c ont_data (implied (class_says reset_of_class_2_only cat wf.reset_is_class_2_s c kn) h))
    (λ un. never (rw (unknown_class cat c un) at h))

-- what a reset makes of the content of one attribute
abbrev reset_one : Catalogue → ℕ → ℕ → List ℕ → List ℕ
reset_one cat c n v = cond (attribute (class cat c) n).W (first_content [] (attribute (class cat c) n).source) v

module _ (first second : Catalogue) (wf : WellFormed first) (wf' : WellFormed second) (ext : Extends first second) where
  -- ---- contents

  -- what neither a Set nor a report writes in contents of class c holds its first content
  abbrev UntouchedContents : ℕ → Contents → Type 0
  UntouchedContents c r = (n : ℕ) (v : List ℕ) → find n r ≡ some v → (attribute (class first c) n).W ≡ false → (attribute (class first c) n).L ≡ false
      → v ≡ first_content [] (attribute (class first c) n).source

  -- what is W in the second alone is not L in the first, so that the first holds what the second's reset writes
  same_reset_value : (c n : ℕ) (v : List ℕ) → supported (class first c) n ≡ true
      → ((attribute (class first c) n).W ≡ false → (attribute (class first c) n).L ≡ false → v ≡ first_content [] (attribute (class first c) n).source)
      → reset_one second c n v ≡ reset_one first c n v
  unfolding never_W_and_L
  same_reset_value c n v s old =
      let x = (class_extends first second wf wf' ext c (supported_known first c n s)).attributes_kept n s in
      cases (attribute (class first c) n).W
      (λ w. rw (w, x.1.W_grows w, x.1.same_source) refl)
      (λ w. cases (attribute (class second c) n).W
      (λ w'. rw (w, w', ← x.1.same_source) (sym (old w (cases (attribute (class first c) n).L
      (λ l. true_false (and_true w' (rw (← x.1.same_L) l)) (not-true (attribute_says never_W_and_L second wf'.not_W_and_L c n x.0)))
      (λ l. l)))))
      (λ w'. rw (w, w') refl))

  reset_contents_match : (c : ℕ) (r q : Contents) → UntouchedContents c r → MatchedContents (class first c) (class second c) r q
      → MatchedContents (class first c) (class second c) (reset_contents (class first c) r) (reset_contents (class second c) q)
  unfolding reset_contents
  reset_contents_match c r q old m = record {
    same_contents = λ n s. rw (find_each (reset_one second c) n q, find_each (reset_one first c) n r, m.same_contents n s) (go n s (find n r) refl);
    added_is_zero = λ n s fixed.
        let w : (attribute (class second c) n).W ≡ false = not-true (both (both fixed).1).0 in
        content_each (reset_one second c) n q (λ v. rw w refl) ∙ m.added_is_zero n s fixed;
  }
    where
      go : (n : ℕ) → supported (class first c) n ≡ true → (o : Option (List ℕ)) → find n r ≡ o
          → given o none (λ v. some (reset_one second c n v)) ≡ given o none (λ v. some (reset_one first c n v))
      go n s none e = refl
      go n s (some v) e = ap some (same_reset_value c n v s (old n v e))

  -- ---- entries and tables

  abbrev reset_entry : Catalogue → Entry → Entry
  reset_entry cat e = each (λ c r. reset_contents (class cat c) r) e

  reset_entry_match : (e f : Entry) → ((c : ℕ) (r : Contents) → find c e ≡ some r → UntouchedContents c r) → MatchedEntry first second e f
      → MatchedEntry first second (reset_entry first e) (reset_entry second f)
  reset_entry_match e f old m c kn =
      rw (find_each (λ c r. reset_contents (class first c) r) c e, find_each (λ c r. reset_contents (class second c) r) c f)
      (go (find c e) refl (find c f) (m c kn))
    where
      go : (o : Option Contents) → find c e ≡ o → (p : Option Contents) → BothMatch (MatchedContents (class first c) (class second c)) o p
          → BothMatch (MatchedContents (class first c) (class second c))
          (given o none (λ r. some (reset_contents (class first c) r))) (given p none (λ r. some (reset_contents (class second c) r)))
      go none x none y = tt
      go none x (some q) y = absurd y
      go (some r) x none y = absurd y
      go (some r) x (some q) y = reset_contents_match c r q (old c r x) y

  reset_tables_match : (t u : Table) → Untouched first second t → MatchedTable first second t u
      → MatchedTable first second (reset_table first t) (reset_table second u)
  unfolding reset_table
  reset_tables_match t u old m = record {
    created_match = tt;
    automatic_match = λ k e x. automatic_reset k e (found_each (λ k e. reset_entry first e) k t.automatic e x);
  }
    where
      automatic_reset : (k : ℕ) (e : Entry) → (a : Entry) × (find k t.automatic ≡ some a) × (reset_entry first a ≡ e)
          → (f : Entry) × (find k (each (λ k e. reset_entry second e) u.automatic) ≡ some f) × MatchedEntry first second e f
      automatic_reset k e a =
          let b = m.automatic_match k a.0 a.1 in (
            reset_entry second b.0,
            rw (find_each (λ k e. reset_entry second e) k u.automatic, b.1) refl,
            rw (← a.2) (reset_entry_match a.0 b.0 (λ c r y n v z. old k a.0 c r n v a.1 y z) b.2),
          )

  reset_untouched : (t : Table) → Untouched first second t → Untouched first second (reset_table first t)
  unfolding reset_table reset_contents
  reset_untouched t old k e c r n v x y z w l =
      let a = found_each (λ k e. reset_entry first e) k t.automatic e x in
      let b = found_each (λ c r. reset_contents (class first c) r) c a.0 r (rw a.2 y) in
      let d = found_each (reset_one first c) n b.0 v (rw b.2 z) in
      sym (rw w at d.2) ∙ old k a.0 c b.0 n d.0 a.1 b.1 d.1 w l

  -- ---- alarms

  -- the same alarms stay: the classes of their instances come about in the same way
  same_alarms_stay : (s : State) → LegalState first wf s → keep (λ j b. stays second j) s.alarms ≡ keep (λ j b. stays first j) s.alarms
  same_alarms_stay s h = same_alarms_kept first wf s h (stays first) (stays second) (λ j kn.
      rw (
        same_leader first second wf wf' ext (class_of j) kn,
        same_created first second wf wf' ext (leader first (class_of j)) (leader_known first second wf wf' ext (class_of j) kn),
      ) refl)

  -- ---- the command

  -- both have instance 0 of class 2 alone
  class_2_held_alike : (t u : Table) → LegalLive first wf t → LegalLive second wf' u → MatchedTable first second t u
      → (i : ℕ) → holds second u ont_data i ≡ holds first t ont_data i
  class_2_held_alike t u h h' m i = bool_eq (holds second u ont_data i) (holds first t ont_data i)
      (λ y. automatic_held first wf t h ont_data i (rw wf.class_2_has_instance_0_alone
      (rw wf'.class_2_has_instance_0_alone at (holds_known second wf' u h' ont_data i y).may_be)))
      (held_too first second wf wf' ext t u m h h' ont_data i)

  was_reset_matched : (s z : State) → LegalState first wf s → MatchedState first second s z
      → MatchedState first second (was_reset first s) (was_reset second z)
  unfolding was_reset
  was_reset_matched s z h m = record {
    tables = counter_match first second wf wf' ext 0 (reset_table first s.table) (reset_table second z.table)
        (reset_tables_match s.table z.table m.untouched m.tables);
    untouched = untouched_counter first second wf wf' ext 0 (reset_table first s.table) (reset_untouched s.table m.untouched);
    same_alarms = rw m.same_alarms (same_alarms_stay s h);
    same_alarm_number = m.same_alarm_number;
    memories = m.memories;
    uploads = tt;
    same_walk = refl;
  }

  pub reset_matched : (s z : State) → LegalState first wf s → LegalState second wf' z → MatchedState first second s z → (i : ℕ)
      → MatchedState first second (reset first s ont_data i).0 (reset second z ont_data i).0
      × ((reset second z ont_data i).1 ≡ (reset first s ont_data i).1)
  unfolding reset reset_results unless_refused first_that_applies
  reset_matched s z h h' m i = rw (class_2_held_alike s.table z.table h.its_table h'.its_table m.tables i)
      (cases (holds first s.table ont_data i)
      (λ e. rw e (was_reset_matched s z h m, refl))
      (λ e. rw e (m, refl)))
