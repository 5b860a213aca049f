-- What both products have: classes that come about in the same way, and instances that stand in matched tables.
use Prim.Native.Nat.{ℕ, ◌<◌}
use mathlib.Core.Path.{◌≡◌, refl, sym, ap, subst, ◌∙◌}
use mathlib.Core.Bool.{true, false}
use mathlib.Core.Option.{Option, none, some}
use mathlib.Core.List.{[], ◌∷◌}
use lib.ListN.{length}
use lib.Dec.{eqb, ltb}
use Rattle.rules.specs.Maps.{Map, find, has, keys, among}
use Rattle.rules.specs.Catalogue.{Creation, created, automatic, comes_with, Catalogue, no_class, class, known, is_created, automatic_numbers, lead, leader, key, ont_data}
use Rattle.rules.specs.State.{Entry, Table, class_of, entries, entry, holds, contents}
use Rattle.rules.specs.Legal.{automatic_keys, there_or_gone}
use Rattle.rules.specs.WellFormed.{WellFormed, leader_is_created, comes_with_a_created_one, automatic_numbers_rise}
use Rattle.rules.specs.Extends.{SameCreation, ClassExtends, Extends}
use Rattle.rules.proofs.Laws.{cases, never, or_cases, true_false, both, ltb_lt, eqb_ne, among_here, all_among, eqb_eq, has_among, every_find, find_some}
use Rattle.rules.proofs.MapLaws.{some_eq, none_some, among_back}
use Rattle.rules.proofs.Lookups.{unknown_class, known_class, class_says, created_known, leads_itself}
use Rattle.rules.proofs.Families.{family_has}
use Rattle.rules.proofs.Standing.{standing, standing_not_created, standing_leads, automatic_among, key_class}
use Rattle.legality.proofs.Tables.{LegalTable, LegalLive}
use Rattle.legality.proofs.Holds.{There, holds_there, there_holds, found_in, find_in_created, find_in_automatic, entry_legal, is_created_one, created_alone, holds_known}
use Rattle.extending.specs.Matched.{BothMatch, MatchedContents, MatchedEntry, MatchedRows, MatchedTable}

pub both_there : {A B : Type 0} {a : A} (R : A → B → Type 0) (o : Option B) → BothMatch R (some a) o → (b : B) × (o ≡ some b) × R a b
both_there R none x = absurd x
both_there R (some b) x = (b, refl, x)

-- ---- instances that are there

-- an instance that leads itself is in its entry
in_its_entry : (cat : Catalogue) (wf : WellFormed cat) (t : Table) → LegalLive cat wf t → (c i : ℕ) → i < 65536 → known cat c ≡ true → leader cat c ≡ c
    → (e : Entry) → find (key c i) (entries t) ≡ some e → holds cat t c i ≡ true
in_its_entry cat wf t h c i lt kn led e f = there_holds cat t c i (record {
  its_entry = e;
  found = rw led f;
  has_class = rw (has_among c e, (entry_legal cat wf t h (key c i) e f).its_keys, key_class c i lt) (rw led at (family_has cat wf c kn));
})

-- a created instance is there if its entry is
pub created_held : (cat : Catalogue) (wf : WellFormed cat) (t : Table) → LegalLive cat wf t → (c i : ℕ) → is_created (class cat c).creation ≡ true → i < 65536
    → has (key c i) t.created ≡ true → holds cat t c i ≡ true
created_held cat wf t h c i cr lt y =
    let led : leader cat c ≡ c = leads_itself c (class cat c).creation cr in
    let e = find_some (key c i) t.created y in
    let f : find (key c i) (entries t) ≡ some e.0 =
    find_in_created (key c i) t.automatic t.created e.0 (created_alone cat wf t h (key c i) (rw (key_class c i lt) cr)) e.1 in
    in_its_entry cat wf t h c i lt (created_known cat c cr) led e.0 f

-- a class with automatic instances is known
pub listed_known : (cat : Catalogue) (c i : ℕ) → among i (automatic_numbers (class cat c).creation) ≡ true → known cat c ≡ true
unfolding no_class among
listed_known cat c i y = cases (known cat c) (λ e. e) (λ e. never (rw (unknown_class cat c e) at y))

-- an automatic instance is there
pub automatic_held : (cat : Catalogue) (wf : WellFormed cat) (t : Table) → LegalLive cat wf t → (c i : ℕ)
    → among i (automatic_numbers (class cat c).creation) ≡ true → holds cat t c i ≡ true
unfolding automatic_numbers_rise among
automatic_held cat wf t h c i y =
    let led : leader cat c ≡ c = rw (key_class c i small) at (standing_leads cat wf (key c i) stands) in
    let e = find_some (key c i) t.automatic (rw (has_among (key c i) t.automatic, h.automatic_keys) stands) in
    in_its_entry cat wf t h c i small kn led e.0 (find_in_automatic (key c i) t.automatic t.created e.0 e.1)
  where
    kn : known cat c ≡ true
    kn = listed_known cat c i y

    small : i < 65536
    small = ltb_lt i 65536 (all_among (λ j. ltb j 65536) (automatic_numbers (class cat c).creation) (both (class_says automatic_numbers_rise cat wf.automatic_in_order c kn)).1 i y)

    stands : among (key c i) (standing cat wf) ≡ true
    stands = cases (eqb c ont_data)
        (λ e. let two : c ≡ ont_data = eqb_eq c ont_data e in
        or_cases (rw (two, wf.class_2_has_instance_0_alone) at y)
        (λ z. subst (λ (x : ℕ). among x (standing cat wf) ≡ true) (sym (ap (λ (x : ℕ). key x i) two ∙ ap (key ont_data) (eqb_eq i 0 z))) (among_here (key ont_data 0) (automatic_keys cat)))
        (λ z. never z))
        (λ e. among_back (key c i) (key ont_data 0 ∷ []) (automatic_keys cat) (automatic_among cat c i (class cat c) (known_class cat c kn) (eqb_ne c ont_data e) y))

-- an instance that comes with another is there if that is
pub companion_held : (cat : Catalogue) (wf : WellFormed cat) (t : Table) → LegalLive cat wf t → (c i : ℕ) → known cat c ≡ true
    → holds cat t (leader cat c) i ≡ true → holds cat t c i ≡ true
unfolding comes_with_a_created_one
companion_held cat wf t h c i kn y =
    let th : There cat t (leader cat c) i = holds_there cat t (leader cat c) i y in
    let small = (holds_known cat wf t h (leader cat c) i y).small in
    let e : Entry = th.its_entry in
    let f : find (key (leader cat c) i) (entries t) ≡ some e = rw led at th.found in
    there_holds cat t c i (record {
      its_entry = e;
      found = f;
      has_class = rw (has_among c e, (entry_legal cat wf t h (key (leader cat c) i) e f).its_keys, key_class (leader cat c) i small) (family_has cat wf c kn);
    })
  where
    go : (a : Creation) → (class cat c).creation ≡ a → leader_is_created cat a ≡ true → leader cat (lead c a) ≡ lead c a
    go created e z = rw e refl
    go (automatic l) e z = rw e refl
    go (comes_with d) e z = leads_itself d (class cat d).creation z

    led : leader cat (leader cat c) ≡ leader cat c
    led = go (class cat c).creation refl (class_says (comes_with_a_created_one cat) cat wf.companions_of_created c kn)

-- ---- classes that both have

same_lead : (c : ℕ) (a b : Creation) → SameCreation a b → lead c b ≡ lead c a
same_lead c created created x = refl
same_lead c created (automatic m) x = absurd x
same_lead c created (comes_with d) x = absurd x
same_lead c (automatic l) created x = absurd x
same_lead c (automatic l) (automatic m) x = refl
same_lead c (automatic l) (comes_with d) x = absurd x
same_lead c (comes_with d) created x = absurd x
same_lead c (comes_with d) (automatic m) x = absurd x
same_lead c (comes_with d) (comes_with e) x = sym x

both_created : (a b : Creation) → SameCreation a b → is_created b ≡ is_created a
both_created created created x = refl
both_created created (automatic m) x = absurd x
both_created created (comes_with d) x = absurd x
both_created (automatic l) created x = absurd x
both_created (automatic l) (automatic m) x = refl
both_created (automatic l) (comes_with d) x = absurd x
both_created (comes_with d) created x = absurd x
both_created (comes_with d) (automatic m) x = absurd x
both_created (comes_with d) (comes_with e) x = refl

module _ (first second : Catalogue) (wf : WellFormed first) (wf' : WellFormed second) (ext : Extends first second) where
  pub known_too : (c : ℕ) → known first c ≡ true → known second c ≡ true
  known_too c kn = (ext.classes_kept c kn).0

  pub class_extends : (c : ℕ) → known first c ≡ true → ClassExtends first second (class first c) (class second c)
  class_extends c kn = (ext.classes_kept c kn).1

  pub same_leader : (c : ℕ) → known first c ≡ true → leader second c ≡ leader first c
  same_leader c kn = same_lead c (class first c).creation (class second c).creation (class_extends c kn).same_creation

  pub same_created : (c : ℕ) → known first c ≡ true → is_created (class second c).creation ≡ is_created (class first c).creation
  same_created c kn = both_created (class first c).creation (class second c).creation (class_extends c kn).same_creation

  -- the class with whose instances a class's own come is known too
  pub leader_known : (c : ℕ) → known first c ≡ true → known first (leader first c) ≡ true
  unfolding comes_with_a_created_one
  leader_known c kn = go (class first c).creation refl (class_says (comes_with_a_created_one first) first wf.companions_of_created c kn)
    where
      go : (a : Creation) → (class first c).creation ≡ a → comes_with_a_created_one first c (class first c) ≡ true → known first (lead c a) ≡ true
      go created e y = kn
      go (automatic l) e y = kn
      go (comes_with d) e y = created_known first d (rw e at y)

  -- ---- rows

  pub found_in_rows : (k : ℕ) (e : Entry) (m n : Map Entry) → MatchedRows first second m n → find k m ≡ some e
      → (f : Entry) × (find k n ≡ some f) × MatchedEntry first second e f
  unfolding find
  found_in_rows k e [] [] r x = none_some x
  found_in_rows k e [] (f ∷ n) r x = absurd r
  found_in_rows k e (a ∷ m) [] r x = absurd r
  found_in_rows k e (a ∷ m) (b ∷ n) r x = rw r.0 (cases (eqb k a.0)
      (λ t. rw t ((b.1, refl, rw (some_eq (rw t at x)) at r.1)))
      (λ t. rw t (found_in_rows k e m n r.2 (rw t at x))))

  pub same_row_keys : (m n : Map Entry) → MatchedRows first second m n → keys n ≡ keys m
  unfolding keys
  same_row_keys [] [] r = refl
  same_row_keys [] (f ∷ n) r = absurd r
  same_row_keys (a ∷ m) [] r = absurd r
  same_row_keys (a ∷ m) (b ∷ n) r = rw (r.0, same_row_keys m n r.2) refl

  pub same_row_count : (m n : Map Entry) → MatchedRows first second m n → length n ≡ length m
  same_row_count [] [] r = refl
  same_row_count [] (f ∷ n) r = absurd r
  same_row_count (a ∷ m) [] r = absurd r
  same_row_count (a ∷ m) (b ∷ n) r = rw (same_row_count m n r.2) refl

  -- ---- instances

  -- no key is both among the created ones and among the automatic ones
  abbrev pub Apart : Table → Type 0
  Apart u = (k : ℕ) (f : Entry) → find k u.created ≡ some f → find k u.automatic ≡ none

  pub live_apart : (u : Table) → LegalLive second wf' u → Apart u
  live_apart u h k f x = created_alone second wf' u h k (is_created_one second wf' u h k f x)

  pub frozen_apart : (u : Table) → LegalTable second wf' (automatic_keys second) u → Apart u
  frozen_apart u h k f x = go (find k u.automatic) refl
    where
      go : (o : Option Entry) → find k u.automatic ≡ o → find k u.automatic ≡ none
      go none e = e
      go (some a) e = true_false (every_find (λ k e. is_created (class second (class_of k)).creation) u.created h.all_created k f x)
          (standing_not_created second wf' k (among_back k (key ont_data 0 ∷ []) (automatic_keys second)
          (rw (← h.automatic_keys, ← has_among k u.automatic, e) refl)))

  module _ (t u : Table) (m : MatchedTable first second t u) (apart : Apart u) where
    pub matched_entry : (k : ℕ) (e : Entry) → find k (entries t) ≡ some e → (f : Entry) × (find k (entries u) ≡ some f) × MatchedEntry first second e f
    matched_entry k e x = found_in k t.automatic t.created e x
        (λ y. let z = m.automatic_match k e y in (z.0, find_in_automatic k u.automatic u.created z.0 z.1, z.2))
        (λ y w. let z = found_in_rows k e t.created u.created m.created_match w in
        (z.0, find_in_created k u.automatic u.created z.0 (apart k z.0 z.1) z.1, z.2))

    -- an instance of the first is in the second, with contents that match
    pub matched_instance : (c i : ℕ) → known first c ≡ true → holds first t c i ≡ true
        → (holds second u c i ≡ true) × MatchedContents (class first c) (class second c) (contents first t c i) (contents second u c i)
    unfolding holds contents entry
    matched_instance c i kn h =
        let th : There first t c i = holds_there first t c i h in
        let z = matched_entry (key (leader first c) i) th.its_entry th.found in
        let r = find_some c th.its_entry th.has_class in
        let q = both_there (MatchedContents (class first c) (class second c)) (find c z.0) (rw r.1 at (z.2 c kn)) in
        rw (same_leader c kn, th.found, z.1, r.1, q.1) (refl, q.2)

  module _ (t u : Table) (m : MatchedTable first second t u) (h : LegalLive first wf t) (h' : LegalLive second wf' u) where
    -- what the first holds, the second holds
    pub held_too : (c i : ℕ) → holds first t c i ≡ true → holds second u c i ≡ true
    held_too c i y = (matched_instance t u m (live_apart u h') c i (holds_known first wf t h c i y).is_known y).0

    -- they are ones that the first can have
    pub held_by_both : (c i : ℕ) → holds first t c i ≡ true → (known first c ≡ true) × (there_or_gone first c i ≡ true) × (holds second u c i ≡ true)
    held_by_both c i y = let x = holds_known first wf t h c i y in (x.is_known, x.may_be, held_too c i y)

    -- a created instance that the first doesn't hold, the second doesn't either
    pub not_held_either : (c i : ℕ) → is_created (class first c).creation ≡ true → i < 65536 → holds first t c i ≡ false → holds second u c i ≡ false
    not_held_either c i cr lt y = cases (holds second u c i) (λ held. true_false (back held) y) (λ n. n)
      where
        kn : known first c ≡ true
        kn = created_known first c cr

        led : leader first c ≡ c
        led = leads_itself c (class first c).creation cr

        led' : leader second c ≡ c
        led' = same_leader c kn ∙ led

        cr' : is_created (class second (class_of (key c i))).creation ≡ true
        cr' = rw (key_class c i lt, same_created c kn) cr

        back : holds second u c i ≡ true → holds first t c i ≡ true
        back held =
            let th : There second u c i = holds_there second u c i held in
            let f : find (key c i) (entries u) ≡ some th.its_entry = rw led' at th.found in
            found_in (key c i) u.automatic u.created th.its_entry f
            (λ x. none_some (sym (created_alone second wf' u h' (key c i) cr') ∙ x))
            (λ x g. created_held first wf t h c i cr lt
            (rw (has_among (key c i) t.created, ← same_row_keys t.created u.created m.created_match, ← has_among (key c i) u.created, g) refl))
