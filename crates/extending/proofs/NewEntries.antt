-- A new instance's contents, and the entry with those that come with it: what is found in them, and that they match.
use Prim.Native.Nat.{ℕ}
use mathlib.Core.Path.{◌≡◌, refl, sym, ◌∙◌}
use mathlib.Core.Bool.{Bool, true, false, cond}
use mathlib.Core.Option.{Option, none, some}
use mathlib.Core.List.{List}
use lib.ListN.{replicate}
use lib.Dec.{eqb}
use Rattle.rules.specs.Maps.{Map, given, find, keys, keep, rising}
use Rattle.rules.specs.Catalogue.{constant, copied, Source, stored, of_creator, count_of, Attribute, Catalogue, class, known, attribute, supported, size_of, is_stored, lead}
use Rattle.rules.specs.Catalogue.{leader, family}
use Rattle.rules.specs.State.{Contents, content}
use Rattle.rules.specs.Commands.{first_content, new_contents, new_entry}
use Rattle.rules.specs.WellFormed.{WellFormed, FirstIsLegal}
use Rattle.rules.specs.Extends.{Extends}
use Rattle.rules.proofs.Laws.{cases, true_false, both, eqb_eq, find_each, has_among}
use Rattle.rules.proofs.MapLaws.{some_eq, none_some, found_kept, find_kept}
use Rattle.rules.proofs.Lookups.{C_supported, known_class, found_attribute, known_attribute}
use Rattle.rules.proofs.Families.{in_family}
use Rattle.legality.proofs.NewContents.{C_is_stored, C_leads, start, attributes_in_order}
use Rattle.legality.proofs.Holds.{has_each}
use Rattle.extending.specs.Matched.{MatchedContents, MatchedEntry}
use Rattle.extending.proofs.Found.{known_too, class_extends, same_leader}

-- where keys rise, an entry that is there is kept exactly if it passes
pub find_in_kept : {A : Type 0} (p : ℕ → A → Bool) (m : Map A) → rising (keys m) ≡ true → (k : ℕ) (a : A) → find k m ≡ some a
    → find k (keep p m) ≡ cond (p k a) (some a) none
find_in_kept {A} p m rise k a h = cases (p k a)
    (λ t. rw t (find_kept p k a m h t))
    (λ t. rw t (go (find k (keep p m)) refl t))
  where
    go : (o : Option A) → find k (keep p m) ≡ o → p k a ≡ false → find k (keep p m) ≡ none
    go none e t = e
    go (some b) e t =
        let f = found_kept p m rise k b e in
        let z : a ≡ b = some_eq (sym h ∙ f.0) in
        true_false (rw (← z) at f.1) t

-- ---- new contents and new entries

module _ (cat : Catalogue) (wf : WellFormed cat) (c : ℕ) (kn : known cat c ≡ true) where
  -- a stored attribute has its start, any other has nothing
  pub find_new : (carried : Contents) (n : ℕ) → supported (class cat c) n ≡ true
      → find n (new_contents carried (class cat c))
      ≡ cond (is_stored (attribute (class cat c) n).source) (some (start carried n (attribute (class cat c) n))) none
  unfolding new_contents
  find_new carried n s = rw (
    find_each (start carried) n (keep (λ n a. is_stored a.source) (class cat c).attributes),
    find_in_kept (λ n a. is_stored a.source) (class cat c).attributes (attributes_in_order cat wf c kn) n (attribute (class cat c) n)
        (known_attribute (class cat c) n s),
  )
      (cases (is_stored (attribute (class cat c) n).source) (λ t. rw t refl) (λ t. rw t refl))

  -- what is found is its attribute's start
  pub found_start : (carried : Contents) (n : ℕ) (v : List ℕ) → find n (new_contents carried (class cat c)) ≡ some v
      → start carried n (attribute (class cat c) n) ≡ v
  unfolding new_contents
  found_start carried n v h = go (find n stored_ones) refl (rw (find_each (start carried) n stored_ones) at h)
    where
      stored_ones : Map Attribute
      stored_ones = keep (λ n a. is_stored a.source) (class cat c).attributes

      go : (o : Option Attribute) → find n stored_ones ≡ o → given o none (λ a. some (start carried n a)) ≡ some v
          → start carried n (attribute (class cat c) n) ≡ v
      go none e y = none_some y
      go (some a) e y =
          let f = found_kept (λ n a. is_stored a.source) (class cat c).attributes (attributes_in_order cat wf c kn) n a e in
          rw (found_attribute (class cat c) n a f.0) (some_eq y)

  -- a set-by-create attribute holds what was carried for it
  pub holds_carried : (carried : Contents) (n : ℕ) → (attribute (class cat c) n).C ≡ true
      → content n (new_contents carried (class cat c)) ≡ content n carried
  unfolding content
  holds_carried carried n e = rw (find_new carried n (C_supported (class cat c) n e), C_is_stored cat wf c n e, e) refl

  -- a class is in its leader's family and in no other
  pub find_in_family : (d : ℕ) → find c (family cat d) ≡ cond (eqb (leader cat c) d) (some (class cat c)) none
  unfolding family
  find_in_family d = find_in_kept (λ d' k. eqb (lead d' k.creation) d) cat.classes wf.classes_rise c (class cat c) (known_class cat c kn)

  pub find_in_new : (d : ℕ) (carried : Contents)
      → find c (new_entry cat d carried) ≡ cond (eqb (leader cat c) d) (some (new_contents carried (class cat c))) none
  unfolding new_entry
  find_in_new d carried = rw (find_each (λ d k. new_contents carried k) c (family cat d), find_in_family d)
      (cases (eqb (leader cat c) d) (λ t. rw t refl) (λ t. rw t refl))

-- a class in a new entry is of the leader's family
pub in_new : (cat : Catalogue) (wf : WellFormed cat) (d c : ℕ) (carried r : Contents)
    → find c (new_entry cat d carried) ≡ some r → (known cat c ≡ true) × (leader cat c ≡ d)
unfolding new_entry
in_new cat wf d c carried r h = in_family cat wf d c
    (rw (← has_among c (family cat d), ← has_each (λ d k. new_contents carried k) c (family cat d), h) refl)

-- ---- new entries of two products

module _ (first second : Catalogue) (wf : WellFormed first) (wf' : WellFormed second) (ext : Extends first second)
    (d : ℕ) (carried carried' : Contents)
    (same : (m : ℕ) → supported (class first d) m ≡ true → content m carried' ≡ content m carried)
    (added : (n : ℕ) → supported (class first d) n ≡ false → (attribute (class second d) n).C ≡ true
    → content n carried' ≡ replicate (size_of (class second d) n) 0) where
  -- a first content is the same: what it copies, the Create carried for an attribute that the first has
  same_first : (c n : ℕ) → leader first c ≡ d → (src : Source) → FirstIsLegal first c (attribute (class first c) n) src
      → first_content carried' src ≡ first_content carried src
  unfolding first_content
  same_first c n led (stored (constant v)) f = refl
  same_first c n led (stored (copied m)) f = same m (C_supported (class first d) m (rw led at f.1))
  same_first c n led (of_creator m) f = refl
  same_first c n led (count_of b m) f = refl

  same_start : (c n : ℕ) → leader first c ≡ d → supported (class first c) n ≡ true
      → start carried' n (attribute (class first c) n) ≡ start carried n (attribute (class first c) n)
  same_start c n led s = cases (attribute (class first c) n).C
      (λ e. let z : c ≡ d = sym (C_leads first wf c n e) ∙ led in rw e (same n (rw z at s)))
      (λ e. rw e (same_first c n led (attribute (class first c) n).source (wf.first_contents_are_legal c n s e)))

  new_contents_match : (c : ℕ) → known first c ≡ true → leader first c ≡ d
      → MatchedContents (class first c) (class second c) (new_contents carried (class first c)) (new_contents carried' (class second c))
  new_contents_match c kn led =
      let kn' : known second c ≡ true = known_too first second wf wf' ext c kn in
      record {
        same_contents = λ n s.
            let x = (class_extends first second wf wf' ext c kn).attributes_kept n s in
            rw (find_new second wf' c kn' carried' n x.0, ← x.1.same_source, ← x.1.same_C, find_new first wf c kn carried n s, same_start c n led s)
            refl;
        added_is_zero = λ n s fixed.
            let e : (attribute (class second c) n).C ≡ true = (both fixed).0 in
            let z : c ≡ d = sym (C_leads second wf' c n e) ∙ same_leader first second wf wf' ext c kn ∙ led in
            holds_carried second wf' c kn' carried' n e ∙ (rw (← z) at added) n s e;
      }

  pub new_entries_match : MatchedEntry first second (new_entry first d carried) (new_entry second d carried')
  new_entries_match c kn = rw (
    find_in_new first wf c kn d carried,
    find_in_new second wf' c (known_too first second wf wf' ext c kn) d carried',
    same_leader first second wf wf' ext c kn,
  )
      (cases (eqb (leader first c) d)
      (λ t. rw t (new_contents_match c kn (eqb_eq (leader first c) d t)))
      (λ t. rw t tt))
