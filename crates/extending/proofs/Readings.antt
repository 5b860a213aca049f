-- What the first product reads, the second reads too: stored, of the instance it came with, or counted.
use Prim.Native.Nat.{ℕ}
use mathlib.Core.Path.{◌≡◌, refl}
use mathlib.Core.Bool.{true}
use mathlib.Core.Option.{Option, none, some}
use mathlib.Core.List.{List, [], ◌∷◌}
use Rattle.rules.specs.Maps.{Map, given, find, all}
use Rattle.rules.specs.Catalogue.{Source, stored, of_creator, count_of, Creation, created, automatic, comes_with, Class, Catalogue, class, known, attribute, supported, lead}
use Rattle.rules.specs.Catalogue.{leader, key}
use Rattle.rules.specs.State.{Contents, Entry, Table, entries, entry, holds, contents, content, how_many_name, read_from, read}
use Rattle.rules.specs.Commands.{values}
use Rattle.rules.specs.WellFormed.{WellFormed, leader_is_created, comes_with_a_created_one, readable_from, read_in_one_of_two_ways}
use Rattle.rules.specs.Extends.{Extends}
use Rattle.rules.proofs.Laws.{both}
use Rattle.rules.proofs.Lookups.{class_says, created_known, attribute_says, leads_itself}
use Rattle.legality.proofs.Holds.{There, holds_there}
use Rattle.extending.specs.Matched.{BothMatch, MatchedContents, MatchedRows, MatchedTable}
use Rattle.extending.proofs.Found.{class_extends, same_leader, leader_known, Apart, matched_entry}

-- contents that match, or that neither product has
same_in_both : (k l : Class) (n : ℕ) → supported k n ≡ true → (o p : Option Contents) → BothMatch (MatchedContents k l) o p
    → content n (given p [] (λ r. r)) ≡ content n (given o [] (λ r. r))
unfolding content
same_in_both k l n sup none none m = refl
same_in_both k l n sup none (some q) m = absurd m
same_in_both k l n sup (some r) none m = absurd m
same_in_both k l n sup (some r) (some q) m = rw (m.same_contents n sup) refl

module _ (first second : Catalogue) (wf : WellFormed first) (wf' : WellFormed second) (ext : Extends first second) where
  -- as many instances name this one
  same_count : (d a i : ℕ) → known first d ≡ true → supported (class first d) a ≡ true
      → (m n : Map Entry) → MatchedRows first second m n → how_many_name d a i n ≡ how_many_name d a i m
  unfolding how_many_name
  same_count d a i kn sup [] [] r = refl
  same_count d a i kn sup [] (f ∷ n) r = absurd r
  same_count d a i kn sup (e ∷ m) [] r = absurd r
  same_count d a i kn sup (e ∷ m) (f ∷ n) r =
      rw (r.0, same_in_both (class first d) (class second d) a sup (find d e.1) (find d f.1) (r.1 d kn), same_count d a i kn sup m n r.2) refl

  -- the class with whose instances a class's own come, leads itself
  leader_leads : (c : ℕ) → known first c ≡ true → leader first (leader first c) ≡ leader first c
  unfolding comes_with_a_created_one
  leader_leads c kn = go (class first c).creation refl (class_says (comes_with_a_created_one first) first wf.companions_of_created c kn)
    where
      go : (a : Creation) → (class first c).creation ≡ a → leader_is_created first (class first c).creation ≡ true → leader first (lead c a) ≡ lead c a
      go created e y = rw e refl
      go (automatic l) e y = rw e refl
      go (comes_with d) e y = leads_itself d (class first d).creation (rw e at y)

  -- what an attribute of the first that isn't stored is read from
  readable : (c n : ℕ) → supported (class first c) n ≡ true
      → readable_from first c (attribute (class first c) n).size (attribute (class first c) n).source ≡ true
  unfolding read_in_one_of_two_ways
  readable c n sup = attribute_says (read_in_one_of_two_ways first) first wf.unstored_is_readable c n sup

  module _ (t u : Table) (m : MatchedTable first second t u) (apart : Apart first second wf wf' ext u) where
    -- a class that the first has, in an entry that it has
    same_content_of : (c i n : ℕ) (e : Entry) → known first c ≡ true → find (key (leader first c) i) (entries t) ≡ some e
        → supported (class first c) n ≡ true → content n (contents second u c i) ≡ content n (contents first t c i)
    unfolding contents entry
    same_content_of c i n e kn found sup =
        let z = matched_entry first second wf wf' ext t u m apart (key (leader first c) i) e found in
        rw (same_leader first second wf wf' ext c kn, found, z.1)
        (same_in_both (class first c) (class second c) n sup (find c e) (find c z.0) (z.2 c kn))

    -- An attribute of the first, of an instance whose entry it has, is read the same in the second.
    pub same_read_in : (c i n : ℕ) (e : Entry) → known first c ≡ true → find (key (leader first c) i) (entries t) ≡ some e
        → supported (class first c) n ≡ true → read second u c i n ≡ read first t c i n
    unfolding read read_from readable_from
    same_read_in c i n e kn found sup =
        let a = ((class_extends first second wf wf' ext c kn).attributes_kept n sup).1 in
        rw (← a.same_size, ← a.same_source) (go (attribute (class first c) n).source (readable c n sup))
      where
        go : (src : Source) → readable_from first c (attribute (class first c) n).size src ≡ true
            → read_from second u c i n (attribute (class first c) n).size src ≡ read_from first t c i n (attribute (class first c) n).size src
        go (stored f) y = same_content_of c i n e kn found sup
        go (of_creator b) y = rw (same_leader first second wf wf' ext c kn)
            (same_content_of (leader first c) i b e (leader_known first second wf wf' ext c kn) (rw (leader_leads c kn) found) (both (both y).1).0)
        go (count_of d b) y = rw (same_count d b i (created_known first d (both y).0) (both (both y).1).0 t.created u.created m.created_match) refl

    pub same_read : (c i n : ℕ) → known first c ≡ true → holds first t c i ≡ true → supported (class first c) n ≡ true → read second u c i n ≡ read first t c i n
    same_read c i n kn held sup =
        let th : There first t c i = holds_there first t c i held in
        same_read_in c i n th.its_entry kn th.found sup

    -- and so are several, one after another
    pub same_values : (c i : ℕ) → known first c ≡ true → holds first t c i ≡ true → (l : List ℕ) → all (supported (class first c)) l ≡ true
        → values second u c i l ≡ values first t c i l
    unfolding values all
    same_values c i kn held [] sup = refl
    same_values c i kn held (n ∷ l) sup = rw (same_read c i n kn held (both sup).0, same_values c i kn held l (both sup).1) refl
