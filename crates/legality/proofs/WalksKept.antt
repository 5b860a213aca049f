-- The bitmaps of a legal state are a legal frozen copy.
use Prim.Native.Nat.{ℕ, suc, ◌≤◌, ◌<◌}
use native.Mathlib.Omega.{arith}
use mathlib.Core.Path.{◌≡◌, refl, sym, ap}
use mathlib.Core.Bool.{Bool, true, false, cond}
use mathlib.Core.List.{List, [], ◌∷◌, map}
use lib.ListN.{length}
use lib.Dec.{eqb}
use Rattle.rules.specs.Maps.{◌and◌, Map, keys, keep, every, among, distinct, all}
use Rattle.rules.specs.Catalogue.{Catalogue, class, known, is_created, leader, key}
use Rattle.rules.specs.State.{Table, Alarms, class_of, number_of, holds}
use Rattle.rules.specs.Legal.{legal_bitmaps, there_or_gone, walked_entries, legal_walk}
use Rattle.rules.specs.WellFormed.{WellFormed}
use Rattle.rules.proofs.Laws.{cases, never, true_false, both, and_true, or_cases, or_left, or_right, or_none, eqb_true, eqb_eq, le-leb, every_find, has_among}
use Rattle.rules.proofs.MapLaws.{length_keys, rising_keep, every_if_found, found_kept}
use Rattle.rules.proofs.Standing.{key_class, standing_not_created}
use Rattle.legality.proofs.Tables.{LegalLive}
use Rattle.legality.proofs.Holds.{There, holds_there, holds_known, there_known, found_in, automatic_stands}
use Rattle.legality.proofs.AlarmsKept.{bitmap_test, still_legal}

-- ---- no more different numbers than there are places for them

-- the first occurrence of k taken out
unfoldable pub drop_one : ℕ → List ℕ → List ℕ
drop_one k [] = []
drop_one k (x ∷ l) = cond (eqb k x) l (x ∷ drop_one k l)

length_drop_one : (k : ℕ) (l : List ℕ) → among k l ≡ true → length l ≡ suc (length (drop_one k l))
unfolding among drop_one
length_drop_one k [] h = never h
length_drop_one k (x ∷ l) h = cases (eqb k x)
    (λ e. rw e)
    (λ e. rw e (ap suc (length_drop_one k l (or_cases h (λ y. true_false y e) (λ y. y)))))

still_among : (k j : ℕ) (l : List ℕ) → eqb j k ≡ false → among j l ≡ true → among j (drop_one k l) ≡ true
unfolding among drop_one
still_among k j [] ne h = never h
still_among k j (x ∷ l) ne h = cases (eqb k x)
    (λ e. rw e (or_cases h (λ y. true_false (rw (eqb_eq k x e) y) ne) (λ y. y)))
    (λ e. rw e (or_cases h (λ y. or_left (among j (drop_one k l)) y) (λ y. or_right (eqb j x) (still_among k j l ne y))))

all_still : (k : ℕ) (m l : List ℕ) → among k l ≡ false → all (λ j. among j m) l ≡ true → all (λ j. among j (drop_one k m)) l ≡ true
unfolding among all
all_still k m [] ne h = refl
all_still k m (j ∷ l) ne h =
    let n = or_none ne in
    let d : eqb j k ≡ false = cases (eqb j k) (λ y. true_false (eqb_true k j (sym (eqb_eq j k y))) n.0) (λ y. y) in
    and_true (still_among k j m d (both h).0) (all_still k m l n.1 (both h).1)

pub distinct_fit : (l m : List ℕ) → all (λ k. among k m) l ≡ true → length (distinct l) ≤ length m
unfolding distinct all
distinct_fit [] m h = omega arith
distinct_fit (k ∷ l) m h = cases (among k l)
    (λ e. rw e (distinct_fit l m (both h).1))
    (λ e. let z : length m ≡ suc (length (drop_one k m)) = length_drop_one k m (both h).0 in
    let y : length (distinct l) ≤ length (drop_one k m) = distinct_fit l (drop_one k m) (all_still k m l e (both h).1) in
    rw e (omega arith))

-- ---- the walk

pub all_map : (p : ℕ → Bool) (f : ℕ → ℕ) {A : Type 0} (m : Map A) → every (λ k a. p (f k)) m ≡ true → all p (map f (keys m)) ≡ true
unfolding every keys all
all_map p f [] h = refl
all_map p f (x ∷ m) h = and_true (both h).0 (all_map p f m (both h).1)

module _ (cat : Catalogue) (wf : WellFormed cat) (t : Table) (h : LegalLive cat wf t) where
  -- an instance that came about by a Create is in a created entry
  in_created : (c i : ℕ) → holds cat t c i ≡ true → is_created (class cat (leader cat c)).creation ≡ true → among (key (leader cat c) i) (keys t.created) ≡ true
  in_created c i y cr =
      let x : There cat t c i = holds_there cat t c i y in
      let k : ℕ = key (leader cat c) i in
      let small : i < 65536 = (there_known cat wf t h c i x).small in
      found_in k t.automatic t.created x.its_entry x.found
      (λ p. true_false cr (rw (key_class (leader cat c) i small) at (standing_not_created cat wf k (automatic_stands cat wf t h k x.its_entry p))))
      (λ n p. rw (← has_among k t.created, p) refl)

  pub walk_legal : (m : Map Alarms) → legal_bitmaps cat (holds cat t) m ≡ true → legal_walk cat m ≡ true
  unfolding legal_walk walked_entries legal_bitmaps
  walk_legal m g =
      let made : ℕ → Alarms → Bool = λ k b. is_created (class cat (leader cat (class_of k))).creation in
      let place : ℕ → ℕ = λ k. key (leader cat (class_of k)) (number_of k) in
      let order = rising_keep made m (both g).0 in
      let fit = distinct_fit (map place (keys (keep made m))) (keys t.created)
      (all_map (λ k. among k (keys t.created)) place (keep made m)
      (every_if_found (λ k a. among (place k) (keys t.created)) (keep made m) order (λ k b e.
      let f = found_kept made m (both g).0 k b e in
      in_created (class_of k) (number_of k) (both (every_find (bitmap_test cat (holds cat t)) m (both g).1 k b f.0)).0 f.1))) in
      and_true
      (still_legal cat (holds cat t) (λ c i. known cat c and there_or_gone cat c i) m
      (λ c i y. let kn = holds_known cat wf t h c i y in and_true kn.is_known kn.may_be) g)
      (le-leb (length (distinct (map place (keys (keep made m))))) cat.places (omega (arith, fit, length_keys t.created, h.in_places)))
