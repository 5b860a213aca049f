-- How long an alarm walk can be: where the classes that declare alarms have all their instances between two keys, a walk
-- is no longer than the way from one to the other.
use Prim.Native.Nat.{ℕ, suc, ◌+◌, ◌-◌, ◌≤◌}
use native.Mathlib.Omega.{arith}
use mathlib.Core.Path.{◌≡◌, refl}
use mathlib.Core.Bool.{Bool, true, false}
use mathlib.Core.List.{List, [], ◌∷◌}
use lib.ListN.{length}
use lib.Dec.{ltb, leb}
use Rattle.rules.specs.Maps.{◌and◌, ◌or◌, Map, keys, every, rising, all, empty}
use Rattle.rules.specs.Catalogue.{Creation, created, automatic, comes_with, Catalogue, class, known, key}
use Rattle.rules.specs.State.{Alarms, class_of, number_of}
use Rattle.rules.specs.Legal.{may_be_there, there_or_gone, legal_bitmap, legal_bitmaps, legal_walk}
use Rattle.rules.proofs.Laws.{never, true_false, both, and_true, or_cases, ltb_lt, leb_le, all_among, every_imp, every_find, find_some}
use Rattle.rules.proofs.Lookups.{found_class}
use Rattle.rules.proofs.MapLaws.{length_keys}
use Rattle.rules.proofs.Bitmaps.{bitmap_is_declared}

abbrev pub between : ℕ → ℕ → ℕ → Bool
between lo hi k = leb lo k and ltb k hi

-- ---- keys that rise between two numbers

rising_from : (lo hi k : ℕ) (l : List ℕ) → rising (k ∷ l) ≡ true → all (between lo hi) (k ∷ l) ≡ true → suc (length l) + k ≤ hi
unfolding rising all
rising_from lo hi k [] r h = let g = ltb_lt k hi (both (both h).0).1 in omega arith
rising_from lo hi k (j ∷ l) r h =
    let g = ltb_lt k j (both r).0 in
    let f = rising_from lo hi j l (both r).1 (both h).1 in
    omega arith

pub rising_between : (lo hi : ℕ) (l : List ℕ) → rising l ≡ true → all (between lo hi) l ≡ true → length l ≤ hi - lo
unfolding all
rising_between lo hi [] r h = omega arith
rising_between lo hi (k ∷ l) r h = let f = rising_from lo hi k l r h in let g = leb_le lo k (both (both h).0).0 in omega arith

pub all_keys : {A : Type 0} (p : ℕ → Bool) (m : Map A) → every (λ k a. p k) m ≡ true → all p (keys m) ≡ true
unfolding every keys all
all_keys p [] h = refl
all_keys p (e ∷ m) h = and_true (both h).0 (all_keys p m (both h).1)

-- ---- walks

-- all instances of a class, which are there by themselves, lie between two keys
abbrev pub stands_between : ℕ → ℕ → ℕ → Creation → Bool
stands_between lo hi c created = false
stands_between lo hi c (automatic l) = all (λ i. between lo hi (key c i)) l
stands_between lo hi c (comes_with d) = false

unfoldable pub alarms_between : ℕ → ℕ → Catalogue → Bool
alarms_between lo hi cat = every (λ c k. empty k.alarms or stands_between lo hi c k.creation) cat.classes

stands_there : (lo hi c i : ℕ) (f : Creation) → stands_between lo hi c f ≡ true → may_be_there f i ≡ true → between lo hi (key c i) ≡ true
stands_there lo hi c i created h t = never h
stands_there lo hi c i (automatic l) h t = all_among (λ j. between lo hi (key c j)) l h i t
stands_there lo hi c i (comes_with d) h t = never h

module _ (cat : Catalogue) (lo hi : ℕ) (h : alarms_between lo hi cat ≡ true) where
  walked_between : (k : ℕ) (b : Alarms)
      → ((known cat (class_of k) and there_or_gone cat (class_of k) (number_of k)) and legal_bitmap (class cat (class_of k)) b) ≡ true
      → between lo hi k ≡ true
  unfolding alarms_between
  walked_between k b e =
      let f = find_some (class_of k) cat.classes (both (both e).0).0 in
      let g = every_find _ cat.classes h (class_of k) f.0 f.1 in
      let c = found_class cat (class_of k) f.0 f.1 in
      let n : empty f.0.alarms ≡ false = bitmap_is_declared f.0 b (rw c at (both e).1) in
      let s = or_cases g (λ t. true_false t n) (λ t. t) in
      let z : key (class_of k) (number_of k) ≡ k = omega arith in
      rw z at (stands_there lo hi (class_of k) (number_of k) f.0.creation s (rw c at (both (both e).0).1))

  pub walks_at_most : (m : Map Alarms) → legal_walk cat m ≡ true → length m ≤ hi - lo
  unfolding legal_walk legal_bitmaps
  walks_at_most m e =
      let l = both (both e).0 in
      let f = rising_between lo hi (keys m) l.0 (all_keys (between lo hi) m (every_imp _ _ walked_between m l.1)) in
      let g = length_keys m in
      omega arith

pub short_walks : (cat : Catalogue) (lo hi : ℕ) → alarms_between lo hi cat ≡ true → leb (hi - lo) 65535 ≡ true
    → (m : Map Alarms) → legal_walk cat m ≡ true → length m ≤ 65535
short_walks cat lo hi h e m t = let f = walks_at_most cat lo hi h m t in let g = leb_le (hi - lo) 65535 e in omega arith
