-- Alarms stay legal: turned on or off, frozen, and gone with their instance.
use Prim.Native.Nat.{ℕ, zero, suc, ◌+◌}
use native.Mathlib.Omega.{arith}
use mathlib.Core.Path.{◌≡◌, refl, ◌∙◌}
use mathlib.Core.Bool.{Bool, true, false, not}
use mathlib.Core.Option.{Option, none, some}
use mathlib.Core.List.{List, [], ◌∷◌}
use lib.ListN.{length, set, replicate, length-set, length-replicate}
use lib.Dec.{eqb}
use Rattle.rules.specs.Maps.{◌and◌, Map, given, find, keep, among}
use Rattle.rules.specs.Catalogue.{Class, Catalogue, class}
use Rattle.rules.specs.State.{Alarms, class_of, number_of, alarms_of}
use Rattle.rules.specs.Legal.{declared_from, some_on, legal_bitmap, legal_bitmaps}
use Rattle.rules.specs.Reports.{with_bitmap}
use Rattle.rules.proofs.Laws.{cases, both, and_true, or_left, or_right, eqb_true, eqb_eq, every_find, every_keep, every_put, every_imp}
use Rattle.rules.proofs.MapLaws.{rising_put, rising_keep, every_if_found, found_kept}

-- ---- one bitmap

pub declared_set : (m : ℕ) (declared : List ℕ) (b : Alarms) (n : ℕ) (on : Bool) → among (m + n) declared ≡ true
    → declared_from m declared b ≡ true → declared_from m declared (set b n on) ≡ true
unfolding declared_from
declared_set m declared [] zero on h g = refl
declared_set m declared [] (suc n) on h g = refl
declared_set m declared (x ∷ b) zero on h g =
    let z : m + 0 ≡ m = omega arith in
    and_true (or_right (not on) (rw z at h)) (both g).1
declared_set m declared (x ∷ b) (suc n) on h g =
    let z : m + suc n ≡ suc m + n = omega arith in
    and_true (both g).0 (declared_set (suc m) declared b n on (rw z at h) (both g).1)

pub declared_none : (k m : ℕ) (declared : List ℕ) → declared_from m declared (replicate k false) ≡ true
unfolding declared_from
declared_none zero m declared = refl
declared_none (suc k) m declared = and_true (or_left (among m declared) refl) (declared_none k (suc m) declared)

-- a bitmap but for its having an alarm on
pub record Bitmap (k : Class) (b : Alarms) : Type 0 where
  pub its_length : length b ≡ 224
  pub declared_only : declared_from 0 k.alarms b ≡ true

pub turned_bitmap : (k : Class) (b : Alarms) (n : ℕ) (on : Bool) → among n k.alarms ≡ true → Bitmap k b → Bitmap k (set b n on)
turned_bitmap k b n on h g =
    let z : n ≡ 0 + n = omega arith in
    record { its_length = length-set b n on ∙ g.its_length; declared_only = declared_set 0 k.alarms b n on (rw z at h) g.declared_only }

-- ---- all bitmaps of a state

module _ (cat : Catalogue) (there : ℕ → ℕ → Bool) where
  abbrev pub bitmap_test : ℕ → Alarms → Bool
  bitmap_test k b = there (class_of k) (number_of k) and legal_bitmap (class cat (class_of k)) b

  pub bitmap_of : (k : ℕ) (m : Map Alarms) → legal_bitmaps cat there m ≡ true → Bitmap (class cat (class_of k)) (alarms_of k m)
  unfolding legal_bitmaps alarms_of legal_bitmap
  bitmap_of k m h = go (find k m) refl
    where
      go : (o : Option Alarms) → find k m ≡ o → Bitmap (class cat (class_of k)) (given o (replicate 224 false) (λ b. b))
      go none e = record { its_length = length-replicate 224 false; declared_only = declared_none 224 0 (class cat (class_of k)).alarms }
      go (some b) e =
          let g = both (both (every_find bitmap_test m (both h).1 k b e)).1 in
          record { its_length = eqb_eq (length b) 224 g.0; declared_only = (both g.1).0 }

  pub turned_legal : (k : ℕ) (b : Alarms) (m : Map Alarms) → there (class_of k) (number_of k) ≡ true → Bitmap (class cat (class_of k)) b
      → legal_bitmaps cat there m ≡ true → legal_bitmaps cat there (with_bitmap k b m) ≡ true
  unfolding legal_bitmaps with_bitmap legal_bitmap
  turned_legal k b m here ok h = cases (some_on b)
      (λ e. rw e (and_true (rising_put k b m (both h).0) (every_put bitmap_test k b m (both h).1
      (and_true here (and_true (eqb_true (length b) 224 ok.its_length) (and_true ok.declared_only e))))))
      (λ e. rw e (and_true (rising_keep (λ j a. not (eqb j k)) m (both h).0) (every_keep bitmap_test (λ j a. not (eqb j k)) m (both h).1)))

  -- bitmaps that are kept, where what they need is still there
  pub kept_legal : (later : ℕ → ℕ → Bool) (p : ℕ → Bool) (m : Map Alarms)
      → ((k : ℕ) → p k ≡ true → there (class_of k) (number_of k) ≡ true → later (class_of k) (number_of k) ≡ true)
      → legal_bitmaps cat there m ≡ true → legal_bitmaps cat later (keep (λ j b. p j) m) ≡ true
  unfolding legal_bitmaps
  kept_legal later p m f h =
      let q : ℕ → Alarms → Bool = λ k b. later (class_of k) (number_of k) and legal_bitmap (class cat (class_of k)) b in
      and_true (rising_keep (λ j b. p j) m (both h).0)
      (every_if_found q (keep (λ j b. p j) m) (rising_keep (λ j b. p j) m (both h).0) (λ k b e.
      let g = found_kept (λ j b. p j) m (both h).0 k b e in
      let t = both (every_find bitmap_test m (both h).1 k b g.0) in
      and_true (f k g.1 t.0) t.1))

pub still_legal : (cat : Catalogue) (there later : ℕ → ℕ → Bool) (m : Map Alarms) → ((c i : ℕ) → there c i ≡ true → later c i ≡ true)
    → legal_bitmaps cat there m ≡ true → legal_bitmaps cat later m ≡ true
unfolding legal_bitmaps
still_legal cat there later m f h = and_true (both h).0
    (every_imp (bitmap_test cat there) (bitmap_test cat later) (λ k b t. and_true (f (class_of k) (number_of k) (both t).0) (both t).1) m (both h).1)
