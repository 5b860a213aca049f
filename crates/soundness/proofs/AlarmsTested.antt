-- Bytes of alarms are those of legal bitmaps exactly if they pass the test.
use Prim.Native.Nat.{ℕ, zero, suc, ◌≤◌}
use native.Mathlib.Omega.{arith}
use mathlib.Core.Path.{◌≡◌, refl, sym, subst, ◌∙◌, ap}
use mathlib.Core.Bool.{Bool, true, false, not}
use mathlib.Core.Logic.{◌≢◌}
use mathlib.Core.List.{List, [], ◌∷◌, ◌++◌, map}
use lib.ListN.{length, take, drop, replicate}
use Rattle.rules.specs.Maps.{◌and◌, Map, keys, every, all, same}
use Rattle.rules.specs.Bytes.{byte, all_zero, are_bytes, bits_from, bits}
use Rattle.rules.specs.Catalogue.{Class, Catalogue, class}
use Rattle.rules.specs.State.{Alarms, class_of, number_of, alarms_of}
use Rattle.rules.specs.Legal.{automatic_keys, declared_from, some_on, legal_bitmap, legal_bitmaps}
use Rattle.rules.specs.WellFormed.{WellFormed}
use Rattle.rules.proofs.Laws.{cases, never, both, and_true, or_left, true_and, not-false, eqb_true}
use Rattle.rules.proofs.MapLaws.{Up, up_weaken, up_rising, find_here, find_past, find_below}
use Rattle.rules.proofs.ByteLaws.{byte_small, bytes_drop}
use Rattle.rules.proofs.Standing.{automatic_rise}
use Rattle.store.specs.Layout.{slot_count, code_alarms, fits}
use Rattle.store.specs.Decode.{read_alarms}
use Rattle.store.proofs.Widths.{slots_are_enough}
use Rattle.slot_tests.specs.Tests.{alarm_byte_test, alarms_test}
use Rattle.rules.proofs.Conjunctions.{and_assoc, past, last_of}
use Rattle.soundness.proofs.Blocks.{fill_take}
use Rattle.store.proofs.AlarmBits.{shown_by, length_shown, byte_shown}

-- ---- which alarms are on

all_off : (b : Alarms) → all not b ≡ true → b ≡ replicate (length b) false
unfolding all
all_off [] h = refl
all_off (false ∷ b) h = ap (λ (l : Alarms). false ∷ l) (all_off b (both h).1)
all_off (true ∷ b) h = never (both h).0

none_shown : (x : ℕ) → some_on (shown_by x) ≡ false → shown_by x ≡ replicate 224 false
unfolding some_on
none_shown x h = all_off (shown_by x) (not-false h) ∙ ap (λ (n : ℕ). replicate n false) (length_shown x)

declared_off : (n : ℕ) (d : List ℕ) (j : ℕ) → declared_from n d (replicate j false) ≡ true
unfolding declared_from
declared_off n d zero = refl
declared_off n d (suc j) = and_true (or_left _ refl) (declared_off (suc n) d j)

-- what is off behind a bitmap says nothing
declared_front : (n : ℕ) (d : List ℕ) (b : Alarms) (j : ℕ) → declared_from n d (b ++ replicate j false) ≡ declared_from n d b
unfolding declared_from
declared_front n d [] j = declared_off n d j
declared_front n d (on ∷ b) j = rw (declared_front (suc n) d b j)

-- ---- bitmaps that were read

-- their keys are among those of the slots, in order
up_read : (low : ℕ) (l b : List ℕ) → Up low l → Up low (keys (read_alarms l b))
unfolding keys read_alarms
up_read low [] b u = tt
up_read low (k ∷ l) b u =
    let r : Up (suc k) (keys (read_alarms l (drop 1 b))) = up_read (suc k) l (drop 1 b) u.1 in
    cases (some_on (shown_by (byte b 0)))
    (λ t. rw t (u.0, r))
    (λ t. let g = u.0 in rw t (up_weaken low (suc k) (keys (read_alarms l (drop 1 b))) (omega arith) r))

-- the byte of a slot's instance
abbrev slot_byte : Map Alarms → ℕ → ℕ
slot_byte m k = bits_from 0 (take 8 (alarms_of k m))

bytes_past : (l : List ℕ) (e : ℕ × Alarms) (m : Map Alarms) → Up (suc e.0) l → map (slot_byte (e ∷ m)) l ≡ map (slot_byte m) l
unfolding alarms_of
bytes_past [] e m u = refl
bytes_past (k ∷ l) e m u =
    let g = u.0 in
    let n : k ≢ e.0 = omega arith in
    rw (find_past k e m n, bytes_past l e m (up_weaken (suc e.0) (suc k) l (omega arith) u.1))

-- put together again, they are the bytes that they were read from
read_shown : (low : ℕ) (l b : List ℕ) → Up low l → length l ≤ length b → are_bytes b ≡ true → map (slot_byte (read_alarms l b)) l ≡ take (length l) b
unfolding read_alarms alarms_of
read_shown low [] b u h bs = refl
read_shown low (k ∷ l) [] u h bs = absurd (omega arith)
read_shown low (k ∷ l) (x ∷ b) u h bs =
    let m : Map Alarms = read_alarms l b in
    let r : map (slot_byte m) l ≡ take (length l) b = read_shown (suc k) l b u.1 (omega arith) (bytes_drop 1 (x ∷ b) bs) in
    let shows = λ (q : Map Alarms). map (slot_byte q) (k ∷ l) ≡ take (length (k ∷ l)) (x ∷ b) in
    let y : bits_from 0 (take 8 (shown_by x)) ≡ x = byte_shown x (byte_small (x ∷ b) 0 bs) in
    cases (some_on (shown_by x))
    (λ t.
    let n : read_alarms (k ∷ l) (x ∷ b) ≡ (k, shown_by x) ∷ m = rw (t, read_alarms) in
    subst shows (sym n) (rw (find_here k (shown_by x) m, y, bytes_past l (k, shown_by x) m u.1, r)))
    (λ t.
    let n : read_alarms (k ∷ l) (x ∷ b) ≡ m = rw (t, read_alarms) in
    let o : bits_from 0 (take 8 (replicate 224 false)) ≡ x = ap (λ (a : Alarms). bits_from 0 (take 8 a)) (sym (none_shown x t)) ∙ y in
    subst shows (sym n) (rw (find_below k (suc k) m (up_read (suc k) l b u.1) (omega arith), o, r)))

module _ (cat : Catalogue) (there : ℕ → ℕ → Bool) where
  abbrev legal_at : ℕ → Alarms → Bool
  legal_at k b = there (class_of k) (number_of k) and legal_bitmap (class cat (class_of k)) b

  legal_shown : (k x : ℕ) → there (class_of k) (number_of k) ≡ true → some_on (shown_by x) ≡ true → legal_at k (shown_by x) ≡ alarm_byte_test (class cat (class_of k)) x
  unfolding legal_bitmap alarm_byte_test
  legal_shown k x h t =
      let d : List ℕ = (class cat (class_of k)).alarms in
      rw (h, t, eqb_true (length (shown_by x)) 224 (length_shown x), declared_front 0 d (bits 8 x) 216)
      (past (past (last_of refl refl)))

  off_passes : (k : Class) (x : ℕ) → some_on (shown_by x) ≡ false → alarm_byte_test k x ≡ true
  unfolding alarm_byte_test
  off_passes k x t = sym (declared_front 0 k.alarms (bits 8 x) 216) ∙ rw (none_shown x t) (declared_off 0 k.alarms 224)

  read_tested : (l b : List ℕ) → all (λ k. there (class_of k) (number_of k)) l ≡ true → length l ≤ length b
      → (every legal_at (read_alarms l b) and all_zero (drop (length l) b)) ≡ alarms_test cat l b
  unfolding every read_alarms alarms_test all
  read_tested [] b h n = true_and (all_zero b)
  read_tested (k ∷ l) [] h n = absurd (omega arith)
  read_tested (k ∷ l) (x ∷ b) h n =
      let a : Bool = alarm_byte_test (class cat (class_of k)) x in
      let v : Bool = every legal_at (read_alarms l b) in
      let z : Bool = all_zero (drop (length l) b) in
      cases (some_on (shown_by x))
      (λ t. rw (t, legal_shown k x (both h).0 t, ← read_tested l b (both h).1 (omega arith))
      (and_assoc a v z))
      (λ t. rw (t, off_passes (class cat (class_of k)) x t, ← read_tested l b (both h).1 (omega arith)) (sym (true_and (v and z))))

  -- where the slots' instances are all there
  pub bitmaps_tested : WellFormed cat → fits cat ≡ true → all (λ k. there (class_of k) (number_of k)) (automatic_keys cat) ≡ true
      → (b : List ℕ) → length b ≡ slot_count → are_bytes b ≡ true
      → (legal_bitmaps cat there (read_alarms (automatic_keys cat) b) and same (code_alarms cat (read_alarms (automatic_keys cat) b)) b) ≡ alarms_test cat (automatic_keys cat) b
  unfolding legal_bitmaps code_alarms
  bitmaps_tested wf f h b len bs =
      let l : List ℕ = automatic_keys cat in
      let u : Up 0 l = automatic_rise cat wf in
      let n = slots_are_enough cat f in
      rw (
        up_rising 0 (keys (read_alarms l b)) (up_read 0 l b u),
        true_and,
        read_shown 0 l b u (omega arith) bs,
        fill_take slot_count (length l) b len n,
      )
      (read_tested l b h (omega arith))
