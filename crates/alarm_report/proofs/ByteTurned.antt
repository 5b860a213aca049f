-- One byte of alarms turned is one bitmap turned.
use Prim.Native.Nat.{ℕ, suc, ◌+◌, ◌<◌}
use native.Mathlib.Omega.{arith}
use mathlib.Core.Path.{◌≡◌, refl, sym, ◌∙◌, ap}
use mathlib.Core.Bool.{Bool, true, false}
use mathlib.Core.Option.{none, some}
use mathlib.Core.Logic.{◌≢◌}
use mathlib.Core.List.{List, [], ◌∷◌, ◌++◌, map}
use lib.ListN.{length, take, drop, get_or, set, replicate, length-set, length-map, get_or-append}
use lib.Seq.{take_all, get_or-drop, set-append_left, take-set-lt}
use lib.Dec.{eqb}
use Rattle.rules.specs.Maps.{Map, find, keep, remove}
use Rattle.rules.specs.Bytes.{byte, are_bytes, bits, bits_from}
use Rattle.rules.specs.Catalogue.{Catalogue}
use Rattle.rules.specs.State.{Alarms, alarms_of}
use Rattle.rules.specs.Legal.{automatic_keys, some_on}
use Rattle.rules.specs.Reports.{with_bitmap}
use Rattle.rules.specs.WellFormed.{WellFormed}
use Rattle.rules.proofs.Laws.{cases, not-false, eqb_true, eqb_false, eqb_eq, eqb_ne}
use Rattle.rules.proofs.MapLaws.{Up, some_eq, none_some, find_here, find_past, find_put, find_remove}
use Rattle.rules.proofs.ByteLaws.{eight_small, byte_small, bytes_drop}
use Rattle.rules.proofs.Standing.{automatic_rise}
use Rattle.store.specs.Layout.{slot_count, code_alarms, fits}
use Rattle.store.specs.Decode.{read_alarms}
use Rattle.store.specs.Positions.{position}
use Rattle.store.proofs.BytesBack.{byte_bits_back}
use Rattle.store.proofs.Widths.{slots_are_enough}
use Rattle.store.proofs.AlarmBits.{shown_by, byte_shown, on_byte}
use Rattle.store.proofs.Positions.{further, stands_at}
use Rattle.alarm_report.specs.Turned.{turned_byte}

-- ---- one bitmap

length_bits : (x : ℕ) → length (bits 8 x) ≡ 8
unfolding bits
length_bits x = refl

module _ (x n : ℕ) (on : Bool) where
  its_length : length (set (bits 8 x) n on) ≡ 8
  its_length = length-set (bits 8 x) n on ∙ length_bits x

  pub turned_small : turned_byte x n on < 256
  unfolding turned_byte
  turned_small =
      let l : Alarms = set (bits 8 x) n on in
      let e : take 8 l ≡ l = take_all 8 l (omega (arith, its_length)) in
      rw e at (eight_small l)

  pub turned_shown : n < 8 → set (shown_by x) n on ≡ shown_by (turned_byte x n on)
  unfolding turned_byte
  turned_shown h =
      set-append_left (bits 8 x) (replicate 216 false) n on (omega (arith, length_bits x))
      ∙ ap (λ (l : Alarms). l ++ replicate 216 false) (sym (byte_bits_back (set (bits 8 x) n on) its_length))

  pub shown_at : n < 8 → get_or (shown_by x) n false ≡ get_or (bits 8 x) n false
  shown_at h = get_or-append (bits 8 x) (replicate 216 false) false n (omega (arith, length_bits x))

-- ---- the bitmap of a key that has a byte

-- a key below those that are read has none
none_below : (low : ℕ) (ks b : List ℕ) (k : ℕ) → Up low ks → k < low → find k (read_alarms ks b) ≡ none
unfolding read_alarms find
none_below low [] b k u h = refl
none_below low (a ∷ ks) b k u h =
    let g = u.0 in
    let ne : k ≢ a = omega arith in
    let r : find k (read_alarms ks (drop 1 b)) ≡ none = none_below (suc a) ks (drop 1 b) k u.1 (omega arith) in
    cases (some_on (shown_by (byte b 0))) (λ t. rw (t, eqb_false k a ne) r) (λ t. rw t r)

-- where no alarm is on
nothing_on : (x : ℕ) → x < 256 → some_on (shown_by x) ≡ false → x ≡ 0
nothing_on x h t = eqb_eq x 0 (not-false (sym (on_byte x h) ∙ t))

nothing_shown : shown_by 0 ≡ replicate 224 false
unfolding bits
nothing_shown = refl

pub bitmap_at : (low : ℕ) (ks b : List ℕ) (k j : ℕ) → Up low ks → are_bytes b ≡ true → position k ks ≡ some j → alarms_of k (read_alarms ks b) ≡ shown_by (byte b j)
unfolding read_alarms alarms_of position
bitmap_at low [] b k j u h p = none_some p
bitmap_at low (a ∷ ks) b k j u h p =
    let x : ℕ = byte b 0 in
    let lt : x < 256 = byte_small b 0 h in
    let others : Map Alarms = read_alarms ks (drop 1 b) in
    cases (eqb k a)
    (λ t.
    let q : k ≡ a = eqb_eq k a t in
    let j0 : 0 ≡ j = some_eq (rw t at p) in
    rw (← j0) (cases (some_on (shown_by x))
    (λ s. rw (s, q, find_here a (shown_by x) others))
    (λ s. rw (s, none_below (suc a) ks (drop 1 b) k u.1 (omega arith)) (sym (ap (λ (z : ℕ). shown_by z) (nothing_on x lt s) ∙ nothing_shown)))))
    (λ t. further (position k ks) j (rw t at p) (λ i w n.
    let ih : alarms_of k others ≡ shown_by (byte (drop 1 b) i) = bitmap_at (suc a) ks (drop 1 b) k i u.1 (bytes_drop 1 b h) w in
    let o : 1 + i ≡ j = omega (arith, n) in
    let e : byte (drop 1 b) i ≡ byte b j = get_or-drop 1 b i 0 ∙ ap (byte b) o in
    let r : alarms_of k others ≡ shown_by (byte b j) = ih ∙ ap (λ (z : ℕ). shown_by z) e in
    cases (some_on (shown_by x))
    (λ s. rw (s, find_past k (a, shown_by x) others (eqb_ne k a t)) r)
    (λ s. rw s r)))

-- ---- bitmaps with one of them changed

find_gone : (k : ℕ) (m : Map Alarms) → find k (remove k m) ≡ none
unfolding find keep
find_gone k [] = refl
find_gone k (e ∷ m) = cases (eqb e.0 k)
    (λ t. rw t (find_gone k m))
    (λ t. rw (t, eqb_false k e.0 (λ q. eqb_ne e.0 k t (sym q))) (find_gone k m))

abbrev slot_byte : Map Alarms → ℕ → ℕ
slot_byte m k = bits_from 0 (take 8 (alarms_of k m))

module _ (k y : ℕ) (small : y < 256) (m : Map Alarms) where
  changed_there : slot_byte (with_bitmap k (shown_by y) m) k ≡ y
  unfolding with_bitmap alarms_of
  changed_there = cases (some_on (shown_by y))
      (λ t. rw (t, find_put k k (shown_by y) m, eqb_true k k refl) (byte_shown y small))
      (λ t. rw (t, find_gone k m) (sym (nothing t)))
    where
      nothing : some_on (shown_by y) ≡ false → y ≡ bits_from 0 (take 8 (replicate 224 false))
      nothing t = nothing_on y small t ∙ unfold bits_from in refl

  same_elsewhere : (a : ℕ) → a ≢ k → slot_byte (with_bitmap k (shown_by y) m) a ≡ slot_byte m a
  unfolding with_bitmap alarms_of
  same_elsewhere a ne = cases (some_on (shown_by y))
      (λ t. rw (t, find_put a k (shown_by y) m, eqb_false a k ne))
      (λ t. rw (t, find_remove a k m ne))

-- ---- their bytes

mapped_same : (f g : ℕ → ℕ) (low k : ℕ) (l : List ℕ) → Up low l → k < low → ((a : ℕ) → a ≢ k → g a ≡ f a) → map g l ≡ map f l
mapped_same f g low k [] u h e = refl
mapped_same f g low k (a ∷ l) u h e =
    let q = u.0 in
    let ne : a ≢ k = omega arith in
    rw (e a ne, mapped_same f g (suc a) k l u.1 (omega arith) e)

mapped_one : (f g : ℕ → ℕ) (low k j : ℕ) (l : List ℕ) → Up low l → position k l ≡ some j → ((a : ℕ) → a ≢ k → g a ≡ f a) → map g l ≡ set (map f l) j (g k)
unfolding position
mapped_one f g low k j [] u p e = none_some p
mapped_one f g low k j (a ∷ l) u p e = cases (eqb k a)
    (λ t.
    let q : k ≡ a = eqb_eq k a t in
    let j0 : 0 ≡ j = some_eq (rw t at p) in
    rw (← j0, q) (ap (λ (z : List ℕ). g a ∷ z) (mapped_same f g (suc a) a l u.1 (omega arith) (λ b ne. e b (λ y. ne (y ∙ q))))))
    (λ t. further (position k l) j (rw t at p) (λ i w n.
    let ne : a ≢ k = λ y. eqb_ne k a t (sym y) in
    rw (n, e a ne) (ap (λ (z : List ℕ). f a ∷ z) (mapped_one f g (suc a) k i l u.1 w e))))

module _ (cat : Catalogue) (wf : WellFormed cat) (f : fits cat ≡ true) (k j y : ℕ) (small : y < 256) (p : position k (automatic_keys cat) ≡ some j) (m : Map Alarms) where
  pub code_turned : code_alarms cat (with_bitmap k (shown_by y) m) ≡ set (code_alarms cat m) j y
  unfolding code_alarms
  code_turned =
      let l : List ℕ = automatic_keys cat in
      let old : List ℕ = map (slot_byte m) l in
      let lt : j < length l = (stands_at k j l p).0 in
      let lo : length old ≡ length l = length-map l (slot_byte m) in
      let n = slots_are_enough cat f in
      let one : map (slot_byte (with_bitmap k (shown_by y) m)) l ≡ set old j y =
      mapped_one (slot_byte m) (slot_byte (with_bitmap k (shown_by y) m)) 0 k j l (automatic_rise cat wf) p (same_elsewhere k y small m)
      ∙ ap (set old j) (changed_there k y small m) in
      rw (one, ← set-append_left old (replicate slot_count 0) j y (omega arith)) (take-set-lt slot_count (old ++ replicate slot_count 0) j y (omega arith))
