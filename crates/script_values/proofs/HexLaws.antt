-- Bytes in hex: the places that aren't passed over, and two digits after two others.
use Prim.Native.Nat.{ℕ, suc, ◌+◌, ◌*◌, ◌≤◌, ◌<◌}
use native.Mathlib.Nat.{add-zero, zero-add}
use native.Mathlib.Numerals.{add-one}
use native.Mathlib.Omega.{arith}
use mathlib.Core.Path.{◌≡◌, refl, sym, ◌∙◌, ap}
use mathlib.Core.List.{List, [], ◌∷◌}
use lib.ListN.{length, take, drop, get_or, set, drop_of_length-le, take-append-drop}
use lib.Seq.{drop-cons, drop-drop, length-take-le, take-suc-set, drop-set-lt}
use borrow.Author.Tests.{lt-leb}
use Rattle.std.specs.Prelude.{Result, Ok, Err}
use Rattle.rules.specs.Bytes.{laid}
use Rattle.rules.proofs.Laws.{cases, le-leb}
use Rattle.script_values.specs.declared.Why.TheVariants as why
use Rattle.script_values.specs.declared.Wrong.{Wrong}
use Rattle.script_values.specs.Runs.{wrong_at, is_gap, run_length, run_end}
use Rattle.script_values.specs.HexBytes.{Decoded, Gives, marks, hex_digit, pairs}

-- ---- what is passed over

marks_past : (place : ℕ) (l : List ℕ) → marks place l ≡ marks (place + run_length is_gap l) (drop (run_length is_gap l) l)
unfolding marks run_length
marks_past place [] = refl
marks_past place (c ∷ l) = cases (is_gap c)
    (λ e. let z : place + 1 + run_length is_gap l ≡ place + suc (run_length is_gap l) = omega arith in rw (e, marks_past (place + 1) l, z))
    (λ e. rw (e, add-zero place, e))

gaps_are_past : (l : List ℕ) → run_length is_gap (drop (run_length is_gap l) l) ≡ 0
unfolding run_length
gaps_are_past [] = refl
gaps_are_past (c ∷ l) = cases (is_gap c) (λ e. rw e (gaps_are_past l)) (λ e. rw e (rw e refl))

module _ (s : List ℕ) (i : ℕ) where
  -- from the end of the gaps on, the same places are left
  pub same_marks : (j : ℕ) → j ≡ run_end is_gap s i → marks i (drop i s) ≡ marks j (drop j s)
  same_marks j e = marks_past i (drop i s) ∙ rw (drop-drop (run_length is_gap (drop i s)) i s, ← e)

  pub past_gaps : (j : ℕ) → j ≡ run_end is_gap s i → run_length is_gap (drop j s) ≡ 0
  past_gaps j e = rw (e, ← drop-drop (run_length is_gap (drop i s)) i s) (gaps_are_past (drop i s))

  -- no gap stands there, so the byte counts
  pub mark_here : i < length s → run_length is_gap (drop i s) ≡ 0 → marks i (drop i s) ≡ (i, get_or s i 0) ∷ marks (i + 1) (drop (i + 1) s)
  unfolding marks run_length
  mark_here h g = let e = drop-cons s i 0 h in cases (is_gap (get_or s i 0))
      (λ t. absurd (let z : suc (run_length is_gap (drop (suc i) s)) ≡ 0 = rw (e, t) at g in omega arith))
      (λ t. rw (e, t, add-one i))

  pub no_marks : length s ≤ i → marks i (drop i s) ≡ []
  unfolding marks
  no_marks h = rw (drop_of_length-le s h)

-- ---- what a buffer holds then

-- behind a byte that was stored, all is as it was
pub rest_stays : (b before : List ℕ) (n v : ℕ) → drop n b ≡ drop n before → drop (n + 1) (set b n v) ≡ drop (n + 1) before
rest_stays b before n v e = drop-set-lt (n + 1) b n v (omega arith) ∙ rw (← drop-drop 1 n b, ← drop-drop 1 n before, e)

pub laid_in_front : (d : Decoded) (a : Result ℕ Wrong) (n : ℕ) (b before : List ℕ) → (a, take n b) ≡ d → n ≤ length b → drop n b ≡ drop n before
    → Gives d a before b
unfolding laid
laid_in_front d a n b before e h r = record {
  says = ap (λ (x : Decoded). x.0) e;
  lays = (sym (take-append-drop n b) ∙ rw (r, length-take-le n b h, zero-add n)) ∙ ap (λ (x : Decoded). laid 0 x.1 before) e;
}

-- ---- pairs of digits

module _ (room : ℕ) (done : List ℕ) where
  high_none : (m : ℕ × ℕ) (l : List (ℕ × ℕ)) (w : Wrong) → hex_digit m.0 m.1 ≡ Err w → pairs room done (m ∷ l) ≡ (Err w, done)
  unfolding pairs
  high_none m [] w e = rw e
  high_none m (n ∷ l) w e = rw e

module _ (room i n : ℕ) (s b before : List ℕ) (z : Decoded) (r : n ≤ length b) (rest : drop n b ≡ drop n before)
    (e : pairs room (take n b) (marks i (drop i s)) ≡ z) where
  told : (a : Result ℕ Wrong) → (a, take n b) ≡ z → Gives z a before b
  told a q = laid_in_front z a n b before q r rest

  pub all_read : length s ≤ i → Gives z (Ok n) before b
  unfolding pairs
  all_read h = told (Ok n) (rw (no_marks s i h, length-take-le n b r) at e)

  module _ (h : i < length s) (g : run_length is_gap (drop i s) ≡ 0) where
    pub high_bad : (w : Wrong) → hex_digit i (get_or s i 0) ≡ Err w → Gives z (Err w) before b
    high_bad w f =
        told (Err w)
        (sym (high_none room (take n b) (i, get_or s i 0) (marks (i + 1) (drop (i + 1) s)) w f) ∙ (rw (mark_here s i h g) at e))

    module _ (high : ℕ) (is : hex_digit i (get_or s i 0) ≡ Ok high) (j : ℕ) (next : j ≡ run_end is_gap s (i + 1)) where
      pub half_a_byte : length s ≤ j → Gives z (Err (wrong_at i why.HalfByte)) before b
      unfolding pairs
      half_a_byte f = told _ (rw (mark_here s i h g, same_marks s (i + 1) j next, no_marks s j f, is) at e)

      module _ (k : j < length s) where
        both_marks : marks i (drop i s) ≡ (i, get_or s i 0) ∷ (j, get_or s j 0) ∷ marks (j + 1) (drop (j + 1) s)
        both_marks = rw (mark_here s i h g, same_marks s (i + 1) j next, mark_here s j k (past_gaps s (i + 1) j next))

        pub low_bad : (w : Wrong) → hex_digit j (get_or s j 0) ≡ Err w → Gives z (Err w) before b
        unfolding pairs
        low_bad w f = told (Err w) (rw (both_marks, is, f) at e)

        module _ (low : ℕ) (reads : hex_digit j (get_or s j 0) ≡ Ok low) where
          pub no_room : room ≤ n → Gives z (Err (wrong_at i why.TooLong)) before b
          unfolding pairs
          no_room f = told _ (rw (both_marks, is, reads, length-take-le n b r, le-leb room n f) at e)

          pub next_pair : n < length b → n < room → (i' : ℕ) → i' ≡ run_end is_gap s (j + 1)
              → pairs room (take (n + 1) (set b n (high * 16 + low))) (marks i' (drop i' s)) ≡ z
          unfolding pairs
          next_pair q f i' past =
              rw (add-one n, take-suc-set b n (high * 16 + low) q, ← same_marks s (j + 1) i' past)
              (rw (both_marks, is, reads, length-take-le n b r, lt-leb room n f) at e)
