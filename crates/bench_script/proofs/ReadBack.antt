-- A message that is written in hex, two digits a byte, is read back as it was.
use Prim.Native.Nat.{ℕ, ◌+◌, ◌-◌, ◌*◌, ◌/◌, ◌%◌, ◌≤◌, ◌<◌}
use Prim.Native.Char.{code}
use native.Mathlib.Omega.{arith}
use mathlib.Core.Path.{◌≡◌, refl, sym, ◌∙◌, ap}
use mathlib.Core.Bool.{true, false, cond}
use mathlib.Core.List.{List, [], ◌∷◌, ◌++◌, append_assoc, append-nil}
use lib.ListN.{length, take, length-append}
use lib.Seq.{take_all}
use lib.Dec.{eqb, ltb}
use borrow.Author.Tests.{lt-leb}
use Rattle.std.specs.Prelude.{Some, None, Ok}
use Rattle.std.specs.Char.{digit_value}
use Rattle.std.proofs.lemmas.Option.{none-some}
use Rattle.rules.specs.Bytes.{are_bytes}
use Rattle.rules.specs.Maps.{all}
use Rattle.rules.proofs.Laws.{cases, both, eqb_false, ltb_lt, ltb_le, lt-ltb, le-ltb}
use Rattle.script_values.specs.Runs.{is_blank, is_gap, in_word, in_code, digit_in, run_length, run_end, word_from, next_word}
use Rattle.script_values.specs.HexBytes.{marks, hex_digit, pairs}
use Rattle.bench_script.specs.declared.Call.TheVariants as call
use Rattle.bench_script.specs.declared.Asked.TheVariants as asked
use Rattle.bench_script.specs.Lines.{call_of, message, read_call, read_text, read}

-- ---- digits

unfoldable pub digit_of : ℕ → ℕ
digit_of n = cond (ltb n 10) (n + code "0") (n - 10 + code "A")

digit_back : (n : ℕ) → n < 16 → digit_in 16 (digit_of n) ≡ Some n
unfolding digit_of digit_in
digit_back n h = cases (ltb n 10)
    (λ t. let z = ltb_lt n 10 t in
    let e : digit_value (n + 48) ≡ n = rw (le-ltb (n + 48) 48 (omega arith), lt-ltb (n + 48) 58 (omega arith)) (omega arith) in
    rw (t, e, lt-ltb n 16 h))
    (λ t. let z = ltb_le n 10 t in
    let e : digit_value (n - 10 + 65) ≡ n =
    rw (le-ltb (n - 10 + 65) 48 (omega arith), le-ltb (n - 10 + 65) 58 (omega arith), le-ltb (n - 10 + 65) 65 (omega arith), lt-ltb (n - 10 + 65) 91 (omega arith))
    (omega arith) in
    rw (t, e, lt-ltb n 16 h))

-- a hex digit is none of the bytes that are no digit
module _ (c v : ℕ) (d : digit_in 16 c ≡ Some v) where
  differs : (k : ℕ) → digit_in 16 k ≡ None → eqb c k ≡ false
  differs k e = eqb_false c k (λ q. none-some v (sym e ∙ (sym (ap (digit_in 16) q) ∙ d)))

  no_blank : is_blank c ≡ false
  unfolding is_blank digit_in
  no_blank = rw (differs (code " ") refl, differs (code "\t") refl, differs (code "\r") refl)

  no_gap : is_gap c ≡ false
  unfolding is_gap digit_in
  no_gap = rw (differs (code "_") refl, no_blank)

  no_hash : eqb c (code "#") ≡ false
  unfolding digit_in
  no_hash = differs (code "#") refl

-- ---- bytes

unfoldable pub written : List ℕ → List ℕ
written [] = []
written (x ∷ v) = digit_of (x / 16) ∷ digit_of (x % 16) ∷ written v

module _ (x : ℕ) (h : x < 256) where
  high : digit_in 16 (digit_of (x / 16)) ≡ Some (x / 16)
  high = digit_back (x / 16) (omega arith)

  low : digit_in 16 (digit_of (x % 16)) ≡ Some (x % 16)
  low = digit_back (x % 16) (omega arith)

first : (x : ℕ) (v : List ℕ) → are_bytes (x ∷ v) ≡ true → x < 256
unfolding are_bytes all
first x v b = ltb_lt x 256 (both b).0

rest : (x : ℕ) (v : List ℕ) → are_bytes (x ∷ v) ≡ true → are_bytes v ≡ true
unfolding are_bytes all
rest x v b = (both b).1

all_code : (v : List ℕ) → are_bytes v ≡ true → run_length in_code (written v) ≡ length (written v)
unfolding written run_length
all_code [] b = refl
all_code (x ∷ v) b =
    let h = first x v b in
    rw (no_hash (digit_of (x / 16)) _ (high x h), no_hash (digit_of (x % 16)) _ (low x h), all_code v (rest x v b))

one_word : (v : List ℕ) → are_bytes v ≡ true → run_length in_word (written v) ≡ length (written v)
unfolding written run_length
one_word [] b = refl
one_word (x ∷ v) b =
    let h = first x v b in
    rw (no_blank (digit_of (x / 16)) _ (high x h), no_blank (digit_of (x % 16)) _ (low x h), one_word v (rest x v b))

no_blanks : (x : ℕ) (v : List ℕ) → are_bytes (x ∷ v) ≡ true → run_length is_blank (written (x ∷ v)) ≡ 0
unfolding written run_length
no_blanks x v b = rw (no_blank (digit_of (x / 16)) _ (high x (first x v b)))

no_call : (x : ℕ) (v : List ℕ) → are_bytes (x ∷ v) ≡ true → call_of (written (x ∷ v)) ≡ call.Other
unfolding written call_of digit_in
no_call x v b =
    let h = first x v b in
    let d = differs (digit_of (x / 16)) _ (high x h) in
    let e = differs (digit_of (x % 16)) _ (low x h) in
    cases (eqb (digit_of (x / 16)) (code "a"))
    (λ t. rw (d (code "p") refl, d (code "r") refl, t, e (code "l") refl, d (code "u") refl))
    (λ t. rw (d (code "p") refl, d (code "r") refl, t, d (code "u") refl))

pairs_back : (room place : ℕ) (done v : List ℕ) → are_bytes v ≡ true → length done + length v ≤ room
    → pairs room done (marks place (written v)) ≡ (Ok (length (done ++ v)), done ++ v)
unfolding written marks hex_digit pairs
pairs_back room place done [] b r = rw (append-nil done)
pairs_back room place done (x ∷ v) b r =
    let h = first x v b in
    let n : x / 16 * 16 + x % 16 ≡ x = omega arith in
    let l : length (done ++ (x ∷ [])) + length v ≤ room = rw (length-append done (x ∷ [])) (omega arith) in
    rw (
      no_gap (digit_of (x / 16)) _ (high x h),
      no_gap (digit_of (x % 16)) _ (low x h),
      high x h,
      low x h,
      lt-leb room (length done) (omega arith),
      n,
    ) (pairs_back room (place + 1 + 1) (done ++ (x ∷ [])) v (rest x v b) l ∙ ap (λ (w : List ℕ). (Ok (length w), w)) (append_assoc done (x ∷ []) v))

-- ---- the line

module _ (room x : ℕ) (v : List ℕ) (b : are_bytes (x ∷ v) ≡ true) (r : length (x ∷ v) ≤ room) where
  abbrev line : List ℕ
  line = written (x ∷ v)

  begun : 0 < length line
  unfolding written
  begun = omega arith

  whole_word : next_word line 0 ≡ Ok (record { from = 0; to = length line })
  unfolding word_from
  whole_word =
      let n : 0 + 0 + length line ≡ length line = omega arith in
      rw (no_blanks x v b, lt-ltb 0 (length line) begun, one_word (x ∷ v) b) (ap (λ (n : ℕ). Ok (record { from = 0; to = n })) n)

  message_back : message room line 0 ≡ (Ok (asked.Message (length (x ∷ v))), x ∷ v)
  unfolding message written
  message_back =
      rw (high x (first x v b)) (rw (pairs_back room 0 [] (x ∷ v) b (omega arith)))

  text_back : read_text room line ≡ (Ok (Some (asked.Message (length (x ∷ v)))), x ∷ v)
  unfolding read_text read_call
  text_back = rw (whole_word, take_all (length line - 0) line (omega arith), no_call x v b, message_back)

  pub read_back : read room (written (x ∷ v)) ≡ (Ok (Some (asked.Message (length (x ∷ v)))), x ∷ v)
  read_back =
      let t : take (run_end in_code line 0) line ≡ line = rw (all_code (x ∷ v) b) (take_all (0 + length line) line (omega arith)) in
      rw t text_back
