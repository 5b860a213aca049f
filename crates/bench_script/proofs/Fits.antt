-- The bytes that go with what a line asks for fit the buffer that they are laid into.
use Prim.Native.Nat.{ℕ, ◌+◌, ◌*◌, ◌≤◌, ◌<◌}
use native.Mathlib.Omega.{arith}
use mathlib.Core.Path.{◌≡◌, refl}
use mathlib.Core.List.{List, [], ◌∷◌, ◌++◌}
use lib.ListN.{length, take, get_or, length-append}
use lib.Dec.{leb, ltb}
use Rattle.std.specs.Prelude.{Some, Result, Ok, Err, is_some}
use Rattle.std.specs.Option.{ok_or}
use Rattle.rules.proofs.Laws.{cases, leb_lt}
use Rattle.script_values.specs.declared.Why.TheVariants as why
use Rattle.script_values.specs.declared.Wrong.{Wrong}
use Rattle.script_values.specs.declared.Word.{Word}
use Rattle.script_values.specs.declared.Three.{Three}
use Rattle.script_values.specs.Runs.{and_then, wrong_at, is_blank, in_code, digit_in, run_end, part, next_word}
use Rattle.script_values.specs.Numbers.{three_numbers}
use Rattle.script_values.specs.HexBytes.{Decoded, with_digit, hex_digit, pairs, hex_from}
use Rattle.bench_script.specs.declared.Call.{Call}
use Rattle.bench_script.specs.declared.Call.TheVariants as call
use Rattle.bench_script.specs.declared.Asked.{Asked}
use Rattle.bench_script.specs.declared.Asked.TheVariants as asked
use Rattle.bench_script.specs.Lines.{Answer, product_named, said_on, call_of, if_last, product_of, power, turned, on_or_off, alarm, report_of, report, message, read_call}
use Rattle.bench_script.specs.Lines.{read_word, read_text, read, asked_bytes, bytes_of}

-- ---- bytes in hex

abbrev count_of : Result ℕ Wrong → ℕ
count_of (Ok n) = n
count_of (Err w) = 0

digit_fits : (room : ℕ) (done : List ℕ) (r : Result ℕ Wrong) (f : ℕ → Decoded) → ((d : ℕ) → count_of (f d).0 ≤ room)
    → count_of (with_digit done r f).0 ≤ room
digit_fits room done (Ok d) f h = h d
digit_fits room done (Err w) f h = omega arith

pairs_fit : (room : ℕ) (done : List ℕ) (l : List (ℕ × ℕ)) → length done ≤ room → count_of (pairs room done l).0 ≤ room
unfolding pairs
pairs_fit room done [] h = h
pairs_fit room done (m ∷ []) h = digit_fits room done (hex_digit m.0 m.1) _ (λ d. omega arith)
pairs_fit room done (m ∷ n ∷ l) h =
    digit_fits room done (hex_digit m.0 m.1) _
    (λ high. digit_fits room done (hex_digit n.0 n.1) _
    (λ low. cases (leb room (length done)) (λ g. rw g (omega arith))
    (λ g. rw g (pairs_fit room (done ++ ((high * 16 + low) ∷ [])) l
    (let z : length done < room = leb_lt room (length done) g in rw (length-append done ((high * 16 + low) ∷ [])) (omega arith))))))

-- ---- calls without bytes

-- how many bytes go with an answer
abbrev held : Answer → ℕ
held r = bytes_of (and_then r (λ a. Ok (Some a)))

module _ (room : ℕ) (f : ℕ → Asked) (counts : (n : ℕ) → asked_bytes (f n) ≡ n) where
  hex_fits : (h : Result ℕ Wrong) → count_of h ≤ room → held (and_then h (λ n. Ok (f n))) ≤ room
  hex_fits (Ok n) h = rw (counts n) h
  hex_fits (Err w) h = omega arith

if_last_none : (a : Asked) (text : List ℕ) (at : ℕ) → asked_bytes a ≡ 0 → held (if_last a text at) ≡ 0
unfolding if_last
if_last_none a text at e = cases (ltb (run_end is_blank text at) (length text)) (λ t. rw t) (λ t. rw t e)

then_none : {A : Type 0} (r : Result A Wrong) (f : A → Answer) → ((x : A) → held (f x) ≡ 0) → held (and_then r f) ≡ 0
then_none (Ok x) f h = h x
then_none (Err w) f h = refl

power_none : (text : List ℕ) (at : ℕ) → held (power text at) ≡ 0
unfolding power
power_none text at =
    then_none (next_word text at) (product_of text)
    (λ w. then_none (ok_or (product_named (part text w.from w.to)) (wrong_at w.from why.NotAProduct)) (λ product. if_last (asked.Power product) text w.to)
    (λ product. if_last_none (asked.Power product) text w.to refl))

alarm_none : (text : List ℕ) (at : ℕ) → held (alarm text at) ≡ 0
unfolding alarm on_or_off
alarm_none text at =
    then_none (three_numbers text at) _
    (λ t. then_none (next_word text t.next) (turned text t)
    (λ w. then_none (ok_or (said_on (part text w.from w.to)) (wrong_at w.from why.NotOnOrOff))
    (λ on. if_last (asked.Alarm t.class t.number t.third on) text w.to)
    (λ on. if_last_none (asked.Alarm t.class t.number t.third on) text w.to refl)))

-- ---- lines

module _ (room : ℕ) (text : List ℕ) where
  report_fits : (t : Result Three Wrong) → held (report_of room text t).0 ≤ room
  report_fits (Ok t) =
      hex_fits room (asked.Report t.class t.number t.third) (λ n. refl) (hex_from room text t.next).0 (pairs_fit room [] _ (omega arith))
  report_fits (Err w) = omega arith

  message_fits : (from : ℕ) → held (message room text from).0 ≤ room
  unfolding message
  message_fits from = cases (is_some (digit_in 16 (get_or text from 0)))
      (λ e. rw e (hex_fits room asked.Message (λ n. refl) (hex_from room text from).0 (pairs_fit room [] _ (omega arith))))
      (λ e. rw e (omega arith))

  call_fits : (w : Word) (k : Call) → held (read_call room text w k).0 ≤ room
  unfolding read_call report
  call_fits w call.Power = rw (power_none text w.to) (omega arith)
  call_fits w call.Report = report_fits (three_numbers text w.to)
  call_fits w call.Alarm = rw (alarm_none text w.to) (omega arith)
  call_fits w call.Upload = rw (if_last_none asked.Upload text w.to refl) (omega arith)
  call_fits w call.Alarms = rw (if_last_none asked.Alarms text w.to refl) (omega arith)
  call_fits w call.Other = message_fits w.from

  word_fits : (k : Result Word Wrong) → bytes_of (read_word room text k).0 ≤ room
  word_fits (Ok w) = call_fits w (call_of (part text w.from w.to))
  word_fits (Err w) = omega arith

  text_fits : bytes_of (read_text room text).0 ≤ room
  unfolding read_text
  text_fits = word_fits (next_word text 0)

pub line_fits : (room : ℕ) (line : List ℕ) → bytes_of (read room line).0 ≤ room
line_fits room line = text_fits room (take (run_end in_code line 0) line)
