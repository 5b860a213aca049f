-- What a line of a script asks for, by its first word, and the bytes that it holds, in a room for so many.
use Rattle.std.specs.Prelude.{ℕ, Bool, true, false, cond, List, [], length, take, get_or, ltb, Option, Some, None, Result, Ok, Err, is_some, codes}
use Rattle.std.specs.Option.{ok_or}
use Rattle.std.specs.Str.{bytes_eq}
use Rattle.rules.specs.Maps.{computing_maps}
use Rattle.script_values.specs.declared.Why.TheVariants as why
use Rattle.script_values.specs.declared.Wrong.{Wrong}
use Rattle.script_values.specs.declared.Word.{Word}
use Rattle.script_values.specs.declared.Three.{Three}
use Rattle.script_values.specs.Texts.{spelt}
use Rattle.script_values.specs.Runs.{computing_runs, wrong_at, and_then, is_blank, in_code, digit_in, run_end, part, next_word}
use Rattle.script_values.specs.Numbers.{computing_numbers, three_numbers}
use Rattle.script_values.specs.HexBytes.{computing_hex, Decoded, hex_from}
use Rattle.bench_script.specs.declared.Call.{Call}
use Rattle.bench_script.specs.declared.Call.TheVariants as call
use Rattle.bench_script.specs.declared.Asked.{Asked}
use Rattle.bench_script.specs.declared.Asked.TheVariants as asked

-- what is asked for, or why it can't be read
abbrev pub Answer : Type 0
Answer = Result Asked Wrong

-- that, and the bytes that go with it
abbrev pub Held : Type 0
Held = Answer × List ℕ

-- what a line asks for, if it asks for something, and the bytes that go with it
abbrev pub Read : Type 0
Read = Result (Option Asked) Wrong × List ℕ

-- ---- words

-- the call that a word stands for
unfoldable pub call_of : List ℕ → Call
call_of w =
    cond (bytes_eq w (codes "power")) call.Power
    (cond (bytes_eq w (codes "report")) call.Report
    (cond (bytes_eq w (codes "alarm")) call.Alarm
    (cond (bytes_eq w (codes "upload")) call.Upload
    (cond (bytes_eq w (codes "alarms")) call.Alarms call.Other))))

-- the number of the product that a word names
unfoldable pub product_named : List ℕ → Option ℕ
product_named w =
    cond (bytes_eq w (codes "small")) (Some 1)
    (cond (bytes_eq w (codes "large")) (Some 2)
    (cond (bytes_eq w (codes "meter")) (Some 3) None))

-- does a word say that an alarm is on, or that it is off?
unfoldable pub said_on : List ℕ → Option Bool
said_on w = cond (bytes_eq w (codes "on")) (Some true) (cond (bytes_eq w (codes "off")) (Some false) None)

-- ---- calls

-- what was asked for, if nothing follows
unfoldable pub if_last : Asked → List ℕ → ℕ → Answer
if_last a text at =
    cond (ltb (run_end is_blank text at) (length text)) (Err (wrong_at (run_end is_blank text at) why.TooMuch)) (Ok a)

-- the product that a word names
abbrev pub product_of : List ℕ → Word → Answer
product_of text w =
    and_then (ok_or (product_named (part text w.from w.to)) (wrong_at w.from why.NotAProduct)) (λ product. if_last (asked.Power product) text w.to)

-- power small|large|meter
unfoldable pub power : List ℕ → ℕ → Answer
power text at = and_then (next_word text at) (product_of text)

-- an alarm that a word says to be on or off
abbrev pub turned : List ℕ → Three → Word → Answer
turned text t w =
    and_then (ok_or (said_on (part text w.from w.to)) (wrong_at w.from why.NotOnOrOff))
    (λ on. if_last (asked.Alarm t.class t.number t.third on) text w.to)

unfoldable pub on_or_off : List ℕ → Three → ℕ → Answer
on_or_off text t at = and_then (next_word text at) (turned text t)

-- alarm CLASS INSTANCE NUMBER on|off
unfoldable pub alarm : List ℕ → ℕ → Answer
alarm text at = and_then (three_numbers text at) (λ t. on_or_off text t t.next)

-- what bytes in hex ask for
abbrev pub holding : (ℕ → Asked) → Decoded → Held
holding f d = (and_then d.0 (λ n. Ok (f n)), d.1)

-- report CLASS INSTANCE ATTRIBUTE BYTES
abbrev pub report_of : ℕ → List ℕ → Result Three Wrong → Held
report_of room text (Ok t) = holding (asked.Report t.class t.number t.third) (hex_from room text t.next)
report_of room text (Err w) = (Err w, [])

unfoldable pub report : ℕ → List ℕ → ℕ → Held
report room text at = report_of room text (three_numbers text at)

-- a message in hex
unfoldable pub message : ℕ → List ℕ → ℕ → Held
message room text from =
    cond (is_some (digit_in 16 (get_or text from 0))) (holding asked.Message (hex_from room text from)) (Err (wrong_at from why.UnknownWord), [])

-- ---- lines

-- a call whose word stands at a place, or a message that begins there
unfoldable pub read_call : ℕ → List ℕ → Word → Call → Held
read_call room text w call.Power = (power text w.to, [])
read_call room text w call.Report = report room text w.to
read_call room text w call.Alarm = (alarm text w.to, [])
read_call room text w call.Upload = (if_last asked.Upload text w.to, [])
read_call room text w call.Alarms = (if_last asked.Alarms text w.to, [])
read_call room text w call.Other = message room text w.from

-- a line that asks for something
abbrev pub asking : Held → Read
asking d = (and_then d.0 (λ a. Ok (Some a)), d.1)

-- a text by its first word; without one it asks for nothing
abbrev pub read_word : ℕ → List ℕ → Result Word Wrong → Read
read_word room text (Ok w) = asking (read_call room text w (call_of (part text w.from w.to)))
read_word room text (Err w) = (Ok None, [])

-- a text without a comment
unfoldable pub read_text : ℕ → List ℕ → Read
read_text room text = read_word room text (next_word text 0)

-- a line: its text goes up to the comment
abbrev pub read : ℕ → List ℕ → Read
read room line = read_text room (take (run_end in_code line 0) line)

-- how many bytes of the lent buffer go with what is asked for
abbrev pub asked_bytes : Asked → ℕ
asked_bytes (asked.Power product) = 0
asked_bytes (asked.Message n) = n
asked_bytes (asked.Report class number attribute n) = n
asked_bytes (asked.Alarm class number alarm on) = 0
asked_bytes asked.Upload = 0
asked_bytes asked.Alarms = 0

abbrev pub bytes_of : Result (Option Asked) Wrong → ℕ
bytes_of (Ok (Some a)) = asked_bytes a
bytes_of (Ok None) = 0
bytes_of (Err w) = 0

-- every definition of a line, opened
unfoldable pub computing_lines : ℕ
unfolding computing_maps spelt computing_runs computing_numbers computing_hex call_of product_named said_on if_last power on_or_off alarm report message
    read_call read_text
computing_lines = 0
