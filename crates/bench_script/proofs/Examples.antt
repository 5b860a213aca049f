-- Lines of a script and what they ask for, one of each kind, and a line for each reason why one can't be read.
use mathlib.Core.Path.{◌≡◌, refl}
use mathlib.Core.Bool.{true, false}
use mathlib.Core.List.{[], ◌∷◌}
use Rattle.std.specs.Prelude.{Some, None, Ok, Err}
use Rattle.script_values.specs.declared.Why.TheVariants as why
use Rattle.script_values.specs.Texts.{spelt}
use Rattle.script_values.specs.Runs.{wrong_at}
use Rattle.bench_script.specs.declared.Asked.TheVariants as asked
use Rattle.bench_script.specs.Lines.{computing_lines, read}

-- ---- lines that ask for something

small : read 48 (spelt "power small") ≡ (Ok (Some (asked.Power 1)), [])
unfolding computing_lines
small = refl

large : read 48 (spelt "\tpower  large   # the larger product\r") ≡ (Ok (Some (asked.Power 2)), [])
unfolding computing_lines
large = refl

meter : read 48 (spelt "power meter") ≡ (Ok (Some (asked.Power 3)), [])
unfolding computing_lines
meter = refl

message : read 48 (spelt "0a_FF 1 2") ≡ (Ok (Some (asked.Message 3)), 0x0A ∷ 0xFF ∷ 0x12 ∷ [])
unfolding computing_lines
message = refl

report : read 48 (spelt "report 11 0x0101 3 00_0a # its third attribute") ≡ (Ok (Some (asked.Report 11 257 3 2)), 0x00 ∷ 0x0A ∷ [])
unfolding computing_lines
report = refl

report_of_nothing : read 48 (spelt "report 65535 0xFFFF 255") ≡ (Ok (Some (asked.Report 65535 65535 255 0)), [])
unfolding computing_lines
report_of_nothing = refl

alarm_on : read 48 (spelt "alarm 11 257 0 on") ≡ (Ok (Some (asked.Alarm 11 257 0 true)), [])
unfolding computing_lines
alarm_on = refl

alarm_off : read 48 (spelt "alarm 11 257 0x0A off\r") ≡ (Ok (Some (asked.Alarm 11 257 10 false)), [])
unfolding computing_lines
alarm_off = refl

upload : read 48 (spelt "upload") ≡ (Ok (Some asked.Upload), [])
unfolding computing_lines
upload = refl

alarms : read 48 (spelt "alarms#all of them") ≡ (Ok (Some asked.Alarms), [])
unfolding computing_lines
alarms = refl

empty_line : read 48 (spelt "") ≡ (Ok None, [])
unfolding computing_lines
empty_line = refl

comment : read 48 (spelt "  # power small") ≡ (Ok None, [])
unfolding computing_lines
comment = refl

-- ---- lines that can't be read

unknown_word : read 48 (spelt " reprot 11 257 3 00") ≡ (Err (wrong_at 1 why.UnknownWord), [])
unfolding computing_lines
unknown_word = refl

not_hex : read 48 (spelt "0A 1G") ≡ (Err (wrong_at 4 why.NotHex), 0x0A ∷ [])
unfolding computing_lines
not_hex = refl

half_byte : read 48 (spelt "0A 1 # one digit") ≡ (Err (wrong_at 3 why.HalfByte), 0x0A ∷ [])
unfolding computing_lines
half_byte = refl

too_long : read 2 (spelt "0A 0B 0C") ≡ (Err (wrong_at 6 why.TooLong), 0x0A ∷ 0x0B ∷ [])
unfolding computing_lines
too_long = refl

not_a_number : read 48 (spelt "report 1A 257 3") ≡ (Err (wrong_at 8 why.NotANumber), [])
unfolding computing_lines
not_a_number = refl

no_digit : read 48 (spelt "report 0x 257 3") ≡ (Err (wrong_at 9 why.NotANumber), [])
unfolding computing_lines
no_digit = refl

number_too_large : read 48 (spelt "alarm 11 65536 0 on") ≡ (Err (wrong_at 13 why.NumberTooLarge), [])
unfolding computing_lines
number_too_large = refl

attribute_too_large : read 48 (spelt "report 11 257 256 00") ≡ (Err (wrong_at 16 why.NumberTooLarge), [])
unfolding computing_lines
attribute_too_large = refl

missing_word : read 48 (spelt "alarm 11 257 ") ≡ (Err (wrong_at 13 why.MissingWord), [])
unfolding computing_lines
missing_word = refl

too_much : read 48 (spelt "upload now") ≡ (Err (wrong_at 7 why.TooMuch), [])
unfolding computing_lines
too_much = refl

neither_on_nor_off : read 48 (spelt "alarm 11 257 0 On") ≡ (Err (wrong_at 15 why.NotOnOrOff), [])
unfolding computing_lines
neither_on_nor_off = refl

not_a_product : read 48 (spelt "power smaller") ≡ (Err (wrong_at 6 why.NotAProduct), [])
unfolding computing_lines
not_a_product = refl

no_meters : read 48 (spelt "power meters") ≡ (Err (wrong_at 6 why.NotAProduct), [])
unfolding computing_lines
no_meters = refl
