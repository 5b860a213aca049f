-- The 48 bytes, the results, and how a command is answered.
use Rattle.std.specs.Prelude.{ℕ, ◌+◌, ◌%◌, Bool, not, cond, List, [], ◌∷◌, ◌++◌, length, take, drop, replicate, eqb}
use Rattle.rules.specs.Maps.{given, same, first_that_applies}
use Rattle.rules.specs.Bytes.{byte, two, bytes, fill}
use Rattle.rules.specs.State.{State}
use Rattle.rules.specs.Legal.{header_drops}

-- ---- fields

abbrev pub message_number : List ℕ → ℕ
message_number m = byte m 2 % 32

abbrev pub class_in : List ℕ → ℕ
class_in m = two m 4

abbrev pub instance_in : List ℕ → ℕ
instance_in m = two m 6

-- bytes 8 to 39, called c0 to c31
abbrev pub contents_in : List ℕ → List ℕ
contents_in m = take 32 (drop 8 m)

abbrev pub trailer : List ℕ
trailer = 0 ∷ 0 ∷ 0 ∷ 0x28 ∷ []

abbrev pub checksum : List ℕ
checksum = replicate 4 0

-- drops 3 to 7, in order
unfoldable pub message_drops : List ℕ → List (Bool × ℕ)
message_drops m =
    ((not (eqb (length m) 48), 3) ∷ header_drops m)
    ++ (not (same (take 4 (drop 40 m)) trailer), 7) ∷ []

-- ---- message numbers

abbrev pub create_number : ℕ
create_number = 4

abbrev pub delete_number : ℕ
delete_number = 6

abbrev pub set_number : ℕ
set_number = 8

abbrev pub get_number : ℕ
get_number = 9

abbrev pub all_alarms_number : ℕ
all_alarms_number = 11

abbrev pub alarms_next_number : ℕ
alarms_next_number = 12

abbrev pub upload_number : ℕ
upload_number = 13

abbrev pub upload_next_number : ℕ
upload_next_number = 14

abbrev pub reset_number : ℕ
reset_number = 15

-- the commands whose reply has a result
abbrev pub with_result : List ℕ
with_result = create_number ∷ delete_number ∷ set_number ∷ get_number ∷ reset_number ∷ []

-- uploads and alarm walks have none
abbrev pub without_result : List ℕ
without_result = all_alarms_number ∷ alarms_next_number ∷ upload_number ∷ upload_next_number ∷ []

-- ---- results

abbrev pub done : ℕ
done = 0

abbrev pub no_place : ℕ
no_place = 1

abbrev pub not_supported : ℕ
not_supported = 2

abbrev pub bad_parameter : ℕ
bad_parameter = 3

abbrev pub unknown_class : ℕ
unknown_class = 4

abbrev pub unknown_instance : ℕ
unknown_instance = 5

abbrev pub instance_exists : ℕ
instance_exists = 7

abbrev pub attribute_failed : ℕ
attribute_failed = 9

-- ---- messages that are sent

-- id, type, device, class and instance; 32 bytes of contents, those not named zero; the fixed bytes; the checksum
unfoldable pub framed : List ℕ → ℕ → List ℕ → List ℕ → List ℕ
framed id type entity c = id ++ (type ∷ 0x0A ∷ (entity ++ (fill 32 c ++ (trailer ++ checksum))))

-- a reply echoes id, class and instance
unfoldable pub reply_to : List ℕ → List ℕ → List ℕ
reply_to m c = framed (take 2 m) (0x20 + message_number m) (take 4 (drop 4 m)) c

-- a notification has id 0
unfoldable pub notification : ℕ → ℕ → ℕ → List ℕ → List ℕ
notification type c i v = framed (0 ∷ 0 ∷ []) type (bytes 2 c ++ bytes 2 i) v

abbrev pub alarm_type : ℕ
alarm_type = 0x10

abbrev pub avc_type : ℕ
avc_type = 0x11

-- 254 to 255, 255 to 1, never to 0; for the sync counter and the alarm number
unfoldable pub next_number : ℕ → ℕ
next_number n = cond (eqb n 255) 1 (n + 1)

-- ---- answers

-- what a command makes of a state: the new state and the reply's contents
abbrev pub Answer : Type 0
Answer = State × List ℕ

-- The lines of a command's results: the first that applies refuses it with these contents. A refusal changes nothing.
unfoldable pub unless_refused : State → List (Bool × List ℕ) → Answer → Answer
unless_refused s lines accepted = given (first_that_applies lines) accepted (λ refusal. (s, refusal))

unfoldable pub computing_messages : ℕ
unfolding message_drops framed reply_to notification next_number unless_refused
computing_messages = 0
