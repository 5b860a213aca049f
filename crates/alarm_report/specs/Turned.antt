-- An alarm turned on or off in the bytes of a store.
use Rattle.std.specs.Prelude.{ℕ, Bool, false, not, cond, List, [], ◌∷◌, ◌++◌, take, drop, get_or, set, replicate}
use Rattle.std.proofs.Math.Option.{Option, none, some}
use Rattle.rules.specs.Maps.{◌and◌, ◌or◌, given}
use Rattle.rules.specs.Bytes.{byte, bits, bits_from, laid}
use Rattle.rules.specs.Messages.{next_number, notification, alarm_type}
use Rattle.rules.specs.Reports.{quiet, answered}
use Rattle.store.specs.Entries.{Left}
use Rattle.store.specs.Layout.{slot_count, alarms_at, alarm_number_at}

-- the notification of one byte of alarms, with an alarm number
unfoldable pub notice : ℕ → ℕ → ℕ → ℕ → List ℕ
notice c i alarms n = notification alarm_type c i ((alarms ∷ replicate 27 0) ++ 0 ∷ 0 ∷ 0 ∷ n ∷ [])

-- a byte of alarms with one of them turned on or off
unfoldable pub turned_byte : ℕ → ℕ → Bool → ℕ
turned_byte x n on = bits_from 0 (set (bits 8 x) n on)

-- is an alarm of a byte already as it is to be?
unfoldable pub as_it_is : ℕ → ℕ → Bool → Bool
as_it_is x n on = let is_on : Bool = get_or (bits 8 x) n false in (is_on and on) or not (is_on or on)

-- what the byte becomes, unless the alarm is already as it is to be
unfoldable pub turning : ℕ → ℕ → Bool → Option ℕ
turning x n on = cond (as_it_is x n on) none (some (turned_byte x n on))

-- the bytes of alarms in a store
abbrev pub alarm_bytes : List ℕ → List ℕ
alarm_bytes store = take slot_count (drop alarms_at store)

-- a byte of alarms of a store changed, and the alarm number with it
unfoldable pub with_byte : ℕ → ℕ → ℕ → List ℕ → List ℕ
with_byte j y seq store = laid alarm_number_at (seq ∷ []) (laid alarms_at (laid j (y ∷ []) (alarm_bytes store)) store)

-- what is left of a store and a reply buffer when alarm n of slot j's byte is turned on or off
unfoldable pub turned_at : ℕ → ℕ → ℕ → ℕ → Bool → List ℕ → List ℕ → Left
turned_at j c i n on store buffer =
    let seq : ℕ = next_number (byte store alarm_number_at) in
    given (turning (byte (alarm_bytes store) j) n on)
    (record { outcome = quiet; store = store; buffer = buffer })
    (λ y. record { outcome = answered (notice c i y seq); store = with_byte j y seq store; buffer = notice c i y seq ++ drop 48 buffer })
