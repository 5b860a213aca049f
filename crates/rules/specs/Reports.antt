-- Local reports: one L attribute is written, or one alarm is raised or cleared.
use Rattle.std.specs.Prelude.{ℕ, Bool, false, not, cond, List, [], ◌∷◌, ◌++◌, length, get_or, set, eqb}
use Rattle.rules.specs.Maps.{◌and◌, ◌or◌, Map, given, put, remove, among, same, first_that_applies}
use Rattle.rules.specs.Bytes.{bytes}
use Rattle.rules.specs.Masks.{mask}
use Rattle.rules.specs.Catalogue.{Attribute, Catalogue, class, attribute, key}
use Rattle.rules.specs.State.{Alarms, State, holds, contents, content, alarms_of, overwrite, change, with_table, with_alarms}
use Rattle.rules.specs.State.{with_alarm_number}
use Rattle.rules.specs.Legal.{legal_content, some_on}
use Rattle.rules.specs.Messages.{next_number, notification, alarm_type, avc_type}
use Rattle.rules.specs.Walks.{bitmap}

-- what a call comes to: dropped with a number of the list; nothing to send; or 48 bytes to send
pub data Outcome : Type 0 where
  dropped : ℕ → Outcome
  quiet : Outcome
  answered : List ℕ → Outcome

-- the first drop that applies leaves the state as it was
unfoldable pub unless_dropped : State → List (Bool × ℕ) → State × Outcome → State × Outcome
unless_dropped s drops taken = given (first_that_applies drops) taken (λ n. (s, dropped n))

-- ---- attributes

-- the drops of a report of content v of attribute a, whose instance is there or not; the content is legal or not
abbrev pub drops_of_attribute : Bool → Attribute → Bool → List ℕ → List (Bool × ℕ)
drops_of_attribute there a legal v =
    (not there, 11)
    ∷ (not a.L, 12)
    ∷ (not (eqb (length v) a.size and legal), 13)
    ∷ []

unfoldable pub attribute_drops : Catalogue → State → ℕ → ℕ → ℕ → List ℕ → List (Bool × ℕ)
attribute_drops cat s c i n v =
    drops_of_attribute (holds cat s.table c i) (attribute (class cat c) n)
    (legal_content (holds cat s.table) (class cat c) (contents cat s.table c i) n v) v

-- a message is sent only if something changed, and only where AVC is named
unfoldable pub report_attribute : Catalogue → State → ℕ → ℕ → ℕ → List ℕ → State × Outcome
report_attribute cat s c i n v =
    let changed : Bool = not (same v (content n (contents cat s.table c i))) in
    unless_dropped s (attribute_drops cat s c i n v) (
      with_table (change cat c i (overwrite ((n, v) ∷ [])) s.table) s,
      cond (changed and (attribute (class cat c) n).avc) (answered (notification avc_type c i (bytes 2 (mask (n ∷ [])) ++ v))) quiet,
    )

-- ---- alarms

unfoldable pub alarm_drops : Catalogue → State → ℕ → ℕ → ℕ → List (Bool × ℕ)
alarm_drops cat s c i n =
    (not (holds cat s.table c i), 11)
    ∷ (not (among n (class cat c).alarms), 12)
    ∷ []

-- a bitmap that is all zero isn't kept
unfoldable pub with_bitmap : ℕ → Alarms → Map Alarms → Map Alarms
with_bitmap k b m = cond (some_on b) (put k b m) (remove k m)

-- alarm n of an instance turned on or off; the notification first moves the alarm number on
unfoldable pub turned : State → ℕ → ℕ → ℕ → Bool → State × Outcome
turned s c i n on =
    let b : Alarms = set (alarms_of (key c i) s.alarms) n on in
    let seq : ℕ = next_number s.alarm_number in (
      with_alarm_number seq (with_alarms (with_bitmap (key c i) b s.alarms) s),
      answered (notification alarm_type c i (bitmap b ++ 0 ∷ 0 ∷ 0 ∷ seq ∷ [])),
    )

unfoldable pub report_alarm : Catalogue → State → ℕ → ℕ → ℕ → Bool → State × Outcome
report_alarm cat s c i n on =
    let is_on : Bool = get_or (alarms_of (key c i) s.alarms) n false in
    let as_it_was : Bool = (is_on and on) or not (is_on or on) in
    unless_dropped s (alarm_drops cat s c i n) (cond as_it_was (s, quiet) (turned s c i n on))

unfoldable pub computing_reports : ℕ
unfolding unless_dropped attribute_drops report_attribute alarm_drops with_bitmap turned report_alarm
computing_reports = 0
