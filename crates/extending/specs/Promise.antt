-- Demand 3 as a statement: what it assumes of a run of the first product, and what it says of the second.
use Rattle.std.specs.Prelude.{ℕ, ◌≡◌, Bool, true, false, not, List, [], ◌∷◌, eqb}
use Rattle.std.proofs.Math.Option.{some}
use Rattle.rules.specs.Maps.{◌and◌, ◌or◌, among}
use Rattle.rules.specs.Bytes.{byte}
use Rattle.rules.specs.Catalogue.{Catalogue}
use Rattle.rules.specs.State.{Table, State, read}
use Rattle.rules.specs.Messages.{message_number, without_result, create_number, delete_number, set_number, all_alarms_number}
use Rattle.rules.specs.Messages.{alarms_next_number, done, no_place, instance_exists}
use Rattle.rules.specs.Walks.{Section, sections}
use Rattle.rules.specs.Reports.{Outcome, dropped, quiet, answered}
use Rattle.rules.specs.WellFormed.{implies}
use Rattle.rules.specs.Run.{Call, message, attribute_report, alarm_report, Input, step}
use Rattle.rules.specs.Extends.{names_what_it_has}

-- ---- what is assumed

-- the result in a reply
abbrev pub result_in : List ℕ → ℕ
result_in r = byte r 8

-- 0, 1 or 7
abbrev pub is_0_1_or_7 : ℕ → Bool
is_0_1_or_7 n = among n (done ∷ no_place ∷ instance_exists ∷ [])

abbrev pub is_create_delete_or_set : List ℕ → Bool
is_create_delete_or_set m = among (message_number m) (create_number ∷ delete_number ∷ set_number ∷ [])

-- a Create, Delete or Set that is answered is answered with 0, 1 or 7
unfoldable pub answered_with_0_1_or_7 : Call → Outcome → Bool
answered_with_0_1_or_7 (message m) (dropped n) = true
answered_with_0_1_or_7 (message m) quiet = true
answered_with_0_1_or_7 (message m) (answered r) = implies (is_create_delete_or_set m) (is_0_1_or_7 (result_in r))
answered_with_0_1_or_7 (attribute_report c i n v) o = true
answered_with_0_1_or_7 (alarm_report c i n on) o = true

-- Of every call of a run: a report names what the product then has, and a Create, Delete or Set is answered with 0, 1 or 7.
unfoldable pub within_the_promise : Catalogue → State → List Input → Bool
within_the_promise cat s [] = true
within_the_promise cat s (p ∷ l) =
    names_what_it_has cat s p.call
    and answered_with_0_1_or_7 p.call (step cat s p).1
    and within_the_promise cat (step cat s p).0 l

-- ---- what is said of each outcome

-- has the reply to this message a result? Those of uploads and alarm walks have none
abbrev pub has_a_result : List ℕ → Bool
has_a_result m = not (among (message_number m) without_result)

abbrev pub is_of_an_alarm_walk : List ℕ → Bool
is_of_an_alarm_walk m = among (message_number m) (all_alarms_number ∷ alarms_next_number ∷ [])

-- must the second's reply to this message be the first's, which is r?
unfoldable pub must_be_the_same : List ℕ → List ℕ → Bool
must_be_the_same m r = (has_a_result m and is_0_1_or_7 (result_in r)) or is_of_an_alarm_walk m

abbrev pub is_a_report : Call → Bool
is_a_report (message m) = false
is_a_report (attribute_report c i n v) = true
is_a_report (alarm_report c i n on) = true

-- the outcomes of one call, of the first product and of the second
pub record SameOutcome (c : Call) (o p : Outcome) : Type 0 where
  -- the second drops exactly what the first drops, with the same number
  pub same_drops : (n : ℕ) → (o ≡ dropped n → p ≡ dropped n) × (p ≡ dropped n → o ≡ dropped n)
  -- the same reply, its first 40 bytes and the rest, wherever the first's has a result and it is 0, 1 or 7; and to every message of an alarm walk
  pub same_replies : (m r : List ℕ) → c ≡ message m → o ≡ answered r → must_be_the_same m r ≡ true → p ≡ answered r
  -- the same notification, or none
  pub same_notifications : is_a_report c ≡ true → p ≡ o

-- ---- what is said of uploads

-- does attribute n of instance i of class c stand in these sections?
unfoldable pub stands_in : List Section → ℕ → ℕ → ℕ → Bool
stands_in [] c i n = false
stands_in (p ∷ l) c i n = (eqb p.of_class c and eqb p.of_instance i and among n p.shows) or stands_in l c i n

-- each attribute in the first's whole upload stands with the same content in the second's
pub record SameUpload (first second : Catalogue) (t u : Table) : Type 0 where
  pub stands_too : (c i n : ℕ) → stands_in (sections first t) c i n ≡ true → stands_in (sections second u) c i n ≡ true
  pub same_content : (c i n : ℕ) → stands_in (sections first t) c i n ≡ true → read second u c i n ≡ read first t c i n

-- the uploads that were asked for last, if no reset has ended them, of the first product and of the second
abbrev pub SameUploads : Catalogue → Catalogue → State → State → Type 0
SameUploads first second s z = (t : Table) → s.upload ≡ some t → (u : Table) × (z.upload ≡ some u) × SameUpload first second t u

-- ---- what is said of a run

unfoldable pub SameRun : Catalogue → Catalogue → State → State → List Input → Type 0
SameRun first second s z [] = Unit {0}
SameRun first second s z (p ∷ l) =
    SameOutcome p.call (step first s p).1 (step second z p).1
    × SameUploads first second (step first s p).0 (step second z p).0
    × SameRun first second (step first s p).0 (step second z p).0 l

-- the outcomes of a run alone, call by call
abbrev pub SameOutcomes : List Input → List Outcome → List Outcome → Type 0
SameOutcomes [] [] [] = Unit {0}
SameOutcomes [] [] (p ∷ ps) = ⊥
SameOutcomes [] (o ∷ os) ps = ⊥
SameOutcomes (i ∷ l) [] ps = ⊥
SameOutcomes (i ∷ l) (o ∷ os) [] = ⊥
SameOutcomes (i ∷ l) (o ∷ os) (p ∷ ps) = SameOutcome i.call o p × SameOutcomes l os ps

-- what is assumed computes where this name is unfolded
unfoldable pub computing_promise : ℕ
unfolding implies names_what_it_has answered_with_0_1_or_7 within_the_promise must_be_the_same stands_in
computing_promise = 0
