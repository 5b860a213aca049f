-- One turn of an alarm: in its byte, in the store, and the notification.
use Prim.Native.Nat.{ℕ, ◌<◌, ◌≤◌}
use native.Mathlib.Omega.{arith}
use mathlib.Core.Path.{◌≡◌, refl, ◌∙◌, ap}
use mathlib.Core.Bool.{Bool, true, false, not, beq}
use mathlib.Core.List.{List, [], ◌∷◌, ◌++◌}
use lib.ListN.{length, take, drop, get_or, set, length-drop}
use Rattle.rules.specs.Maps.{◌and◌, ◌or◌, given}
use Rattle.rules.specs.Bytes.{byte, bytes, bits, bits_from, laid}
use Rattle.rules.specs.Messages.{framed, notification, next_number}
use Rattle.rules.specs.Reports.{quiet, answered}
use Rattle.alarm_report.specs.Turned.{notice, turned_byte, as_it_is, turned_at, turning, alarm_bytes, with_byte}
use Rattle.store.specs.Layout.{slot_count, alarm_number_at, alarms_at}
use Rattle.rules.specs.Run.{store_length}
use mathlib.Core.Option.{none, some}
use Rattle.class_tables.specs.Finding.{found_of}
use Rattle.std.specs.Prelude.{Option, Some, None}
use Rattle.octets.proofs.Laid.{laid_part, getD_laid_before, length_laid}
use lib.Seq.{length-take-le}
use borrow.Rule.Slice.PartMut.{put_mid, put_same}

-- ---- the notification

module _ (c i : ℕ) where
  pub noticed : (rest b : List ℕ) (x n : ℕ) → b ≡ framed (bytes 2 0) 0x10 (bytes 2 c ++ bytes 2 i) [] ++ rest → set (set b 8 x) 39 n ≡ notice c i x n ++ rest
  unfolding notice notification framed bytes
  noticed rest b x n e = rw e refl

  pub begun_length : (rest b : List ℕ) → b ≡ framed (bytes 2 0) 0x10 (bytes 2 c ++ bytes 2 i) [] ++ rest → 48 ≤ length b
  unfolding framed bytes
  begun_length rest b e = rw e (omega arith)

  pub notice_taken : (rest : List ℕ) (x n : ℕ) → take 48 (notice c i x n ++ rest) ≡ notice c i x n
  unfolding notice notification framed bytes
  notice_taken rest x n = refl

-- ---- the byte

-- are two tests alike? As the code asks it, and as the rules do
alike : (a b : Bool) → ((a and b) or not (a or b)) ≡ beq a b
unfolding ◌and◌ ◌or◌
alike true true = refl
alike true false = refl
alike false true = refl
alike false false = refl

module _ (x n : ℕ) (on is_on : Bool) (e : is_on ≡ get_or (bits 8 x) n false) where
  pub turned_not : beq is_on on ≡ true → none ≡ turning x n on
  unfolding turning as_it_is
  turned_not same = rw (← e, alike is_on on, same)

  pub turned_to : beq is_on on ≡ false → (y : ℕ) → y ≡ bits_from 0 (set (bits 8 x) n on) → some y ≡ turning x n on
  unfolding turning as_it_is turned_byte
  turned_to other y is = rw (← e, alike is_on on, other, ← is)

-- ---- in a store and a reply buffer

module _ (j c i n : ℕ) (on : Bool) (store buffer : List ℕ) (r : Option ℕ) (told : found_of r ≡ turning (byte (alarm_bytes store) j) n on)
    (alarms : List ℕ) (are : alarms ≡ given (found_of r) (alarm_bytes store) (λ y. laid j (y ∷ []) (alarm_bytes store))) where
  pub left_quiet : r ≡ None → record { outcome = quiet; store = put_mid alarms_at slot_count store alarms; buffer = buffer } ≡ turned_at j c i n on store buffer
  unfolding turned_at
  left_quiet q =
      let same : alarms ≡ alarm_bytes store = rw q at are in
      rw (← told, q, same, put_same alarms_at slot_count store)

  -- the alarms come before the alarm number
  module _ (long : store_length ≤ length store) (in_slots : j < slot_count) (y : ℕ) (q : r ≡ Some y) where
    turned : alarms ≡ laid j (y ∷ []) (alarm_bytes store)
    turned = rw q at are

    turned_length : length alarms ≡ slot_count
    turned_length =
        let l : length (alarm_bytes store) ≡ slot_count = length-take-le slot_count (drop alarms_at store) (let z = length-drop alarms_at store in omega arith) in
        rw turned (length_laid j (y ∷ []) (alarm_bytes store) (omega arith) ∙ l)

    abbrev seq : ℕ
    seq = next_number (byte store alarm_number_at)

    abbrev lent : List ℕ
    lent = put_mid alarms_at slot_count store alarms

    given_back : lent ≡ laid alarms_at (laid j (y ∷ []) (alarm_bytes store)) store
    given_back = laid_part alarms_at slot_count alarms store turned_length ∙ ap (λ (v : List ℕ). laid alarms_at v store) turned

    same_number : next_number (byte lent alarm_number_at) ≡ seq
    same_number =
        let l = turned_length in
        ap (λ (x : List ℕ). next_number (byte x alarm_number_at)) (laid_part alarms_at slot_count alarms store turned_length)
        ∙ ap next_number (getD_laid_before alarms_at alarms store (omega arith) alarm_number_at 0 (omega arith))

    pub left_turned : (new after : List ℕ) → new ≡ laid alarm_number_at (next_number (byte lent alarm_number_at) ∷ []) lent
        → after ≡ notice c i y (next_number (byte lent alarm_number_at)) ++ drop 48 buffer
        → record { outcome = answered (take 48 after); store = new; buffer = after } ≡ turned_at j c i n on store buffer
    unfolding turned_at with_byte
    left_turned new after es ea =
        let st : new ≡ laid alarm_number_at (seq ∷ []) (laid alarms_at (laid j (y ∷ []) (alarm_bytes store)) store) =
        es ∙ ap (λ (s : ℕ). laid alarm_number_at (s ∷ []) lent) same_number ∙ ap (laid alarm_number_at (seq ∷ [])) given_back in
        let bu : after ≡ notice c i y seq ++ drop 48 buffer = ea ∙ ap (λ (s : ℕ). notice c i y s ++ drop 48 buffer) same_number in
        let o = ap (take 48) bu ∙ notice_taken c i (drop 48 buffer) y seq in
        rw (← told, q) (λ k. record { outcome = answered (o k); store = st k; buffer = bu k })
