-- The report of an alarm in a sound store.
use Prim.Native.Nat.{ℕ, ◌<◌}
use native.Mathlib.Omega.{arith}
use mathlib.Core.Path.{◌≡◌, refl, sym, ◌∙◌, ap}
use mathlib.Core.Bool.{Bool, true, false, cond}
use mathlib.Core.Option.{none, some}
use mathlib.Core.List.{List, [], ◌∷◌, ◌++◌}
use lib.ListN.{length, drop, set, replicate, length-replicate}
use lib.Seq.{get_or-take}
use lib.Dec.{ltb}
use Rattle.rules.specs.Maps.{is_some, among, gather, first_that_applies, computing_maps}
use Rattle.rules.specs.Bytes.{byte, laid}
use Rattle.rules.specs.Catalogue.{Class, no_class, class, key}
use Rattle.rules.specs.State.{Alarms, State, class_of, number_of, holds, alarms_of, with_alarms, with_alarm_number}
use Rattle.rules.specs.Legal.{automatic_keys, some_on, legal_bitmap}
use Rattle.rules.specs.Messages.{next_number}
use Rattle.rules.specs.Reports.{dropped, quiet, answered, unless_dropped, alarm_drops, with_bitmap, turned, report_alarm}
use Rattle.rules.proofs.Laws.{cases, never, and_true, eqb_true, ltb_lt, all_among}
use Rattle.rules.proofs.Lookups.{class_or_none}
use Rattle.rules.proofs.Standing.{key_class, key_number, automatic_rise}
use Rattle.store.specs.Layout.{slot_count, code_alarms, parts, encode, block_length, live_at, alarm_number_at, alarms_at}
use Rattle.store.specs.Entries.{Left, written, leave}
use Rattle.store.specs.Positions.{position}
use Rattle.store.proofs.AlarmsBack.{live_stands}
use Rattle.store.proofs.Parts.{alarms_have_their_length}
use Rattle.store.proofs.Widths.{Found, alarms_below_8}
use Rattle.store.proofs.AlarmBits.{shown_by, bitmap_read}
use Rattle.rules.proofs.Computed.{all_below, below}
use Rattle.legality.proofs.AlarmsKept.{Bitmap, turned_bitmap, declared_none}
use Rattle.octets.proofs.Laid.{one_laid}
use Rattle.class_tables.specs.Built.{cat_of, product_of}
use Rattle.class_tables.proofs.EveryProduct.{well_formed_of, fits_of}
use Rattle.octets.proofs.Parted.{part}
use Rattle.store.proofs.Positions.{position_among, stands_at}
use Rattle.store.proofs.StateLaid as laid_over
use Rattle.table.specs.Live.{there_in}
use Rattle.table.proofs.HeldAt.{there_is_held, slot_held}
use Rattle.sound_store.specs.Held.{Sound, stored}
use Rattle.sound_store.proofs.Held.{now, rest, remembers, in_parts, live_legal, live_held, alarms_are, alarms_changed, live_opened}
use Rattle.outcome.specs.Outcomes.{leaves}
use Rattle.class_tables.proofs.SlotLaws.{few_slots}
use Rattle.sound_store.proofs.AlarmPart.{slot_keys, slot_bytes_at, alarms_read, slot_bytes_are_bytes}
use Rattle.alarm_report.specs.Turned.{notice, turned_byte, as_it_is, turned_at, alarm_bytes, turning, with_byte}
use Rattle.alarm_report.proofs.ByteTurned.{turned_small, turned_shown, shown_at, bitmap_at, code_turned}
use Rattle.class_tables.specs.declared.Product.{Product}

pub in_slots : (pr : Product) (k j : ℕ) → position k (automatic_keys (cat_of pr)) ≡ some j → j < slot_count
in_slots pr k j p =
    let m = few_slots pr in
    let q = (stands_at k j (automatic_keys (cat_of pr)) p).0 in
    omega arith

-- ---- alarms that are declared

module _ (pr : Product) (c n : ℕ) (d : among n (class (cat_of pr) c).alarms ≡ true) where
  declared_found : Found (cat_of pr) c
  unfolding no_class among
  declared_found = class_or_none (cat_of pr) c (λ x. x) (λ e. never (rw e at d))

  pub declared_small : n < 8
  declared_small = ltb_lt n 8 (all_among (λ n. ltb n 8) (class (cat_of pr) c).alarms (alarms_below_8 (cat_of pr) (fits_of pr) c declared_found) n d)

  -- a bitmap with this alarm alone is legal
  alone : Alarms
  alone = set (replicate 224 false) n true

  alone_on : some_on alone ≡ true
  unfolding alone
  alone_on = below (λ n. some_on (set (replicate 224 false) n true)) 8 computed n declared_small
    where
      computed : all_below (λ n. some_on (set (replicate 224 false) n true)) 8 ≡ true
      computed = unfold all_below some_on computing_maps in refl

  alone_legal : legal_bitmap (class (cat_of pr) c) alone ≡ true
  unfolding legal_bitmap alone
  alone_legal =
      let k : Class = class (cat_of pr) c in
      let b : Bitmap k (set (replicate 224 false) n true) = turned_bitmap k (replicate 224 false) n true d
      (record { its_length = length-replicate 224 false; declared_only = declared_none 224 0 k.alarms }) in
      and_true (eqb_true (length (set (replicate 224 false) n true)) 224 b.its_length) (and_true b.declared_only alone_on)

module _ (pr : Product) (b : List ℕ) (h : Sound pr b) (buffer : List ℕ) (c i n : ℕ) (on : Bool) (lt : i < 65536) where
  abbrev s : State
  s = now pr b h

  abbrev k : ℕ
  k = key c i

  -- what the report leaves
  abbrev pub left : Left
  left = leaves pr s b buffer (report_alarm (cat_of pr) s c i n on)

  pub told_there : {r o : Bool} → r ≡ there_in (cat_of pr) (part live_at block_length b) c i → r ≡ o → holds (cat_of pr) s.table c i ≡ o
  told_there e q = sym (there_is_held pr (part live_at block_length b) s.table (live_held pr b h) c i lt) ∙ sym e ∙ q

  -- an instance that has a slot is there
  pub there_in_slot : {j : ℕ} → position k (automatic_keys (cat_of pr)) ≡ some j → holds (cat_of pr) s.table c i ≡ true
  there_in_slot p =
      slot_held (cat_of pr) (well_formed_of pr) s.table (live_opened pr b h) c i lt
      (sym (position_among k (automatic_keys (cat_of pr))) ∙ ap is_some p)

  -- ---- drops

  pub drop_11 : holds (cat_of pr) s.table c i ≡ false → record { outcome = dropped 11; store = b; buffer = buffer } ≡ left
  unfolding report_alarm unless_dropped alarm_drops first_that_applies leave
  drop_11 e = rw e refl

  module _ (there : holds (cat_of pr) s.table c i ≡ true) where
    pub drop_12 : among n (class (cat_of pr) c).alarms ≡ false → record { outcome = dropped 12; store = b; buffer = buffer } ≡ left
    unfolding report_alarm unless_dropped alarm_drops first_that_applies leave
    drop_12 e = rw (there, e) refl

    -- an instance that is there and has a declared alarm has a slot
    has_slot : among n (class (cat_of pr) c).alarms ≡ true → is_some (position k (automatic_keys (cat_of pr))) ≡ true
    has_slot d =
        let there_by_key : holds (cat_of pr) s.table (class_of k) (number_of k) ≡ true = rw (key_class c i lt, key_number c i lt) there in
        let legal : legal_bitmap (class (cat_of pr) (class_of k)) (alone pr c n d) ≡ true = rw (key_class c i lt) (alone_legal pr c n d) in
        position_among k (automatic_keys (cat_of pr)) ∙ live_stands (cat_of pr) (fits_of pr) s.table (live_legal pr b h) k (alone pr c n d) there_by_key legal

    pub no_slot_12 : none ≡ position k (automatic_keys (cat_of pr)) → record { outcome = dropped 12; store = b; buffer = buffer } ≡ left
    no_slot_12 e = cases (among n (class (cat_of pr) c).alarms)
        (λ d. never (ap is_some e ∙ has_slot d))
        drop_12

  -- ---- the alarm is looked at

  module _ (d : among n (class (cat_of pr) c).alarms ≡ true) (j : ℕ) (p : position k (automatic_keys (cat_of pr)) ≡ some j) where
    abbrev x : ℕ
    x = byte (alarm_bytes b) j

    abbrev seq : ℕ
    seq = next_number (byte b alarm_number_at)

    number_is : s.alarm_number ≡ byte b alarm_number_at
    unfolding encode parts gather
    number_is = sym (ap (λ (z : List ℕ). byte z alarm_number_at) (in_parts pr b h))

    bitmap_is : alarms_of k s.alarms ≡ shown_by x
    bitmap_is =
        let l : j < length (slot_keys pr b h) = (stands_at k j (automatic_keys (cat_of pr)) p).0 in
        let m = few_slots pr in
        let e : byte (slot_bytes_at pr b h alarms_at) j ≡ x =
        get_or-take (length (slot_keys pr b h)) (drop alarms_at b) j 0 l ∙ sym (get_or-take slot_count (drop alarms_at b) j 0 (omega arith)) in
        let rises = automatic_rise (cat_of pr) (well_formed_of pr) in
        ap (alarms_of k) (alarms_read pr b h)
        ∙ bitmap_at 0 (slot_keys pr b h) (slot_bytes_at pr b h alarms_at) k j rises (slot_bytes_are_bytes pr b h alarms_at (omega arith)) p
        ∙ ap (λ (z : ℕ). shown_by z) e

    reported : report_alarm (cat_of pr) s c i n on ≡ cond (as_it_is x n on) (s, quiet) (turned s c i n on)
    unfolding report_alarm unless_dropped alarm_drops first_that_applies as_it_is
    reported = rw (there_in_slot p, d, bitmap_is, shown_at x n on (declared_small pr c n d)) refl

    -- the state after a turn
    abbrev y : ℕ
    y = turned_byte x n on

    abbrev with_alarm : State
    with_alarm = with_alarms (with_bitmap k (shown_by y) s.alarms) s

    abbrev after : State
    after = with_alarm_number seq with_alarm

    turned_is : turned s c i n on ≡ (after, answered (notice c i y seq))
    unfolding turned notice
    turned_is = rw (bitmap_is, turned_shown x n on (declared_small pr c n d), bitmap_read y (turned_small x n on), number_is) refl

    -- the slot's byte alone changes, and the alarm number
    byte_changed : code_alarms (cat_of pr) (with_bitmap k (shown_by y) s.alarms) ≡ laid j (y ∷ []) (alarm_bytes b)
    byte_changed =
        let m : List ℕ = code_alarms (cat_of pr) s.alarms in
        let lm : length m ≡ slot_count = alarms_have_their_length (cat_of pr) s.alarms in
        let g = in_slots pr k j p in
        code_turned (cat_of pr) (well_formed_of pr) (fits_of pr) k j y (turned_small x n on) p s.alarms
        ∙ one_laid j y m (omega arith) ∙ ap (laid j (y ∷ [])) (sym (alarms_are pr b h))

    stored_after : encode (product_of pr) (cat_of pr) after ++ rest pr b h ≡ with_byte j y seq b
    unfolding with_byte stored
    stored_after =
        laid_over.number_laid (product_of pr) (cat_of pr) with_alarm (remembers pr b h) (rest pr b h) seq
        ∙ ap (laid alarm_number_at (seq ∷ [])) (alarms_changed pr b h (with_bitmap k (shown_by y) s.alarms) ∙ ap (λ (v : List ℕ). laid alarms_at v b) byte_changed)

    turned_left : turned_at j c i n on b buffer ≡ left
    unfolding turned_at turning leave written
    turned_left = cases (as_it_is x n on)
        (λ t. rw (reported, t) (λ z. record { outcome = quiet; store = in_parts pr b h z; buffer = buffer }))
        (λ t. rw (reported, t, turned_is) (λ z. record { outcome = answered (notice c i y seq); store = sym stored_after z; buffer = notice c i y seq ++ drop 48 buffer }))

    pub as_reported : (r : Left) → r ≡ turned_at j c i n on b buffer → r ≡ left
    as_reported r e = e ∙ turned_left
