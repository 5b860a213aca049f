-- The alarms in a sound store, and those that a walk has frozen: a byte for each slot.
use Prim.Native.Nat.{ℕ, ◌+◌, ◌≤◌}
use native.Mathlib.Omega.{arith}
use mathlib.Core.Path.{◌≡◌, refl, sym, ◌∙◌, ap}
use mathlib.Core.Bool.{true, cond}
use mathlib.Core.Option.{none, some}
use mathlib.Core.List.{List, [], ◌∷◌}
use lib.ListN.{length, take, drop, length-drop}
use lib.Seq.{get_or-drop, drop-drop, length-take-le}
use lib.Dec.{eqb}
use Rattle.rules.specs.Maps.{given}
use Rattle.rules.specs.Bytes.{byte, are_bytes}
use Rattle.rules.specs.State.{holds}
use Rattle.rules.specs.Legal.{automatic_keys, legal_bitmaps, legal_walk, legal_state}
use Rattle.rules.specs.Run.{store_length}
use Rattle.rules.proofs.Laws.{both}
use Rattle.rules.proofs.ByteLaws.{bytes_take, bytes_drop}
use Rattle.store.specs.Layout.{slot_count, code_alarms, encode, alarms_at, walk_at}
use Rattle.store.specs.Decode.{read_alarms, read_optional}
use Rattle.store.proofs.AlarmsBack.{live_alarms_back, walk_back}
use Rattle.store.proofs.StateBack.{optional_back}
use Rattle.store.proofs.Soundness.{legal_length}
use Rattle.store.proofs.OfBytes.{encoding_is_bytes}
use Rattle.class_tables.specs.Built.{cat_of, product_of}
use Rattle.class_tables.proofs.EveryProduct.{well_formed_of, fits_of, product_small}
use Rattle.octets.proofs.Parted.{part, part_before}
use Rattle.sound_store.specs.Held.{Sound}
use Rattle.sound_store.proofs.Held.{now, rest, in_parts, live_legal, alarms_are, walk_is}
use Rattle.class_tables.specs.declared.Product.{Product}
use Rattle.store.proofs.AlarmBits.{read_front}
use Rattle.class_tables.proofs.SlotLaws.{few_slots}
use Rattle.legality.proofs.LegalStates.{open_state}

module _ (pr : Product) (b : List ℕ) (h : Sound pr b) where
  abbrev pub slot_keys : List ℕ
  slot_keys = automatic_keys (cat_of pr)

  -- the bytes of the slots, from a place on
  abbrev pub slot_bytes_at : ℕ → List ℕ
  slot_bytes_at o = take (length slot_keys) (drop o b)

  -- ---- the alarms as they are read

  alarms_legal : legal_bitmaps (cat_of pr) (holds (cat_of pr) (now pr b h).table) (now pr b h).alarms ≡ true
  unfolding legal_state
  alarms_legal = (both (both h.legal).1).0

  walk_legal : given (now pr b h).walk true (legal_walk (cat_of pr)) ≡ true
  walk_legal = (open_state (cat_of pr) (well_formed_of pr) (now pr b h) h.legal).its_walk

  slots_front : (o : ℕ) → read_alarms slot_keys (take slot_count (drop o b)) ≡ read_alarms slot_keys (slot_bytes_at o)
  slots_front o = read_front slot_count slot_keys (drop o b) (few_slots pr) ∙ sym (read_front (length slot_keys) slot_keys (drop o b) (omega arith))

  pub alarms_read : (now pr b h).alarms ≡ read_alarms slot_keys (slot_bytes_at alarms_at)
  alarms_read =
      sym (ap (read_alarms slot_keys) (alarms_are pr b h)
      ∙ live_alarms_back (cat_of pr) (well_formed_of pr) (fits_of pr) (now pr b h).table (now pr b h).alarms (live_legal pr b h) alarms_legal)
      ∙ slots_front alarms_at

  flag_front : (x : List ℕ) → byte (take (1 + slot_count) x) 0 ≡ byte x 0
  flag_front [] = refl
  flag_front (a ∷ x) = refl

  behind_flag : (x : List ℕ) → drop 1 (take (1 + slot_count) x) ≡ take slot_count (drop 1 x)
  behind_flag [] = refl
  behind_flag (a ∷ x) = refl

  pub walk_read : (now pr b h).walk ≡ cond (eqb (byte b walk_at) 0) none (some (read_alarms slot_keys (slot_bytes_at (walk_at + 1))))
  unfolding read_optional
  walk_read =
      let w : (now pr b h).walk ≡ read_optional (read_alarms slot_keys) (take (1 + slot_count) (drop walk_at b)) =
      sym (ap (read_optional (read_alarms slot_keys)) (walk_is pr b h)
      ∙ optional_back slot_count (code_alarms (cat_of pr)) (read_alarms slot_keys) (now pr b h).walk (λ m y. walk_back (cat_of pr) (well_formed_of pr) (fits_of pr) m (rw y at walk_legal))) in
      let f : byte (take (1 + slot_count) (drop walk_at b)) 0 ≡ byte b walk_at = flag_front (drop walk_at b) ∙ get_or-drop walk_at b 0 0 in
      let r : drop 1 (take (1 + slot_count) (drop walk_at b)) ≡ take slot_count (drop (walk_at + 1) b) = behind_flag (drop walk_at b) ∙ ap (take slot_count) (drop-drop 1 walk_at b) in
      w ∙ rw (f, r, slots_front (walk_at + 1)) refl

  -- they are bytes, one of each slot
  pub slot_bytes_are_bytes : (o : ℕ) → o + slot_count ≤ store_length → are_bytes (slot_bytes_at o) ≡ true
  slot_bytes_are_bytes o g =
      let e : List ℕ = encode (product_of pr) (cat_of pr) (now pr b h) in
      let n : length e ≡ store_length = legal_length (product_of pr) (cat_of pr) (now pr b h) h.legal in
      let m = few_slots pr in
      let q : slot_bytes_at o ≡ part o (length slot_keys) e = ap (part o (length slot_keys)) (in_parts pr b h) ∙ part_before e (rest pr b h) o (length slot_keys) (omega arith) in
      rw q (bytes_take (length slot_keys) (drop o e) (bytes_drop o e (encoding_is_bytes (product_of pr) (cat_of pr) (now pr b h) (product_small pr) (fits_of pr) h.legal)))

  pub slot_bytes_length : (o : ℕ) → o + slot_count ≤ store_length → length (slot_bytes_at o) ≡ length slot_keys
  slot_bytes_length o g =
      let m = few_slots pr in
      let z = h.long in
      length-take-le (length slot_keys) (drop o b) (simp length-drop (omega arith))
