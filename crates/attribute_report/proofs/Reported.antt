-- What a report of an attribute leaves: dropped, quiet, or answered with a notification.
use Prim.Native.Nat.{ℕ, ◌+◌, ◌≤◌, ◌<◌}
use native.Mathlib.Omega.{arith}
use mathlib.Core.Path.{◌≡◌, refl, sym, ◌∙◌, ap}
use mathlib.Core.Bool.{Bool, true, false, not, ◌&&◌}
use mathlib.Core.Option.{Option, some, none}
use mathlib.Core.List.{List, [], ◌∷◌, ◌++◌}
use lib.ListN.{length, take, drop}
use lib.Seq.{take_at}
use borrow.Rule.Slice.PartMut.{put_mid}
use Rattle.rules.specs.Maps.{◌and◌, among, same, first_that_applies}
use Rattle.rules.specs.Bytes.{bytes, laid}
use Rattle.rules.specs.Masks.{mask}
use Rattle.rules.specs.Catalogue.{Class, known, attribute, supported, is_stored, stored_numbers, size_of}
use Rattle.rules.specs.State.{Table, State, contents, content, overwrite, change, with_table}
use Rattle.rules.specs.Messages.{avc_type, notification}
use Rattle.rules.specs.Reports.{answered, unless_dropped, report_attribute}
use Rattle.rules.specs.WellFormed.{numbered_1_to_16, rights_only_if_stored}
use Rattle.rules.proofs.Laws.{both, or_right, leb_le}
use Rattle.rules.proofs.Lookups.{implied, L_supported, supported_known, attribute_says}
use Rattle.store.specs.Layout.{live_bytes, live_at, block_length}
use Rattle.store.specs.Entries.{Left, written, leave}
use Rattle.legality.proofs.ReplyBytes.{framed_length}
use Rattle.octets.proofs.Laid.{laid_part}
use Rattle.class_tables.specs.declared.Attribute.{Attribute}
use Rattle.class_tables.specs.Built.{cat_of, class_for}
use Rattle.class_tables.specs.Describes.{offset_of, DescribedIn}
use Rattle.class_tables.proofs.Views.{size_is, avc_is}
use Rattle.class_tables.proofs.Offsets.{is_among_stored, offset_fits}
use Rattle.class_tables.proofs.EveryProduct.{well_formed_of, fits_of}
use Rattle.table.specs.Spots.{spot_among, spot}
use Rattle.table.specs.Places.{keys_in}
use Rattle.octets.proofs.Parted.{part}
use Rattle.store.proofs.StateLaid.{live_length}
use Rattle.table.proofs.WriteLaid.{write_laid}
use Rattle.attribute_check.specs.Judges.{is_in}
use Rattle.outcome.specs.declared.Outcome.{Outcome}
use Rattle.outcome.specs.declared.Outcome.TheVariants.{Answered, Quiet}
use Rattle.outcome.specs.Outcomes.{left_by, leaves}
use Rattle.sound_store.specs.Held.{state_in, Sound, stored}
use Rattle.sound_store.proofs.Held.{live_is, live_held, live_shaped, live_opened, live_changed}
use Rattle.sound_store.proofs.LiveTable.{its_spot}
use Rattle.table.proofs.SpotRoom.{spot_room}
use Rattle.attribute_report.specs.Spotted.{content_drops}
use Rattle.table.proofs.ContentsRead.{live_read}
use Rattle.attribute_report.proofs.Drops.{Accepted, accepted, not_there, rules_drop}
use Rattle.class_tables.specs.declared.Product.{Product}
use Rattle.message_frame.specs.Drops.{drop_number}
use Rattle.message_frame.specs.declared.drops.DropReason.{DropReason}
use Rattle.message_frame.specs.declared.drops.DropReason.TheVariants.{NoSuchInstance}
use Rattle.std.specs.Prelude.{Some, Result, Ok, Err, IsErrAnd}
use Rattle.std.specs.Prelude as code
use Rattle.class_tables.specs.Finding.{found_of}

abbrev live_in : List ℕ → List ℕ
live_in b = part live_at block_length b

abbrev left : Product → List ℕ → List ℕ → ℕ → ℕ → ℕ → List ℕ → Left
left pr b buffer c i n v = leaves pr (state_in pr b) b buffer (report_attribute (cat_of pr) (state_in pr b) c i n v)

-- v was written at a place of a live table, and something else stood there or not
abbrev Wrote : ℕ → List ℕ → List ℕ → List ℕ → Bool → Type 0
Wrote at v live now differs = (now ≡ laid at v live) × (differs ≡ not (same v (part at (length v) live)))

-- a report that isn't dropped, of the attribute that line a describes, of an instance whose contents begin at o
pub record Taken (pr : Product) (b buffer : List ℕ) (c i n : ℕ) (v : List ℕ) (o : ℕ) (a : Attribute) : Type 0 where
  pub numbered : (1 ≤ n) × (n ≤ 16)
  pub short : length v ≤ 25
  pub inside : o + a.at + length v ≤ block_length
  pub if_quiet : {now : List ℕ} {differs : Bool} → Wrote (o + a.at) v (live_in b) now differs → (differs && a.avc) ≡ false
      → left_by (Ok Quiet) (put_mid live_at block_length b now) buffer ≡ left pr b buffer c i n v
  pub if_answered : {now : List ℕ} {differs : Bool} → Wrote (o + a.at) v (live_in b) now differs → (differs && a.avc) ≡ true
      → {reply : List ℕ} → reply ≡ notification avc_type c i (bytes 2 (mask (n ∷ [])) ++ v) ++ drop 48 buffer
      → left_by (Ok Answered) (put_mid live_at block_length b now) reply ≡ left pr b buffer c i n v

-- the error that a `?` hands on is the one that it met
pub handed_on : {T : Type 0} {d : DropReason} (r : Result T DropReason) → IsErrAnd r (λ e. e ≡ d) → r ≡ Err d
handed_on (Ok x) h = absurd h
handed_on (Err e) h = ap Err h

module _ (pr : Product) (b buffer : List ℕ) (h : Sound pr b) (c i n : ℕ) (v : List ℕ) (lt : i < 65536) where
  abbrev s : State
  s = state_in pr b

  abbrev live : List ℕ
  live = live_in b

  abbrev k : Class
  k = class_for pr c

  abbrev sought : Option ℕ
  sought = spot_among (cat_of pr) (keys_in live) c i

  pub when_missing : sought ≡ none → {r : Result Outcome DropReason} → r ≡ Err NoSuchInstance → left_by r b buffer ≡ left pr b buffer c i n v
  unfolding report_attribute unless_dropped leave
  when_missing e is = rw (is, not_there pr live s (live_held pr b h) c i n v lt e) refl

  -- where it is, and its line, as the code has them
  module _ {o m : ℕ} {a : Attribute} {place : code.Option ℕ} (located : found_of place ≡ sought) (there : place ≡ Some o) (read : m ≡ n) (line : DescribedIn k m a) where
    found : sought ≡ some o
    found = sym located ∙ ap found_of there

    d : DescribedIn k n a
    d = rw read at line

    abbrev first : Option ℕ
    first = first_that_applies (content_drops (is_in (cat_of pr) live) k live o a v)

    pub when_dropped : {reason : DropReason} → some (drop_number reason) ≡ first → {r : Result Outcome DropReason} → r ≡ Err reason
        → left_by r b buffer ≡ left pr b buffer c i n v
    unfolding report_attribute unless_dropped leave
    when_dropped e is = rw (is, rules_drop pr live s (live_held pr b h) c i n v lt found d e) refl

    module _ (e : none ≡ first) where
      ok : Accepted pr live s (live_held pr b h) c i n v lt
      ok = accepted pr live s (live_held pr b h) c i n v lt found d e

      -- ---- the attribute

      is_there : supported k n ≡ true
      is_there = L_supported k n ok.reported

      is_known : known (cat_of pr) c ≡ true
      is_known = supported_known (cat_of pr) c n is_there

      is_kept : is_stored (attribute k n).source ≡ true
      unfolding rights_only_if_stored
      is_kept = implied (attribute_says rights_only_if_stored (cat_of pr) (well_formed_of pr).rights_if_stored c n is_there)
          (or_right (attribute k n).W (or_right (attribute k n).C ok.reported))

      among_kept : among n (stored_numbers k) ≡ true
      among_kept = is_among_stored k n is_there is_kept

      placed : a.at ≡ offset_of k n
      placed = d.placed is_kept is_there

      numbered : (1 ≤ n) × (n ≤ 16)
      unfolding numbered_1_to_16
      numbered = let p = both (attribute_says numbered_1_to_16 (cat_of pr) (well_formed_of pr).numbers c n is_there) in (leb_le 1 n p.0, leb_le n 16 p.1)

      short : length v ≤ 25
      short = let z = d.small in let e = size_is d in let f = ok.sized in omega arith

      inside : o + a.at + length v ≤ block_length
      inside =
          let shape = live_shaped pr b h in
          let long = shape.long in
          let room = spot_room pr live shape c i found in
          let fits = offset_fits k n among_kept in
          let e = placed in
          let f = ok.sized in
          omega arith

      -- ---- the store

      spot_is : spot (cat_of pr) s.table c i ≡ some o
      spot_is = its_spot pr b h c i ∙ found

      abbrev new_table : Table
      new_table = change (cat_of pr) c i (overwrite ((n, v) ∷ [])) s.table

      live_after : laid (o + a.at) v live ≡ live_bytes new_table
      live_after =
          ap (λ (at : ℕ). laid (o + at) v live) placed
          ∙ ap (laid (o + offset_of k n) v) (live_is pr b h)
          ∙ sym (write_laid (cat_of pr) (well_formed_of pr) (fits_of pr) s.table (live_opened pr b h) c i n v lt among_kept ok.sized o is_known spot_is)

      store_after : {now : List ℕ} → now ≡ laid (o + a.at) v live → put_mid live_at block_length b now ≡ stored pr (with_table new_table s) b
      store_after {now} e =
          let is : now ≡ live_bytes new_table = e ∙ live_after in
          laid_part live_at block_length now b (ap length is ∙ live_length new_table) ∙ ap (λ (x : List ℕ). laid live_at x b) is ∙ sym (live_changed pr b h new_table)

      -- ---- what is sent

      abbrev is_new : Bool
      is_new = not (same v (content n (contents (cat_of pr) s.table c i)))

      new_if_differs : not (same v (part (o + a.at) (length v) live)) ≡ is_new
      new_if_differs =
          ap (λ (w : List ℕ). not (same v w))
          (ap (λ (at : ℕ). part (o + at) (length v) live) placed
          ∙ ap (λ (m : ℕ). part (o + offset_of k n) m live) ok.sized
          ∙ ap (part (o + offset_of k n) (size_of k n)) (live_is pr b h)
          ∙ live_read pr s.table (live_opened pr b h) i lt c o is_known spot_is n among_kept)

      module _ {now : List ℕ} {differs : Bool} (wrote : Wrote (o + a.at) v live now differs) where
        is_sent : {x : Bool} → (differs && a.avc) ≡ x → (is_new and (attribute k n).avc) ≡ x
        unfolding ◌and◌
        is_sent t = rw (← new_if_differs, ← wrote.1, ← avc_is d) t

        quiet_left : (differs && a.avc) ≡ false → left_by (Ok Quiet) (put_mid live_at block_length b now) buffer ≡ left pr b buffer c i n v
        unfolding report_attribute unless_dropped leave written stored
        quiet_left t = rw (ok.undropped, is_sent t) (ap (λ (x : List ℕ). left_by (Ok Quiet) x buffer) (store_after wrote.0))

        abbrev message : List ℕ
        message = notification avc_type c i (bytes 2 (mask (n ∷ [])) ++ v)

        message_length : length message ≡ 48
        unfolding notification bytes
        message_length = framed_length (0 ∷ 0 ∷ []) avc_type (bytes 2 c ++ bytes 2 i) (bytes 2 (mask (n ∷ [])) ++ v) refl refl

        answered_left : (differs && a.avc) ≡ true → {reply : List ℕ} → reply ≡ message ++ drop 48 buffer
            → left_by (Ok Answered) (put_mid live_at block_length b now) reply ≡ left pr b buffer c i n v
        unfolding report_attribute unless_dropped leave written stored
        answered_left t {reply} f =
            let front : take 48 reply ≡ message = ap (take 48) f ∙ take_at message (drop 48 buffer) 48 message_length in
            rw (ok.undropped, is_sent t) (λ j. record { outcome = answered (front j); store = store_after wrote.0 j; buffer = f j })

      pub taken : Taken pr b buffer c i n v o a
      taken = record { numbered = numbered; short = short; inside = inside; if_quiet = quiet_left; if_answered = answered_left }
