-- One attribute's content written: the table's bytes with it laid over the old one.
use Prim.Native.Nat.{ℕ, ◌+◌, ◌≤◌, ◌<◌}
use mathlib.Core.Path.{◌≡◌}
use mathlib.Core.Bool.{true}
use mathlib.Core.Option.{some}
use mathlib.Core.List.{List, [], ◌∷◌}
use lib.ListN.{length}
use Rattle.rules.specs.Maps.{keys, rising, among}
use Rattle.rules.specs.Bytes.{laid}
use Rattle.rules.specs.Masks.{total}
use Rattle.rules.specs.Catalogue.{Catalogue, class, known, size_of, is_stored, stored_numbers}
use Rattle.rules.specs.State.{Contents, Table, overwrite, change}
use Rattle.rules.specs.Legal.{legal_contents}
use Rattle.rules.specs.WellFormed.{WellFormed}
use Rattle.rules.proofs.MapLaws.{rising_up, rising_keep}
use Rattle.legality.proofs.NewContents.{attributes_in_order}
use Rattle.store.specs.Layout.{contents_bytes, contents_width, fits, live_bytes}
use Rattle.store.proofs.ContentsBack.{legal_keys, legal_sized, contents_length}
use Rattle.legality.proofs.Tables.{LegalLive}
use Rattle.store.specs.Positions.{offset}
use Rattle.table.specs.Spots.{spot}
use Rattle.table.proofs.ContentsLaid.{contents_laid, offset_fits}
use Rattle.table.proofs.ChangeLaid.{change_laid}

module _ (cat : Catalogue) (wf : WellFormed cat) (ft : fits cat ≡ true) (t : Table) (h : LegalLive cat wf t) (c i n : ℕ) (w : List ℕ)
    (lt : i < 65536) (st : among n (stored_numbers (class cat c)) ≡ true) (lw : length w ≡ size_of (class cat c) n) where
  abbrev wrote : Contents → Contents
  wrote r = overwrite ((n, w) ∷ []) r

  abbrev off : ℕ
  off = offset (size_of (class cat c)) (stored_numbers (class cat c)) n

  -- in legal contents of the class
  in_contents : (r : Contents) → legal_contents cat (class cat c) r ≡ true → rising (stored_numbers (class cat c)) ≡ true
      → (contents_bytes (wrote r) ≡ laid off w (contents_bytes r)) × (off + length w ≤ length (contents_bytes r))
  unfolding contents_width
  in_contents r l up =
      let ks : keys r ≡ stored_numbers (class cat c) = legal_keys cat (class cat c) r l in
      let len : length (contents_bytes r) ≡ total (size_of (class cat c)) (stored_numbers (class cat c)) = contents_length cat (class cat c) r l in (
        rw ks at (contents_laid (size_of (class cat c)) 0 r n w (rw ks (rising_up (stored_numbers (class cat c)) up)) (legal_sized cat (class cat c) r l) (rw ks st) lw),
        rw (lw, len) (offset_fits (size_of (class cat c)) (stored_numbers (class cat c)) n st),
      )

  stored_rise : known cat c ≡ true → rising (stored_numbers (class cat c)) ≡ true
  unfolding stored_numbers
  stored_rise kn = rising_keep (λ n a. is_stored a.source) (class cat c).attributes (attributes_in_order cat wf c kn)

  pub write_laid : (o : ℕ) → known cat c ≡ true → spot cat t c i ≡ some o → live_bytes (change cat c i wrote t) ≡ laid (o + off) w (live_bytes t)
  write_laid o kn sp = change_laid cat wf ft t h c i lt wrote off w (λ r e l. in_contents r l (stored_rise kn)) o kn sp
