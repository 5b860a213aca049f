-- New contents written over an instance's own in a table: each is laid over the old one in the table's bytes.
use Prim.Native.Nat.{ℕ, ◌+◌, ◌≤◌, ◌<◌}
use native.Mathlib.Omega.{arith}
use mathlib.Core.Path.{◌≡◌, refl, sym, ◌∙◌, ap}
use mathlib.Core.Bool.{Bool, true, false, cond}
use mathlib.Core.Option.{some}
use mathlib.Core.List.{List, [], ◌∷◌}
use lib.ListN.{length}
use lib.Dec.{eqb}
use Rattle.rules.specs.Maps.{Map, is_some, keys, each, at_key, rising}
use Rattle.rules.specs.Bytes.{laid}
use Rattle.rules.specs.Catalogue.{Class, Catalogue, class, known, is_stored, stored_numbers, leader, key}
use Rattle.rules.specs.State.{Contents, Entry, Table, entry, contents, overwrite, change}
use Rattle.rules.specs.Legal.{legal_contents}
use Rattle.rules.specs.WellFormed.{WellFormed}
use Rattle.rules.proofs.Laws.{every_find, find_some}
use Rattle.rules.proofs.MapLaws.{rising_keep}
use Rattle.store.specs.Layout.{contents_bytes, contents_width, fits, live_bytes, block_length}
use Rattle.store.proofs.ContentsBack.{legal_keys, legal_sized, contents_length}
use Rattle.legality.proofs.NewContents.{attributes_in_order}
use Rattle.legality.proofs.Tables.{LegalEntry, LegalLive}
use Rattle.legality.proofs.Holds.{There, holds_there, entry_legal}
use Rattle.table.proofs.HeldAt.{held_at}
use Rattle.octets.proofs.Laid.{laid_all, part_laid_inside}
use Rattle.table.specs.Spots.{spot}
use Rattle.store.proofs.StateLaid.{live_length}
use Rattle.octets.proofs.Parted.{part}
use Rattle.attribute_write.specs.Lays.{laid_values}
use Rattle.table.proofs.ChangeLaid.{change_laid}
use Rattle.attribute_write.proofs.Overwritten.{Sized, length_laid_values, values_in_part, overwrite_laid}

either : {A : Type 0} (b : Bool) (x : A) → cond b x x ≡ x
either true x = refl
either false x = refl

as_they_are : {A : Type 0} (f : ℕ → A → A) → ((k : ℕ) (a : A) → f k a ≡ a) → (m : Map A) → each f m ≡ m
unfolding each
as_they_are f h [] = refl
as_they_are f h (e ∷ m) = rw (h e.0 e.1, as_they_are f h m)

module _ (cat : Catalogue) (wf : WellFormed cat) (ft : fits cat ≡ true) (t : Table) (h : LegalLive cat wf t) (c i : ℕ) (lt : i < 65536) (kn : known cat c ≡ true) where
  stored_rise : rising (stored_numbers (class cat c)) ≡ true
  unfolding stored_numbers
  stored_rise = rising_keep (λ n a. is_stored a.source) (class cat c).attributes (attributes_in_order cat wf c kn)

  abbrev own : Contents
  own = contents cat t c i

  -- its contents begin at a place with room for them
  module _ (o : ℕ) (sp : spot cat t c i ≡ some o) (room : o + contents_width (class cat c) ≤ block_length) where
    pub legal_at_spot : legal_contents cat (class cat c) own ≡ true
    unfolding contents entry
    legal_at_spot =
        let x : There cat t c i = holds_there cat t c i (held_at cat wf t h c i lt ∙ ap is_some sp) in
        let le : LegalEntry cat (key (leader cat c) i) x.its_entry = entry_legal cat wf t h (key (leader cat c) i) x.its_entry x.found in
        let f = find_some c x.its_entry x.has_class in
        rw (x.found, f.1) (every_find (λ d r. legal_contents cat (class cat d) r) x.its_entry le.its_contents c f.0 f.1)

    own_length : length (contents_bytes own) ≡ contents_width (class cat c)
    own_length = contents_length cat (class cat c) own legal_at_spot

    -- other contents, as long as its own, laid over them
    pub contents_laid_at : (f : Contents → Contents) → length (contents_bytes (f own)) ≡ contents_width (class cat c)
        → live_bytes (change cat c i f t) ≡ laid o (contents_bytes (f own)) (live_bytes t)
    contents_laid_at f lw =
        let w : List ℕ = contents_bytes (f own) in
        let none_more : o + 0 ≡ o = omega arith in
        rw none_more at (change_laid cat wf ft t h c i lt f 0 w
        (λ r are l.
        let lr : length (contents_bytes r) ≡ contents_width (class cat c) = contents_length cat (class cat c) r l in
        (ap (λ (x : Contents). contents_bytes (f x)) (sym are) ∙ sym (laid_all w (contents_bytes r) (lw ∙ sym lr)), omega arith)) o kn sp)

    unchanged : change cat c i (λ r. r) t ≡ t
    unfolding change
    unchanged = λ d. record { automatic = same_entries t.automatic d; created = same_entries t.created d }
      where
        same_contents : (e : Entry) → at_key c (λ r. r) e ≡ e
        same_contents e = as_they_are (λ j r. cond (eqb j c) r r) (λ j r. either (eqb j c) r) e

        same_entries : (m : Map Entry) → at_key (key (leader cat c) i) (at_key c (λ r. r)) m ≡ m
        same_entries m = as_they_are (λ j e. cond (eqb j (key (leader cat c) i)) (at_key c (λ r. r) e) e) (λ j e. rw (same_contents e) (either (eqb j (key (leader cat c) i)) e)) m

    pub contents_at : part o (contents_width (class cat c)) (live_bytes t) ≡ contents_bytes own
    contents_at =
        let e : live_bytes t ≡ laid o (contents_bytes own) (live_bytes t) = ap live_bytes (sym unchanged) ∙ contents_laid_at (λ r. r) own_length in
        let l = live_length t in
        let q : part o (length (contents_bytes own)) (laid o (contents_bytes own) (live_bytes t)) ≡ contents_bytes own =
        part_laid_inside o (contents_bytes own) (live_bytes t) (omega (arith, own_length)) in
        ap (part o (contents_width (class cat c))) e ∙ ap (λ (n : ℕ). part o n (laid o (contents_bytes own) (live_bytes t))) (sym own_length) ∙ q

    -- new contents written over its own
    pub table_laid : (new : Contents) → rising (keys new) ≡ true → Sized (class cat c) new
        → live_bytes (change cat c i (overwrite new) t) ≡ laid_values (class cat c) o new (live_bytes t)
    table_laid new up s =
        let k : Class = class cat c in
        let over : contents_bytes (overwrite new own) ≡ laid_values k 0 new (contents_bytes own) =
        overwrite_laid k stored_rise new own up s (legal_keys cat k own legal_at_spot) (legal_sized cat k own legal_at_spot) in
        let lw : length (contents_bytes (overwrite new own)) ≡ contents_width k =
        ap length over ∙ length_laid_values k 0 new (contents_bytes own) s (omega (arith, own_length)) ∙ own_length in
        let l = live_length t in
        contents_laid_at (overwrite new) lw
        ∙ ap (λ (v : List ℕ). laid o v (live_bytes t)) (over ∙ ap (laid_values k 0 new) (sym contents_at))
        ∙ sym (values_in_part k o new (live_bytes t) s (omega arith))
