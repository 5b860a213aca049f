-- In the bytes of a live table, what is judged legal is what the rules say of the table.
use Prim.Native.Nat.{ℕ, ◌<◌}
use native.Mathlib.Omega.{arith}
use mathlib.Core.Path.{◌≡◌, sym, ◌∙◌, ap}
use mathlib.Core.Bool.{true, false, not, cond}
use mathlib.Core.Option.{some}
use mathlib.Core.List.{List, []}
use lib.Dec.{ltb}
use Rattle.rules.specs.Maps.{◌and◌, keys, keep}
use Rattle.rules.specs.Catalogue.{Class, Catalogue, attribute, supported, size_of, is_stored, is_fixed}
use Rattle.rules.specs.State.{Contents, Table, holds, contents, content}
use Rattle.rules.specs.Legal.{fixed_contents, passes, legal_content}
use Rattle.rules.specs.Commands.{cut, illegal}
use Rattle.rules.specs.WellFormed.{WellFormed, rights_only_if_stored}
use Rattle.rules.proofs.Laws.{cases, both, or_left, or_right, ltb_lt, ltb_le}
use Rattle.rules.proofs.Lookups.{supported_known, implied, C_supported, attribute_says}
use Rattle.rules.proofs.Standing.{standing}
use Rattle.legality.proofs.Tables.{LegalLive, open_table}
use Rattle.legality.proofs.Holds.{holds_known}
use Rattle.table.specs.Places.{keys_in}
use Rattle.table.specs.Spots.{spot_among, spot}
use Rattle.table.proofs.PlaceKeys.{live_keys}
use Rattle.table.proofs.ContentsRead.{live_read}
use Rattle.class_tables.specs.Built.{cat_of, class_for}
use Rattle.class_tables.proofs.EveryProduct.{well_formed_of, fits_of}
use Rattle.class_tables.proofs.Offsets.{is_among_stored}
use Rattle.table.specs.Live.{there_in, Holding}
use Rattle.table.proofs.HeldAt.{there_is_held}
use Rattle.attribute_check.specs.Judges.{is_in, bytes_at, fixed_at, legal_at, bad_among}
use Rattle.class_tables.specs.declared.Product.{Product}

-- ---- which instances are there

module _ (pr : Product) (b : List ℕ) (t : Table) (q : Holding (cat_of pr) b t) where
  opened : LegalLive (cat_of pr) (well_formed_of pr) t
  opened = open_table (cat_of pr) (well_formed_of pr) (standing (cat_of pr) (well_formed_of pr)) t q.legal

  none_held : (c i : ℕ) → ltb i 65536 ≡ false → false ≡ holds (cat_of pr) t c i
  none_held c i e = cases (holds (cat_of pr) t c i)
      (λ y. let s : i < 65536 = (holds_known (cat_of pr) (well_formed_of pr) t opened c i y).small in let z = ltb_le i 65536 e in absurd (omega arith))
      (λ y. sym y)

  -- those of the table
  pub in_is_held : is_in (cat_of pr) b ≡ holds (cat_of pr) t
  unfolding is_in ◌and◌
  in_is_held = λ p c i. go c i p
    where
      go : (c i : ℕ) → (ltb i 65536 and there_in (cat_of pr) b c i) ≡ holds (cat_of pr) t c i
      go c i = cases (ltb i 65536)
          (λ e. rw e (there_is_held pr b t q c i (ltb_lt i 65536 e)))
          (λ e. rw e (none_held c i e))

  -- ---- an instance whose contents r stand in `own`: what rules look at is shown there

  module _ (k : Class) (own : List ℕ) (at : ℕ) (r : Contents) (shown : (n : ℕ) → is_fixed (attribute k n) ≡ true → bytes_at k own at n ≡ content n r) where
    fixed_is : fixed_at k own at ≡ fixed_contents k r
    unfolding fixed_at fixed_contents
    fixed_is = λ p n. go n p
      where
        go : (n : ℕ) → cond (is_fixed (attribute k n)) (bytes_at k own at n) [] ≡ cond (is_fixed (attribute k n)) (content n r) []
        go n = cases (is_fixed (attribute k n)) (λ e. rw e (shown n e)) (λ e. rw e)

    pub legal_is : (n : ℕ) (v : List ℕ) → legal_at (is_in (cat_of pr) b) k own at n v ≡ legal_content (holds (cat_of pr) t) k r n v
    unfolding legal_at legal_content
    legal_is n v = λ p. passes (in_is_held p) ((attribute k n).rule v (fixed_is p))

    pub bad_is : (m v : List ℕ) → bad_among (is_in (cat_of pr) b) k own at m v ≡ illegal (holds (cat_of pr) t) k r (cut (size_of k) m v)
    unfolding bad_among illegal
    bad_is m v = λ p. keys (keep (λ n w. not (legal_is n w p)) (cut (size_of k) m v))

-- ---- an instance of the table itself

-- what rules look at, where the contents of an instance stand
module _ (pr : Product) (b : List ℕ) (t : Table) (q : Holding (cat_of pr) b t) (c i at : ℕ) (lt : i < 65536) (spot_is : spot_among (cat_of pr) (keys_in b) c i ≡ some at) where
  abbrev cat : Catalogue
  cat = cat_of pr

  abbrev wf : WellFormed cat
  wf = well_formed_of pr

  abbrev k : Class
  k = class_for pr c

  abbrev h : LegalLive cat wf t
  h = opened pr b t q

  its_spot : spot cat t c i ≡ some at
  its_spot = ap (λ (m : List ℕ). spot_among cat m c i) (sym (rw q.is (live_keys cat wf (fits_of pr) t h))) ∙ spot_is

  -- an attribute that rules look at is stored
  live_shown : (n : ℕ) → is_fixed (attribute k n) ≡ true → bytes_at k b at n ≡ content n (contents cat t c i)
  unfolding rights_only_if_stored
  live_shown n fx =
      let carried : (attribute k n).C ≡ true = (both fx).0 in
      let sup : supported k n ≡ true = C_supported k n carried in
      let st : is_stored (attribute k n).source ≡ true =
      implied (attribute_says rights_only_if_stored cat wf.rights_if_stored c n sup) (or_right (attribute k n).W (or_left (attribute k n).L carried)) in
      ap (λ (x : List ℕ). bytes_at k x at n) q.is ∙ live_read pr t h i lt c at (supported_known cat c n sup) its_spot n (is_among_stored k n sup st)

  -- several, cut off one after another
  pub bad_in_table : (m v : List ℕ) → bad_among (is_in cat b) k b at m v ≡ illegal (holds cat t) k (contents cat t c i) (cut (size_of k) m v)
  bad_in_table = bad_is pr b t q k b at (contents cat t c i) live_shown
