-- The slots of the products, byte by byte.
use Rattle.std.proofs.Common.{◌⊎◌, ⊎_elim}
use Prim.Native.Nat.{ℕ, suc, ◌+◌, ◌*◌, ◌≤◌}
use native.Mathlib.Omega.{arith}
use mathlib.Core.Path.{◌≡◌, refl, sym, ◌∙◌}
use mathlib.Core.Bool.{Bool, true}
use mathlib.Core.List.{List, [], ◌∷◌}
use lib.ListN.{length, take, drop, length-drop}
use lib.Seq.{length-take-le, drop-drop}
use lib.Dec.{eqb}
use Rattle.rules.specs.Maps.{◌and◌, all}
use Rattle.rules.specs.Bytes.{are_bytes, all_zero}
use Rattle.rules.specs.Catalogue.{family, key}
use Rattle.rules.specs.State.{class_of}
use Rattle.rules.specs.Legal.{automatic_keys}
use Rattle.rules.proofs.Laws.{both, eqb_eq}
use Rattle.rules.proofs.Conjunctions.{and_assoc, and_end}
use Rattle.rules.proofs.ByteLaws.{bytes_take, bytes_drop}
use Rattle.store.specs.Layout.{slot_count, slot_width, slots_length}
use Rattle.class_tables.specs.declared.Product.{Product}
use Rattle.class_tables.specs.declared.Product.TheVariants.{Small, Large, Meter}
use Rattle.class_tables.specs.Built.{cat_of, by_product}
use Rattle.class_tables.specs.Computing.{computing_tables}
use Rattle.class_tests.specs.ContentTests.{contents_test, computing_tests}
use Rattle.class_tests.specs.Tests.{family_test}
use Rattle.class_tests.proofs.Entries.{none_left, zeros_behind, wide, family_is}
use Rattle.slot_tests.specs.Tests.{slots_test, unis_test}

-- which slots there are

abbrev pub OneUni : Product → Type 0
OneUni pr = automatic_keys (cat_of pr) ≡ key 11 0x0101 ∷ []

pub small_keys : OneUni Small
unfolding computing_tables
small_keys = refl

pub meter_keys : OneUni Meter
unfolding computing_tables
meter_keys = refl

pub large_keys : automatic_keys (cat_of Large) ≡ key 11 0x0101 ∷ key 11 0x0102 ∷ key 11 0x0103 ∷ key 11 0x0104 ∷ []
unfolding computing_tables
large_keys = refl

module _ (b : List ℕ) (h : length b ≡ slots_length) (bs : are_bytes b ≡ true) where
  abbrev slot_of : ℕ → List ℕ
  slot_of at = take slot_width (drop at b)

  slot_long : (at : ℕ) → at + slot_width ≤ slots_length → length (slot_of at) ≡ slot_width
  slot_long at k = length-take-le slot_width (drop at b) (rw (length-drop at b) (omega arith))

  slot_bytes : (at : ℕ) → are_bytes (slot_of at) ≡ true
  slot_bytes at = bytes_take slot_width (drop at b) (bytes_drop at b bs)

  -- a product with one UNI, whose contents have this width
  one_slot : (pr : Product) (w : ℕ) → OneUni pr → wide pr 11 w ≡ true → w ≤ slot_width
      → slots_test (cat_of pr) (automatic_keys (cat_of pr)) b ≡ (contents_test pr 11 (slot_of 0) and all_zero (drop w b))
  unfolding slots_test
  one_slot pr w keys computed narrow =
      let l = slot_long 0 (omega arith) in
      rw (
        keys,
        family_is pr 11 w (slot_of 0) computed (omega arith) (slot_bytes 0),
        and_assoc (contents_test pr 11 (slot_of 0)) (all_zero (drop w (slot_of 0))) (all_zero (drop slot_width b)),
        zeros_behind w slot_width b narrow (omega arith),
      )
      refl

  small_slots : slots_test (cat_of Small) (automatic_keys (cat_of Small)) b ≡ (contents_test Small 11 (slot_of 0) and all_zero (drop 6 b))
  small_slots = one_slot Small 6 small_keys (unfold computing_tables computing_tests in refl) (omega arith)

  meter_slots : slots_test (cat_of Meter) (automatic_keys (cat_of Meter)) b ≡ (contents_test Meter 11 (slot_of 0) and all_zero (drop 4 b))
  meter_slots = one_slot Meter 4 meter_keys (unfold computing_tables computing_tests in refl) (omega arith)

  -- by where the zeros begin
  pub one_uni : (pr : Product) {at : ℕ} → at ≡ by_product pr 6 slot_width 4 → (pr ≡ Small) ⊎ (pr ≡ Meter)
      → (contents_test pr 11 (slot_of 0) and all_zero (drop at b)) ≡ slots_test (cat_of pr) (automatic_keys (cat_of pr)) b
  one_uni pr e h = ⊎_elim (λ (f : pr ≡ Small). rw (e, f) (sym small_slots)) (λ (f : pr ≡ Meter). rw (e, f) (sym meter_slots)) h

-- UNIs of Large fill their slots
full_slot : (b : List ℕ) → length b ≡ slot_width → are_bytes b ≡ true → family_test (cat_of Large) (family (cat_of Large) 11) b ≡ contents_test Large 11 b
full_slot b l bs =
    family_is Large 11 slot_width b (unfold computing_tables computing_tests in refl) (omega (arith, l)) bs
    ∙ rw (none_left slot_width b l) (and_end (contents_test Large 11 b))

each_uni : (l : List ℕ) (b : List ℕ) → all (λ k. eqb (class_of k) 11) l ≡ true → length b ≡ length l * slot_width → are_bytes b ≡ true
    → slots_test (cat_of Large) l b ≡ unis_test Large (length l) b
unfolding slots_test unis_test all
each_uni [] b h w bs = none_left 0 b w
each_uni (k ∷ l) b h w bs =
    let rest : length (drop slot_width b) ≡ length l * slot_width = rw (length-drop slot_width b) (omega (arith, w)) in
    rw (
      eqb_eq (class_of k) 11 (both h).0,
      full_slot (take slot_width b) (length-take-le slot_width b (omega (arith, w))) (bytes_take slot_width b bs),
      each_uni l (drop slot_width b) (both h).1 rest (bytes_drop slot_width b bs),
    )
    refl

pub large_slots : (b : List ℕ) → length b ≡ slots_length → are_bytes b ≡ true → unis_test Large slot_count b ≡ slots_test (cat_of Large) (automatic_keys (cat_of Large)) b
unfolding ◌and◌
large_slots b h bs =
    sym (rw large_keys (each_uni (key 11 0x0101 ∷ key 11 0x0102 ∷ key 11 0x0103 ∷ key 11 0x0104 ∷ []) b (unfold all in refl) (omega (arith, h)) bs))

-- a turn of the loop over the slots: slot j is tested, and n are left behind it
pub next_uni : (pr : Product) (b : List ℕ) (legal : Bool) (j n : ℕ) {s : List ℕ} {r : Bool} → s ≡ take slot_width (drop (j * slot_width) b) → r ≡ contents_test pr 11 s
    → ((legal and r) and unis_test pr n (drop ((j + 1) * slot_width) b)) ≡ (legal and unis_test pr (suc n) (drop (j * slot_width) b))
unfolding unis_test
next_uni pr b legal j n {s} {r} e f =
    let g : j * slot_width + slot_width ≡ (j + 1) * slot_width = omega arith in
    rw (drop-drop slot_width (j * slot_width) b, g, ← e, ← f) (and_assoc legal r (unis_test pr n (drop ((j + 1) * slot_width) b)))
