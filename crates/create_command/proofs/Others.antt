-- The stored attributes of a class: those that a Create carries, and the others.
use Prim.Native.Nat.{ℕ, ◌+◌, ◌-◌, ◌≤◌}
use native.Mathlib.Omega.{arith}
use mathlib.Core.Path.{◌≡◌, ◌∙◌, ap}
use mathlib.Core.Bool.{true, false, not}
use mathlib.Core.List.{List}
use lib.ListN.{length}
use lib.Bits.{bit_and}
use Rattle.rules.specs.Catalogue.{Class, attribute, stored_numbers, carried_numbers, stored, copied, size_of, leader}
use Rattle.rules.specs.Maps.{among, rising}
use Rattle.rules.specs.Masks.{named, mask, in_mask}
use Rattle.rules.specs.WellFormed.{FirstIsLegal}
use Rattle.rules.proofs.Laws.{all_among, both, cases, true_false, and_true, not-true, false_not}
use Rattle.rules.proofs.MapLaws.{among_those}
use Rattle.rules.proofs.Standing.{all_imp, all_self}
use Rattle.legality.proofs.Carried.{C_in_carried, carried_is_C}
use Rattle.store.specs.Layout.{place_width, contents_width}
use Rattle.bits.proofs.Masks.{mask_small, named_mask, named_rising, named_and, those_same, in_mask_not, in_mask_of, within_rising}
use Rattle.class_tables.specs.Built.{class_for, cat_of}
use Rattle.class_tables.specs.Describes.{offset_of}
use Rattle.class_tables.specs.declared.Product.{Product}
use Rattle.class_tables.proofs.ClassLaws.{attributes_rising, stored_there}
use Rattle.class_tables.proofs.EveryProduct.{well_formed_of}
use Rattle.class_tables.proofs.Facts.{carried_within, carried_stored, stored_within, contents_fit}
use Rattle.class_tables.proofs.Offsets.{offset_fits}
use Rattle.attribute_write.specs.Lays.{all_stored, leading_class, LayingFirsts}
use Rattle.create_command.specs.New.{other_numbers}

-- what a Create carries is stored
pub C_stored : (pr : Product) (c n : ℕ) → (attribute (class_for pr c) n).C ≡ true → among n (stored_numbers (class_for pr c)) ≡ true
C_stored pr c n e =
    let k : Class = class_for pr c in
    all_among (λ m. among m (stored_numbers k)) (carried_numbers k) (carried_stored pr c) n (C_in_carried (cat_of pr) (well_formed_of pr) k n e)

module _ (pr : Product) (c : ℕ) where
  abbrev k : Class
  k = class_for pr c

  abbrev lead : Class
  lead = leading_class pr c

  -- ---- in order, and as masks name them

  pub stored_rise : rising (stored_numbers k) ≡ true
  stored_rise = within_rising 1 (stored_numbers k) (stored_within pr c)

  pub carried_rise : rising (carried_numbers k) ≡ true
  carried_rise = within_rising 1 (carried_numbers k) (carried_within pr c)

  pub carried_named : named (mask (carried_numbers k)) ≡ carried_numbers k
  carried_named = named_mask (carried_numbers k) (carried_within pr c)

  pub others_named : named (bit_and (mask (stored_numbers k)) (65535 - mask (carried_numbers k))) ≡ other_numbers k
  unfolding other_numbers
  others_named =
      let small = mask_small (carried_numbers k) (carried_within pr c) in
      rw (named_and (mask (stored_numbers k)) (65535 - mask (carried_numbers k)), named_mask (stored_numbers k) (stored_within pr c))
      (those_same (in_mask (65535 - mask (carried_numbers k))) (λ n. not (among n (carried_numbers k))) 1 (stored_numbers k) (stored_within pr c)
      (λ n i j. in_mask_not (mask (carried_numbers k)) n small i j ∙ ap not (in_mask_of (carried_numbers k) (carried_within pr c) n i j)))

  -- ---- one of the others is stored, and set by no Create

  pub other_is : (n : ℕ) → among n (other_numbers k) ≡ true → (among n (stored_numbers k) ≡ true) × ((attribute k n).C ≡ false)
  unfolding other_numbers
  other_is n h =
      let p = both (rw (among_those (λ n. not (among n (carried_numbers k))) n (stored_numbers k)) at h) in
      (p.1, cases (attribute k n).C (λ e. true_false (C_in_carried (cat_of pr) (well_formed_of pr) k n e) (not-true p.0)) (λ e. e))

  pub is_other : (n : ℕ) → among n (stored_numbers k) ≡ true → (attribute k n).C ≡ false → among n (other_numbers k) ≡ true
  unfolding other_numbers
  is_other n h e =
      let absent : among n (carried_numbers k) ≡ false = cases (among n (carried_numbers k)) (λ a. true_false (carried_is_C k (attributes_rising pr c) n a) e) (λ a. a) in
      rw (among_those (λ n. not (among n (carried_numbers k))) n (stored_numbers k)) (and_true (false_not absent) h)

  others_stored : all_stored k (other_numbers k) ≡ true
  others_stored = all_imp (λ n. among n (other_numbers k)) (λ n. among n (stored_numbers k)) (λ n a. (other_is n a).0) (other_numbers k) (all_self (other_numbers k))

  pub others_rise : rising (other_numbers k) ≡ true
  others_rise = rw (← others_named) (named_rising (bit_and (mask (stored_numbers k)) (65535 - mask (carried_numbers k))))

  -- what it copies was carried for the leading instance, in the same size
  pub copies_carried : (n m : ℕ) → among n (other_numbers k) ≡ true → (attribute k n).source ≡ stored (copied m) → ((attribute lead m).C ≡ true) × (size_of lead m ≡ size_of k n)
  copies_carried n m h e =
      let o = other_is n h in
      let f : FirstIsLegal (cat_of pr) c (attribute k n) (stored (copied m)) =
      rw e at ((well_formed_of pr).first_contents_are_legal c n (stored_there pr c n o.0).0 o.1) in
      (f.1, f.2)

  -- and is within its contents
  copied_there : (n m : ℕ) → among n (other_numbers k) ≡ true → (attribute k n).source ≡ stored (copied m) → offset_of lead m + size_of k n ≤ place_width
  copied_there n m h e =
      let p = copies_carried n m h e in
      let size = p.1 in
      let fits = offset_fits lead m (C_stored pr (leader (cat_of pr) c) m p.0) in
      let room = contents_fit pr (leader (cat_of pr) c) in
      omega arith

  -- so their first contents may be laid into an entry
  pub may_lay : (at : ℕ) (own b : List ℕ) → length own ≡ place_width → at + contents_width k ≤ length b → LayingFirsts k lead at (other_numbers k) own b
  may_lay at own b lo room = record { are_stored = others_stored; inside = room; copied_from = λ n m h e. let z = copied_there n m h e in omega arith }
