-- The UNIs of a product are the instances of class 11 that have a slot.
use Rattle.std.proofs.Common.{◌≡◌, ℕ, ◌<◌, true, refl, ap, ◌∙◌, arith}
use Rattle.std.specs.Prelude.{Bool, Option, Some, None}
use Rattle.std.specs.Prelude as code
use Rattle.rules.specs.Maps.{is_some, among}
use Rattle.rules.specs.Catalogue.{Creation, created, automatic, comes_with, class, known, automatic_numbers, key}
use Rattle.rules.specs.Legal.{may_be_there, automatic_keys}
use Rattle.rules.proofs.Laws.{never, both, bool_eq, all_among}
use Rattle.rules.proofs.Lookups.{known_class}
use Rattle.rules.proofs.Standing.{key_class, key_number, stands, automatic_keys_stand, automatic_among}
use Rattle.store.specs.Positions.{position}
use Rattle.class_tables.specs.declared.Product.{Product}
use Rattle.class_tables.specs.Built.{cat_of, class_for}
use Rattle.class_tables.specs.Finding.{found_of}
use Rattle.class_tables.specs.Computing.{computing_tables}
use Rattle.class_tables.proofs.EveryProduct.{well_formed_of, in_each}
use Rattle.class_tests.specs.ContentTests.{always_there}
use Rattle.store.proofs.Positions.{position_among}

automatic_one : (y : Creation) (i : ℕ) → always_there y ≡ true → among i (automatic_numbers y) ≡ may_be_there y i
automatic_one created i h = never h
automatic_one (automatic l) i h = refl
automatic_one (comes_with c) i h = never h

same_answer : (found : Option ℕ) → code.is_some found ≡ is_some (found_of found)
same_answer None = refl
same_answer (Some j) = refl

module _ (pr : Product) (i : ℕ) (small : i < 65536) where
  unis_are : is_some (position (key 11 i) (automatic_keys (cat_of pr))) ≡ may_be_there (class_for pr 11).creation i
  unis_are =
      position_among (key 11 i) (automatic_keys (cat_of pr))
      ∙ bool_eq (among (key 11 i) (automatic_keys (cat_of pr))) (among i (automatic_numbers (class_for pr 11).creation))
      (λ h. rw (key_class 11 i small, key_number 11 i small) at
      (both (both (all_among (stands (cat_of pr)) (automatic_keys (cat_of pr)) (automatic_keys_stand (cat_of pr) (well_formed_of pr)) (key 11 i) h)).1).1)
      (automatic_among (cat_of pr) 11 i (class_for pr 11) (known_class (cat_of pr) 11 (in_each (λ cat. known cat 11) (unfold computing_tables in refl) pr)) (omega arith))
      ∙ automatic_one (class_for pr 11).creation i (in_each (λ cat. always_there (class cat 11).creation) (unfold computing_tables in refl) pr)

  -- whether the code found a slot
  pub slot_found : (found : Option ℕ) {r : Bool} → r ≡ code.is_some found → found_of found ≡ position (key 11 i) (automatic_keys (cat_of pr)) → r ≡ may_be_there (class_for pr 11).creation i
  slot_found found e h = e ∙ same_answer found ∙ ap is_some h ∙ unis_are
