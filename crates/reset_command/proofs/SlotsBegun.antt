-- First contents laid into slots, one after another.
use Prim.Native.Nat.{ℕ, ◌+◌, ◌-◌}
use native.Mathlib.Omega.{arith}
use mathlib.Core.Path.{◌≡◌, refl, sym, ◌∙◌, ap}
use mathlib.Core.Bool.{Bool, true}
use mathlib.Core.List.{List, [], ◌∷◌, ◌++◌, append_assoc}
use lib.ListN.{length, take, replicate, length-append}
use Rattle.rules.specs.Maps.{Map, keys, gather, among}
use Rattle.rules.specs.Bytes.{fill}
use Rattle.rules.specs.State.{Contents, class_of}
use Rattle.rules.specs.Legal.{automatic_keys}
use Rattle.rules.proofs.ByteLaws.{fill_keeps}
use Rattle.rules.proofs.MapLaws.{Each}
use Rattle.store.specs.Layout.{slot_width, contents_width}
use Rattle.class_tables.specs.declared.Product.{Product}
use Rattle.class_tables.specs.Built.{cat_of, class_for}
use Rattle.attribute_write.specs.Lays.{laid_values, firsts, leading_class}
use Rattle.attribute_write.proofs.Overwritten.{Sized, length_laid_values, values_behind, values_before}
use Rattle.reset_command.specs.Resets.{begun, begun_at, slots_begun}
use Rattle.reset_command.proofs.SlotClasses.{begun_stored, firsts_sized, SlotClass, slot_class}
use Rattle.reset_command.proofs.FirstContents.{keys_firsts}

module _ (pr : Product) (every : Bool) where
  abbrev pub first_ones : ℕ → Contents
  first_ones c = firsts (class_for pr c) (leading_class pr c) [] (begun every (class_for pr c))

  pub first_ones_sized : (c : ℕ) → SlotClass pr c → Sized (class_for pr c) (first_ones c)
  first_ones_sized c s = record {
    are_stored = rw (keys_firsts (class_for pr c) (leading_class pr c) [] (begun every (class_for pr c))) (begun_stored pr c every);
    are_sized = firsts_sized pr c s.stays (begun every (class_for pr c)) (begun_stored pr c every);
  }

  -- zeros behind an instance's contents stay
  pub slot_filled : (c : ℕ) (b v : List ℕ) → SlotClass pr c → length b ≡ contents_width (class_for pr c) → v ≡ begun_at (cat_of pr) every c 0 b
      → fill slot_width v ≡ begun_at (cat_of pr) every c 0 (fill slot_width b)
  slot_filled c b v s e f =
      let narrow = s.narrow in
      let padding : List ℕ = take (slot_width - length b) (replicate slot_width 0) in
      let lv : length v ≡ length b = ap length f ∙ length_laid_values (class_for pr c) 0 (first_ones c) b (first_ones_sized c s) (omega arith) in
      fill_keeps slot_width v (omega arith)
      ∙ ap (λ (n : ℕ). v ++ take (slot_width - n) (replicate slot_width 0)) lv
      ∙ ap (λ (x : List ℕ). x ++ padding) f
      ∙ values_before (class_for pr c) 0 (first_ones c) b padding (first_ones_sized c s) (omega arith)
      ∙ ap (laid_values (class_for pr c) 0 (first_ones c)) (sym (fill_keeps slot_width b (omega arith)))

  -- the bytes of a slot, and those with first contents laid into them
  pub record SlotBegun (k : ℕ) (old new : List ℕ) : Type 0 where
    pub has_slot : among k (automatic_keys (cat_of pr)) ≡ true
    pub old_length : length old ≡ slot_width
    pub new_is : new ≡ begun_at (cat_of pr) every (class_of k) 0 old

  -- a slot between other bytes
  one_slot : (k : ℕ) (old new x y : List ℕ) → SlotBegun k old new
      → (length new ≡ slot_width) × (begun_at (cat_of pr) every (class_of k) (length x) (x ++ (old ++ y)) ≡ x ++ (new ++ y))
  one_slot k old new x y b =
      let c : ℕ = class_of k in
      let s : SlotClass pr c = slot_class pr k b.has_slot in
      let narrow = s.narrow in
      let long = b.old_length in
      let none_more : length x + 0 ≡ length x = omega arith in (
        ap length b.new_is ∙ length_laid_values (class_for pr c) 0 (first_ones c) old (first_ones_sized c s) (omega arith) ∙ b.old_length,
        ap (λ (n : ℕ). begun_at (cat_of pr) every c n (x ++ (old ++ y))) (sym none_more)
            ∙ sym (values_behind (class_for pr c) 0 (first_ones c) x (old ++ y))
            ∙ ap (λ (z : List ℕ). x ++ z) (sym (values_before (class_for pr c) 0 (first_ones c) old y (first_ones_sized c s) (omega arith)))
            ∙ ap (λ (z : List ℕ). x ++ (z ++ y)) (sym b.new_is),
      )

  -- all of them
  pub slots_turned : {A : Type 0} (old new : ℕ × A → List ℕ) (a : Map A) (x rest : List ℕ) → Each (λ k v. SlotBegun k (old (k, v)) (new (k, v))) a
      → slots_begun (cat_of pr) every (keys a) (length x) (x ++ (gather old a ++ rest)) ≡ x ++ (gather new a ++ rest)
  unfolding slots_begun keys gather
  slots_turned old new [] x rest h = refl
  slots_turned old new (e ∷ a) x rest h =
      let y : List ℕ = gather old a ++ rest in
      let w : List ℕ = new e in
      let one = one_slot e.0 (old e) w x y h.0 in
      let at : length x + slot_width ≡ length (x ++ w) = sym (length-append x w ∙ ap (λ (n : ℕ). length x + n) one.0) in
      ap (λ (b : List ℕ). slots_begun (cat_of pr) every (keys a) (length x + slot_width) (begun_at (cat_of pr) every (class_of e.0) (length x) (x ++ b)))
      (append_assoc (old e) (gather old a) rest)
      ∙ ap (slots_begun (cat_of pr) every (keys a) (length x + slot_width)) (one.1 ∙ sym (append_assoc x w y))
      ∙ ap (λ (n : ℕ). slots_begun (cat_of pr) every (keys a) n ((x ++ w) ++ y)) at
      ∙ slots_turned old new a (x ++ w) rest h.1
      ∙ append_assoc x w (gather new a ++ rest)
      ∙ ap (λ (z : List ℕ). x ++ z) (sym (append_assoc w (gather new a) rest))
