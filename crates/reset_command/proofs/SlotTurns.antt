-- The loop over the slots.
use Prim.Native.Nat.{ℕ, ◌+◌, ◌≤◌, ◌<◌}
use native.Mathlib.Numerals.{add-one}
use native.Mathlib.Omega.{arith}
use mathlib.Core.Path.{◌≡◌, refl, sym, ◌∙◌, ap}
use mathlib.Core.Bool.{Bool}
use mathlib.Core.List.{List, [], ◌∷◌}
use lib.ListN.{length, drop, get_or}
use lib.Seq.{drop-cons, drop-length}
use Rattle.rules.specs.Masks.{named, mask}
use Rattle.rules.specs.Catalogue.{key}
use Rattle.rules.specs.State.{class_of}
use Rattle.rules.specs.Legal.{automatic_keys}
use Rattle.rules.proofs.Laws.{all_among}
use Rattle.rules.proofs.Standing.{key_class}
use Rattle.class_tables.specs.Built.{cat_of, class_for}
use Rattle.class_tables.proofs.SlotLaws.{few_slots}
use Rattle.store.specs.Layout.{slot_width, slots_at, slot_at, places_at}
use Rattle.attribute_write.specs.Lays.{laid_values, firsts, leading_class, LayingFirsts}
use Rattle.reset_command.specs.Resets.{begun, begun_at, slots_begun}
use Rattle.reset_command.proofs.SlotClasses.{begun_stored, begun_named, nothing_copied, SlotClass, slot_class, among_at}
use Rattle.class_tables.specs.declared.Product.{Product}

pub record Begun (pr : Product) (every : Bool) (b₀ b : List ℕ) (j : ℕ) : Type 0 where
  pub near : j ≤ length (automatic_keys (cat_of pr))
  pub so_far : slots_begun (cat_of pr) every (drop j (automatic_keys (cat_of pr))) (slot_at j) b
      ≡ slots_begun (cat_of pr) every (automatic_keys (cat_of pr)) slots_at b₀
  pub long : length b ≡ length b₀

pub none_begun : (pr : Product) (every : Bool) (b : List ℕ) → Begun pr every b b 0
none_begun pr every b = record { near = omega arith; so_far = refl; long = refl }

module _ (pr : Product) (every : Bool) {b₀ b : List ℕ} {j : ℕ} (c i : ℕ) {asked : ℕ} (s : Begun pr every b₀ b j) (room : places_at ≤ length b₀)
    (h : j < length (automatic_keys (cat_of pr))) (small : i < 65536) (is : key c i ≡ get_or (automatic_keys (cat_of pr)) j 0) (a : asked ≡ mask (begun every (class_for pr c))) where
  its_class : class_of (get_or (automatic_keys (cat_of pr)) j 0) ≡ c
  its_class = ap class_of (sym is) ∙ key_class c i small

  of_slot : SlotClass pr c
  of_slot = rw its_class at (slot_class pr (get_or (automatic_keys (cat_of pr)) j 0) (among_at j (automatic_keys (cat_of pr)) h))

  pub slot_may : LayingFirsts (class_for pr c) (leading_class pr c) (slot_at j) (named asked) [] b
  slot_may =
      let few = few_slots pr in
      let narrow = of_slot.narrow in
      let long = s.long in
      let n : named asked ≡ begun every (class_for pr c) = begun_named pr c every a in
      record {
        are_stored = rw n (begun_stored pr c every);
        inside = omega arith;
        copied_from = λ k m q e. absurd (nothing_copied pr c of_slot.stays k m (all_among _ (begun every (class_for pr c)) (begun_stored pr c every) k (rw n at q)) e);
      }

  pub one_begun : {b' : List ℕ} → b' ≡ laid_values (class_for pr c) (slot_at j) (firsts (class_for pr c) (leading_class pr c) [] (named asked)) b → length b' ≡ length b
      → Begun pr every b₀ b' (j + 1)
  unfolding slots_begun
  one_begun {b'} y len =
      let ks : List ℕ = automatic_keys (cat_of pr) in
      let next : drop j ks ≡ get_or ks j 0 ∷ drop (j + 1) ks = drop-cons ks j 0 h ∙ ap (λ (x : ℕ). get_or ks j 0 ∷ drop x ks) (sym (add-one j)) in
      let at : slot_at j + slot_width ≡ slot_at (j + 1) = omega arith in
      record {
        near = omega arith;
        so_far = rw (y, begun_named pr c every a, ← at)
            (ap (λ (d : ℕ). slots_begun (cat_of pr) every (drop (j + 1) ks) (slot_at j + slot_width) (begun_at (cat_of pr) every d (slot_at j) b)) (sym its_class) ∙ rw next at s.so_far);
        long = len ∙ s.long;
      }

pub all_begun : (pr : Product) (every : Bool) {b₀ b : List ℕ} {j : ℕ} → Begun pr every b₀ b j → length (automatic_keys (cat_of pr)) ≤ j
    → b ≡ slots_begun (cat_of pr) every (automatic_keys (cat_of pr)) slots_at b₀
unfolding slots_begun
all_begun pr every {b₀} {b} {j} s h =
    let near = s.near in
    let e : j ≡ length (automatic_keys (cat_of pr)) = omega arith in
    let none_left : drop j (automatic_keys (cat_of pr)) ≡ [] = ap (λ (x : ℕ). drop x (automatic_keys (cat_of pr))) e ∙ drop-length (automatic_keys (cat_of pr)) in
    rw none_left at s.so_far
