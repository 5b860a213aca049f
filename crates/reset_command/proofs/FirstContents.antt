-- First contents of an instance with a slot: those that a reset writes, and those of a power-on.
use Prim.Native.Nat.{ℕ}
use mathlib.Core.Path.{◌≡◌, refl, sym, ◌∙◌, ap}
use mathlib.Core.Bool.{true, false, cond}
use mathlib.Core.Option.{none, some}
use mathlib.Core.List.{List, [], ◌∷◌}
use lib.Seq.{take-nil, drop-nil}
use lib.Dec.{eqb}
use Rattle.rules.specs.Maps.{◌or◌, Map, given, find, keys, keep, each, among}
use Rattle.rules.specs.Catalogue.{constant, copied, Source, stored, of_creator, count_of, Attribute, Class, attribute, size_of, is_stored, stored_numbers, is_created, leader}
use Rattle.rules.specs.State.{Contents, content, overwrite}
use Rattle.rules.specs.Commands.{first_content, new_contents, reset_contents}
use Rattle.rules.proofs.Laws.{cases, or_right, eqb_eq, among_here}
use Rattle.rules.proofs.MapLaws.{Each, each_imp, each_keep, each_found, rising_up}
use Rattle.rules.proofs.Lookups.{found_attribute}
use Rattle.bits.proofs.Masks.{within_among, numbers_among, in_mask_of}
use Rattle.legality.proofs.NewContents.{start}
use Rattle.legality.proofs.ResetContents.{nothing_carried}
use Rattle.class_tables.specs.declared.Product.{Product}
use Rattle.class_tables.specs.Built.{cat_of, class_for}
use Rattle.class_tables.specs.Describes.{offset_of}
use Rattle.class_tables.specs.Masks.{writable_numbers}
use Rattle.class_tables.proofs.ClassLaws.{attributes_rising}
use Rattle.class_tables.proofs.EveryProduct.{well_formed_of}
use Rattle.class_tables.proofs.Facts.{stored_within, writable_within}
use Rattle.class_tables.proofs.MaskLaws.{writable_bit}
use Rattle.attribute_write.specs.Lays.{first_from, firsts, leading_class}

pub keys_firsts : (k lead : Class) (from l : List ℕ) → keys (firsts k lead from l) ≡ l
unfolding keys firsts
keys_firsts k lead from [] = refl
keys_firsts k lead from (n ∷ l) = ap (λ (x : List ℕ). n ∷ x) (keys_firsts k lead from l)

find_firsts : (k lead : Class) (from : List ℕ) (n : ℕ) (l : List ℕ)
    → find n (firsts k lead from l) ≡ cond (among n l) (some (first_from lead from (size_of k n) (attribute k n).source)) none
unfolding find firsts among ◌or◌
find_firsts k lead from n [] = refl
find_firsts k lead from n (m ∷ l) = cases (eqb n m)
    (λ t. rw (t, eqb_eq n m t))
    (λ t. rw t (find_firsts k lead from n l))

-- where nothing was carried, nothing is copied
same_first : (lead : Class) (size : ℕ) (s : Source) → first_content [] s ≡ first_from lead [] size s
unfolding first_content first_from content find
same_first lead size (stored (constant v)) = refl
same_first lead size (stored (copied m)) = sym (rw (drop-nil {A = ℕ} (offset_of lead m)) (take-nil size))
same_first lead size (of_creator a) = refl
same_first lead size (count_of d a) = refl

-- ---- at a reset

-- of the stored attributes, those that a Set may write are the W ones
written_if_W : (pr : Product) (c n : ℕ) → among n (stored_numbers (class_for pr c)) ≡ true → among n (writable_numbers (class_for pr c)) ≡ (attribute (class_for pr c) n).W
written_if_W pr c n h =
    let w = within_among 1 n (stored_numbers (class_for pr c)) (stored_within pr c) h in
    sym (in_mask_of (writable_numbers (class_for pr c)) (writable_within pr c) n w.0 w.1) ∙ writable_bit pr c n (numbers_among n w.0 w.1)

each_same : {A B : Type 0} (f g : ℕ → A → B) (m : Map A) → ((k : ℕ) (a : A) → among k (keys m) ≡ true → f k a ≡ g k a) → each f m ≡ each g m
unfolding each keys among
each_same f g [] h = refl
each_same f g (e ∷ m) h =
    rw (h e.0 e.1 (among_here e.0 (keys m)), each_same f g m (λ k a q. h k a (or_right (eqb k e.0) q)))

-- a reset writes first contents over those that a Set may write
pub reset_overwrites : (pr : Product) (c : ℕ) (r : Contents) → keys r ≡ stored_numbers (class_for pr c)
    → reset_contents (class_for pr c) r ≡ overwrite (firsts (class_for pr c) (leading_class pr c) [] (writable_numbers (class_for pr c))) r
unfolding reset_contents overwrite
reset_overwrites pr c r ks =
    let k : Class = class_for pr c in
    let lead : Class = leading_class pr c in
    let new : Contents = firsts k lead [] (writable_numbers k) in
    each_same (λ n v. cond (attribute k n).W (first_content [] (attribute k n).source) v) (λ n v. given (find n new) v (λ w. w)) r
    (λ n v a.
    let w : among n (writable_numbers k) ≡ (attribute k n).W = written_if_W pr c n (rw (← ks) a) in
    let f : find n new ≡ cond (attribute k n).W (some (first_from lead [] (size_of k n) (attribute k n).source)) none =
    rw (find_firsts k lead [] n (writable_numbers k)) (rw w refl) in
    rw (f, same_first lead (size_of k n) (attribute k n).source) (cases (attribute k n).W (λ t. rw t refl) (λ t. rw t refl)))

-- ---- at a power-on

module _ (pr : Product) (c : ℕ) (stays : is_created (class_for pr (leader (cat_of pr) c)).creation ≡ false) where
  abbrev k : Class
  k = class_for pr c

  started : (m : Map Attribute) → Each (λ n a. attribute k n ≡ a) m → each (start []) m ≡ firsts k (leading_class pr c) [] (keys m)
  unfolding each firsts keys
  started [] h = refl
  started (e ∷ m) h =
      ap (λ (a : Attribute). (e.0, start [] e.0 a) ∷ each (start []) m) (sym h.0)
      ∙ rw (
        nothing_carried (cat_of pr) (well_formed_of pr) c stays e.0,
        same_first (leading_class pr c) (size_of k e.0) (attribute k e.0).source,
        started m h.1,
      )

  -- a new instance has the first contents of all that is stored
  pub new_are_firsts : new_contents [] k ≡ firsts k (leading_class pr c) [] (stored_numbers k)
  unfolding new_contents stored_numbers
  new_are_firsts = started (keep (λ n a. is_stored a.source) k.attributes)
      (each_keep (λ n a. attribute k n ≡ a) (λ n a. is_stored a.source) k.attributes
      (each_imp (λ n a. find n k.attributes ≡ some a) (λ n a. attribute k n ≡ a) (found_attribute k) k.attributes
      (each_found 0 k.attributes (rising_up (keys k.attributes) (attributes_rising pr c)))))
