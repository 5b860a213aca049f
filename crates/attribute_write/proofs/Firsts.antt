-- First contents: whose they are, that each has its size, and that what is copied from a leading instance's bytes is what it carried.
use Prim.Native.Nat.{ℕ}
use native.Mathlib.Omega.{arith}
use mathlib.Core.Path.{◌≡◌, refl, ap}
use mathlib.Core.Bool.{true, false, cond}
use mathlib.Core.Option.{none, some}
use mathlib.Core.List.{List, [], ◌∷◌}
use lib.ListN.{length, take, drop, length-drop}
use lib.Seq.{length-take-le}
use lib.Dec.{eqb}
use Rattle.rules.specs.Catalogue.{Class, size_of, Source, attribute, is_stored, stored, copied, constant, of_creator, count_of, stored_numbers}
use Rattle.rules.specs.Commands.{first_content}
use Rattle.rules.specs.Maps.{among, every, find, keys, ◌or◌}
use Rattle.rules.specs.State.{Contents, content}
use Rattle.rules.specs.WellFormed.{FirstIsLegal}
use Rattle.rules.proofs.Laws.{cases, eqb_eq, and_true, eqb_true, among_here, never, or_right, all_among}
use Rattle.store.proofs.ContentsBack.{sized}
use Rattle.class_tables.specs.Built.{class_for, cat_of}
use Rattle.class_tables.specs.Describes.{offset_of}
use Rattle.class_tables.specs.declared.Product.{Product}
use Rattle.class_tables.proofs.ClassLaws.{stored_there}
use Rattle.class_tables.proofs.EveryProduct.{well_formed_of}
use Rattle.attribute_write.specs.Lays.{first_from, firsts, leading_class, LayingFirsts}
use Rattle.attribute_write.proofs.Overwritten.{Sized}

module _ (k lead : Class) (from : List ℕ) where
  -- attribute n's
  abbrev pub first_of : ℕ → List ℕ
  first_of n = first_from lead from (size_of k n) (attribute k n).source

  pub keys_firsts : (l : List ℕ) → keys (firsts k lead from l) ≡ l
  unfolding keys firsts
  keys_firsts [] = refl
  keys_firsts (n ∷ l) = ap (λ (x : List ℕ). n ∷ x) (keys_firsts l)

  pub find_firsts : (n : ℕ) (l : List ℕ) → find n (firsts k lead from l) ≡ cond (among n l) (some (first_of n)) none
  unfolding find firsts among ◌or◌
  find_firsts n [] = refl
  find_firsts n (m ∷ l) = cases (eqb n m)
      (λ t. rw (t, eqb_eq n m t))
      (λ t. rw t (find_firsts n l))

  sized_firsts : (l : List ℕ) → ((n : ℕ) → among n l ≡ true → length (first_of n) ≡ size_of k n) → sized (size_of k) (firsts k lead from l) ≡ true
  unfolding every firsts among
  sized_firsts [] h = refl
  sized_firsts (n ∷ l) h = and_true (eqb_true (length (first_of n)) (size_of k n) (h n (among_here n l))) (sized_firsts l (λ m a. h m (or_right (eqb m n) a)))

-- what is copied from bytes that show what was carried
pub copied_is_carried : (lead : Class) (from : List ℕ) (carried : Contents) (size : ℕ) (s : Source)
    → ((m : ℕ) → s ≡ stored (copied m) → take size (drop (offset_of lead m) from) ≡ content m carried) → first_from lead from size s ≡ first_content carried s
unfolding first_from first_content
copied_is_carried lead from carried size (stored (constant v)) h = refl
copied_is_carried lead from carried size (stored (copied m)) h = h m refl
copied_is_carried lead from carried size (of_creator a) h = refl
copied_is_carried lead from carried size (count_of d a) h = refl

-- the first contents of attributes that no Create carries, where they may be laid
module _ (pr : Product) (c at : ℕ) (l from b : List ℕ) (may : LayingFirsts (class_for pr c) (leading_class pr c) at l from b)
    (none_carried : (n : ℕ) → among n l ≡ true → (attribute (class_for pr c) n).C ≡ false) where
  abbrev k : Class
  k = class_for pr c

  abbrev lead : Class
  lead = leading_class pr c

  right_size : (n : ℕ) → among n l ≡ true → length (first_of k lead from n) ≡ size_of k n
  unfolding first_from
  right_size n a =
      let there = stored_there pr c n (all_among (λ m. among m (stored_numbers k)) l may.are_stored n a) in
      go (attribute k n).source refl there.1 ((well_formed_of pr).first_contents_are_legal c n there.0 (none_carried n a))
    where
      go : (s : Source) → (attribute k n).source ≡ s → is_stored s ≡ true → FirstIsLegal (cat_of pr) c (attribute k n) s → length (first_from lead from (size_of k n) s) ≡ size_of k n
      go (stored (constant v)) e i f = f.0
      go (stored (copied m)) e i f = let z = may.copied_from n m a e in length-take-le (size_of k n) (drop (offset_of lead m) from) (simp length-drop (omega arith))
      go (of_creator m) e i f = never i
      go (count_of d m) e i f = never i

  pub firsts_are_sized : Sized k (firsts k lead from l)
  firsts_are_sized = record { are_stored = rw (keys_firsts k lead from l) may.are_stored; are_sized = sized_firsts k lead from l right_size }
