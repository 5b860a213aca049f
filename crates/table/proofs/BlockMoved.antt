-- A place put in or taken out in the part of a block that begins with it, and the number of places in use.
use Prim.Native.Nat.{ℕ, ◌-◌, ◌≤◌, ◌<◌}
use native.Mathlib.Omega.{arith}
use mathlib.Core.Path.{◌≡◌, sym, ◌∙◌, ap}
use mathlib.Core.List.{List, [], ◌∷◌, ◌++◌, append-nil}
use lib.ListN.{length, take, drop, set, replicate, length-append, length-take, length-drop, drop_of_length-le}
use lib.Seq.{take_all, set_split}
use borrow.Rule.Slice.PartMut.{mid_of, put_mid}
use Rattle.rules.specs.Bytes.{laid}
use Rattle.table.specs.Spots.{inserted, removed}

module _ (b : List ℕ) (a n : ℕ) (e : n ≡ length b - a) (lo : 1 < a) (hi : a ≤ length b) where
  long : length (drop a b) ≡ n
  long = length-drop a b ∙ sym e

  -- the part from a on is all that follows
  all_of_it : mid_of a n b ≡ drop a b
  all_of_it = take_all n (drop a b) (omega (arith, long))

  put_back : (v : List ℕ) → put_mid a n b v ≡ take a b ++ v
  put_back v =
      let z : drop n (drop a b) ≡ [] = drop_of_length-le (drop a b) {i = n} (omega (arith, long)) in
      rw z (ap (λ (l : List ℕ). take a b ++ l) (append-nil v))

  -- the number of places in use, which stands before that part
  counted_anew : (v : List ℕ) (x : ℕ) → set (put_mid a n b v) 1 x ≡ laid 1 (x ∷ []) (put_mid a n b v)
  unfolding laid
  counted_anew v x = set_split (put_mid a n b v) 1 x (rw (put_back v) (simp (length-append, length-take) (omega arith)))

  pub insert_back : (r v : List ℕ) (x y : ℕ) → x ≡ y → v ≡ r ++ take (length (mid_of a n b) - length r) (mid_of a n b)
      → set (put_mid a n b v) 1 x ≡ laid 1 (y ∷ []) (inserted a r b)
  unfolding inserted
  insert_back r v x y g q = counted_anew v x ∙ rw (put_back v, q, all_of_it, length-drop a b, g)

  pub remove_back : (w : ℕ) (v : List ℕ) (x y : ℕ) → x ≡ y → v ≡ drop w (mid_of a n b) ++ replicate w 0
      → set (put_mid a n b v) 1 x ≡ laid 1 (y ∷ []) (removed a w b)
  unfolding removed
  remove_back w v x y g q = counted_anew v x ∙ rw (put_back v, q, all_of_it, g)
