-- Bytes laid over others: what stands before them, in their place and behind them, and what is laid over twice.
use Prim.Native.Nat.{ℕ, ◌+◌, ◌-◌, ◌≤◌, ◌<◌}
use native.Mathlib.Nat.{add_assoc, zero-add}
use native.Mathlib.Omega.{arith}
use mathlib.Core.Path.{◌≡◌, refl, sym, ◌∙◌, ap}
use mathlib.Core.List.{List, [], ◌++◌, append_assoc, append-nil, ◌∷◌}
use lib.ListN.{length, take, drop, get_or, replicate, length-append, length-replicate, length-take, length-drop, take-append-drop, drop_of_length-le}
use lib.ListN.{replicate-append-replicate, set}
use lib.Seq.{take_at, drop_at, take-append-le, drop-append-le, take-append-add, drop-append-add, take-take, take-add, drop-drop, get_or-take, length-take-le, set_split}
use borrow.Rule.Slice.PartMut.{mid_of, put_mid}
use Rattle.rules.specs.Bytes.{bytes, fill, laid}
use Rattle.rules.proofs.ByteLaws.{fill_is}
use native.Mathlib.Numerals.{add-one}

laid_is : (at : ℕ) (v b : List ℕ) → laid at v b ≡ take at b ++ (v ++ drop (at + length v) b)
unfolding laid
laid_is at v b = refl

-- laid over all of them
pub laid_all : (v b : List ℕ) → length v ≡ length b → laid 0 v b ≡ v
unfolding laid
laid_all v b e =
    let z : drop (0 + length v) b ≡ [] = drop_of_length-le b {i = 0 + length v} (omega arith) in
    rw z (append-nil v)

pub laid_nothing : (at : ℕ) (b : List ℕ) → laid at [] b ≡ b
unfolding laid
laid_nothing at b = let e : at + 0 ≡ at = omega arith in rw e (take-append-drop at b)

-- a number of two bytes, as `put_number` writes it
pub laid_number : (i n : ℕ) (b : List ℕ) → take i b ++ (bytes 2 n ++ drop (i + 2) b) ≡ laid i (bytes 2 n) b
unfolding laid bytes
laid_number i n b = refl

-- what is laid over from p + k on is laid over the rest from k on
pub laid_split : (p k : ℕ) (v b : List ℕ) → laid (p + k) v b ≡ take p b ++ laid k v (drop p b)
unfolding laid
laid_split p k v b = rw (
  take-add p k b,
  append_assoc (take p b) (take k (drop p b)) (v ++ drop (p + k + length v) b),
  drop-drop (k + length v) p b,
  add_assoc p k (length v),
)

-- a part that was lent and came back with other bytes
pub laid_part : (a n : ℕ) (v b : List ℕ) → length v ≡ n → put_mid a n b v ≡ laid a v b
unfolding laid
laid_part a n v b e = rw (drop-drop n a b, e)

module _ (at : ℕ) (v b : List ℕ) (h : at + length v ≤ length b) where
  front : length (take at b ++ v) ≡ at + length v
  front = simp (length-append, length-take) (omega arith)

  joined : laid at v b ≡ (take at b ++ v) ++ drop (at + length v) b
  unfolding laid
  joined = sym (append_assoc (take at b) v (drop (at + length v) b))

  pub length_laid : length (laid at v b) ≡ length b
  unfolding laid
  length_laid = simp (length-append, length-take, length-drop) (omega arith)

  pub take_laid : take (at + length v) (laid at v b) ≡ take at b ++ v
  take_laid = rw joined (take_at (take at b ++ v) (drop (at + length v) b) (at + length v) front)

  pub drop_laid : drop at (laid at v b) ≡ v ++ drop (at + length v) b
  unfolding laid
  drop_laid = drop_at (take at b) (v ++ drop (at + length v) b) at (length-take-le at b (omega arith))

  pub take_laid_before : (n : ℕ) → n ≤ at → take n (laid at v b) ≡ take n b
  unfolding laid
  take_laid_before n g =
      take-append-le n (take at b) (v ++ drop (at + length v) b) (rw (length-take-le at b (omega arith)) g) ∙ take-take n at b g

  pub part_laid_inside : take (length v) (drop at (laid at v b)) ≡ v
  part_laid_inside = rw drop_laid (take_at v (drop (at + length v) b) (length v) refl)

  pub drop_laid_behind : (n : ℕ) → at + length v ≤ n → drop n (laid at v b) ≡ drop n b
  drop_laid_behind n g =
      let e : n ≡ at + length v + (n - (at + length v)) = omega arith in
      let d : drop (at + length v) (laid at v b) ≡ drop (at + length v) b =
      rw joined (drop_at (take at b ++ v) (drop (at + length v) b) (at + length v) front) in
      rw (e, ← drop-drop (n - (at + length v)) (at + length v) (laid at v b), ← drop-drop (n - (at + length v)) (at + length v) b, d)

  pub getD_laid_before : (i d : ℕ) → i < at → get_or (laid at v b) i d ≡ get_or b i d
  getD_laid_before i d g = sym (get_or-take at (laid at v b) i d g) ∙ rw (take_laid_before at (omega arith)) (get_or-take at b i d g)

  -- bytes behind are left as they are
  pub laid_append : (c : List ℕ) → laid at v (b ++ c) ≡ laid at v b ++ c
  unfolding laid
  laid_append c = rw (
    take-append-le at b c (omega arith),
    drop-append-le (at + length v) b c h,
    append_assoc (take at b) (v ++ drop (at + length v) b) c,
    append_assoc v (drop (at + length v) b) c,
  )

  -- bytes laid behind those
  pub laid_next : (w : List ℕ) → laid (at + length v) w (laid at v b) ≡ laid at (v ++ w) b
  laid_next w = rw (
    laid_is (at + length v) w (laid at v b),
    take_laid,
    drop_laid_behind (at + length v + length w) (omega arith),
    laid_is at (v ++ w) b,
    length-append v w,
    append_assoc v w (drop (at + (length v + length w)) b),
    ← add_assoc at (length v) (length w),
    append_assoc (take at b) v (w ++ drop (at + length v + length w) b),
  )

  -- bytes laid over the same place
  pub laid_over : (w : List ℕ) → length w ≡ length v → laid at w (laid at v b) ≡ laid at w b
  laid_over w e = rw (
    laid_is at w (laid at v b),
    laid_is at w b,
    take_laid_before at (omega arith),
    drop_laid_behind (at + length w) (omega arith),
  )

-- the bytes from p on, and the first n, of what was laid over among them
pub drop_laid_around : (p k : ℕ) (v b : List ℕ) → p ≤ length b → drop p (laid (p + k) v b) ≡ laid k v (drop p b)
drop_laid_around p k v b h = rw (laid_split p k v b) (drop_at (take p b) (laid k v (drop p b)) p (length-take-le p b h))

pub take_laid_around : (at n : ℕ) (v b : List ℕ) → at + length v ≤ n → n ≤ length b → take n (laid at v b) ≡ laid at v (take n b)
take_laid_around at n v b g h =
    let l : length (take n b) ≡ n = length-take-le n b h in
    let a : at + length v ≤ length (take n b) = omega arith in
    let e : laid at v b ≡ laid at v (take n b) ++ drop n b =
    ap (laid at v) (sym (take-append-drop n b)) ∙ laid_append at v (take n b) a (drop n b) in
    rw e (take_at (laid at v (take n b)) (drop n b) n (length_laid at v (take n b) a ∙ l))

-- bytes laid at two places that are apart, in either order
pub laid_apart : (at k : ℕ) (v w b : List ℕ) → at + length v ≤ k → k + length w ≤ length b
    → laid k w (laid at v b) ≡ laid at v (laid k w b)
laid_apart at k v w b g h =
    let n = at + length v in
    let e : n + (k - n) ≡ k = omega arith in
    let d : drop n (laid k w b) ≡ laid (k - n) w (drop n b) = rw e at (drop_laid_around n (k - n) w b (omega arith)) in
    let l : laid k w (laid at v b) ≡ take n (laid at v b) ++ laid (k - n) w (drop n (laid at v b)) =
    rw e at (laid_split n (k - n) w (laid at v b)) in
    rw (
      l,
      take_laid at v b (omega arith),
      drop_laid_behind at v b (omega arith) n (omega arith),
      laid_is at v (laid k w b),
      take_laid_before k w b h at (omega arith),
      d,
      append_assoc (take at b) v (laid (k - n) w (drop n b)),
    )

-- bytes laid over a part that was lent
pub laid_in_part : (a n at : ℕ) (v b : List ℕ) → at + length v ≤ n → a + n ≤ length b
    → put_mid a n b (laid at v (mid_of a n b)) ≡ laid (a + at) v b
laid_in_part a n at v b g h =
    let m : at + length v ≤ length (mid_of a n b) = simp (length-take, length-drop) (omega arith) in
    rw (
      laid_split a at v b,
      ← laid_append at v (mid_of a n b) m (drop n (drop a b)),
      take-append-drop n (drop a b),
    )

-- ---- over bytes that stand behind others, before others, or have zeros behind them

-- behind a front
pub laid_behind : (x v b : List ℕ) (at : ℕ) → x ++ laid at v b ≡ laid (length x + at) v (x ++ b)
unfolding laid
laid_behind x v b at =
    let e : length x + at + length v ≡ length x + (at + length v) = omega arith in
    rw (take-append-add x b at, e, drop-append-add x b (at + length v)) (sym (append_assoc x (take at b) (v ++ drop (at + length v) b)))

-- before a rest
pub laid_before : (v b rest : List ℕ) (at : ℕ) → at + length v ≤ length b → laid at v b ++ rest ≡ laid at v (b ++ rest)
laid_before v b rest at h = sym (laid_append at v b h rest)

-- over the zeros behind a front
pub laid_on_zeros : (f v : List ℕ) (n : ℕ) → length v ≤ n → laid (length f) v (f ++ replicate n 0) ≡ fill (length f + n) (f ++ v)
unfolding laid
laid_on_zeros f v n h =
    let la : length (f ++ v) ≡ length f + length v = length-append f v in
    let left : length f + n - length (f ++ v) ≡ n - length v = omega arith in
    let parts : n ≡ length v + (n - length v) = omega arith in
    let behind : drop (length v) (replicate n 0) ≡ replicate {A = ℕ} (n - length v) 0 =
    ap (λ (k : ℕ). drop (length v) (replicate {A = ℕ} k 0)) parts ∙ ap (drop (length v)) (sym (replicate-append-replicate (length v) (n - length v) 0))
    ∙ drop_at (replicate (length v) 0) (replicate (n - length v) 0) (length v) (length-replicate (length v) 0) in
    rw (
      take_at f (replicate n 0) (length f) refl,
      drop-append-add f (replicate n 0) (length v),
      behind,
      fill_is (length f + n) (f ++ v) (omega arith),
      left,
      append_assoc f v (replicate (n - length v) 0),
    )

pub fill_laid : (n : ℕ) (v b : List ℕ) (at : ℕ) → at + length v ≤ length b → length b ≤ n → fill n (laid at v b) ≡ laid at v (fill n b)
fill_laid n v b at h g =
    rw (laid_before v b (replicate n 0) at h)
    (take_laid_around at n v (b ++ replicate n 0) (omega arith) (simp (length-append, length-replicate) (omega arith)))

-- a byte stored, as bytes laid over others
pub one_laid : (at x : ℕ) (b : List ℕ) → at < length b → set b at x ≡ laid at (x ∷ []) b
unfolding laid
one_laid at x b h = set_split b at x h ∙ ap (λ (n : ℕ). take at b ++ (x ∷ drop n b)) (sym (add-one at))

-- bytes laid in front of zeros
pub filled : (n : ℕ) (v : List ℕ) {out : List ℕ} → length v ≤ n → out ≡ laid 0 v (replicate n 0) → out ≡ fill n v
filled n v h e = e ∙ laid_on_zeros [] v n h ∙ ap (λ (k : ℕ). fill k v) (zero-add n)
