-- A block put in among blocks of one length, or taken out, also where zeros fill what is left.
use Prim.Native.Nat.{ℕ, zero, suc, ◌+◌, ◌*◌, ◌-◌, ◌≤◌, ◌<◌}
use native.Mathlib.Omega.{arith}
use native.Mathlib.Nat.{mul-suc, mul-zero}
use mathlib.Core.Path.{◌≡◌, refl, sym, ◌∙◌, ap}
use mathlib.Core.Bool.{true, false, not}
use mathlib.Core.Option.{some}
use mathlib.Core.List.{List, [], ◌∷◌, ◌++◌, append_assoc}
use lib.ListN.{length, take, drop, replicate, length-append, length-drop, replicate-append-replicate}
use lib.Seq.{take-append-add, drop-append-add, take-append-le, drop-append-le, drop_at, drop-drop, length-take-le}
use lib.Dec.{eqb, ltb}
use Rattle.rules.specs.Maps.{Map, every, keys, put, keep, remove, among, gather}
use Rattle.rules.specs.Bytes.{fill}
use Rattle.rules.proofs.Laws.{cases, and_true, or_none, eqb_true, eqb_false, eqb_eq, eqb_ne}
use Rattle.rules.proofs.MapLaws.{some_eq, none_some, Up, keep_all}
use Rattle.rules.proofs.ByteLaws.{fill_is}
use Rattle.store.specs.Positions.{position}
use Rattle.table.specs.Spots.{rank}
use Rattle.store.proofs.Positions.{further}

module _ {A : Type 0} (code : ℕ × A → List ℕ) (width : ℕ) (long : (e : ℕ × A) → length (code e) ≡ width) where
  -- take and drop whole blocks
  take_block : (x : ℕ × A) (g : List ℕ) (j : ℕ) → take (width * suc j) (code x ++ g) ≡ code x ++ take (width * j) g
  take_block x g j = let z : width * suc j ≡ length (code x) + width * j = rw (mul-suc width j, long x) (omega arith) in
      rw (z, take-append-add (code x) g (width * j))

  drop_block : (x : ℕ × A) (g : List ℕ) (j : ℕ) → drop (width * suc j) (code x ++ g) ≡ drop (width * j) g
  drop_block x g j = let z : width * suc j ≡ length (code x) + width * j = rw (mul-suc width j, long x) (omega arith) in
      rw (z, drop-append-add (code x) g (width * j))

  pub put_blocks : (k : ℕ) (a : A) (m : Map A) → among k (keys m) ≡ false
      → gather code (put k a m) ≡ take (width * rank k (keys m)) (gather code m) ++ (code (k, a) ++ drop (width * rank k (keys m)) (gather code m))
  unfolding put keys gather among rank
  put_blocks k a [] h = rw (mul-zero width) refl
  put_blocks k a (x ∷ m) h =
      let g = or_none h in
      let b : List ℕ = gather code m in
      let j : ℕ = rank k (keys m) in
      cases (ltb k x.0)
      (λ t. rw (t, mul-zero width) refl)
      (λ t. rw (t, g.0, put_blocks k a m g.1, take_block x b j, drop_block x b j)
      (sym (append_assoc (code x) (take (width * j) b) (code (k, a) ++ drop (width * j) b))))

  later : (k b : ℕ) (m : Map A) → Up b (keys m) → k < b → every (λ i a. not (eqb i k)) m ≡ true
  unfolding every keys
  later k b [] u h = refl
  later k b (x ∷ m) u h = and_true (let z = u.0 in rw (eqb_false x.0 k (omega arith))) (later k (suc x.0) m u.1 (let z = u.0 in omega arith))

  pub remove_blocks : (k j : ℕ) (b : ℕ) (m : Map A) → Up b (keys m) → position k (keys m) ≡ some j
      → gather code (remove k m) ≡ take (width * j) (gather code m) ++ drop (width * j + width) (gather code m)
  unfolding keep keys gather position
  remove_blocks k j b [] u p = none_some p
  remove_blocks k j b (x ∷ m) u p =
      let g : List ℕ = gather code m in
      cases (eqb k x.0)
      (λ t.
      let z : k ≡ x.0 = eqb_eq k x.0 t in
      let j0 : 0 ≡ j = some_eq (rw t at p) in
      let others : remove k m ≡ m = keep_all (λ i a. not (eqb i k)) m (later k (suc x.0) m u.1 (omega arith)) in
      let here : width * 0 + width ≡ length (code x) = rw (mul-zero width, long x) (omega arith) in
      rw (eqb_true x.0 k (sym z), others, ← j0, here, drop_at (code x) g (length (code x)) refl, mul-zero width) refl)
      (λ t.
      let ne : eqb x.0 k ≡ false = eqb_false x.0 k (λ z. eqb_ne k x.0 t (sym z)) in
      further (position k (keys m)) j (rw t at p) (λ i q e.
      let ih : gather code (remove k m) ≡ take (width * i) g ++ drop (width * i + width) g = remove_blocks k i (suc x.0) m u.1 q in
      let z : width * suc i + width ≡ length (code x) + (width * i + width) = rw (mul-suc width i, long x) (omega arith) in
      rw (ne, ih, e, take_block x g i, z, drop-append-add (code x) g (width * i + width))
      (sym (append_assoc (code x) (take (width * i) g) (drop (width * i + width) g)))))

-- ---- with zeros behind

take_of_fill : (q n : ℕ) (g : List ℕ) → q ≤ length g → length g ≤ n → take q (fill n g) ≡ take q g
take_of_fill q n g h f = rw (fill_is n g f, take-append-le q g (replicate (n - length g) 0) h)

drop_of_fill : (q n : ℕ) (g : List ℕ) → q ≤ length g → length g ≤ n → drop q (fill n g) ≡ drop q g ++ replicate (n - length g) 0
drop_of_fill q n g h f = rw (fill_is n g f, drop-append-le q g (replicate (n - length g) 0) h)

take_replicate : (m k : ℕ) → take {A = ℕ} m (replicate (m + k) 0) ≡ replicate m 0
take_replicate zero k = refl
take_replicate (suc m) k = let z : suc m + k ≡ suc (m + k) = omega arith in rw z (ap (λ (l : List ℕ). 0 ∷ l) (take_replicate m k))

pub fill_insert : (n q w : ℕ) (r g : List ℕ) → length r ≡ w → q ≤ length g → length g + w ≤ n
    → fill n (take q g ++ (r ++ drop q g)) ≡ take q (fill n g) ++ (r ++ take (n - q - w) (drop q (fill n g)))
fill_insert n q w r g lr hq hn =
    let lt : length (take q g) ≡ q = length-take-le q g hq in
    let ld : length (drop q g) ≡ length g - q = length-drop q g in
    let whole : length (take q g ++ (r ++ drop q g)) ≡ length g + w = length-append (take q g) (r ++ drop q g) ∙ rw (length-append r (drop q g), lt, ld, lr) (omega arith) in
    let z : n - q - w ≡ length (drop q g) + (n - (length g + w)) = omega arith in
    let y : n - length g ≡ (n - (length g + w)) + w = omega arith in
    rw (
      fill_is n (take q g ++ (r ++ drop q g)) (omega arith),
      whole,
      take_of_fill q n g hq (omega arith),
      drop_of_fill q n g hq (omega arith),
      z,
      take-append-add (drop q g) (replicate (n - length g) 0) (n - (length g + w)),
      y,
      take_replicate (n - (length g + w)) w,
    )
    (append_assoc (take q g) (r ++ drop q g) (replicate (n - (length g + w)) 0)
    ∙ ap (λ (x : List ℕ). take q g ++ x) (append_assoc r (drop q g) (replicate (n - (length g + w)) 0)))

pub fill_remove : (n q w : ℕ) (g : List ℕ) → q + w ≤ length g → length g ≤ n
    → fill n (take q g ++ drop (q + w) g) ≡ take q (fill n g) ++ (drop w (drop q (fill n g)) ++ replicate w 0)
fill_remove n q w g hq hn =
    let lt : length (take q g) ≡ q = length-take-le q g (omega arith) in
    let ld : length (drop (q + w) g) ≡ length g - (q + w) = length-drop (q + w) g in
    let whole : length (take q g ++ drop (q + w) g) ≡ length g - w = length-append (take q g) (drop (q + w) g) ∙ rw (lt, ld) (omega arith) in
    let z : n - (length g - w) ≡ (n - length g) + w = omega arith in
    rw (
      fill_is n (take q g ++ drop (q + w) g) (omega arith),
      whole,
      take_of_fill q n g (omega arith) hn,
      drop-drop w q (fill n g),
      drop_of_fill (q + w) n g hq hn,
      z,
      ← replicate-append-replicate {A = ℕ} (n - length g) w 0,
    )
    (append_assoc (take q g) (drop (q + w) g) (replicate (n - length g) 0 ++ replicate w 0)
    ∙ ap (λ (x : List ℕ). take q g ++ x) (sym (append_assoc (drop (q + w) g) (replicate (n - length g) 0) (replicate w 0))))
