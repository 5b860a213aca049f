-- What is written: a count in its bytes; and how great a count is.
use Prim.Native.Nat.{ℕ, zero, suc, ◌+◌, ◌-◌, ◌*◌, ◌/◌, ◌%◌, ◌^◌, ◌≤◌, ◌<◌}
use native.Mathlib.Omega.{arith}
use native.Mathlib.Nat.{div-eq_of_lt}
use mathlib.Core.Path.{◌≡◌, refl, sym, ◌∙◌, ap}
use mathlib.Core.Bool.{Bool, true, false, cond}
use mathlib.Core.List.{List, [], ◌∷◌, ◌++◌}
use lib.ListN.{length, take, drop, set, replicate, length-replicate, length-drop}
use lib.Seq.{length-take-le}
use lib.Dec.{eqb}
use borrow.Rule.Slice.PartMut.{mid_of, put_mid}
use Rattle.rules.specs.Maps.{◌and◌}
use Rattle.rules.specs.Bytes.{byte, two, bytes, laid}
use Rattle.octets.proofs.Laid.{laid_part, length_laid, laid_next, one_laid}
use Rattle.store.specs.Layout.{place_length, places_at, in_use_at, key_length, place_count}
use Rattle.table.specs.Places.{InShape, how_many_hold}
use Rattle.attribute_read.specs.declared.Origin.TheVariants.{At, Count}
use Rattle.attribute_read.specs.declared.Item.{Item}
use Rattle.attribute_read.specs.Values.{shown_from, shown}

-- ---- a count

one_at_most : (b : Bool) → cond b 1 0 ≤ 1
one_at_most true = omega arith
one_at_most false = omega arith

pub hold_few : (c at i n : ℕ) (b : List ℕ) → how_many_hold c at i n b ≤ n
unfolding how_many_hold
hold_few c at i zero b = omega arith
hold_few c at i (suc n) b =
    let z : how_many_hold c at i n (drop place_length b) ≤ n = hold_few c at i n (drop place_length b) in
    let y = one_at_most (eqb (two b 0) c and eqb (two b (key_length + at)) i) in
    omega arith

pub count_small : (c at i : ℕ) (b : List ℕ) → InShape b → how_many_hold c at i (byte b 1) (drop places_at b) < 256
count_small c at i b s =
    let z = hold_few c at i (byte b 1) (drop places_at b) in
    let few : byte b in_use_at ≤ place_count = s.few in
    omega arith

-- ---- its bytes

power_up : (k : ℕ) → 256 ≤ 256 ^ suc k
power_up zero = omega arith
power_up (suc k) = let z : 256 ≤ 256 ^ suc k = power_up k in let y : 256 ^ suc (suc k) ≡ 256 * 256 ^ suc k = omega arith in omega arith

small_bytes : (k n : ℕ) → n < 256 → bytes (suc k) n ≡ replicate k 0 ++ (n ∷ [])
unfolding bytes
small_bytes zero n h = let z : n / 256 ^ 0 % 256 ≡ n = omega arith in rw z
small_bytes (suc k) n h =
    let p : 256 ≤ 256 ^ suc k = power_up k in
    let z : n / 256 ^ suc k ≡ 0 = div-eq_of_lt (omega arith) in
    rw z (ap (λ (l : List ℕ). 0 ∷ l) (small_bytes k n h))

-- zeros, and the count behind them
pub count_written : (n size to last : ℕ) (b v : List ℕ) → n < 256 → 1 ≤ size → to + size ≤ length b → last ≡ to + size - 1
    → v ≡ replicate (length (mid_of to (last - to) b)) 0 → set (put_mid to (last - to) b v) last n ≡ laid to (bytes size n) b
count_written n size to last b v small some room l e =
    let k : ℕ = size - 1 in
    let sk : size ≡ suc k = omega arith in
    let kl : last - to ≡ k = omega arith in
    let lm : length (mid_of to k b) ≡ k = length-take-le k (drop to b) (simp length-drop (omega arith)) in
    let z : List ℕ = replicate k 0 in
    let lz : length z ≡ k = length-replicate k 0 in
    let vz : v ≡ z = rw kl at e ∙ ap (λ (m : ℕ). replicate {A = ℕ} m 0) lm in
    let zeros : put_mid to (last - to) b v ≡ laid to z b = rw (kl, vz) (laid_part to k z b lz) in
    let r : to + length z ≤ length b = omega arith in
    let there : last ≡ to + length z = omega arith in
    let ll : length (laid to z b) ≡ length b = length_laid to z b r in
    let one : set (laid to z b) (to + length z) n ≡ laid (to + length z) (n ∷ []) (laid to z b) = one_laid (to + length z) n (laid to z b) (omega arith) in
    rw (zeros, there) (one ∙ laid_next to z b r (n ∷ []) ∙ ap (λ (x : List ℕ). laid to x b) (sym (small_bytes k n small) ∙ ap (λ (m : ℕ). bytes m n) (sym sk)))

-- ---- an item

pub shown_at : (b : List ℕ) (i : ℕ) (x : Item) {o : ℕ} → x.origin ≡ At o → take x.size (drop o b) ≡ shown b i x
unfolding shown_from
shown_at b i x e = rw e refl

pub shown_count : (b : List ℕ) (i : ℕ) (x : Item) {d o n : ℕ} → x.origin ≡ Count d o → n ≡ how_many_hold d o i (byte b 1) (drop places_at b)
    → bytes x.size n ≡ shown b i x
unfolding shown_from
shown_count b i x e h = rw (e, h) refl
