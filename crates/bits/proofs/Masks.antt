-- Masks and the attributes that they name: one is read from the other, and bits in common are attributes in common.
use Rattle.std.proofs.Common.{◌≡◌, ℕ, zero, suc, ◌+◌, ◌-◌, ◌*◌, ◌/◌, ◌%◌, ◌^◌, ◌<◌, ◌≤◌, Bool, true, not, ◌&&◌, eqb, ltb, leb, List, [], ◌∷◌, ◌++◌, length, sym, refl, ap, ◌∙◌, add_assoc, mod-lt, div-lt_iff_lt-mul, add-mul, one-mul, pow-suc, arith, pow_pos, pow_mono, pow-add}
use lib.Pow.{mod-pow-add, split, high, shl-shr}
use lib.Bits.{bit_and, and_shr, and_mod}
use lib.Count.{ones, ones_cat, count_leading_zeros, leading_top}
use Rattle.rules.specs.Maps.{◌and◌, ◌or◌, rising, among, all, empty, those}
use Rattle.rules.specs.Masks.{attribute_numbers, in_mask, named, mask}
use Rattle.bits.specs.Firsts.{First}
use Rattle.rules.proofs.Laws.{cases, both, eqb_eq, eqb_false, ltb_lt, ltb_le, leb_le, same?, or_cases, never}
use Rattle.rules.proofs.MapLaws.{Up, rising_up, up_rising, among_those}
use Rattle.rules.proofs.Computed.{all_below, below}

-- ---- lists of numbers that rise from a bound to sixteen

abbrev pub Within : ℕ → List ℕ → Type 0
Within b [] = Unit {0}
Within b (n ∷ l) = (b ≤ n) × (n ≤ 16) × Within (suc n) l

abbrev pub is_attribute : ℕ → Bool
is_attribute n = leb 1 n and leb n 16

within_weaken : (a b : ℕ) (l : List ℕ) → a ≤ b → Within b l → Within a l
within_weaken a b [] h w = tt
within_weaken a b (n ∷ l) h w = (let g = w.0 in omega arith, w.1, w.2)

up_within : (b : ℕ) (l : List ℕ) → Up b l → all is_attribute l ≡ true → Within b l
unfolding all
up_within b [] u h = tt
up_within b (n ∷ l) u h = (u.0, leb_le n 16 (both (both h).0).1, up_within (suc n) l u.1 (both h).1)

pub rising_within : (l : List ℕ) → rising l ≡ true → all is_attribute l ≡ true → Within 1 l
unfolding all
rising_within [] r h = tt
rising_within (n ∷ l) r h =
    let u : Up 0 (n ∷ l) = rising_up (n ∷ l) r in
    let w : Within 0 (n ∷ l) = up_within 0 (n ∷ l) u h in
    (leb_le 1 n (both (both h).0).0, w.1, w.2)

within_up : (b : ℕ) (l : List ℕ) → Within b l → Up b l
within_up b [] w = tt
within_up b (n ∷ l) w = (w.0, within_up (suc n) l w.2)

pub within_rising : (b : ℕ) (l : List ℕ) → Within b l → rising l ≡ true
within_rising b l w = up_rising b l (within_up b l w)

pub within_among : (b n : ℕ) (l : List ℕ) → Within b l → among n l ≡ true → (b ≤ n) × (n ≤ 16)
unfolding among
within_among b n [] w h = never h
within_among b n (x ∷ l) w h = or_cases h
    (λ e. rw (eqb_eq n x e) (w.0, w.1))
    (λ e. let g = within_among (suc x) n l w.2 e in let i = w.0 in (omega arith, g.1))

pub within_few : (b : ℕ) (l : List ℕ) → b ≤ 17 → Within b l → length l + b ≤ 17
within_few b [] h w = omega arith
within_few b (n ∷ l) h w =
    let g = w.0 in
    let i = w.1 in
    let r : length l + suc n ≤ 17 = within_few (suc n) l (omega arith) w.2 in
    omega arith

pub within_those : (p : ℕ → Bool) (b : ℕ) (l : List ℕ) → Within b l → Within b (those p l)
unfolding those
within_those p b [] w = tt
within_those p b (n ∷ l) w =
    let r : Within (suc n) (those p l) = within_those p (suc n) l w.2 in
    let g = w.0 in
    cases (p n) (λ e. rw e (w.0, w.1, r)) (λ e. rw e (within_weaken b (suc n) (those p l) (omega arith) r))

numbers_within : Within 1 attribute_numbers
numbers_within = rising_within attribute_numbers (unfold rising ◌and◌ in refl) (unfold all ◌and◌ in refl)

pub named_within : (m : ℕ) → Within 1 (named m)
unfolding named
named_within m = within_those (in_mask m) 1 attribute_numbers numbers_within

pub named_rising : (m : ℕ) → rising (named m) ≡ true
named_rising m = within_rising 1 (named m) (named_within m)

pub named_few : (m : ℕ) → length (named m) ≤ 16
named_few m = omega (arith, within_few 1 (named m) (omega arith) (named_within m))

-- ---- the mask of a list

pub mask_append : (l m : List ℕ) → mask (l ++ m) ≡ mask l + mask m
unfolding mask
mask_append [] m = omega arith
mask_append (n ∷ l) m = rw (mask_append l m) (sym (add_assoc (2 ^ (16 - n)) (mask l) (mask m)))

pub mask_below : (b : ℕ) (l : List ℕ) → Within b l → mask l < 2 ^ (17 - b)
unfolding mask
mask_below b [] w = pow_pos (17 - b)
mask_below b (n ∷ l) w =
    let g = w.0 in
    let i = w.1 in
    let s : 17 - suc n ≡ 16 - n = omega arith in
    let r : mask l < 2 ^ (16 - n) = rw s at (mask_below (suc n) l w.2) in
    let e : 17 - n ≡ suc (16 - n) = omega arith in
    let p : 2 ^ (17 - n) ≤ 2 ^ (17 - b) = pow_mono (omega arith) in
    omega (arith, pow-suc 2 (16 - n), ap (λ (x : ℕ). 2 ^ x) e)

pub mask_small : (l : List ℕ) → Within 1 l → mask l < 65536
mask_small l w = mask_below 1 l w

-- what comes after a number weighs less
mask_after : (n k : ℕ) (l : List ℕ) → n < k → k ≤ 16 → Within (suc k) l → mask (k ∷ l) < 2 ^ (16 - n)
mask_after n k l h i w =
    let p : 2 ^ (17 - k) ≤ 2 ^ (16 - n) = pow_mono (omega arith) in
    let q : mask (k ∷ l) < 2 ^ (17 - k) = mask_below k (k ∷ l) (omega arith, i, w) in
    omega arith

-- lists with one mask are one list
mask_same : (b c : ℕ) (l m : List ℕ) → Within b l → Within c m → mask l ≡ mask m → l ≡ m
unfolding mask
mask_same b c [] [] w v e = refl
mask_same b c [] (n ∷ m) w v e = absurd (omega (arith, pow_pos (16 - n)))
mask_same b c (n ∷ l) [] w v e = absurd (omega (arith, pow_pos (16 - n)))
mask_same b c (n ∷ l) (k ∷ m) w v e = same? n k
    (λ q. let r : mask l ≡ mask m = omega (arith, e, ap (λ (x : ℕ). 2 ^ (16 - x)) q) in rw (q, mask_same (suc n) (suc k) l m w.2 v.2 r))
    (λ q. absurd (cases (ltb n k)
    (λ t. omega (arith, e, mask_after n k m (ltb_lt n k t) v.1 v.2))
    (λ t. omega (arith, e, mask_after k n l (let y = ltb_le n k t in omega arith) w.1 w.2))))

-- the last so many of the sixteen numbers
abbrev last : ℕ → List ℕ
last zero = []
last (suc k) = (16 - k) ∷ last k

last_mask : (k m : ℕ) → k ≤ 16 → mask (those (in_mask m) (last k)) ≡ m % 2 ^ k
unfolding mask those
last_mask zero m h = omega arith
last_mask (suc k) m h =
    let e : 16 - (16 - k) ≡ k = omega arith in
    let s : 1 + k ≡ suc k = omega arith in
    let d : m % 2 ^ suc k ≡ m / 2 ^ k % 2 * 2 ^ k + m % 2 ^ k = rw s at (mod-pow-add m 1 k) in
    let r : mask (those (in_mask m) (last k)) ≡ m % 2 ^ k = last_mask k m (omega arith) in
    same? (m / 2 ^ k % 2) 1
    (λ q. rw (e, q, r, d, q, e) (omega arith))
    (λ q. let z : m / 2 ^ k % 2 ≡ 0 = omega arith in rw (e, z, r, d, z) (omega arith))

-- what a mask names has that mask
pub mask_named : (m : ℕ) → m < 65536 → mask (named m) ≡ m
unfolding named
mask_named m h = last_mask 16 m (omega arith) ∙ omega arith

-- of a list of such numbers the mask names just these
pub named_mask : (l : List ℕ) → Within 1 l → named (mask l) ≡ l
named_mask l w = mask_same 1 1 (named (mask l)) l (named_within (mask l)) w (mask_named (mask l) (mask_small l w))

-- a mask is 0 exactly if it is that of no attribute
pub none_in : (l : List ℕ) {r : ℕ} → r ≡ mask l → empty l ≡ eqb r 0
unfolding mask
none_in [] e = rw e refl
none_in (n ∷ l) {r} e = sym (eqb_false r 0 (omega (arith, pow_pos (16 - n))))

pub named_none : named 0 ≡ []
named_none = unfold named those in refl

-- ---- a list's mask, bit by bit

pub numbers_among : (n : ℕ) → 1 ≤ n → n ≤ 16 → among n attribute_numbers ≡ true
numbers_among n h i = or_cases (below (λ k. eqb k 0 or among k attribute_numbers) 17 (unfold all_below among ◌or◌ ◌and◌ in refl) n (omega arith))
    (λ e. absurd (let z = eqb_eq n 0 e in omega arith))
    (λ e. e)

pub in_mask_of : (l : List ℕ) → Within 1 l → (n : ℕ) → 1 ≤ n → n ≤ 16 → in_mask (mask l) n ≡ among n l
unfolding named ◌and◌
in_mask_of l w n h i =
    let e : (in_mask (mask l) n && among n attribute_numbers) ≡ among n l =
    sym (among_those (in_mask (mask l)) n attribute_numbers) ∙ ap (among n) (named_mask l w) in
    let f : (in_mask (mask l) n && true) ≡ among n l = rw (numbers_among n h i) at e in
    cases (in_mask (mask l) n) (λ t. rw t (rw t at f)) (λ t. rw t (rw t at f))

-- ---- bits in common

pub those_those : (p q : ℕ → Bool) (l : List ℕ) → those p (those q l) ≡ those (λ n. q n && p n) l
unfolding those
those_those p q [] = refl
those_those p q (n ∷ l) = cases (q n) (λ e. rw (e, those_those p q l)) (λ e. rw (e, those_those p q l))

pub those_same : (p q : ℕ → Bool) (b : ℕ) (l : List ℕ) → Within b l → ((n : ℕ) → b ≤ n → n ≤ 16 → p n ≡ q n) → those p l ≡ those q l
unfolding those
those_same p q b [] w h = refl
those_same p q b (n ∷ l) w h =
    let g = w.0 in
    rw (h n w.0 w.1, those_same p q (suc n) l w.2 (λ k i j. h k (omega arith) j))

and_bits : (x y : ℕ) → x < 2 → y < 2 → eqb (bit_and x y) 1 ≡ (eqb x 1 && eqb y 1)
and_bits x y h g = same? x 1
    (λ e. same? y 1 (λ f. rw (e, f)) (λ f. let z : y ≡ 0 = omega arith in rw (e, z)))
    (λ e. let z : x ≡ 0 = omega arith in rw z)

in_mask_and : (m k n : ℕ) → in_mask (bit_and m k) n ≡ (in_mask m n && in_mask k n)
in_mask_and m k n = rw (and_shr m k (16 - n), and_mod (m / 2 ^ (16 - n)) (k / 2 ^ (16 - n)) 1) (and_bits (m / 2 ^ (16 - n) % 2) (k / 2 ^ (16 - n) % 2) (omega arith) (omega arith))

pub named_and : (m k : ℕ) → named (bit_and m k) ≡ those (in_mask k) (named m)
unfolding named
named_and m k =
    those_same (in_mask (bit_and m k)) (λ n. in_mask m n && in_mask k n) 1 attribute_numbers numbers_within (λ n i j. in_mask_and m k n)
    ∙ sym (those_those (in_mask k) (in_mask m) attribute_numbers)

-- ---- the bits that a mask lacks

lacked : (m k c : ℕ) → c * 2 * 2 ^ k ≡ 65536 → m < 65536 → (65535 - m) / 2 ^ k % 2 ≡ 1 - m / 2 ^ k % 2
lacked m k c e h =
    let l : m / 2 ^ k < c * 2 = (div-lt_iff_lt-mul (pow_pos k)).1 (omega arith) in
    let r : m % 2 ^ k < 2 ^ k = mod-lt m (pow_pos k) in
    let t = c * 2 - 1 - m / 2 ^ k in
    let q : t + m / 2 ^ k + 1 ≡ c * 2 = omega arith in
    let d : (t + m / 2 ^ k + 1) * 2 ^ k ≡ t * 2 ^ k + m / 2 ^ k * 2 ^ k + 2 ^ k = simp (add-mul, one-mul) in
    let w : 65535 - m ≡ t * 2 ^ k + (2 ^ k - 1 - m % 2 ^ k) = omega (arith, split m k, sym d ∙ ap (λ (x : ℕ). x * 2 ^ k) q ∙ e) in
    rw (w, high t k {lo = 2 ^ k - 1 - m % 2 ^ k} (omega arith)) (omega arith)

pub in_mask_not : (m n : ℕ) → m < 65536 → 1 ≤ n → n ≤ 16 → in_mask (65535 - m) n ≡ not (in_mask m n)
in_mask_not m n h i j =
    let e : 16 ≡ suc (n - 1) + (16 - n) = omega arith in
    let d : 2 ^ (n - 1) * 2 * 2 ^ (16 - n) ≡ 65536 = sym (ap (λ (x : ℕ). 2 ^ x) e ∙ pow-add 2 (suc (n - 1)) (16 - n) ∙ ap (λ (x : ℕ). x * 2 ^ (16 - n)) (pow-suc 2 (n - 1))) in
    rw (lacked m (16 - n) (2 ^ (n - 1)) d h) (same? (m / 2 ^ (16 - n) % 2) 1 (λ q. rw q) (λ q. let z : m / 2 ^ (16 - n) % 2 ≡ 0 = omega arith in rw z))

-- ---- one attribute's mask

pub bit_shifted : (n : ℕ) → 1 ≤ n → n ≤ 16 → 32768 / 2 ^ (n - 1) ≡ 2 ^ (16 - n)
bit_shifted n h i =
    let e : 15 ≡ 16 - n + (n - 1) = omega arith in
    let d : 32768 ≡ 2 ^ (16 - n) * 2 ^ (n - 1) = ap (λ (x : ℕ). 2 ^ x) e ∙ pow-add 2 (16 - n) (n - 1) in
    rw d (shl-shr (2 ^ (16 - n)) (n - 1))

-- ---- how many a mask names, and the first

ones_none : ones 0 ≡ 0
ones_none = unfold ones in refl

ones_one : ones 1 ≡ 1
ones_one = unfold ones in refl

ones_mask : (b : ℕ) (l : List ℕ) → Within b l → ones (mask l) ≡ length l
unfolding mask
ones_mask b [] w = ones_none
ones_mask b (n ∷ l) w =
    let e : 17 - suc n ≡ 16 - n = omega arith in
    let r : mask l < 2 ^ (16 - n) = rw e at (mask_below (suc n) l w.2) in
    let c : ones (2 ^ (16 - n) + mask l) ≡ ones 1 + ones (mask l) = rw (one-mul (2 ^ (16 - n))) at (ones_cat (16 - n) 1 (mask l) r) in
    rw (c, ones_mask (suc n) l w.2, ones_one) (omega arith)

pub named_count : (m : ℕ) → m < 65536 → ones m ≡ length (named m)
named_count m h = ap ones (sym (mask_named m h)) ∙ ones_mask 1 (named m) (named_within m)

-- where the mask is small, the numbers are high
within_high : (j b : ℕ) (l : List ℕ) → Within b l → mask l < 2 ^ j → Within (17 - j) l
unfolding mask
within_high j b [] w h = tt
within_high j b (n ∷ l) w h = cases (ltb n (17 - j))
    (λ t.
    let g = ltb_lt n (17 - j) t in
    let p : 2 ^ j ≤ 2 ^ (16 - n) = pow_mono (omega arith) in
    absurd (omega arith))
    (λ t. (ltb_le n (17 - j) t, w.1, w.2))

pub first_named : (m : ℕ) → 0 < m → m < 65536 → First m (count_leading_zeros 16 m + 1)
unfolding mask
first_named m h k =
    let t = leading_top 16 m h k in
    let n = count_leading_zeros 16 m + 1 in
    let e : t.0 ≡ 16 - n = omega (arith, t.1) in
    let low : 2 ^ (16 - n) ≤ m = rw e at t.2 in
    let top : m < 2 ^ suc (16 - n) = rw e at t.3 in
    let rest = m - 2 ^ (16 - n) in
    let small : rest < 2 ^ (16 - n) = omega (arith, pow-suc 2 (16 - n)) in
    let r : mask (named rest) ≡ rest = mask_named rest (omega arith) in
    let s : 17 - (16 - n) ≡ suc n = omega (arith, t.1) in
    let w : Within (suc n) (named rest) = rw s at (within_high (16 - n) 1 (named rest) (named_within rest) (omega arith)) in
    let i : n ≤ 16 = omega (arith, t.1) in
    let q : named (2 ^ (16 - n) + mask (named rest)) ≡ n ∷ named rest = named_mask (n ∷ named rest) (omega arith, i, w) in
    let a : 2 ^ (16 - n) + mask (named rest) ≡ m = omega arith in
    record { from_one = omega arith; to_sixteen = i; set_in = low; before_others = rw a at q }
