-- Numbers that rise: told by which they are, parted into those before and those after, and the room of those before one of them.
use Prim.Native.Nat.{ℕ, suc, ◌+◌, ◌≤◌, ◌<◌}
use native.Mathlib.Omega.{arith}
use mathlib.Core.Path.{◌≡◌, refl, sym, ap}
use mathlib.Core.Bool.{Bool, true, false, not}
use mathlib.Core.List.{List, [], ◌∷◌, ◌++◌}
use lib.Dec.{eqb, ltb}
use Rattle.rules.specs.Maps.{among, all, those}
use Rattle.rules.specs.Masks.{total}
use Rattle.rules.proofs.Laws.{cases, never, not-true, false_not, or_cases, or_right, both, eqb_eq, le-ltb, among_here}
use Rattle.rules.proofs.MapLaws.{Up, up_weaken, up_among, among_past, among_back}
use Rattle.rules.proofs.Standing.{all_imp, all_self}

-- ---- lists with the same numbers

same_rest : (x : ℕ) (l m : List ℕ) → Up (suc x) l → ((n : ℕ) → among n (x ∷ l) ≡ true → among n (x ∷ m) ≡ true) → (n : ℕ) → among n l ≡ true → among n m ≡ true
unfolding among
same_rest x l m u f n h =
    let above : suc x ≤ n = up_among (suc x) n l u h in
    among_past n x m (f n (or_right (eqb n x) h)) (λ e. absurd (omega arith))

pub same_members : (a b : ℕ) (l m : List ℕ) → Up a l → Up b m
    → ((n : ℕ) → among n l ≡ true → among n m ≡ true) → ((n : ℕ) → among n m ≡ true → among n l ≡ true) → l ≡ m
unfolding among
same_members a b [] [] u w f g = refl
same_members a b [] (y ∷ m) u w f g = never (g y (among_here y m))
same_members a b (x ∷ l) [] u w f g = never (f x (among_here x l))
same_members a b (x ∷ l) (y ∷ m) u w f g =
    let low : y ≤ x = up_among y x (y ∷ m) (omega arith, w.1) (f x (among_here x l)) in
    let high : x ≤ y = up_among x y (x ∷ l) (omega arith, u.1) (g y (among_here y m)) in
    let e : y ≡ x = omega arith in
    let w' : Up (suc x) m = rw e at w.1 in
    rw e (ap (λ (r : List ℕ). x ∷ r) (same_members (suc x) (suc x) l m u.1 w'
    (same_rest x l m u.1 (rw e at f)) (same_rest x m l w' (rw e at g))))

-- ---- those that pass a test before those that don't

-- none passes
none_of_those : (p : ℕ → Bool) (l : List ℕ) → all (λ n. not (p n)) l ≡ true → those p l ≡ []
unfolding those all
none_of_those p [] h = refl
none_of_those p (n ∷ l) h = let t : p n ≡ false = not-true (both h).0 in rw t (none_of_those p l (both h).1)

pub up_those : (p : ℕ → Bool) (b : ℕ) (l : List ℕ) → Up b l → Up b (those p l)
unfolding those
up_those p b [] u = tt
up_those p b (x ∷ l) u =
    let low = u.0 in
    cases (p x) (λ t. rw t (u.0, up_those p (suc x) l u.1)) (λ t. rw t (up_weaken b (suc x) (those p l) (omega arith) (up_those p (suc x) l u.1)))

pub those_all : (p : ℕ → Bool) (l : List ℕ) → all p l ≡ true → those p l ≡ l
unfolding those all
those_all p [] h = refl
those_all p (x ∷ l) h = rw ((both h).0, those_all p l (both h).1) refl

-- a test that each number of a list passes
pub all_of : (p : ℕ → Bool) (l : List ℕ) → ((n : ℕ) → among n l ≡ true → p n ≡ true) → all p l ≡ true
all_of p l f = all_imp (λ n. among n l) p f l (all_self l)

pub in_two_parts : (p : ℕ → Bool) (b : ℕ) (l : List ℕ) → Up b l → ((m n : ℕ) → among m l ≡ true → p m ≡ true → among n l ≡ true → p n ≡ false → m < n)
    → l ≡ those p l ++ those (λ n. not (p n)) l
unfolding those among
in_two_parts p b [] u f = refl
in_two_parts p b (x ∷ l) u f = cases (p x)
    (λ t. rw t (ap (λ (r : List ℕ). x ∷ r) (in_two_parts p (suc x) l u.1 (λ m n h s g r. f m n (or_right (eqb m x) h) s (or_right (eqb n x) g) r))))
    (λ t. let None_passes : (n : ℕ) → among n l ≡ true → p n ≡ false = λ n h. cases (p n)
    (λ s. let above : suc x ≤ n = up_among (suc x) n l u.1 h in let below : n < x = f n x (or_right (eqb n x) h) s (among_here x l) t in absurd (omega arith))
    (λ s. s) in
    let fail : all (λ n. not (p n)) l ≡ true = all_of (λ n. not (p n)) l (λ n h. false_not (None_passes n h)) in
    rw (t, none_of_those p l fail, those_all (λ n. not (p n)) l fail) refl)

-- numbers in front are below those behind
pub front_below_back : (b : ℕ) (l m : List ℕ) → Up b (l ++ m) → (x y : ℕ) → among x l ≡ true → among y m ≡ true → x < y
unfolding among
front_below_back b [] m u x y h g = never h
front_below_back b (z ∷ l) m u x y h g = or_cases h
    (λ e. let same : x ≡ z = eqb_eq x z e in let above : suc z ≤ y = up_among (suc z) y (l ++ m) u.1 (among_back y l m g) in omega arith)
    (λ e. front_below_back (suc z) l m u.1 x y e g)

-- ---- the room of those before one of them

total_those : (size : ℕ → ℕ) (p : ℕ → Bool) (l : List ℕ) → total size (those p l) ≤ total size l
unfolding total those
total_those size p [] = omega arith
total_those size p (x ∷ l) =
    let h : total size (those p l) ≤ total size l = total_those size p l in
    cases (p x) (λ t. rw t (omega arith)) (λ t. rw t (omega arith))

pub before_and_itself : (size : ℕ → ℕ) (n : ℕ) (l : List ℕ) → among n l ≡ true → total size (those (λ m. ltb m n) l) + size n ≤ total size l
unfolding total those among
before_and_itself size n [] h = never h
before_and_itself size n (x ∷ l) h = or_cases h
    (λ e. let same : x ≡ n = sym (eqb_eq n x e) in let below : total size (those (λ m. ltb m n) l) ≤ total size l = total_those size (λ m. ltb m n) l in
    rw (same, le-ltb n n (omega arith)) (omega arith))
    (λ e. let rest : total size (those (λ m. ltb m n) l) + size n ≤ total size l = before_and_itself size n l e in
    cases (ltb x n) (λ t. rw t (omega arith)) (λ t. rw t (omega arith)))
