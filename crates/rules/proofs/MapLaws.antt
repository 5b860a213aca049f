-- Laws of tables whose keys rise: what is found, put in, kept, changed and gathered.
use Prim.Native.Nat.{ℕ, suc, ◌*◌, ◌≤◌, ◌<◌, zero-le}
use native.Mathlib.Omega.{arith}
use native.Mathlib.Nat.{suc-mul}
use mathlib.Core.Path.{◌≡◌, refl, sym, ◌∙◌, ap, subst}
use mathlib.Core.Bool.{Bool, true, false, not, cond}
use mathlib.Core.Option.{Option, none, some}
use mathlib.Core.Logic.{◌≢◌}
use mathlib.Core.List.{List, [], ◌∷◌, ◌++◌}
use lib.ListN.{length, length-append}
use lib.Dec.{eqb, ltb}
use Rattle.rules.specs.Maps.{◌and◌, ◌or◌, Map, given, find, has, keys, put, keep, remove, every, each, at_key, gather, rising, among, all, those, first_that_applies}
use Rattle.rules.proofs.Laws.{cases, never, both, and_true, or_cases, or_left, or_right, or_none, false_or, eqb_true, eqb_false, eqb_eq, eqb_ne, ltb_lt, lt-ltb, ltb_le}
use Rattle.rules.proofs.Laws.{same?, among_here, all_append, false_not, true_false}

-- ---- what may be there

pub some_eq : {A : Type 0} {a b : A} → some a ≡ some b → a ≡ b
some_eq e = cc

pub none_some {ℓ} : {X : Type ℓ} {A : Type 0} {a : A} → none ≡ some a → X
none_some e = absurd (let z : ◌≡◌ {A = ℕ} 0 1 = cc in omega arith)

-- ---- numbers that rise, from a bound upwards

abbrev pub Up : ℕ → List ℕ → Type 0
Up b [] = Unit {0}
Up b (k ∷ l) = (b ≤ k) × Up (suc k) l

pub up_weaken : (a b : ℕ) (l : List ℕ) → a ≤ b → Up b l → Up a l
up_weaken a b [] h u = tt
up_weaken a b (k ∷ l) h u = (let g = u.0 in omega arith, u.1)

pub rising_up : (l : List ℕ) → rising l ≡ true → Up 0 l
unfolding rising
rising_up [] h = tt
rising_up (k ∷ []) h = (zero-le, tt)
rising_up (k ∷ j ∷ l) h =
    let u : Up 0 (j ∷ l) = rising_up (j ∷ l) (both h).1 in
    (zero-le, (ltb_lt k j (both h).0, u.1))

pub up_rising : (b : ℕ) (l : List ℕ) → Up b l → rising l ≡ true
unfolding rising
up_rising b [] u = refl
up_rising b (k ∷ []) u = refl
up_rising b (k ∷ j ∷ l) u = and_true (lt-ltb k j u.1.0) (up_rising (suc k) (j ∷ l) u.1)

pub up_among : (b k : ℕ) (l : List ℕ) → Up b l → among k l ≡ true → b ≤ k
unfolding among
up_among b k [] u h = never h
up_among b k (x ∷ l) u h =
    let g = u.0 in
    or_cases h (λ e. let y : k ≡ x = eqb_eq k x e in omega arith) (λ e. let y : suc x ≤ k = up_among (suc x) k l u.1 e in omega arith)

pub among_past : (k x : ℕ) (l : List ℕ) → among k (x ∷ l) ≡ true → k ≢ x → among k l ≡ true
unfolding among
among_past k x l h n = or_cases h (λ e. absurd (n (eqb_eq k x e))) (λ e. e)

pub among_front : (k : ℕ) (l m : List ℕ) → among k l ≡ true → among k (l ++ m) ≡ true
unfolding among
among_front k [] m h = never h
among_front k (x ∷ l) m h = or_cases h (λ e. or_left (among k (l ++ m)) e) (λ e. or_right (eqb k x) (among_front k l m e))

pub among_back : (k : ℕ) (l m : List ℕ) → among k m ≡ true → among k (l ++ m) ≡ true
unfolding among
among_back k [] m h = h
among_back k (x ∷ l) m h = or_right (eqb k x) (among_back k l m h)

-- what is among those that pass a test
pub among_those : (p : ℕ → Bool) (n : ℕ) (l : List ℕ) → among n (those p l) ≡ (p n and among n l)
unfolding among those ◌and◌ ◌or◌
among_those p n [] = cases (p n) (λ t. rw t refl) (λ t. rw t refl)
among_those p n (x ∷ l) =
    let later : among n (those p l) ≡ (p n and among n l) = among_those p n l in
    cases (eqb n x)
    (λ e. let here : p n ≡ p x = ap p (eqb_eq n x e) in
    cases (p x) (λ t. rw (t, e, here, t) refl) (λ t. rw (t, e, later, here, t) refl))
    (λ e. cases (p x) (λ t. rw (t, e) later) (λ t. rw (t, e) later))

-- ---- a statement of each entry

abbrev pub Each : {A : Type 0} → (ℕ → A → Type 0) → Map A → Type 0
Each P [] = Unit {0}
Each P (e ∷ m) = P e.0 e.1 × Each P m

module _ {A : Type 0} where
  pub each_of_every : (p : ℕ → A → Bool) (m : Map A) → every p m ≡ true → Each (λ k a. p k a ≡ true) m
  unfolding every
  each_of_every p [] h = tt
  each_of_every p (e ∷ m) h = ((both h).0, each_of_every p m (both h).1)

  pub every_of_each : (p : ℕ → A → Bool) (m : Map A) → Each (λ k a. p k a ≡ true) m → every p m ≡ true
  unfolding every
  every_of_each p [] h = refl
  every_of_each p (e ∷ m) h = and_true h.0 (every_of_each p m h.1)

  pub every_append : (p : ℕ → A → Bool) (l m : Map A) → every p l ≡ true → every p m ≡ true → every p (l ++ m) ≡ true
  unfolding every
  every_append p [] m h g = g
  every_append p (e ∷ l) m h g = and_true (both h).0 (every_append p l m (both h).1 g)

  pub each_imp : (P Q : ℕ → A → Type 0) → ((k : ℕ) (a : A) → P k a → Q k a) → (m : Map A) → Each P m → Each Q m
  each_imp P Q f [] h = tt
  each_imp P Q f (e ∷ m) h = (f e.0 e.1 h.0, each_imp P Q f m h.1)

  pub each_both : (P Q : ℕ → A → Type 0) (m : Map A) → Each P m → Each Q m → Each (λ k a. P k a × Q k a) m
  each_both P Q [] h g = tt
  each_both P Q (e ∷ m) h g = ((h.0, g.0), each_both P Q m h.1 g.1)

  pub each_keep : (P : ℕ → A → Type 0) (p : ℕ → A → Bool) (m : Map A) → Each P m → Each P (keep p m)
  unfolding keep
  each_keep P p [] h = tt
  each_keep P p (e ∷ m) h = cases (p e.0 e.1) (λ t. rw t (h.0, each_keep P p m h.1)) (λ t. rw t (each_keep P p m h.1))

  pub each_find : (P : ℕ → A → Type 0) (m : Map A) → Each P m → (k : ℕ) (a : A) → find k m ≡ some a → P k a
  unfolding find
  each_find P [] h k a e = none_some e
  each_find P (x ∷ m) h k a e = cases (eqb k x.0)
      (λ t. let z : x.1 ≡ a = let y : some x.1 ≡ some a = rw t at e in cc in rw (eqb_eq k x.0 t, ← z) h.0)
      (λ t. each_find P m h.1 k a (rw t at e))

  pub each_up : (b : ℕ) (m : Map A) → Up b (keys m) → Each (λ k a. b ≤ k) m
  unfolding keys
  each_up b [] u = tt
  each_up b (e ∷ m) u = (u.0, each_up b m (up_weaken b (suc e.0) (keys m) (let g = u.0 in omega arith) u.1))

  -- ---- keys

  pub length_keys : (m : Map A) → length (keys m) ≡ length m
  unfolding keys
  length_keys [] = refl
  length_keys (e ∷ m) = ap suc (length_keys m)

  -- a test of the keys alone
  pub every_keys : (p : ℕ → Bool) (m : Map A) → every (λ k a. p k) m ≡ all p (keys m)
  unfolding keys every all
  every_keys p [] = refl
  every_keys p (e ∷ m) = ap (λ (b : Bool). p e.0 and b) (every_keys p m)

  -- ---- finding

  pub find_here : (k : ℕ) (a : A) (m : Map A) → find k ((k, a) ∷ m) ≡ some a
  unfolding find
  find_here k a m = rw (eqb_true k k refl)

  pub find_past : (k : ℕ) (e : ℕ × A) (m : Map A) → k ≢ e.0 → find k (e ∷ m) ≡ find k m
  unfolding find
  find_past k e m h = rw (eqb_false k e.0 h)

  pub has_append : (k : ℕ) (l m : Map A) → has k (l ++ m) ≡ (has k l or has k m)
  unfolding find
  has_append k [] m = sym (false_or (has k m))
  has_append k (e ∷ l) m = cases (eqb k e.0) (λ t. rw t (sym (or_left (has k m) refl))) (λ t. rw t (has_append k l m))

  -- a key below the bound isn't there
  pub find_below : (k b : ℕ) (m : Map A) → Up b (keys m) → k < b → find k m ≡ none
  unfolding keys find
  find_below k b [] u h = refl
  find_below k b (e ∷ m) u h =
      let g = u.0 in
      let n : k ≢ e.0 = omega arith in
      rw (eqb_false k e.0 n) (find_below k (suc e.0) m u.1 (omega arith))

  -- where keys rise, each entry is the one that is found
  pub each_found : (b : ℕ) (m : Map A) → Up b (keys m) → Each (λ k a. find k m ≡ some a) m
  unfolding keys
  each_found b [] u = tt
  each_found b (e ∷ m) u = (
    find_here e.0 e.1 m,
    each_imp (λ k a. (suc e.0 ≤ k) × (find k m ≡ some a)) (λ k a. find k (e ∷ m) ≡ some a)
        (λ k a h. let g = h.0 in let n : k ≢ e.0 = omega arith in find_past k e m n ∙ h.1)
        m
        (each_both (λ k a. suc e.0 ≤ k) (λ k a. find k m ≡ some a) m (each_up (suc e.0) m u.1) (each_found (suc e.0) m u.1)),
  )

  -- ---- what a test keeps

  pub keep_passes : (p : ℕ → A → Bool) (m : Map A) → every p (keep p m) ≡ true
  unfolding keep every
  keep_passes p [] = refl
  keep_passes p (e ∷ m) = cases (p e.0 e.1) (λ t. rw t (and_true t (keep_passes p m))) (λ t. rw t (keep_passes p m))

  pub keep_all : (p : ℕ → A → Bool) (m : Map A) → every p m ≡ true → keep p m ≡ m
  unfolding keep every
  keep_all p [] h = refl
  keep_all p (e ∷ m) h = rw ((both h).0, keep_all p m (both h).1)

  pub up_keep : (p : ℕ → A → Bool) (b : ℕ) (m : Map A) → Up b (keys m) → Up b (keys (keep p m))
  unfolding keep keys
  up_keep p b [] u = tt
  up_keep p b (e ∷ m) u = cases (p e.0 e.1)
      (λ t. rw t (u.0, up_keep p (suc e.0) m u.1))
      (λ t. rw t (up_keep p b m (up_weaken b (suc e.0) (keys m) (let g = u.0 in omega arith) u.1)))

  pub find_kept : (p : ℕ → A → Bool) (k : ℕ) (a : A) (m : Map A) → find k m ≡ some a → p k a ≡ true → find k (keep p m) ≡ some a
  unfolding keep find
  find_kept p k a [] h g = h
  find_kept p k a (e ∷ m) h g = cases (eqb k e.0)
      (λ t.
      let y : some e.1 ≡ some a = rw t at h in
      let z : e.1 ≡ a = cc in
      let q : p e.0 e.1 ≡ true = rw (← eqb_eq k e.0 t, z) g in
      rw (q, t) y)
      (λ t. let r : find k (keep p m) ≡ some a = find_kept p k a m (rw t at h) g in
      cases (p e.0 e.1) (λ q. rw (q, t) r) (λ q. rw q r))

  -- what is kept was there, and passes
  pub found_kept : (p : ℕ → A → Bool) (m : Map A) → rising (keys m) ≡ true → (k : ℕ) (a : A) → find k (keep p m) ≡ some a
      → (find k m ≡ some a) × (p k a ≡ true)
  found_kept p m h k a e = each_find (λ k a. (find k m ≡ some a) × (p k a ≡ true)) (keep p m)
      (each_both (λ k a. find k m ≡ some a) (λ k a. p k a ≡ true) (keep p m)
      (each_keep (λ k a. find k m ≡ some a) p m (each_found 0 m (rising_up (keys m) h)))
      (each_of_every p (keep p m) (keep_passes p m)))
      k a e

  pub rising_keep : (p : ℕ → A → Bool) (m : Map A) → rising (keys m) ≡ true → rising (keys (keep p m)) ≡ true
  rising_keep p m h = up_rising 0 (keys (keep p m)) (up_keep p 0 m (rising_up (keys m) h))

  pub length_keep : (p : ℕ → A → Bool) (m : Map A) → length (keep p m) ≤ length m
  unfolding keep
  length_keep p [] = omega arith
  length_keep p (x ∷ m) = let h : length (keep p m) ≤ length m = length_keep p m in
      cases (p x.0 x.1) (λ t. rw t (omega arith)) (λ t. rw t (omega arith))

  pub find_remove : (k j : ℕ) (m : Map A) → k ≢ j → find k (remove j m) ≡ find k m
  unfolding find keep
  find_remove k j [] h = refl
  find_remove k j (x ∷ m) h = cases (eqb x.0 j)
      (λ t. rw (t, eqb_false k x.0 (λ z. h (z ∙ eqb_eq x.0 j t))) (find_remove k j m h))
      (λ t. rw t (ap (λ (o : Option A). cond (eqb k x.0) (some x.1) o) (find_remove k j m h)))

  -- what holds of everything that is found holds of every entry
  pub every_if_found : (p : ℕ → A → Bool) (m : Map A) → rising (keys m) ≡ true
      → ((k : ℕ) (a : A) → find k m ≡ some a → p k a ≡ true) → every p m ≡ true
  every_if_found p m h f = every_of_each p m
      (each_imp (λ k a. find k m ≡ some a) (λ k a. p k a ≡ true) f m (each_found 0 m (rising_up (keys m) h)))

  -- what every entry is, together with where its key is
  pub every_with_keys : (p : ℕ → A → Bool) (l : List ℕ) (m : Map A) → ((k : ℕ) → among k (keys m) ≡ true → among k l ≡ true)
      → every p m ≡ true → every (λ k a. among k l and p k a) m ≡ true
  unfolding every keys among
  every_with_keys p l [] f h = refl
  every_with_keys p l (x ∷ m) f h = and_true (and_true (f x.0 (among_here x.0 (keys m))) (both h).0)
      (every_with_keys p l m (λ k y. f k (or_right (eqb k x.0) y)) (both h).1)

  -- ---- what is put in

  pub find_put : (k j : ℕ) (a : A) (m : Map A) → find k (put j a m) ≡ cond (eqb k j) (some a) (find k m)
  unfolding find put
  find_put k j a [] = refl
  find_put k j a (x ∷ m) = cases (ltb j x.0)
      (λ t. rw t)
      (λ t. cases (eqb j x.0)
      (λ u. rw (t, u) (let e : j ≡ x.0 = eqb_eq j x.0 u in rw (← e) (cases (eqb k j) (λ w. rw w) (λ w. rw w))))
      (λ u. rw (t, u, find_put k j a m)
      (cases (eqb k j)
      (λ w. rw (w, eqb_false k x.0 (let p : k ≡ j = eqb_eq k j w in let q : j ≢ x.0 = eqb_ne j x.0 u in λ z. q (sym p ∙ z))))
      (λ w. rw w))))

  pub up_put : (b k : ℕ) (a : A) (m : Map A) → b ≤ k → Up b (keys m) → Up b (keys (put k a m))
  unfolding keys put
  up_put b k a [] h u = (h, tt)
  up_put b k a (x ∷ m) h u = cases (ltb k x.0)
      (λ t. let p = ltb_lt k x.0 t in rw t (h, (p, u.1)))
      (λ t. let p = ltb_le k x.0 t in cases (eqb k x.0)
      (λ w. rw (t, w) (h, rw (eqb_eq k x.0 w) u.1))
      (λ w. let q = eqb_ne k x.0 w in rw (t, w) (u.0, up_put (suc x.0) k a m (omega arith) u.1)))

  pub rising_put : (k : ℕ) (a : A) (m : Map A) → rising (keys m) ≡ true → rising (keys (put k a m)) ≡ true
  rising_put k a m h = up_rising 0 (keys (put k a m)) (up_put 0 k a m zero-le (rising_up (keys m) h))

  pub length_put : (k : ℕ) (a : A) (m : Map A) → length (put k a m) ≤ suc (length m)
  unfolding put
  length_put k a [] = omega arith
  length_put k a (x ∷ m) = let h : length (put k a m) ≤ suc (length m) = length_put k a m in
      cases (ltb k x.0) (λ t. rw t (omega arith)) (λ t. cases (eqb k x.0) (λ u. rw (t, u) (omega arith)) (λ u. rw (t, u) (omega arith)))

  -- ---- one table behind another

  pub find_append : (k : ℕ) (l m : Map A) → find k (l ++ m) ≡ given (find k l) (find k m) some
  unfolding find
  find_append k [] m = refl
  find_append k (x ∷ l) m = cases (eqb k x.0) (λ t. rw t) (λ t. rw t (find_append k l m))

  -- ---- an entry that isn't there isn't changed

  pub at_absent : (k : ℕ) (f : A → A) (m : Map A) → among k (keys m) ≡ false → at_key k f m ≡ m
  unfolding each keys among
  at_absent k f [] h = refl
  at_absent k f (x ∷ m) h =
      let g = or_none h in
      rw (eqb_false x.0 k (λ z. eqb_ne k x.0 g.0 (sym z)), at_absent k f m g.1)

  -- ---- entries taken by their keys

  -- the entries of a table whose keys are in a list, in the list's order
  unfoldable pub collect : List ℕ → Map A → Map A
  collect [] m = []
  collect (k ∷ l) m = given (find k m) (collect l m) (λ a. (k, a) ∷ collect l m)

  collect_none : (l : List ℕ) → collect l [] ≡ []
  unfolding collect find
  collect_none [] = refl
  collect_none (k ∷ l) = collect_none l

  collect_past : (l : List ℕ) (e : ℕ × A) (m : Map A) → Up (suc e.0) l → collect l (e ∷ m) ≡ collect l m
  unfolding collect
  collect_past [] e m u = refl
  collect_past (k ∷ l) e m u =
      let g = u.0 in
      let n : k ≢ e.0 = omega arith in
      rw (find_past k e m n, collect_past l e m (up_weaken (suc e.0) (suc k) l (omega arith) u.1))

  -- a table whose keys rise is collected whole from a rising list that has all its keys
  pub collect_all : (b : ℕ) (l : List ℕ) (m : Map A) → Up b l → Up b (keys m) → Each (λ k a. among k l ≡ true) m → collect l m ≡ m
  unfolding keys collect
  collect_all b l [] u v h = collect_none l
  collect_all b [] (e ∷ m) u v h = never (unfold among in h.0)
  collect_all b (k ∷ l) (e ∷ m) u v h = same? e.0 k
      (λ y.
      let f : find k (e ∷ m) ≡ some e.1 = rw (← y) (find_here e.0 e.1 m) in
      let w : Up (suc k) (keys m) = rw (← y) v.1 in
      rw (f, collect_past l e m (rw y u.1), collect_all (suc k) l m u.1 w (later m w h.1), ← y))
      (λ y.
      let j : suc k ≤ e.0 = up_among (suc k) e.0 l u.1 (among_past e.0 k l h.0 y) in
      let w : Up (suc k) (keys (e ∷ m)) = (j, v.1) in
      rw (find_below k (suc k) (e ∷ m) w (omega arith)) (collect_all (suc k) l (e ∷ m) u.1 w (later (e ∷ m) w h)))
    where
      later : (n : Map A) → Up (suc k) (keys n) → Each (λ j a. among j (k ∷ l) ≡ true) n → Each (λ j a. among j l ≡ true) n
      later n w g =
          each_imp (λ j a. (suc k ≤ j) × (among j (k ∷ l) ≡ true)) (λ j a. among j l ≡ true)
          (λ j a q. let z = q.0 in among_past j k l q.1 (omega arith))
          n
          (each_both (λ j a. suc k ≤ j) (λ j a. among j (k ∷ l) ≡ true) n (each_up (suc k) n w) g)

pub each_append : {A B : Type 0} (g : ℕ → A → B) (l m : Map A) → each g (l ++ m) ≡ each g l ++ each g m
unfolding each
each_append g [] m = refl
each_append {B = B} g (x ∷ l) m = ap (λ (y : Map B). (x.0, g x.0 x.1) ∷ y) (each_append g l m)

-- ---- lists gathered from the entries

module _ {A : Type 0} (f : ℕ × A → List ℕ) where
  pub all_gather : (p : ℕ → Bool) (m : Map A) → Each (λ k a. all p (f (k, a)) ≡ true) m → all p (gather f m) ≡ true
  unfolding gather all
  all_gather p [] h = refl
  all_gather p (e ∷ m) h = all_append p (f e) (gather f m) h.0 (all_gather p m h.1)

  pub among_gather : (x k : ℕ) (a : A) (m : Map A) → find k m ≡ some a → among x (f (k, a)) ≡ true → among x (gather f m) ≡ true
  unfolding gather find
  among_gather x k a [] h g = none_some h
  among_gather x k a (e ∷ m) h g = cases (eqb k e.0)
      (λ t.
      let y : some e.1 ≡ some a = rw t at h in
      let z : e.1 ≡ a = cc in
      let q : among x (f e) ≡ true = subst (λ (i : ℕ). among x (f (i, e.1)) ≡ true) (eqb_eq k e.0 t) (rw z g) in
      among_front x (f e) (gather f m) q)
      (λ t. among_back x (f e) (gather f m) (among_gather x k a m (rw t at h) g))

-- as many from each
pub length_gather : {A B : Type 0} (f : A → List B) (n : ℕ) → ((a : A) → length (f a) ≡ n) → (l : List A) → length (gather f l) ≡ length l * n
unfolding gather
length_gather f n h [] = omega arith
length_gather f n h (a ∷ l) = rw (suc-mul, length-append (f a) (gather f l), h a, length_gather f n h l) (omega arith)

-- where keys rise, one entry has a key that is there
pub shorter : {A : Type 0} (k b : ℕ) (m : Map A) → Up b (keys m) → among k (keys m) ≡ true → suc (length (remove k m)) ≡ length m
unfolding keys keep among
shorter k b [] u h = never h
shorter k b (e ∷ m) u h = cases (eqb e.0 k)
    (λ y.
    let z : e.0 ≡ k = eqb_eq e.0 k y in
    let others : Each (λ j a. not (eqb j k) ≡ true) m =
    each_imp (λ j a. suc e.0 ≤ j) (λ j a. not (eqb j k) ≡ true) (λ j a g. false_not (eqb_false j k (λ same. absurd (omega arith)))) m (each_up (suc e.0) m u.1) in
    rw (y, keep_all (λ j a. not (eqb j k)) m (every_of_each (λ j a. not (eqb j k)) m others)))
    (λ y.
    let past : among k (keys m) ≡ true = among_past k e.0 (keys m) h (λ same. eqb_ne e.0 k y (sym same)) in
    rw y (ap suc (shorter k (suc e.0) m u.1 past)))

-- what is kept by its key
module _ {A : Type 0} (p : ℕ → Bool) where
  pub find_keep : (k : ℕ) (m : Map A) → p k ≡ true → find k (keep (λ j a. p j) m) ≡ find k m
  unfolding find keep
  find_keep k [] h = refl
  find_keep k (x ∷ m) h = cases (eqb k x.0)
      (λ u. let q : p x.0 ≡ true = ap p (sym (eqb_eq k x.0 u)) ∙ h in rw (q, u) refl)
      (λ u. cases (p x.0) (λ q. rw (q, u) (find_keep k m h)) (λ q. rw (q, u) (find_keep k m h)))

  pub find_lost : (k : ℕ) (m : Map A) → p k ≡ false → find k (keep (λ j a. p j) m) ≡ none
  unfolding find keep
  find_lost k [] h = refl
  find_lost k (x ∷ m) h = cases (p x.0)
      (λ q. rw (q, eqb_false k x.0 (λ z. true_false q (ap p (sym z) ∙ h))) (find_lost k m h))
      (λ q. rw q (find_lost k m h))

-- a new key makes a table longer by one
pub longer : {A : Type 0} (k : ℕ) (a : A) (m : Map A) → among k (keys m) ≡ false → length (put k a m) ≡ suc (length m)
unfolding keys put among
longer k a [] h = refl
longer k a (e ∷ m) h =
    let g = or_none h in
    cases (ltb k e.0) (λ y. rw y) (λ y. rw (y, g.0) (ap suc (longer k a m g.1)))

-- the first line that applies has what each line has if its test is true
abbrev pub EachLine : {A : Type 0} → (A → Type 0) → List (Bool × A) → Type 0
EachLine P [] = Unit {0}
EachLine P (r ∷ l) = (r.0 ≡ true → P r.1) × EachLine P l

pub first_has : {A : Type 0} (P : A → Type 0) (l : List (Bool × A)) → EachLine P l → (a : A) → first_that_applies l ≡ some a → P a
unfolding first_that_applies
first_has P [] h a e = none_some e
first_has P (r ∷ l) h a e = cases r.0
    (λ t. let z : r.1 ≡ a = some_eq (rw t at e) in rw (← z) (h.0 t))
    (λ t. first_has P l h.1 a (rw t at e))
