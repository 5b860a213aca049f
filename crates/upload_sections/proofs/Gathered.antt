-- The n-th of lists put one after another.
use Prim.Native.Nat.{ℕ, zero, suc, ◌+◌, ◌*◌, ◌-◌, ◌/◌, ◌%◌, ◌≤◌, ◌<◌}
use native.Mathlib.Numerals.{add-one}
use native.Mathlib.Nat.{sub-zero, suc-sub-suc, suc-mul, zero-mul, div-eq_of_lt, div-eq-sub-div, mod-eq_of_lt, mod-eq-sub-mod}
use native.Mathlib.Omega.{arith}
use mathlib.Core.Path.{◌≡◌, refl, sym, ◌∙◌, ap}
use mathlib.Core.Option.{Option, none, some}
use mathlib.Core.List.{List, [], ◌∷◌, ◌++◌, map}
use lib.ListN.{length, drop, get_or, length-append, length-map, drop_of_length-le}
use lib.Dec.{ltb}
use Rattle.rules.specs.Maps.{nth, gather, all}
use Rattle.rules.proofs.Laws.{cases, ltb_lt, ltb_le, both}
use mathlib.Core.Bool.{Bool, true}
use Rattle.rules.proofs.MapLaws.{none_some, some_eq}
use Rattle.rules.proofs.ByteLaws.{drop_next}

module _ {A : Type 0} where
  pub nth_front : (l m : List A) (n : ℕ) → n < length l → nth (l ++ m) n ≡ nth l n
  unfolding nth
  nth_front [] m n h = absurd (omega arith)
  nth_front (a ∷ l) m zero h = refl
  nth_front (a ∷ l) m (suc n) h = nth_front l m n (omega arith)

  pub nth_behind : (l m : List A) (n : ℕ) → length l ≤ n → nth (l ++ m) n ≡ nth m (n - length l)
  unfolding nth
  nth_behind [] m n h = ap (nth m) (sym (sub-zero n))
  nth_behind (a ∷ l) m zero h = absurd (omega arith)
  nth_behind (a ∷ l) m (suc n) h = nth_behind l m n (omega arith) ∙ ap (nth m) (sym (suc-sub-suc n (length l)))

  pub nth_there : (d : A) (l : List A) (n : ℕ) → n < length l → nth l n ≡ some (get_or l n d)
  unfolding nth
  nth_there d [] n h = absurd (omega arith)
  nth_there d (a ∷ l) zero h = refl
  nth_there d (a ∷ l) (suc n) h = nth_there d l n (omega arith)

  pub nth_all : (p : A → Bool) (l : List A) (n : ℕ) {a : A} → all p l ≡ true → nth l n ≡ some a → p a ≡ true
  unfolding all nth
  nth_all p [] n h e = none_some e
  nth_all p (x ∷ l) zero h e = ap p (sym (some_eq e)) ∙ (both h).0
  nth_all p (x ∷ l) (suc n) h e = nth_all p l n (both h).1 e

  pub all_at : (p : A → Bool) (d : A) (l : List A) (n : ℕ) → all p l ≡ true → n < length l → p (get_or l n d) ≡ true
  all_at p d l n h lt = nth_all p l n h (nth_there d l n lt)

module _ {A B : Type 0} where
  pub nth_map : (f : A → B) (d : A) (l : List A) (n : ℕ) → n < length l → nth (map f l) n ≡ some (f (get_or l n d))
  unfolding nth
  nth_map f d [] n h = absurd (omega arith)
  nth_map f d (a ∷ l) zero h = refl
  nth_map f d (a ∷ l) (suc n) h = nth_map f d l n (omega arith)

  -- where each of a list gives as many as there are in another
  pub nth_gather : (f : ℕ → A → B) (d : A) (s : List A) (l : List ℕ) (n : ℕ) → 0 < length s → n < length l * length s
      → nth (gather (λ i. map (f i) s) l) n ≡ some (f (get_or l (n / length s) 0) (get_or s (n % length s) d))
  unfolding gather
  nth_gather f d s [] n p h = absurd (let z = zero-mul (length s) in omega arith)
  nth_gather f d s (i ∷ l) n p h =
      let rest : List B = gather (λ j. map (f j) s) l in
      let len : length (map (f i) s) ≡ length s = length-map s (f i) in
      cases (ltb n (length s))
      (λ t.
      let lt : n < length s = ltb_lt n (length s) t in
      nth_front (map (f i) s) rest n (omega arith) ∙ nth_map (f i) d s n lt ∙ rw (div-eq_of_lt lt, mod-eq_of_lt lt))
      (λ t.
      let le : length s ≤ n = ltb_le n (length s) t in
      let more = suc-mul (length l) (length s) in
      let q : n / length s ≡ suc ((n - length s) / length s) = div-eq-sub-div p le ∙ add-one ((n - length s) / length s) in
      let r : n % length s ≡ (n - length s) % length s = mod-eq-sub-mod le in
      nth_behind (map (f i) s) rest n (omega arith) ∙ ap (λ (k : ℕ). nth rest (n - k)) len ∙ nth_gather f d s l (n - length s) p (omega arith)
      ∙ sym (ap (λ (k : ℕ). some (f (get_or (i ∷ l) k 0) (get_or s (n % length s) d))) q ∙ ap (λ (k : ℕ). some (f (get_or l ((n - length s) / length s) 0) (get_or s k d))) r))

-- ---- the loops over the lists' sources

module _ {A : Type 0} (f : ℕ → List A) (l : List ℕ) (j : ℕ) where
  next : j < length l → gather f (drop j l) ≡ f (get_or l j 0) ++ gather f (drop (j + 1) l)
  unfolding gather
  next h = ap (gather f) (drop_next l j h)

  pub gather_end : length l ≤ j → gather f (drop j l) ≡ []
  unfolding gather
  gather_end h = ap (gather f) (drop_of_length-le l {i = j} h)

  pub counted_more : j < length l → length (gather f (drop j l)) ≡ length (f (get_or l j 0)) + length (gather f (drop (j + 1) l))
  counted_more h = ap length (next h) ∙ length-append (f (get_or l j 0)) (gather f (drop (j + 1) l))

  -- the one that is so many on from here
  module _ (left : ℕ) {x : Option A} (e : nth (gather f (drop j l)) left ≡ x) where
    pub within_this : j < length l → left < length (f (get_or l j 0)) → nth (f (get_or l j 0)) left ≡ x
    within_this h lt = sym (nth_front (f (get_or l j 0)) (gather f (drop (j + 1) l)) left lt) ∙ sym (ap (λ (k : List A). nth k left) (next h)) ∙ e

    pub past_this : j < length l → (m : ℕ) → m ≡ length (f (get_or l j 0)) → m ≤ left → nth (gather f (drop (j + 1) l)) (left - m) ≡ x
    past_this h m q le =
        ap (λ (k : ℕ). nth (gather f (drop (j + 1) l)) (left - k)) q
        ∙ sym (nth_behind (f (get_or l j 0)) (gather f (drop (j + 1) l)) left (omega arith)) ∙ sym (ap (λ (k : List A). nth k left) (next h)) ∙ e

    pub past_all : length l ≤ j → none ≡ x
    unfolding nth
    past_all h = sym (ap (λ (k : List A). nth k left) (gather_end h)) ∙ e
