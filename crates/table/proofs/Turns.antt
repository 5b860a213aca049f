-- The places in use, one after another: the key of each, and the loop that counts those that hold a number.
use Prim.Native.Nat.{ℕ, zero, suc, ◌+◌, ◌-◌, ◌≤◌, ◌<◌}
use native.Mathlib.Nat.{add_assoc, add-zero}
use native.Mathlib.Omega.{arith}
use mathlib.Core.Path.{◌≡◌, refl, sym, ◌∙◌, ap}
use mathlib.Core.Bool.{true, false}
use mathlib.Core.List.{List, ◌∷◌}
use lib.ListN.{take, drop, get_or}
use lib.Seq.{get_or-take, get_or-drop, drop-drop}
use lib.Dec.{eqb}
use Rattle.rules.specs.Maps.{◌and◌}
use Rattle.rules.specs.Bytes.{byte, two}
use Rattle.rules.specs.Catalogue.{key}
use Rattle.rules.proofs.Laws.{cases, eqb_true, eqb_false}
use Rattle.store.specs.Layout.{place_length, place_at, in_use_at, places_at, key_length}
use Rattle.table.specs.Places.{place_keys, keys_in, one_holds, how_many_hold}

pub two_drop : (b : List ℕ) (at k : ℕ) → two (drop at b) k ≡ two b (at + k)
two_drop b at k = simp (get_or-drop, add_assoc)

two_start : (b : List ℕ) (at : ℕ) → two (drop at b) 0 ≡ two b at
two_start b at = two_drop b at 0 ∙ ap (two b) (add-zero at)

pub two_take : (n : ℕ) (b : List ℕ) (k : ℕ) → k + 1 < n → two (take n b) k ≡ two b k
two_take n b k h = rw (get_or-take n b k 0 (omega arith), get_or-take n b (k + 1) 0 h)

-- the keys from the i-th of n places on
abbrev keys_from : List ℕ → ℕ → ℕ → List ℕ
keys_from b n i = place_keys (n - i) (drop (place_at i) b)

-- the key of the i-th place
abbrev pub key_of : List ℕ → ℕ → ℕ
key_of b i = key (two b (place_at i)) (two b (place_at i + 2))

keys_start : (b : List ℕ) (n : ℕ) → n ≡ byte b in_use_at → keys_from b n 0 ≡ keys_in b
keys_start b n h = let e : n - 0 ≡ byte b in_use_at = omega arith in rw e

module _ (b : List ℕ) (n i : ℕ) where
  keys_next : i < n → keys_from b n i ≡ key_of b i ∷ keys_from b n (i + 1)
  unfolding place_keys
  keys_next h =
      let e : n - i ≡ suc (n - (i + 1)) = omega arith in
      let f : place_at i + place_length ≡ place_at (i + 1) = omega arith in
      let d : List ℕ = drop (place_at i) b in
      let c : two (take place_length d) 0 ≡ two b (place_at i) = two_take place_length d 0 (omega arith) ∙ two_start b (place_at i) in
      let m : two (take place_length d) 2 ≡ two b (place_at i + 2) = two_take place_length d 2 (omega arith) ∙ two_drop b (place_at i) 2 in
      rw (e, c, m, drop-drop place_length (place_at i) b, f)

-- ---- the key of a place among the keys

key_from : (b : List ℕ) (n i j : ℕ) → j + i < n → get_or (keys_from b n j) i 0 ≡ key_of b (j + i)
key_from b n zero j h = ap (λ (l : List ℕ). get_or l 0 0) (keys_next b n j (omega arith)) ∙ ap (key_of b) (sym (add-zero j))
key_from b n (suc i) j h =
    let z : j + 1 + i ≡ j + suc i = omega arith in
    ap (λ (l : List ℕ). get_or l (suc i) 0) (keys_next b n j (omega arith)) ∙ key_from b n i (j + 1) (omega arith) ∙ ap (key_of b) z

pub key_there : (b : List ℕ) (j : ℕ) → j < byte b in_use_at → get_or (keys_in b) j 0 ≡ key_of b j
key_there b j h =
    let n : ℕ = byte b in_use_at in
    let z : 0 + j ≡ j = omega arith in
    ap (λ (l : List ℕ). get_or l j 0) (sym (keys_start b n refl)) ∙ key_from b n j 0 (omega arith) ∙ ap (key_of b) z

-- ---- how many hold a number

-- how many from the i-th of n places on
abbrev pub hold_from : List ℕ → ℕ → ℕ → ℕ → ℕ → ℕ → ℕ
hold_from b c at m n i = how_many_hold c at m (n - i) (drop (place_at i) b)

pub hold_start : (b : List ℕ) (c at m n : ℕ) → n ≡ byte b in_use_at
    → hold_from b c at m n 0 ≡ how_many_hold c at m (byte b in_use_at) (drop (places_at) b)
hold_start b c at m n h = let e : n - 0 ≡ byte b in_use_at = omega arith in rw e

module _ (b : List ℕ) (c at m n i : ℕ) where
  pub hold_end : n ≤ i → hold_from b c at m n i ≡ 0
  unfolding how_many_hold
  hold_end h = let e : n - i ≡ 0 = omega arith in rw e

  hold_next : i < n → hold_from b c at m n i ≡ one_holds c at m (drop (place_at i) b) + hold_from b c at m n (i + 1)
  unfolding how_many_hold
  hold_next h =
      let e : n - i ≡ suc (n - (i + 1)) = omega arith in
      let f : place_at i + place_length ≡ place_at (i + 1) = omega arith in
      rw (e, drop-drop place_length (place_at i) b, f)

  -- the class and the number, read in the bytes that begin with the place
  class_is : two b (place_at i) ≡ c → eqb (two (drop (place_at i) b) 0) c ≡ true
  class_is p = eqb_true (two (drop (place_at i) b) 0) c (two_start b (place_at i) ∙ p)

  number_is : two (drop (place_at i) b) (key_length + at) ≡ two b (place_at i + (key_length + at))
  number_is = two_drop b (place_at i) (key_length + at)

  pub hold_here : i < n → two b (place_at i) ≡ c → two b (place_at i + (key_length + at)) ≡ m → hold_from b c at m n i ≡ 1 + hold_from b c at m n (i + 1)
  unfolding ◌and◌
  hold_here h p q = rw (hold_next h, class_is p, eqb_true (two (drop (place_at i) b) (key_length + at)) m (number_is ∙ q))

  pub other_number : i < n → (two b (place_at i + (key_length + at)) ≡ m → ⊥) → hold_from b c at m n i ≡ hold_from b c at m n (i + 1)
  unfolding ◌and◌
  other_number h q =
      let d : List ℕ = drop (place_at i) b in
      let f : eqb (two d (key_length + at)) m ≡ false = eqb_false (two d (key_length + at)) m (λ z. q (sym number_is ∙ z)) in
      cases (eqb (two d 0) c) (λ e. rw (hold_next h, e, f) (omega arith)) (λ e. rw (hold_next h, e) (omega arith))

  pub other_class : i < n → (two b (place_at i) ≡ c → ⊥) → hold_from b c at m n i ≡ hold_from b c at m n (i + 1)
  unfolding ◌and◌
  other_class h p = rw (hold_next h, eqb_false (two (drop (place_at i) b) 0) c (λ z. p (sym (two_start b (place_at i)) ∙ z))) (omega arith)
