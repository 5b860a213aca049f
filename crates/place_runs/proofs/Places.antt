-- The places of a table are tested by a run of each class that can be created, in the order of classes.
use Rattle.std.proofs.Common.{◌≡◌, ℕ, zero, suc, ◌+◌, ◌-◌, ◌*◌, ◌<◌, ◌≤◌, Bool, true, false, ◌&&◌, eqb, ltb, leb, List, [], ◌∷◌, drop, sym, refl, ap, ◌∙◌, arith, drop-drop}
use native.Mathlib.Nat.{sub-zero}
use borrow.Author.Tests.{lt-leb}
use Rattle.rules.specs.Maps.{◌and◌, among}
use Rattle.rules.specs.Bytes.{two, are_bytes, all_zero}
use Rattle.rules.specs.Catalogue.{Catalogue, class, is_created, key}
use Rattle.rules.proofs.Laws.{cases, never, true_and, eqb_eq, eqb_ne, leb_le, leb_lt, le-leb, ltb_lt, ltb_le}
use Rattle.rules.proofs.MapLaws.{Up, up_among, among_past}
use Rattle.rules.proofs.ByteLaws.{two_small, bytes_take, bytes_drop}
use Rattle.store.specs.Layout.{key_length, place_length}
use Rattle.class_tests.specs.Tests.{entry_test}
use Rattle.std.specs.Prelude.{Option, Some, None}
use Rattle.place_runs.specs.Tests.{key_in, place_test, places_test}
use Rattle.place_runs.specs.Runs.{place_in, run_end}

-- what a run leaves to be tested
abbrev pub after : Option ℕ → (ℕ → Bool) → Bool
after (Some j) f = f j
after None f = false

after_alike : (r : Option ℕ) (f g : ℕ → Bool) → ((j : ℕ) → r ≡ Some j → f j ≡ g j) → after r f ≡ after r g
after_alike (Some j) f g h = h j refl
after_alike None f g h = refl

ends_same : {i j : ℕ} → Some i ≡ Some j → i ≡ j
ends_same e = cc

bad_ends : {j : ℕ} → None ≡ Some j → ⊥
bad_ends e = let z : ◌≡◌ {A = ℕ} 0 1 = cc in omega arith

module _ (cat : Catalogue) (b : List ℕ) (bs : are_bytes b ≡ true) (n : ℕ) where
  -- the test from place i on, if there are m places from there on
  abbrev from_place : ℕ → ℕ → ℕ → Bool
  from_place m i low = places_test cat m low (drop (i * place_length) b)

  abbrev entry_at : ℕ → List ℕ
  entry_at i = drop key_length (place_in b i)

  -- the next place, taken apart
  next_place : (m i low : ℕ) → from_place (suc m) i low
      ≡ ((leb low (key_in (place_in b i)) and entry_test cat (two (place_in b i) 0) (entry_at i)) and from_place m (suc i) (suc (key_in (place_in b i))))
  unfolding places_test place_test
  next_place m i low =
      let e : i * place_length + place_length ≡ suc i * place_length = omega arith in
      rw (drop-drop place_length (i * place_length) b, e) refl

  -- the number in a key is two bytes, so that the key tells its class
  number_small : (i : ℕ) → two (place_in b i) 2 < 65536
  number_small i = two_small (place_in b i) 2 (bytes_take place_length (drop (i * place_length) b) (bytes_drop (i * place_length) b bs))

  -- a place whose key is too low fails
  too_low : (m i low : ℕ) → leb low (key_in (place_in b i)) ≡ false → from_place (suc m) i low ≡ false
  too_low m i low h = rw (next_place m i low, h) (unfold ◌and◌ in refl)

  -- and so does one whose class can't be created
  not_its_own : (m i low : ℕ) → is_created (class cat (two (place_in b i) 0)).creation ≡ false → from_place (suc m) i low ≡ false
  not_its_own m i low h = rw (next_place m i low, h) (cases (leb low (key_in (place_in b i))) (λ u. rw u (unfold ◌and◌ in refl)) (λ u. rw u (unfold ◌and◌ in refl)))

  -- a bound below the key doesn't matter
  either_bound : (m i low high : ℕ) → leb low (key_in (place_in b i)) ≡ true → leb high (key_in (place_in b i)) ≡ true
      → from_place (suc m) i low ≡ from_place (suc m) i high
  either_bound m i low high h g = rw (next_place m i low, next_place m i high, h, g) refl

  -- a run, and what comes behind it
  run_tested : (c m i low : ℕ) → i + m ≡ n → key c 0 ≤ low → low ≤ key (suc c) 0
      → from_place m i low ≡ after (run_end cat c b m i low) (λ j. from_place (n - j) j (key (suc c) 0))
  unfolding run_end
  run_tested c zero i low s h g = let z : n - i ≡ 0 = omega arith in rw z (unfold places_test in refl)
  run_tested c (suc m) i low s h g =
      let k : ℕ = key_in (place_in b i) in
      let z : n - i ≡ suc m = omega arith in
      cases (leb low k)
      (λ u. cases (ltb k (key (suc c) 0))
      (λ v.
      let p = leb_le low k u in let q = ltb_lt k (key (suc c) 0) v in let y = number_small i in
      let x : two (place_in b i) 0 ≡ c = omega arith in
      rw (next_place m i low, u, v, ap (λ (d : ℕ). entry_test cat d (entry_at i)) x, true_and)
      (cases (entry_test cat c (entry_at i))
      (λ w. rw (w, true_and) (run_tested c m (suc i) (suc k) (omega arith) (omega arith) (omega arith)))
      (λ w. rw w (unfold ◌and◌ in refl))))
      (λ v. rw (u, v, z) (either_bound m i low (key (suc c) 0) u (le-leb (key (suc c) 0) k (ltb_le k (key (suc c) 0) v)))))
      (λ u. rw (u, z) (too_low m i low u ∙ sym (too_low m i (key (suc c) 0) (lt-leb (key (suc c) 0) k (omega (arith, leb_lt low k u))))))

  -- no class from c on and before d can be created: the bound may be d's
  skipped : (c d : ℕ) → c ≤ d → ((x : ℕ) → c ≤ x → x < d → is_created (class cat x).creation ≡ false) → (m i : ℕ) → from_place m i (key c 0) ≡ from_place m i (key d 0)
  skipped c d h none zero i = unfold places_test in refl
  skipped c d h none (suc m) i =
      let k : ℕ = key_in (place_in b i) in
      cases (leb (key d 0) k)
      (λ v. either_bound m i (key c 0) (key d 0) (le-leb (key c 0) k (omega (arith, leb_le (key d 0) k v))) v)
      (λ v. cases (leb (key c 0) k)
      (λ u. not_its_own m i (key c 0) (none (two (place_in b i) 0) (omega (arith, leb_le (key c 0) k u, number_small i)) (omega (arith, leb_lt (key d 0) k v))) ∙ sym (too_low m i (key d 0) v))
      (λ u. too_low m i (key c 0) u ∙ sym (too_low m i (key d 0) v)))

  -- no class from c on can be created: nothing may follow
  ended : (c : ℕ) → ((x : ℕ) → c ≤ x → is_created (class cat x).creation ≡ false) → (j : ℕ) → j ≤ n
      → from_place (n - j) j (key c 0) ≡ (eqb j n and all_zero (drop (n * place_length) b))
  ended c none j h = cases (eqb j n)
      (λ e. let z : n - j ≡ 0 = omega (arith, eqb_eq j n e) in rw (z, e, eqb_eq j n e, true_and) (unfold places_test in refl))
      (λ e.
      let z : n - j ≡ suc (n - suc j) = omega (arith, eqb_ne j n e) in
      let k : ℕ = key_in (place_in b j) in
      rw (z, e) (cases (leb (key c 0) k)
      (λ u. not_its_own (n - suc j) j (key c 0) (none (two (place_in b j) 0) (omega (arith, leb_le (key c 0) k u, number_small j))) ∙ unfold ◌and◌ in refl)
      (λ u. too_low (n - suc j) j (key c 0) u ∙ unfold ◌and◌ in refl)))

  -- a run ends at the last place or before
  pub run_within : (c m i low j : ℕ) → i + m ≡ n → run_end cat c b m i low ≡ Some j → j ≤ n
  unfolding run_end
  run_within c zero i low j s e = let q : i ≡ j = ends_same e in omega arith
  run_within c (suc m) i low j s e =
      let k : ℕ = key_in (place_in b i) in
      cases (leb low k && ltb k (key (suc c) 0))
      (λ t. cases (entry_test cat c (entry_at i))
      (λ w. run_within c m (suc i) (suc k) j (omega arith) (rw (t, w) at e))
      (λ w. absurd (bad_ends (rw (t, w) at e))))
      (λ t. let q : i ≡ j = ends_same (rw t at e) in omega arith)

  -- runs of these classes, one after another, from place j on
  unfoldable pub in_runs : List ℕ → ℕ → Bool
  in_runs [] j = eqb j n and all_zero (drop (n * place_length) b)
  in_runs (c ∷ l) j = after (run_end cat c b (n - j) j (key c 0)) (λ k. in_runs l k)

  -- the classes rise from p on, and every class from there on that can be created is among them
  from_runs : (l : List ℕ) (p j : ℕ) → j ≤ n → Up p l → ((x : ℕ) → p ≤ x → is_created (class cat x).creation ≡ true → among x l ≡ true)
      → from_place (n - j) j (key p 0) ≡ in_runs l j
  unfolding in_runs among
  from_runs [] p j h u own = ended p (λ x g. not_made x (λ t. never (own x g t))) j h
    where
      not_made : (x : ℕ) → (is_created (class cat x).creation ≡ true → ⊥) → is_created (class cat x).creation ≡ false
      not_made x f = cases (is_created (class cat x).creation) (λ t. absurd (f t)) (λ t. t)
  from_runs (c ∷ l) p j h u own =
      skipped p c u.0 (λ x g k. cases (is_created (class cat x).creation) (λ t. absurd (omega (arith, up_among c x (c ∷ l) (omega arith, u.1) (own x g t)))) (λ t. t)) (n - j) j
      ∙ run_tested c (n - j) j (key c 0) (omega arith) (omega arith) (omega arith)
      ∙ after_alike (run_end cat c b (n - j) j (key c 0)) (λ k. from_place (n - k) k (key (suc c) 0)) (in_runs l)
      (λ k e. from_runs l (suc c) k (run_within c (n - j) j (key c 0) k (omega arith) e) u.1 (λ x g t. among_past x c l (own x (omega (arith, u.0)) t) (λ q. omega arith)))

  pub tested_in_runs : (l : List ℕ) → Up 0 l → ((x : ℕ) → is_created (class cat x).creation ≡ true → among x l ≡ true) → places_test cat n 0 b ≡ in_runs l 0
  tested_in_runs l u own = rw (sub-zero n) at (from_runs l 0 0 (omega arith) u (λ x g. own x))
