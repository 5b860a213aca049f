-- One part of a state changed: the store's bytes with the new part laid over the old.
use Prim.Native.Nat.{ℕ, zero, suc, ◌+◌, ◌≤◌, ◌<◌}
use native.Mathlib.Omega.{arith}
use mathlib.Core.Path.{◌≡◌, refl, sym, ◌∙◌, ap}
use mathlib.Core.List.{List, [], ◌∷◌, ◌++◌, append_assoc, map}
use lib.ListN.{length, get_or, set, length-append, get_or-map}
use lib.Seq.{take_at}
use Rattle.rules.specs.Maps.{gather}
use Rattle.rules.specs.Bytes.{laid}
use Rattle.rules.specs.Catalogue.{Catalogue}
use Rattle.rules.specs.State.{State}
use Rattle.store.specs.Layout.{part_lengths, parts, encode, begins}
use Rattle.store.proofs.Parts.{Remembers, each_part_has_its_length}
use Rattle.octets.proofs.Laid.{laid_behind, laid_before, laid_all}
use Rattle.octets.proofs.Parted.{part, part_behind}

abbrev pub joined : List (List ℕ) → List ℕ
joined l = gather (λ b. b) l

-- where a piece begins
unfoldable pub start : ℕ → List (List ℕ) → ℕ
start zero l = 0
start (suc j) [] = 0
start (suc j) (b ∷ l) = length b + start j l

pub joined_laid : (j : ℕ) (l : List (List ℕ)) (v : List ℕ) → j < length l → length v ≡ length (get_or l j []) → joined (set l j v) ≡ laid (start j l) v (joined l)
unfolding gather start
joined_laid zero [] v h e = absurd (omega arith)
joined_laid zero (b ∷ l) v h e = ap (λ (z : List ℕ). z ++ joined l) (sym (laid_all v b e)) ∙ laid_before v b (joined l) 0 (omega arith)
joined_laid (suc j) [] v h e = absurd (omega arith)
joined_laid (suc j) (b ∷ l) v h e = rw (joined_laid j l v (omega arith) e) (laid_behind b v (joined l) (start j l))

pub start_room : (j : ℕ) (l : List (List ℕ)) (v : List ℕ) → j < length l → length v ≡ length (get_or l j []) → start j l + length v ≤ length (joined l)
unfolding gather start
start_room zero [] v h e = absurd (omega arith)
start_room zero (b ∷ l) v h e = rw (length-append b (joined l)) (omega (arith, e))
start_room (suc j) [] v h e = absurd (omega arith)
start_room (suc j) (b ∷ l) v h e = let z = start_room j l v (omega arith) e in rw (length-append b (joined l)) (omega arith)

pub joined_part : (j : ℕ) (l : List (List ℕ)) (rest : List ℕ) (n : ℕ) → j < length l → length (get_or l j []) ≡ n → part (start j l) n (joined l ++ rest) ≡ get_or l j []
unfolding gather start
joined_part zero [] rest n h e = absurd (omega arith)
joined_part zero (b ∷ l) rest n h e = rw (append_assoc b (joined l) rest) (take_at b (joined l ++ rest) n e)
joined_part (suc j) [] rest n h e = absurd (omega arith)
joined_part (suc j) (b ∷ l) rest n h e = rw (append_assoc b (joined l) rest) (part_behind b (joined l ++ rest) (start j l) n ∙ joined_part j l rest n (omega arith) e)

-- two neighbours, changed and read

pub neighbours_laid : (j : ℕ) (l : List (List ℕ)) (v w : List ℕ) → suc j < length l → length v ≡ length (get_or l j []) → length w ≡ length (get_or l (suc j) [])
    → joined (set (set l j v) (suc j) w) ≡ laid (start j l) (v ++ w) (joined l)
unfolding gather start
neighbours_laid zero [] v w h e f = absurd (omega arith)
neighbours_laid zero (b ∷ []) v w h e f = absurd (omega arith)
neighbours_laid zero (b ∷ c ∷ l) v w h e f =
    let both_long : length (v ++ w) ≡ length (b ++ c) = length-append v w ∙ omega (arith, e, f) ∙ sym (length-append b c) in
    sym (append_assoc v w (joined l)) ∙ ap (λ (z : List ℕ). z ++ joined l) (sym (laid_all (v ++ w) (b ++ c) both_long))
    ∙ laid_before (v ++ w) (b ++ c) (joined l) 0 (omega arith) ∙ ap (laid 0 (v ++ w)) (append_assoc b c (joined l))
neighbours_laid (suc j) [] v w h e f = absurd (omega arith)
neighbours_laid (suc j) (b ∷ l) v w h e f = rw (neighbours_laid j l v w (omega arith) e f) (laid_behind b (v ++ w) (joined l) (start j l))

pub neighbours_room : (j : ℕ) (l : List (List ℕ)) (v w : List ℕ) → suc j < length l → length v ≡ length (get_or l j []) → length w ≡ length (get_or l (suc j) [])
    → start j l + length (v ++ w) ≤ length (joined l)
unfolding gather start
neighbours_room zero [] v w h e f = absurd (omega arith)
neighbours_room zero (b ∷ []) v w h e f = absurd (omega arith)
neighbours_room zero (b ∷ c ∷ l) v w h e f = rw (length-append b (c ++ joined l), length-append c (joined l), length-append v w) (omega (arith, e, f))
neighbours_room (suc j) [] v w h e f = absurd (omega arith)
neighbours_room (suc j) (b ∷ l) v w h e f = let z = neighbours_room j l v w (omega arith) e f in rw (length-append b (joined l)) (omega arith)

pub neighbours_part : (j : ℕ) (l : List (List ℕ)) (rest : List ℕ) (n : ℕ) → suc j < length l → length (get_or l j [] ++ get_or l (suc j) []) ≡ n
    → part (start j l) n (joined l ++ rest) ≡ get_or l j [] ++ get_or l (suc j) []
unfolding gather start
neighbours_part zero [] rest n h e = absurd (omega arith)
neighbours_part zero (b ∷ []) rest n h e = absurd (omega arith)
neighbours_part zero (b ∷ c ∷ l) rest n h e =
    rw (append_assoc b (c ++ joined l) rest, append_assoc c (joined l) rest, ← append_assoc b c (joined l ++ rest)) (take_at (b ++ c) (joined l ++ rest) n e)
neighbours_part (suc j) [] rest n h e = absurd (omega arith)
neighbours_part (suc j) (b ∷ l) rest n h e = rw (append_assoc b (joined l) rest) (part_behind b (joined l ++ rest) (start j l) n ∙ neighbours_part j l rest n (omega arith) e)

-- ---- the parts of a store

pub start_begins : (j : ℕ) (l : List (List ℕ)) → start j l ≡ begins j (map length l)
unfolding start
start_begins zero l = refl
start_begins (suc j) [] = refl
start_begins (suc j) (b ∷ l) = ap (λ (n : ℕ). length b + n) (start_begins j l)

module _ (p : ℕ) (cat : Catalogue) (s : State) (known : Remembers s) where
  pub lengths_are : map length (parts p cat s) ≡ part_lengths
  lengths_are = each_part_has_its_length p cat s known

  starts_are : (j : ℕ) → start j (parts p cat s) ≡ begins j part_lengths
  starts_are j = start_begins j (parts p cat s) ∙ ap (begins j) lengths_are

  length_is : (j : ℕ) → length (get_or (parts p cat s) j []) ≡ get_or part_lengths j 0
  length_is j = sym (get_or-map length (parts p cat s) j []) ∙ ap (λ (l : List ℕ). get_or l j 0) lengths_are

  in_range : (j : ℕ) → j < length part_lengths → j < length (parts p cat s)
  unfolding parts
  in_range j h = h

  -- one part read
  pub part_read : (j : ℕ) → j < length part_lengths → (rest : List ℕ) → part (begins j part_lengths) (get_or part_lengths j 0) (encode p cat s ++ rest) ≡ get_or (parts p cat s) j []
  unfolding encode
  part_read j h rest = rw (← starts_are j) (joined_part j (parts p cat s) rest (get_or part_lengths j 0) (in_range j h) (length_is j))

  -- one part changed
  pub part_laid : (j : ℕ) → j < length part_lengths → (v : List ℕ) → length v ≡ get_or part_lengths j 0 → (rest : List ℕ)
      → joined (set (parts p cat s) j v) ++ rest ≡ laid (begins j part_lengths) v (encode p cat s ++ rest)
  unfolding encode
  part_laid j h v l rest =
      ap (λ (b : List ℕ). b ++ rest) (joined_laid j (parts p cat s) v (in_range j h) (l ∙ sym (length_is j)))
      ∙ laid_before v (joined (parts p cat s)) rest (start j (parts p cat s)) (start_room j (parts p cat s) v (in_range j h) (l ∙ sym (length_is j)))
      ∙ ap (λ (n : ℕ). laid n v (joined (parts p cat s) ++ rest)) (starts_are j)

  -- two neighbours read
  pub neighbours_read : (j : ℕ) → suc j < length part_lengths → (rest : List ℕ)
      → part (begins j part_lengths) (get_or part_lengths j 0 + get_or part_lengths (suc j) 0) (encode p cat s ++ rest) ≡ get_or (parts p cat s) j [] ++ get_or (parts p cat s) (suc j) []
  unfolding encode
  neighbours_read j h rest =
      let l : List (List ℕ) = parts p cat s in
      rw (← starts_are j) (neighbours_part j l rest (get_or part_lengths j 0 + get_or part_lengths (suc j) 0) (in_range (suc j) h)
      (length-append (get_or l j []) (get_or l (suc j) []) ∙ omega (arith, length_is j, length_is (suc j))))

  -- two neighbours changed
  pub both_laid : (j : ℕ) → suc j < length part_lengths → (v w : List ℕ) → length v ≡ get_or part_lengths j 0 → length w ≡ get_or part_lengths (suc j) 0 → (rest : List ℕ)
      → joined (set (set (parts p cat s) j v) (suc j) w) ++ rest ≡ laid (begins j part_lengths) (v ++ w) (encode p cat s ++ rest)
  unfolding encode
  both_laid j h v w l m rest =
      let a : length v ≡ length (get_or (parts p cat s) j []) = l ∙ sym (length_is j) in
      let b : length w ≡ length (get_or (parts p cat s) (suc j) []) = m ∙ sym (length_is (suc j)) in
      ap (λ (b : List ℕ). b ++ rest) (neighbours_laid j (parts p cat s) v w (in_range (suc j) h) a b)
      ∙ laid_before (v ++ w) (joined (parts p cat s)) rest (start j (parts p cat s)) (neighbours_room j (parts p cat s) v w (in_range (suc j) h) a b)
      ∙ ap (λ (n : ℕ). laid n (v ++ w) (joined (parts p cat s) ++ rest)) (starts_are j)
