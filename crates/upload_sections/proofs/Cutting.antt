-- A class's attributes cut into sections, by masks: the first section, and the sections of what it leaves.
use Prim.Native.Nat.{ℕ, suc, ◌+◌, ◌-◌, ◌≤◌, ◌<◌, ◌^◌}
use native.Mathlib.Nat.{zero-add}
use native.Mathlib.Omega.{arith}
use mathlib.Core.Path.{◌≡◌, refl, sym, ◌∙◌, ap}
use mathlib.Core.Bool.{true, false}
use mathlib.Core.Logic.{◌≢◌}
use mathlib.Core.List.{List, [], ◌∷◌, ◌++◌, append_assoc, append-nil}
use lib.ListN.{length}
use lib.Dec.{leb}
use Rattle.rules.specs.Masks.{named, mask, total}
use Rattle.rules.specs.Walks.{sections_from}
use Rattle.rules.proofs.Laws.{cases, leb_le, le-leb}
use Rattle.bits.proofs.Masks.{Within, named_within, mask_named, mask_small, named_mask, mask_append}
use Rattle.bits.proofs.MaskWalk.{Walked, nothing_walked, one_walked}
use Rattle.upload_sections.specs.Cuts.{first_cut, rest_cut}

module _ (size : ℕ → ℕ) where
  -- ---- the first section, attribute by attribute

  -- `section` has those before `left`, which take so many bytes
  pub record Cutting (m : ℕ) (left : List ℕ) (used section : ℕ) : Type 0 where
    pub walked : Walked (λ n. 0) m left 0
    pub so_far : section + mask (first_cut size used left) ≡ mask (first_cut size 0 (named m))
    pub whole : section + mask left ≡ mask (named m)
    pub room : used ≤ 26

  pub nothing_cut : {m left : ℕ} → left ≡ m → Cutting m (named left) 0 0
  nothing_cut e = record { walked = nothing_walked (λ n. 0) e; so_far = rw e (omega arith); whole = rw e (omega arith); room = omega arith }

  module _ {m used section : ℕ} {left : List ℕ} (s : Cutting m left used section) where
    module _ {n : ℕ} {rest : List ℕ} (first : left ≡ n ∷ rest) where
      -- there is room for its bit
      pub bit_room : {bit : ℕ} → bit ≡ 2 ^ (16 - n) → section + bit < 65536
      unfolding mask
      bit_room b =
          let h = ap mask first in
          let w = s.whole in
          let z = mask_small (named m) (named_within m) in
          omega arith

      module _ {w : ℕ} (e : w ≡ size n) where
        -- the next attribute, of w bytes
        pub one_more : {bit : ℕ} → bit ≡ 2 ^ (16 - n) → used + w ≤ 26 → Cutting m rest (used + w) (section + bit)
        unfolding first_cut mask
        one_more b h =
            let fits : leb (used + size n) 26 ≡ true = le-leb (used + size n) 26 (omega arith) in
            let it : mask (first_cut size used (n ∷ rest)) ≡ 2 ^ (16 - n) + mask (first_cut size (used + size n) rest) = rw fits in
            let t : mask (first_cut size used left) ≡ 2 ^ (16 - n) + mask (first_cut size (used + w) rest) =
            ap (λ (l : List ℕ). mask (first_cut size used l)) first ∙ rw e it in
            let all = s.so_far in
            let heavier = ap mask first in
            let whole = s.whole in
            record { walked = one_walked s.walked first refl; so_far = omega arith; whole = omega arith; room = h }

        -- it doesn't fit
        pub full : 26 < used + w → section ≡ mask (first_cut size 0 (named m))
        unfolding first_cut mask
        full h =
            let more : leb (used + size n) 26 ≡ false = over (used + size n) (omega arith) in
            let t : mask (first_cut size used left) ≡ 0 = ap (λ (l : List ℕ). mask (first_cut size used l)) first ∙ rw more refl in
            let all = s.so_far in
            omega arith
          where
            over : (k : ℕ) → 26 < k → leb k 26 ≡ false
            over k g = cases (leb k 26) (λ t. let z = leb_le k 26 t in absurd (omega arith)) (λ t. t)

    -- none is left
    pub used_up : left ≡ [] → section ≡ mask (first_cut size 0 (named m))
    unfolding first_cut mask
    used_up e =
        let t : mask (first_cut size used left) ≡ 0 = ap (λ (l : List ℕ). mask (first_cut size used l)) e in
        let all = s.so_far in
        omega arith

  -- ---- a section and what it leaves

  cut_joined : (u : ℕ) (l : List ℕ) → first_cut size u l ++ rest_cut size u l ≡ l
  unfolding first_cut rest_cut
  cut_joined u [] = refl
  cut_joined u (n ∷ l) = cases (leb (u + size n) 26)
      (λ t. rw t (ap (λ (k : List ℕ). n ∷ k) (cut_joined (u + size n) l)))
      (λ t. rw t)

  rest_within : (u b : ℕ) (l : List ℕ) → Within b l → Within 1 l → Within 1 (rest_cut size u l)
  unfolding rest_cut
  rest_within u b [] w v = tt
  rest_within u b (n ∷ l) w v = cases (leb (u + size n) 26)
      (λ t. rw t (rest_within (u + size n) (suc n) l w.2 (further l v.2)))
      (λ t. rw t v)
    where
      further : (l : List ℕ) → Within (suc n) l → Within 1 l
      further [] w = tt
      further (k ∷ l) w = (let g = w.0 in omega arith, w.1, w.2)

  -- what remains, by its mask
  pub rest_named : (m : ℕ) {r : ℕ} → m < 65536 → r ≡ mask (first_cut size 0 (named m)) → named (m - r) ≡ rest_cut size 0 (named m)
  rest_named m {r} h e =
      let first : List ℕ = first_cut size 0 (named m) in
      let rest : List ℕ = rest_cut size 0 (named m) in
      let j : mask first + mask rest ≡ m = sym (mask_append first rest) ∙ ap mask (cut_joined 0 (named m)) ∙ mask_named m h in
      let z : m - r ≡ mask rest = omega arith in
      ap named z ∙ named_mask rest (rest_within 0 1 (named m) (named_within m) (named_within m))

  pub cut_below : (m : ℕ) {r : ℕ} → m < 65536 → r ≡ mask (first_cut size 0 (named m)) → r ≤ m
  cut_below m {r} h e =
      let first : List ℕ = first_cut size 0 (named m) in
      let rest : List ℕ = rest_cut size 0 (named m) in
      let j : mask first + mask rest ≡ m = sym (mask_append first rest) ∙ ap mask (cut_joined 0 (named m)) ∙ mask_named m h in
      omega arith

  -- ---- the sections, where each attribute fits in one

  module _ (small : (n : ℕ) → size n ≤ 26) where
    total_more : (l : List ℕ) (n : ℕ) → total size (l ++ n ∷ []) ≡ total size l + size n
    unfolding total
    total_more [] n = omega arith
    total_more (x ∷ l) n = let z = total_more l n in omega arith

    begun : (n : ℕ) (l : List ℕ) → sections_from size [] (n ∷ l) ≡ sections_from size (n ∷ []) l
    unfolding sections_from total
    begun n l = rw (zero-add (size n), le-leb (size n) 26 (small n))

    -- the section that is being filled, and the others
    filled : (now l : List ℕ) → leb 1 (length now) ≡ true
        → sections_from size now l ≡ (now ++ first_cut size (total size now) l) ∷ sections_from size [] (rest_cut size (total size now) l)
    unfolding sections_from first_cut rest_cut
    filled now [] h = rw (h, append-nil now)
    filled now (n ∷ l) h = cases (leb (total size now + size n) 26)
        (λ t.
        let more : List ℕ = now ++ n ∷ [] in
        let ih : sections_from size more l ≡ (more ++ first_cut size (total size more) l) ∷ sections_from size [] (rest_cut size (total size more) l) = filled more l (longer now) in
        rw (t, ih, total_more now n, append_assoc now (n ∷ []) (first_cut size (total size now + size n) l)))
        (λ t. rw (t, append-nil now) (ap (λ (k : List (List ℕ)). now ∷ k) (sym (begun n l))))
      where
        longer : (k : List ℕ) → leb 1 (length (k ++ n ∷ [])) ≡ true
        longer [] = refl
        longer (x ∷ k) = le-leb 1 (length (x ∷ (k ++ n ∷ []))) (omega arith)

    -- the sections of what a mask names: the first, and those of what remains
    pub cut_next : (m : ℕ) {r : ℕ} → m < 65536 → length (named m) ≢ 0 → r ≡ mask (first_cut size 0 (named m))
        → sections_from size [] (named m) ≡ first_cut size 0 (named m) ∷ sections_from size [] (named (m - r))
    cut_next m h ne e = first_of (named m) ne ∙ ap (λ (k : List ℕ). first_cut size 0 (named m) ∷ sections_from size [] k) (sym (rest_named m h e))
      where
        first_of : (l : List ℕ) → length l ≢ 0 → sections_from size [] l ≡ first_cut size 0 l ∷ sections_from size [] (rest_cut size 0 l)
        first_of [] n = absurd (n refl)
        first_of (x ∷ l) n =
            let u : total size (x ∷ []) ≡ 0 + size x = unfold total in omega arith in
            begun x l ∙ filled (x ∷ []) l refl ∙ rw u (unfold first_cut rest_cut in rw (le-leb (0 + size x) 26 (let z = small x in omega arith)) refl)
