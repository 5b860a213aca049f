-- The sections of an instance of a class of a product: how many, and the n-th.
use Prim.Native.Nat.{ℕ, suc, ◌+◌, ◌-◌, ◌≤◌, ◌<◌}
use native.Mathlib.Nat.{sub-zero}
use native.Mathlib.Omega.{arith}
use mathlib.Core.Path.{◌≡◌, refl, sym, ◌∙◌, ap}
use mathlib.Core.Logic.{◌≢◌}
use mathlib.Core.List.{List, [], ◌∷◌}
use lib.ListN.{length}
use Rattle.rules.specs.Maps.{given, keys, nth}
use Rattle.rules.specs.Masks.{named, mask}
use Rattle.rules.specs.Catalogue.{supported, size_of, no_attribute}
use Rattle.rules.specs.Catalogue as rules
use Rattle.rules.specs.Walks.{sections_from, sections_of}
use Rattle.rules.specs.WellFormed.{of_1_to_25_bytes}
use Rattle.rules.proofs.Laws.{cases, both, leb_le, same?}
use Rattle.rules.proofs.Lookups.{unknown_attribute, attribute_says}
use Rattle.class_tables.specs.Built.{cat_of, class_for}
use Rattle.class_tables.proofs.EveryProduct.{well_formed_of}
use Rattle.upload_sections.specs.Cuts.{first_cut}
use Rattle.upload_sections.proofs.Cutting.{cut_next, cut_below}
use Rattle.class_tables.specs.declared.Product.{Product}
use Rattle.bits.proofs.Masks.{named_mask}
use Rattle.class_tables.proofs.Facts.{supported_within}

no_names : (l : List ℕ) → length l ≡ 0 → l ≡ []
no_names [] e = refl
no_names (x ∷ l) e = absurd (omega arith)

module _ (pr : Product) (c : ℕ) where
  abbrev pub size : ℕ → ℕ
  size n = size_of (class_for pr c) n

  -- the sections of those that remain
  abbrev pub left_sections : ℕ → List (List ℕ)
  left_sections left = sections_from size [] (named left)

  -- each attribute fits in a section
  small_size : (n : ℕ) → size n ≤ 26
  unfolding of_1_to_25_bytes no_attribute
  small_size n = cases (supported (class_for pr c) n)
      (λ h. let g = leb_le (size n) 25 (both (attribute_says of_1_to_25_bytes (cat_of pr) (well_formed_of pr).sizes c n h)).1 in omega arith)
      (λ h. let z : size n ≡ 0 = ap (λ (a : rules.Attribute). a.size) (unknown_attribute (class_for pr c) n h) in omega arith)

  -- all attributes remain
  pub all_left : {m : ℕ} → m ≡ mask (keys (class_for pr c).attributes) → left_sections m ≡ sections_of (class_for pr c)
  unfolding sections_of
  all_left e = ap (sections_from size []) (ap named e ∙ named_mask (keys (class_for pr c).attributes) (supported_within pr c))

  pub none_left : (left : ℕ) → length (named left) ≡ 0 → length (left_sections left) ≡ 0
  unfolding sections_from
  none_left left z = ap (λ (k : List ℕ). length (sections_from size [] k)) (no_names (named left) z)

  -- ---- one more section

  module _ (left : ℕ) {r : ℕ} (lt : left < 65536) (e : r ≡ mask (first_cut size 0 (named left))) where
    pub within : r ≤ left
    within = cut_below size left lt e

    pub one_less : length (named left) ≢ 0 → length (left_sections left) ≡ suc (length (left_sections (left - r)))
    one_less ne = ap length (cut_next size small_size left lt ne e)

    -- where none remains, none is cut off
    none_cut : length (named left) ≡ 0 → (left_sections left ≡ []) × (left_sections (left - r) ≡ []) × (r ≡ 0)
    unfolding sections_from first_cut mask
    none_cut z =
        let n : named left ≡ [] = no_names (named left) z in
        let r0 : r ≡ 0 = e ∙ ap (λ (k : List ℕ). mask (first_cut size 0 k)) n in
        let s : left_sections left ≡ [] = ap (sections_from size []) n in
        (s, ap (λ (x : ℕ). left_sections (left - x)) r0 ∙ ap left_sections (sub-zero left) ∙ s, r0)

    pub first_is : r ≡ given (nth (left_sections left) 0) 0 mask
    unfolding nth
    first_is = same? (length (named left)) 0
        (λ z. let g = none_cut z in g.2 ∙ ap (λ (k : List (List ℕ)). given (nth k 0) 0 mask) (sym g.0))
        (λ ne. e ∙ ap (λ (k : List (List ℕ)). given (nth k 0) 0 mask) (sym (cut_next size small_size left lt ne e)))

    pub further : (j : ℕ) → given (nth (left_sections left) (suc j)) 0 mask ≡ given (nth (left_sections (left - r)) j) 0 mask
    unfolding nth
    further j = same? (length (named left)) 0
        (λ z. let g = none_cut z in ap (λ (k : List (List ℕ)). given (nth k (suc j)) 0 mask) g.0 ∙ ap (λ (k : List (List ℕ)). given (nth k j) 0 mask) (sym g.1))
        (λ ne. ap (λ (k : List (List ℕ)). given (nth k (suc j)) 0 mask) (cut_next size small_size left lt ne e))

    -- so many sections on from here: the next turn, and the end
    pub next_mask : (n i : ℕ) → i < n → {x : ℕ} → given (nth (left_sections left) (n - i)) 0 mask ≡ x → given (nth (left_sections (left - r)) (n - (i + 1))) 0 mask ≡ x
    next_mask n i h q = let z : n - i ≡ suc (n - (i + 1)) = omega arith in sym (further (n - (i + 1))) ∙ (rw z at q)

    pub last_mask : (n i : ℕ) → n ≤ i → {x : ℕ} → given (nth (left_sections left) (n - i)) 0 mask ≡ x → r ≡ x
    last_mask n i h q = let z : n - i ≡ 0 = omega arith in first_is ∙ (rw z at q)

  pub first_mask : (n : ℕ) {m : ℕ} → m ≡ mask (keys (class_for pr c).attributes) → given (nth (left_sections m) (n - 0)) 0 mask ≡ given (nth (sections_of (class_for pr c)) n) 0 mask
  first_mask n e = rw (all_left e, sub-zero n)
