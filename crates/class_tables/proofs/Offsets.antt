-- Where a stored attribute's content stands: it is within the instance's contents, and is read there.
use Prim.Native.Nat.{ℕ, ◌+◌, ◌≤◌}
use native.Mathlib.Omega.{arith}
use mathlib.Core.Path.{◌≡◌, refl, sym, ◌∙◌, ap}
use mathlib.Core.Bool.{Bool, true}
use mathlib.Core.Option.{some}
use mathlib.Core.List.{List, [], ◌∷◌, ◌++◌, append_assoc}
use lib.ListN.{length, take, drop}
use lib.Seq.{take_at, drop-append-add, drop-drop}
use lib.Dec.{eqb}
use Rattle.rules.specs.Maps.{find, keys, keep, every, gather, among}
use Rattle.rules.specs.Masks.{total}
use Rattle.rules.specs.Catalogue.{Class, Catalogue, attribute, supported, size_of, is_stored, stored_numbers}
use Rattle.rules.specs.Catalogue as rules
use Rattle.rules.specs.State.{Contents, content}
use Rattle.rules.specs.Commands.{cut}
use Rattle.rules.specs.Legal.{legal_contents}
use Rattle.rules.proofs.Laws.{cases, never, both, or_cases, true_false, eqb_eq, has_among}
use Rattle.rules.proofs.MapLaws.{find_kept}
use Rattle.rules.proofs.Lookups.{known_attribute}
use Rattle.store.specs.Layout.{contents_bytes, contents_width}
use Rattle.store.proofs.ContentsBack.{sized, legal_keys, legal_sized}
use Rattle.store.specs.Positions.{offset}
use Rattle.class_tables.specs.Describes.{offset_of}

-- ---- lists of numbers with sizes

module _ (size : ℕ → ℕ) (n : ℕ) where
  pub before_fits : (l : List ℕ) → among n l ≡ true → offset size l n + size n ≤ total size l
  unfolding offset total among
  before_fits [] h = never h
  before_fits (m ∷ l) h = cases (eqb n m)
      (λ e. let f : n ≡ m = eqb_eq n m e in rw (e, f) (omega arith))
      (λ e. let g = before_fits l (or_cases h (λ x. true_false x e) (λ x. x)) in rw e (omega arith))

  pub content_at : (r : Contents) (rest : List ℕ) → sized size r ≡ true → among n (keys r) ≡ true
      → take (size n) (drop (offset size (keys r) n) (contents_bytes r ++ rest)) ≡ content n r
  unfolding offset keys among every find content contents_bytes gather
  content_at [] rest h a = never a
  content_at (e ∷ r) rest h a =
      let b : List ℕ = gather (λ (x : ℕ × List ℕ). x.1) r in
      let s : length e.1 ≡ size e.0 = eqb_eq (length e.1) (size e.0) (both h).0 in
      cases (eqb n e.0)
      (λ t. rw (t, append_assoc e.1 b rest) (take_at e.1 (b ++ rest) (size n) (s ∙ ap size (sym (eqb_eq n e.0 t)))))
      (λ t.
      rw (t, append_assoc e.1 b rest, ← s, drop-append-add e.1 (b ++ rest) (offset size (keys r) n))
      (content_at r rest (both h).1 (or_cases a (λ x. true_false x t) (λ x. x))))

  -- contents that were cut off bytes have it there
  pub cut_at : (l b : List ℕ) → among n l ≡ true → content n (cut size l b) ≡ take (size n) (drop (offset size l n) b)
  unfolding offset among find content cut
  cut_at [] b h = never h
  cut_at (m ∷ l) b h = cases (eqb n m)
      (λ e. rw (e, eqb_eq n m e) refl)
      (λ e. rw (e, cut_at l (drop (size m) b) (or_cases h (λ x. true_false x e) (λ x. x)), drop-drop (offset size l n) (size m) b) refl)

-- ---- the stored attributes of a class

module _ (k : Class) (n : ℕ) where
  pub is_among_stored : supported k n ≡ true → is_stored (attribute k n).source ≡ true → among n (stored_numbers k) ≡ true
  unfolding stored_numbers
  is_among_stored t s =
      let p : ℕ → rules.Attribute → Bool = λ m a. is_stored a.source in
      let f : find n (keep p k.attributes) ≡ some (attribute k n) = find_kept p n (attribute k n) k.attributes (known_attribute k n t) s in
      sym (has_among n (keep p k.attributes)) ∙ rw f refl

  -- an attribute's content is within its instance's
  pub offset_fits : among n (stored_numbers k) ≡ true → offset_of k n + size_of k n ≤ contents_width k
  unfolding contents_width
  offset_fits h = before_fits (size_of k) n (stored_numbers k) h

  -- and is read there
  pub content_is_at : (cat : Catalogue) (r : Contents) (rest : List ℕ) → legal_contents cat k r ≡ true → among n (stored_numbers k) ≡ true
      → take (size_of k n) (drop (offset_of k n) (contents_bytes r ++ rest)) ≡ content n r
  content_is_at cat r rest h a =
      rw (← legal_keys cat k r h) (content_at (size_of k) n r rest (legal_sized cat k r h) (rw (legal_keys cat k r h) a))
