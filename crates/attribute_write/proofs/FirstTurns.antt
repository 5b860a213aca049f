-- First contents laid one after another.
use Prim.Native.Nat.{ℕ, ◌+◌, ◌-◌, ◌≤◌}
use native.Mathlib.Omega.{arith}
use mathlib.Core.Path.{◌≡◌, refl, sym, ◌∙◌, ap}
use mathlib.Core.Bool.{true}
use mathlib.Core.List.{List, [], ◌∷◌}
use lib.ListN.{length, take, drop}
use Rattle.rules.specs.Maps.{among, all}
use Rattle.rules.specs.Bytes.{bytes, laid}
use Rattle.rules.specs.Masks.{named}
use Rattle.rules.specs.Catalogue.{copied, stored, Class, attribute, supported, size_of, is_stored, stored_numbers, leader}
use Rattle.store.specs.Layout.{contents_width}
use Rattle.rules.proofs.Laws.{never, both, eqb_eq, and_true, or_cases, among_here}
use Rattle.bits.proofs.MaskWalk.{Walked, nothing_walked, next_named, next_passes, one_walked}
use Rattle.class_tables.specs.declared.Attribute.{Attribute}
use Rattle.class_tables.specs.declared.Way.TheVariants.{First, Carried, Copied, OfCreator, CountOf}
use Rattle.class_tables.specs.Built.{cat_of, class_for}
use Rattle.class_tables.specs.Meaning.{source_of}
use Rattle.class_tables.specs.Describes.{offset_of, DescribedIn}
use Rattle.class_tables.proofs.Views.{size_is, source_is}
use Rattle.class_tables.proofs.Offsets.{offset_fits}
use Rattle.class_tables.proofs.ClassLaws.{stored_there}
use Rattle.attribute_write.specs.Lays.{laid_values, first_from, firsts, leading_class, LayingFirsts}
use Rattle.octets.proofs.Laid.{laid_nothing}
use Rattle.class_tables.specs.declared.Product.{Product}
use Rattle.class_tables.proofs.Facts.{copied_stored}

-- ---- a stored attribute, and its line

module _ (pr : Product) (c n : ℕ) (s : among n (stored_numbers (class_for pr c)) ≡ true) where
  placed_at : {a : Attribute} → DescribedIn (class_for pr c) n a → a.at ≡ offset_of (class_for pr c) n
  placed_at d = let z = stored_there pr c n s in d.placed z.1 z.0

  -- it lies within its instance's contents
  lies_within : {a : Attribute} → DescribedIn (class_for pr c) n a → a.at + a.size ≤ contents_width (class_for pr c)
  lies_within {a} d =
      let z : offset_of (class_for pr c) n + size_of (class_for pr c) n ≤ contents_width (class_for pr c) = offset_fits (class_for pr c) n s in
      let e : a.at ≡ offset_of (class_for pr c) n = placed_at d in
      let g : a.size ≡ size_of (class_for pr c) n = size_is d in
      omega arith

-- ---- one attribute

module _ (pr : Product) (c n at : ℕ) (from b : List ℕ) (h : LayingFirsts (class_for pr c) (leading_class pr c) at (n ∷ []) from b) {a : Attribute} (d : DescribedIn (class_for pr c) n a) where
  abbrev k : Class
  k = class_for pr c

  abbrev lead : Class
  lead = leading_class pr c

  its_stored : among n (stored_numbers k) ≡ true
  unfolding all
  its_stored = (both h.are_stored).0

  pub first_room : at + a.at + a.size ≤ length b
  first_room =
      let w = lies_within pr c n its_stored d in
      let i = h.inside in
      omega arith

  -- its first content, by its line
  by_line : first_from lead from a.size (source_of a.size a.way) ≡ first_from lead from (size_of k n) (attribute k n).source
  by_line = rw (source_is d, size_is d)

  first_is : {b' : List ℕ} (w : List ℕ) → b' ≡ laid (at + a.at) w b → w ≡ first_from lead from a.size (source_of a.size a.way)
      → b' ≡ laid_values k at (firsts k lead from (n ∷ [])) b
  unfolding laid_values firsts
  first_is w e f = e ∙ rw (placed_at pr c n its_stored d, f, by_line)

  pub first_put : {b' : List ℕ} {x : ℕ} → a.way ≡ First x → b' ≡ laid (at + a.at) (bytes a.size x) b
      → b' ≡ laid_values k at (firsts k lead from (n ∷ [])) b
  unfolding first_from
  first_put {x = x} t e = first_is (bytes a.size x) e (rw t refl)

  -- no content is laid
  no_content : first_from lead from a.size (source_of a.size a.way) ≡ [] → b ≡ laid_values k at (firsts k lead from (n ∷ [])) b
  no_content e = first_is [] (sym (laid_nothing (at + a.at) b)) (sym e)

  pub none_carried : a.way ≡ Carried → b ≡ laid_values k at (firsts k lead from (n ∷ [])) b
  unfolding first_from
  none_carried t = no_content (rw t refl)

  pub none_of_creator : {m : ℕ} → a.way ≡ OfCreator m → b ≡ laid_values k at (firsts k lead from (n ∷ [])) b
  unfolding first_from
  none_of_creator t = no_content (rw t refl)

  pub none_counted : {e m : ℕ} → a.way ≡ CountOf e m → b ≡ laid_values k at (firsts k lead from (n ∷ [])) b
  unfolding first_from
  none_counted t = no_content (rw t refl)

  -- a copy
  module _ {m : ℕ} (t : a.way ≡ Copied m) {e : ℕ} (led : e ≡ leader (cat_of pr) c) where
    is_copied : (attribute k n).source ≡ stored (copied m)
    is_copied = sym (source_is d) ∙ ap (source_of a.size) t

    pub copy_kept : (supported (class_for pr e) m ≡ true) × (is_stored (attribute (class_for pr e) m).source ≡ true)
    copy_kept = rw led (stored_there pr (leader (cat_of pr) c) m (copied_stored pr c n m its_stored is_copied))

    module _ {start : ℕ} (begun : start ≡ offset_of (class_for pr e) m) where
      source_at : start ≡ offset_of lead m
      source_at = rw led at begun

      pub copy_room : start + a.size ≤ length from
      unfolding among
      copy_room =
          let z = h.copied_from n m (among_here n []) is_copied in
          let i = source_at in
          let y = size_is d in
          omega arith

      pub first_copied : {b' : List ℕ} → b' ≡ laid (at + a.at) (take (start + a.size - start) (drop start from)) b
          → b' ≡ laid_values k at (firsts k lead from (n ∷ [])) b
      unfolding first_from
      first_copied e =
          let z : start + a.size - start ≡ a.size = omega arith in
          first_is (take (start + a.size - start) (drop start from)) e (rw (t, z, source_at) refl)

-- ---- one attribute after another

-- nothing is cut off for them, so that each counts as no bytes
pub record FirstsLaid (k lead : Class) (at m : ℕ) (from b₀ b left : List ℕ) : Type 0 where
  pub walked : Walked (λ n. 0) m left 0
  pub so_far : laid_values k at (firsts k lead from left) b ≡ laid_values k at (firsts k lead from (named m)) b₀
  pub may : LayingFirsts k lead at (named m) from b₀
  pub long : length b ≡ length b₀

pub no_firsts : (k lead : Class) (at : ℕ) (from b : List ℕ) {m left : ℕ} → left ≡ m → LayingFirsts k lead at (named m) from b
    → FirstsLaid k lead at m from b b (named left)
no_firsts k lead at from b e h = record { walked = nothing_walked (λ n. 0) e; so_far = rw e refl; may = h; long = refl }

module _ (k lead : Class) {at m : ℕ} {from b₀ b left : List ℕ} (s : FirstsLaid k lead at m from b₀ b left) where
  pub all_firsts : left ≡ [] → b ≡ laid_values k at (firsts k lead from (named m)) b₀
  unfolding laid_values firsts
  all_firsts e = rw e at s.so_far

  module _ {n : ℕ} {rest : List ℕ} (first : left ≡ n ∷ rest) where
    -- the next one may be laid
    pub one_may : LayingFirsts k lead at (n ∷ []) from b
    unfolding all among
    one_may = record {
      are_stored = and_true (next_passes s.walked first (λ i. among i (stored_numbers k)) s.may.are_stored) refl;
      inside = let i = s.may.inside in let l = s.long in omega arith;
      copied_from = λ i j a e. s.may.copied_from i j (or_cases a (λ q. rw (eqb_eq i n q) (next_named s.walked first)) (λ q. never q)) e;
    }

    pub one_first : {b' : List ℕ} → b' ≡ laid_values k at (firsts k lead from (n ∷ [])) b → length b' ≡ length b → FirstsLaid k lead at m from b₀ b' rest
    unfolding laid_values firsts
    one_first y len = record {
      walked = one_walked s.walked first refl;
      so_far = rw y (rw first at s.so_far);
      may = s.may;
      long = len ∙ s.long;
    }
