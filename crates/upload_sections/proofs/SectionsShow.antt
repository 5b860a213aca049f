-- What is known of a section that there is: what it shows is there and fits.
use Prim.Native.Nat.{ℕ, zero, suc, ◌-◌, ◌≤◌}
use mathlib.Core.Path.{◌≡◌, refl, sym, ◌∙◌, subst}
use mathlib.Core.Bool.{true}
use mathlib.Core.Option.{some}
use mathlib.Core.List.{List, [], ◌∷◌, map}
use lib.ListN.{length}
use lib.Dec.{leb, ltb}
use Rattle.rules.specs.Maps.{◌and◌, keys, gather, nth, all}
use Rattle.rules.specs.Masks.{total}
use Rattle.rules.specs.Catalogue.{supported, size_of}
use Rattle.rules.specs.Walks.{Section, sections_of}
use Rattle.rules.proofs.Laws.{cases, both, leb_le, ltb_lt, ltb_le}
use Rattle.rules.proofs.MapLaws.{some_eq, none_some}
use Rattle.class_tables.specs.Built.{cat_of, class_for}
use Rattle.class_tables.specs.declared.Product.{Product}
use Rattle.class_tables.proofs.Facts.{sections_fit}
use Rattle.upload_sections.specs.Sections.{numbers_in, instance_sections, class_sections, sections_in}
use Rattle.upload_sections.proofs.Gathered.{nth_front, nth_behind, nth_all}
use Rattle.upload_sections.proofs.ClassTotals.{shown}

-- ---- what is in a list, and where it comes from

module _ {A : Type 0} where
  nth_gathered : (f : ℕ → List A) (l : List ℕ) (n : ℕ) {p : A} → nth (gather f l) n ≡ some p → (a : ℕ) × (k : ℕ) × (nth (f a) k ≡ some p)
  unfolding gather nth
  nth_gathered f [] n e = none_some e
  nth_gathered f (a ∷ l) n e = cases (ltb n (length (f a)))
      (λ t. (a, n, sym (nth_front (f a) (gather f l) n (ltb_lt n (length (f a)) t)) ∙ e))
      (λ t. nth_gathered f l (n - length (f a)) (sym (nth_behind (f a) (gather f l) n (ltb_le n (length (f a)) t)) ∙ e))

nth_mapped : {A B : Type 0} (f : A → B) (l : List A) (n : ℕ) {b : B} → nth (map f l) n ≡ some b → (a : A) × (nth l n ≡ some a) × (f a ≡ b)
unfolding nth
nth_mapped f [] n e = none_some e
nth_mapped f (x ∷ l) zero e = (x, refl, some_eq e)
nth_mapped f (x ∷ l) (suc n) e = nth_mapped f l n e

-- ---- what a section shows

pub record Shown (pr : Product) (p : Section) : Type 0 where
  pub all_there : all (λ n. supported (class_for pr p.of_class) n) p.shows ≡ true
  pub room : total (size_of (class_for pr p.of_class)) p.shows ≤ 26

pub section_shown : (pr : Product) (made : List ℕ) (n : ℕ) {p : Section} → nth (sections_in (cat_of pr) made) n ≡ some p → Shown pr p
unfolding sections_in class_sections instance_sections
section_shown pr made n e =
    let in_class = nth_gathered (class_sections (cat_of pr) made) (keys (cat_of pr).classes) n e in
    let c : ℕ = in_class.0 in
    let in_instance = nth_gathered (instance_sections (cat_of pr) c) (numbers_in (cat_of pr) made c) in_class.1 in_class.2 in
    let cut = nth_mapped (shown c in_instance.0) (sections_of (class_for pr c)) in_instance.1 in_instance.2 in
    let good = both (nth_all (λ s. all (λ m. supported (class_for pr c) m) s and leb (total (size_of (class_for pr c)) s) 26) (sections_of (class_for pr c)) in_instance.1
    (sections_fit pr c) cut.1) in
    subst (Shown pr) cut.2 (record { all_there = good.0; room = leb_le (total (size_of (class_for pr c)) cut.0) 26 good.1 })
