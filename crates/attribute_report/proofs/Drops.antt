-- The drops of a report of an attribute: as the code tries them, and as the rules list them.
use Prim.Native.Nat.{ℕ, ◌<◌}
use mathlib.Core.Path.{◌≡◌, refl, sym, ◌∙◌, ap}
use mathlib.Core.Bool.{Bool, true, false}
use mathlib.Core.Option.{Option, none, some}
use mathlib.Core.Logic.{◌≢◌}
use mathlib.Core.List.{List, []}
use lib.ListN.{length}
use Rattle.rules.specs.Maps.{◌and◌, is_some, first_that_applies}
use Rattle.rules.specs.Catalogue.{Class, attribute, size_of}
use Rattle.rules.specs.State.{State, holds, contents}
use Rattle.rules.specs.Legal.{fixed_contents, legal_content}
use Rattle.rules.specs.Reports.{attribute_drops}
use Rattle.rules.proofs.Laws.{cases, not-false, both, eqb_true, eqb_false, eqb_eq}
use Rattle.class_tables.specs.declared.Attribute.{Attribute}
use Rattle.class_tables.specs.Built.{cat_of, class_for}
use Rattle.class_tables.specs.Meaning.{reports, meaning}
use Rattle.class_tables.specs.Describes.{DescribedIn}
use Rattle.class_tables.proofs.EveryProduct.{well_formed_of}
use Rattle.table.specs.Spots.{spot_among}
use Rattle.table.specs.Places.{keys_in}
use Rattle.table.specs.Live.{Holding}
use Rattle.table.proofs.HeldAt.{there_is_held}
use Rattle.attribute_check.specs.Judges.{is_in, fixed_at, legal_at, legal_by}
use Rattle.attribute_check.proofs.Looking.{by_its_line}
use Rattle.legality.proofs.Refusals.{NoneApplies, none_applies}
use Rattle.attribute_report.specs.Spotted.{content_drops}
use Rattle.class_tables.specs.declared.Product.{Product}
use Rattle.legality.proofs.Contents.{passes_anywhere}

-- ---- where the instance is there, by the attribute's line

module _ (there : ℕ → ℕ → Bool) (k : Class) (b : List ℕ) (at : ℕ) (a : Attribute) (v : List ℕ) where
  abbrev first : Option ℕ
  first = first_that_applies (content_drops there k b at a v)

  module _ {rep : Bool} (e : rep ≡ reports a.rights) where
    pub not_reported : rep ≡ false → some 12 ≡ first
    unfolding content_drops meaning first_that_applies
    not_reported t = rw (sym e ∙ t) refl

    module _ (t : rep ≡ true) where
      pub other_size : length v ≢ a.size → some 13 ≡ first
      unfolding content_drops meaning first_that_applies ◌and◌
      other_size h = rw (sym e ∙ t, eqb_false (length v) a.size h) refl

      module _ (h : length v ≡ a.size) {legal : Bool} (g : legal ≡ legal_by there k b at a v) where
        pub not_legal : legal ≡ false → some 13 ≡ first
        unfolding content_drops meaning first_that_applies ◌and◌
        not_legal z = rw (sym e ∙ t, eqb_true (length v) a.size h, sym g ∙ z) refl

        pub none_told : legal ≡ true → none ≡ first
        unfolding content_drops meaning first_that_applies ◌and◌
        none_told z = rw (sym e ∙ t, eqb_true (length v) a.size h, sym g ∙ z) refl

-- ---- the same as the rules'

module _ (pr : Product) (live : List ℕ) (s : State) (q : Holding (cat_of pr) live s.table) (c i n : ℕ) (v : List ℕ) (lt : i < 65536) where
  abbrev there : ℕ → ℕ → Bool
  there = is_in (cat_of pr) live

  abbrev k : Class
  k = class_for pr c

  abbrev drops : List (Bool × ℕ)
  drops = attribute_drops (cat_of pr) s c i n v

  abbrev sought : Option ℕ
  sought = spot_among (cat_of pr) (keys_in live) c i

  -- what is reported is judged by itself: other contents and instances make no difference
  judged_alone : (o : ℕ) → (attribute k n).L ≡ true
      → legal_at there k live o n v ≡ legal_content (holds (cat_of pr) s.table) k (contents (cat_of pr) s.table c i) n v
  unfolding legal_at legal_content
  judged_alone o h =
      let own = (well_formed_of pr).L_looks_at_its_own_alone c n h in
      rw (own.same_with_others v (fixed_at k live o), own.same_with_others v (fixed_contents k (contents (cat_of pr) s.table c i)))
      (passes_anywhere there (holds (cat_of pr) s.table) ((attribute k n).rule v (λ m. [])) (own.no_instance v))

  held : {o : Option ℕ} → sought ≡ o → holds (cat_of pr) s.table c i ≡ is_some o
  held e = sym (there_is_held pr live s.table q c i lt) ∙ ap is_some e

  pub not_there : sought ≡ none → first_that_applies drops ≡ some 11
  unfolding attribute_drops first_that_applies
  not_there e = rw (held e) refl

  -- what holds of a report that isn't dropped
  pub record Accepted : Type 0 where
    pub reported : (attribute k n).L ≡ true
    pub sized : length v ≡ size_of k n
    pub undropped : first_that_applies drops ≡ none

  module _ {o : ℕ} (found : sought ≡ some o) {a : Attribute} (d : DescribedIn k n a) where
    abbrev line_drops : List (Bool × ℕ)
    line_drops = content_drops there k live o a v

    told_is : first_that_applies line_drops ≡ first_that_applies drops
    unfolding content_drops attribute_drops first_that_applies
    told_is = rw (d.is, by_its_line there d live o v, held found) (cases (attribute k n).L (λ y. rw (y, judged_alone o y) refl) (λ y. rw y refl))

    pub rules_drop : {code : ℕ} → some code ≡ first_that_applies line_drops → first_that_applies drops ≡ some code
    rules_drop e = sym (e ∙ told_is)

    pub accepted : none ≡ first_that_applies line_drops → Accepted
    unfolding attribute_drops
    accepted e =
        let none_drops : first_that_applies drops ≡ none = sym (e ∙ told_is) in
        let p : NoneApplies drops = none_applies drops none_drops in
        record { reported = not-false p.1.0; sized = eqb_eq (length v) (size_of k n) (both (not-false p.1.1.0)).0; undropped = none_drops }
