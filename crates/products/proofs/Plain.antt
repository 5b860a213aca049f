-- Attributes whose rule is plain: what a catalogue's first contents and L attributes need follows, in any catalogue, from
-- how each rule looks and from tests that compute.
use Prim.Native.Nat.{ℕ}
use mathlib.Core.Path.{◌≡◌, refl, sym, ◌∙◌}
use mathlib.Core.Bool.{Bool, true, false}
use mathlib.Core.List.{List, []}
use lib.ListN.{length}
use lib.Dec.{eqb}
use Rattle.rules.specs.Maps.{◌and◌, ◌or◌, Map}
use Rattle.rules.specs.Bytes.{are_bytes}
use Rattle.rules.specs.Catalogue.{fine, constant, copied, Source, stored, of_creator, count_of, Attribute, Class, Catalogue, class, no_attribute, attribute, supported, size_of}
use Rattle.rules.specs.Catalogue.{is_created, leader}
use Rattle.rules.specs.Legal.{passes, there_or_gone}
use Rattle.rules.specs.WellFormed.{every_attribute, FirstIsLegal, LooksAtItsOwnAlone}
use Rattle.rules.proofs.Laws.{cases, never, true_false, both, or_cases, eqb_eq}
use Rattle.rules.proofs.MapLaws.{Each}
use Rattle.rules.proofs.Lookups.{unknown_attribute, attribute_says}
use Rattle.products.proofs.Each.{each_attribute}

abbrev pub is_copied : Source → Bool
is_copied (stored (constant v)) = false
is_copied (stored (copied n)) = true
is_copied (of_creator m) = false
is_copied (count_of d m) = false

-- any content is legal; or the rule looks at its own content alone, and the first content is written out; or the attribute is
-- carried by a Create and no report writes it
pub data Plain (a : Attribute) : Type 0 where
  free : ((v : List ℕ) (others : ℕ → List ℕ) → a.rule v others ≡ fine) → Plain a
  judged : LooksAtItsOwnAlone a → is_copied a.source ≡ false → Plain a
  carried : a.C ≡ true → a.L ≡ false → Plain a

abbrev pub EachPlain : Map Attribute → Type 0
EachPlain m = Each (λ n a. Plain a) m

abbrev pub AllPlain : Catalogue → Type 0
AllPlain cat = Each (λ c k. EachPlain k.attributes) cat.classes

-- ---- L attributes

free_alone : (a : Attribute) → ((v : List ℕ) (others : ℕ → List ℕ) → a.rule v others ≡ fine) → LooksAtItsOwnAlone a
free_alone a f = record {
  same_with_others = λ v others. f v others ∙ sym (f v (λ n. []));
  no_instance = λ v. rw (f v (λ n. []));
}

plain_alone : (a : Attribute) → Plain a → a.L ≡ true → LooksAtItsOwnAlone a
plain_alone a (free f) h = free_alone a f
plain_alone a (judged g e) h = g
plain_alone a (carried c l) h = true_false h l

pub L_alone : (cat : Catalogue) → AllPlain cat → (c n : ℕ) → (attribute (class cat c) n).L ≡ true → LooksAtItsOwnAlone (attribute (class cat c) n)
unfolding no_attribute
L_alone cat p c n h = cases (supported (class cat c) n)
    (λ t. plain_alone (attribute (class cat c) n) (each_attribute cat (λ c n a. Plain a) p c n t) h)
    (λ t. never (rw (unknown_attribute (class cat c) n t) at h))

-- ---- first contents

-- what computes of a first content
abbrev pub first_fits : Catalogue → ℕ → Attribute → Source → Bool
first_fits cat c a (stored (constant v)) = eqb (length v) a.size and are_bytes v and passes (there_or_gone cat) (a.rule v (λ n. []))
first_fits cat c a (stored (copied m)) =
    is_created (class cat (leader cat c)).creation and (attribute (class cat (leader cat c)) m).C and eqb (size_of (class cat (leader cat c)) m) a.size
first_fits cat c a (of_creator m) = true
first_fits cat c a (count_of d m) = true

unfoldable pub first_content_fits : Catalogue → ℕ → Class → ℕ → Attribute → Bool
first_content_fits cat c k n a = a.C or first_fits cat c a a.source

module _ (cat : Catalogue) (c : ℕ) (a : Attribute) (not_Carried : a.C ≡ false) where
  plain_same : Plain a → (v : List ℕ) (others : ℕ → List ℕ) → a.rule v others ≡ a.rule v (λ n. [])
  plain_same (free f) v others = f v others ∙ sym (f v (λ n. []))
  plain_same (judged g e) v others = g.same_with_others v others
  plain_same (carried t l) v others = true_false t not_Carried

  plain_free : Plain a → is_copied a.source ≡ true → (v : List ℕ) (others : ℕ → List ℕ) → a.rule v others ≡ fine
  plain_free (free f) t v others = f v others
  plain_free (judged g e) t v others = true_false t e
  plain_free (carried d l) t v others = true_false d not_Carried

  plain_first : (s : Source) → a.source ≡ s → first_fits cat c a s ≡ true → Plain a → FirstIsLegal cat c a s
  unfolding passes
  plain_first (stored (constant v)) e h p =
      let g = both h in
      (eqb_eq (length v) a.size g.0, (both g.1).0, λ others. rw (plain_same p v others) (both g.1).1)
  plain_first (stored (copied m)) e h p =
      let g = both h in (
        g.0,
        (both g.1).0,
        eqb_eq (size_of (class cat (leader cat c)) m) a.size (both g.1).1,
        λ v theirs ours size bytes t. rw (plain_free p (rw e) v ours),
      )
  plain_first (of_creator m) e h p = tt
  plain_first (count_of d m) e h p = tt

pub firsts_legal : (cat : Catalogue) → AllPlain cat → every_attribute (first_content_fits cat) cat
    → (c n : ℕ) → supported (class cat c) n ≡ true → (attribute (class cat c) n).C ≡ false
    → FirstIsLegal cat c (attribute (class cat c) n) (attribute (class cat c) n).source
unfolding first_content_fits
firsts_legal cat p h c n t not_Carried =
    let a : Attribute = attribute (class cat c) n in
    let e = attribute_says (first_content_fits cat) cat h c n t in
    let f : first_fits cat c a a.source ≡ true = or_cases e (λ x. true_false x not_Carried) (λ x. x) in
    plain_first cat c a not_Carried a.source refl f (each_attribute cat (λ c n a. Plain a) p c n t)
