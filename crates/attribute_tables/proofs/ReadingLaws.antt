-- How an attribute is read, as what a table of the code is asked; and what the answer says of the source.
use Prim.Native.Nat.{ℕ}
use mathlib.Core.Path.{◌≡◌, refl, sym, ◌∙◌, ap}
use mathlib.Core.Bool.{Bool, true, false}
use mathlib.Core.List.{List, [], ◌∷◌}
use Rattle.rules.specs.Maps.{keys, same}
use Rattle.rules.specs.Catalogue.{constant, Source, stored, of_creator, count_of, attribute, supported, is_stored}
use Rattle.rules.proofs.Laws.{never, same_eq, has_among}
use Rattle.attribute_tables.specs.declared.readings.Reading.{Reading}
use Rattle.attribute_tables.specs.declared.readings.Reading.TheVariants.{Own, OfCreator, CountOf}
use Rattle.attribute_tables.specs.Readings.{reading_by}
use Rattle.attribute_tables.proofs.ArmLaws.{Question}

-- the numbers that it holds, which tell it from the others
abbrev held : Reading → List ℕ
held Own = []
held (OfCreator a) = a ∷ []
held (CountOf d a) = d ∷ a ∷ []

abbrev that_holds : List ℕ → Reading
that_holds [] = Own
that_holds (a ∷ []) = OfCreator a
that_holds (d ∷ a ∷ l) = CountOf d a

abbrev held_back : (x : Reading) → that_holds (held x) ≡ x
held_back Own = refl
held_back (OfCreator a) = refl
held_back (CountOf d a) = refl

abbrev pub its_reading : Question Reading
its_reading = record {
  Asked = λ k n. supported k n ≡ true;
  numbers = λ k. keys k.attributes;
  is_number = λ k n t. sym (has_among n k.attributes) ∙ t;
  answer = λ k n. reading_by (attribute k n).source;
  is = λ x y. same (held x) (held y);
  same_if = λ x y h. sym (held_back x) ∙ ap that_holds (same_eq (held x) (held y) h) ∙ held_back y;
}

-- ---- what the answer says

abbrev is_own : Reading → Bool
is_own Own = true
is_own (OfCreator a) = false
is_own (CountOf d a) = false

-- the source of what isn't stored: the case Own is never used (`source_told` asks for another)
abbrev source_by : Reading → Source
source_by Own = stored (constant [])
source_by (OfCreator a) = of_creator a
source_by (CountOf d a) = count_of d a

own_if_stored : (s : Source) → is_stored s ≡ is_own (reading_by s)
own_if_stored (stored f) = refl
own_if_stored (of_creator a) = refl
own_if_stored (count_of d a) = refl

source_back : (s : Source) → is_stored s ≡ false → source_by (reading_by s) ≡ s
source_back (stored f) h = never (sym h)
source_back (of_creator a) h = refl
source_back (count_of d a) h = refl

module _ (s : Source) {x r : Reading} (e : x ≡ reading_by s) (f : x ≡ r) where
  pub stored_if_own : is_own r ≡ true → is_stored s ≡ true
  stored_if_own h = own_if_stored s ∙ ap is_own (sym e ∙ f) ∙ h

  pub source_told : is_own r ≡ false → s ≡ source_by r
  source_told h = sym (source_back s (own_if_stored s ∙ ap is_own (sym e ∙ f) ∙ h)) ∙ ap source_by (sym e ∙ f)
