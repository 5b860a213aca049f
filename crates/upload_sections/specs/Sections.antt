-- The sections of a table whose created instances have these keys: only the keys decide which there are, and where their instances are.
use Rattle.std.specs.Prelude.{ℕ, ◌+◌, ◌-◌, ◌<◌, ◌≡◌, cond, List, ◌++◌, map, length, get_or, eqb, ltb, Option, Some, None}
use Rattle.std.proofs.Math.Option as rules_option
use Rattle.std.proofs.Math.Option.{none, some}
use Rattle.rules.specs.Maps.{keys, gather, those, nth}
use Rattle.rules.specs.Masks.{named}
use Rattle.rules.specs.Catalogue.{Catalogue, class, leader}
use Rattle.rules.specs.State.{class_of, number_of}
use Rattle.rules.specs.Legal.{automatic_keys}
use Rattle.rules.specs.Walks as rules
use Rattle.rules.specs.Walks.{sections_of}
use Rattle.store.specs.Layout.{slot_at, place_at, key_length}
use Rattle.store.specs.Positions.{inside}
use Rattle.table.specs.declared.Shown.{Shown}

-- the keys of the entries: those that are there by themselves, then the created ones
abbrev pub entry_keys : Catalogue → List ℕ → List ℕ
entry_keys cat made = automatic_keys cat ++ made

abbrev pub entry_key : Catalogue → List ℕ → ℕ → ℕ
entry_key cat made e = get_or (entry_keys cat made) e 0

-- the numbers of the instances of class c, in order
unfoldable pub numbers_in : Catalogue → List ℕ → ℕ → List ℕ
numbers_in cat made c = map number_of (those (λ j. eqb (class_of j) (leader cat c)) (entry_keys cat made))

-- where the contents of an instance of class c begin in a block, if its entry is the e-th: in its slot, or behind the key in its place
unfoldable pub entry_begin : Catalogue → ℕ → ℕ → ℕ
entry_begin cat c e =
    let n : ℕ = length (automatic_keys cat) in
    cond (ltb e n) (slot_at e) (place_at (e - n) + key_length + inside cat c)

-- instance i of class c has an entry, and its contents begin at o in that
pub record BeginsAt (cat : Catalogue) (made : List ℕ) (c i o : ℕ) : Type 0 where
  pub entry : ℕ
  pub is_there : entry < length (entry_keys cat made)
  pub its_class : class_of (entry_key cat made entry) ≡ leader cat c
  pub its_number : number_of (entry_key cat made entry) ≡ i
  pub place : o ≡ entry_begin cat c entry

-- the sections of one instance
unfoldable pub instance_sections : Catalogue → ℕ → ℕ → List rules.Section
instance_sections cat c i = map (λ l. record { of_class = c; of_instance = i; shows = l }) (sections_of (class cat c))

-- the sections of the instances of a class
unfoldable pub class_sections : Catalogue → List ℕ → ℕ → List rules.Section
class_sections cat made c = gather (instance_sections cat c) (numbers_in cat made c)

unfoldable pub sections_in : Catalogue → List ℕ → List rules.Section
sections_in cat made = gather (class_sections cat made) (keys cat.classes)

-- what the code found
abbrev pub section_of : Option Shown → rules_option.Option rules.Section
section_of (Some x) = some (record { of_class = x.class; of_instance = x.number; shows = named x.mask })
section_of None = none

-- it carries the place of its instance
abbrev pub Carries : Catalogue → List ℕ → Option Shown → Type 0
Carries cat made (Some x) = BeginsAt cat made x.class x.number x.at
Carries cat made None = Unit {0}

-- the n-th of these sections
pub record Found (cat : Catalogue) (made : List ℕ) (l : List rules.Section) (n : ℕ) (r : Option Shown) : Type 0 where
  pub is : section_of r ≡ nth l n
  pub carries : Carries cat made r
