-- A statement for each entry of a table is one of every entry that is found in it: so what holds of each class or attribute
-- of a catalogue, one after another, holds of every number.
use Prim.Native.Nat.{ℕ}
use mathlib.Core.Path.{◌≡◌}
use mathlib.Core.Bool.{true}
use Rattle.rules.specs.Catalogue.{Attribute, Class, Catalogue, class, known, attribute, supported}
use Rattle.rules.proofs.MapLaws.{Each, each_find}
use Rattle.rules.proofs.Lookups.{known_class, known_attribute, supported_known}

module _ (cat : Catalogue) where
  pub each_class : (P : ℕ → Class → Type 0) → Each P cat.classes → (c : ℕ) → known cat c ≡ true → P c (class cat c)
  each_class P h c t = each_find P cat.classes h c (class cat c) (known_class cat c t)

  pub each_attribute : (P : ℕ → ℕ → Attribute → Type 0) → Each (λ c k. Each (P c) k.attributes) cat.classes
      → (c n : ℕ) → supported (class cat c) n ≡ true → P c n (attribute (class cat c) n)
  each_attribute P h c n t =
      each_find (P c) (class cat c).attributes (each_class (λ c k. Each (P c) k.attributes) h c (supported_known cat c n t)) n (attribute (class cat c) n)
      (known_attribute (class cat c) n t)
