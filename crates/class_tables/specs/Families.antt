-- A class and those whose instances come with its own.
use Rattle.std.specs.Prelude.{ℕ, ◌≡◌, List, [], ◌∷◌, drop, Option, Some, None}
use Rattle.rules.specs.Maps.{keys}
use Rattle.rules.specs.Catalogue.{family}
use Rattle.class_tables.specs.Built.{cat_of}
use Rattle.class_tables.specs.declared.Product.{Product}

-- the class that comes with one, as a list
abbrev pub companions : Option ℕ → List ℕ
companions None = []
companions (Some d) = d ∷ []

-- r is the class that comes with class c, if one does: what its family has behind the class itself
abbrev pub Companion : Product → ℕ → Option ℕ → Type 0
Companion pr c r = companions r ≡ drop 1 (keys (family (cat_of pr) c))
