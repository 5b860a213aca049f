-- Legal contents as tests of bytes, over any catalogue: a family of classes, what follows the key of a place.
use Rattle.std.specs.Prelude.{ℕ, Bool, true, List, [], ◌∷◌, take, drop}
use Rattle.rules.specs.Maps.{◌and◌, Map}
use Rattle.rules.specs.Bytes.{all_zero}
use Rattle.rules.specs.Catalogue.{Class, Catalogue, class, is_created, family}
use Rattle.rules.specs.Legal.{legal_contents}
use Rattle.store.specs.Layout.{contents_width, family_width}
use Rattle.store.specs.Decode.{read_contents}

-- the contents of each class of a family, one after another
unfoldable pub family_legal : Catalogue → Map Class → List ℕ → Bool
family_legal cat [] b = true
family_legal cat (e ∷ m) b = legal_contents cat e.1 (read_contents e.1 b) and family_legal cat m (drop (contents_width e.1) b)

-- and zeros behind them
unfoldable pub family_test : Catalogue → Map Class → List ℕ → Bool
family_test cat m b = family_legal cat m b and all_zero (drop (family_width m) b)

-- what follows the key of a place of class c
abbrev pub entry_test : Catalogue → ℕ → List ℕ → Bool
entry_test cat c b = is_created (class cat c).creation and family_test cat (family cat c) b

-- the same, but for the zeros from byte w on
unfoldable pub front_test : Catalogue → ℕ → ℕ → List ℕ → Bool
front_test cat c w b = is_created (class cat c).creation and (family_legal cat (family cat c) b and all_zero (drop (family_width (family cat c)) (take w b)))

-- how many bytes of a port's entry may be other than zero
abbrev pub port_front : ℕ
port_front = 13
