-- Where something stands: a number in a list, a class's contents in an entry, an attribute's content among others.
use Rattle.std.specs.Prelude.{ℕ, suc, ◌+◌, cond, List, [], ◌∷◌, eqb}
use Rattle.std.proofs.Math.Option.{Option, none, some}
use Rattle.rules.specs.Maps.{Map}
use Rattle.rules.specs.Catalogue.{Class, Catalogue, leader, family}
use Rattle.store.specs.Layout.{contents_width}

-- the first place of a number in a list
abbrev pub one_on : Option ℕ → Option ℕ
one_on none = none
one_on (some j) = some (suc j)

unfoldable pub position : ℕ → List ℕ → Option ℕ
position k [] = none
position k (x ∷ l) = cond (eqb k x) (some 0) (one_on (position k l))

-- the bytes of a family before those of class c
unfoldable pub before : Map Class → ℕ → ℕ
before [] c = 0
before (e ∷ m) c = cond (eqb c e.0) 0 (contents_width e.1 + before m c)

abbrev pub inside : Catalogue → ℕ → ℕ
inside cat c = before (family cat (leader cat c)) c

-- where the contents of attribute n begin, among attributes of these numbers
unfoldable pub offset : (ℕ → ℕ) → List ℕ → ℕ → ℕ
offset size [] n = 0
offset size (m ∷ l) n = cond (eqb n m) 0 (size m + offset size l n)
