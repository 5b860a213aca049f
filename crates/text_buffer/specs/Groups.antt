-- A message as hex digits in groups: its id, type, device, class and instance, then four bytes each.
use Rattle.std.specs.Prelude.{ℕ, suc, ◌%◌, Bool, ◌&&◌, ◌||◌, List, [], ◌∷◌, ◌++◌, eqb, leb}
use Rattle.text_buffer.specs.Digits.{hex}
use Rattle.text_buffer.specs.Tables.{either}

-- does a group begin at this byte?
abbrev pub begins_group : ℕ → Bool
begins_group i = eqb i 2 || (eqb i 3 || (eqb i 4 || (eqb i 6 || (leb 8 i && eqb (i % 4) 0))))

-- the blank before a group
unfoldable pub gap : ℕ → List ℕ
gap i = either (begins_group i) (32 ∷ []) []

-- the bytes from the i-th on
unfoldable pub grouped : ℕ → List ℕ → List ℕ
grouped i [] = []
grouped i (b ∷ l) = gap i ++ (hex b ++ grouped (suc i) l)
