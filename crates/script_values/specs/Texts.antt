-- A text in quotation marks, as the bytes of a line.
use Rattle.std.specs.Prelude.{ℕ, List, [], ◌∷◌}
use Prim.Native.Char.{code}
use Prim.Native.String.{String, [] as end, ◌∷◌ as ◌then◌}

unfoldable pub spelt : String → List ℕ
spelt end = []
spelt (c then s) = code c ∷ spelt s
