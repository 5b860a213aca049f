-- The numbers of the attributes that a Set may write.
use Rattle.std.specs.Prelude.{ℕ, List}
use Rattle.rules.specs.Maps.{keys, keep}
use Rattle.rules.specs.Catalogue.{Class}

unfoldable pub writable_numbers : Class → List ℕ
writable_numbers k = keys (keep (λ n a. a.W) k.attributes)
