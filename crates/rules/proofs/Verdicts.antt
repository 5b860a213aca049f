-- What rules of legal content let pass.
use Prim.Native.Nat.{ℕ}
use mathlib.Core.Path.{◌≡◌, refl}
use mathlib.Core.Bool.{Bool, true}
use Rattle.rules.specs.Catalogue.{Verdict, fine, bad, asks}
use Rattle.rules.specs.Legal.{passes}
use Rattle.rules.proofs.Laws.{never}

-- what passes where fewer instances are there passes where more are
pub passes_later : (there later : ℕ → ℕ → Bool) → ((c i : ℕ) → there c i ≡ true → later c i ≡ true) → (v : Verdict) → passes there v ≡ true → passes later v ≡ true
unfolding passes
passes_later there later f fine h = refl
passes_later there later f bad h = never h
passes_later there later f (asks c i) h = f c i h
