-- Lists of products whose states can be stored.
use Rattle.std.specs.Prelude.{ℕ, ◌<◌, ◌≡◌, true}
use Rattle.std.proofs.Math.Option.{some}
use Rattle.rules.specs.Maps.{find}
use Rattle.rules.specs.Catalogue.{Catalogue}
use Rattle.rules.specs.WellFormed.{WellFormed}
use Rattle.rules.specs.Products.{Products}
use Rattle.store.specs.Layout.{fits}

-- every product's number is a byte, its catalogue is well formed, and its states fit
pub record AllFit (products : Products) : Type 0 where
  pub in_a_byte : (p : ℕ) (cat : Catalogue) → find p products ≡ some cat → p < 256
  pub well_formed : (p : ℕ) (cat : Catalogue) → find p products ≡ some cat → WellFormed cat
  pub fit : (p : ℕ) (cat : Catalogue) → find p products ≡ some cat → fits cat ≡ true
