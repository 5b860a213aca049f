-- The products that are built, as the code tells them apart.
use Rattle.std.specs.Prelude.{ℕ, ◌≡◌, Bool, true, false, Result, Ok, Err}
use Rattle.std.proofs.Math.Option.{Option, none, some}
use Rattle.rules.specs.Maps.{find}
use Rattle.rules.specs.Catalogue.{Class, Catalogue, class}
use Rattle.rules.specs.Products.{Small, Large, Meter, built_products}
use Rattle.class_tables.specs.declared.Product.{Product}
use Rattle.class_tables.specs.declared.Product.TheVariants as built
use Rattle.class_tables.specs.declared.NotBuilt.{NotBuilt}

unfoldable pub cat_of : Product → Catalogue
cat_of built.Small = Small
cat_of built.Large = Large
cat_of built.Meter = Meter

-- no product has more classes; the code's MOST_CLASSES
abbrev pub most_classes : ℕ
most_classes = 5

abbrev pub class_for : Product → ℕ → Class
class_for pr c = class (cat_of pr) c

-- the product's number
abbrev pub product_of : Product → ℕ
product_of built.Small = 1
product_of built.Large = 2
product_of built.Meter = 3

-- one of three, by product
abbrev pub by_product : {A : Type 0} → Product → A → A → A → A
by_product built.Small small large meter = small
by_product built.Large small large meter = large
by_product built.Meter small large meter = meter

-- does it have bridges and ports, and the commands Create, Delete and Set? Meter has neither
abbrev pub provisioned : Product → Bool
provisioned pr = by_product pr true true false

-- the catalogue that a number names, as the code told it
abbrev pub named_catalogue : Result Product NotBuilt → Option Catalogue
named_catalogue (Ok pr) = some (cat_of pr)
named_catalogue (Err e) = none

-- r is what the number n names
pub record Names (n : ℕ) (r : Result Product NotBuilt) : Type 0 where
  pub found : named_catalogue r ≡ find n built_products
  pub its_number : (pr : Product) → r ≡ Ok pr → product_of pr ≡ n
