-- The products that are built can be stored: each has a number in a byte, is well formed and fits.
use native.Mathlib.Omega.{arith}
use mathlib.Core.Path.{◌≡◌, refl}
use mathlib.Core.Bool.{true}
use Rattle.rules.specs.Products.{Small, Large, Meter, built_products}
use Rattle.products.proofs.WellFormed.{small_is_well_formed, large_is_well_formed, meter_is_well_formed}
use Rattle.store.specs.Layout.{fits}
use Rattle.store.specs.Fitting.{AllFit}
use Rattle.store.specs.Entries.{computing_store}
use Rattle.store.proofs.Soundness.{all_fit}

small_fits : fits Small ≡ true
unfolding computing_store
small_fits = refl

large_fits : fits Large ≡ true
unfolding computing_store
large_fits = refl

meter_fits : fits Meter ≡ true
unfolding computing_store
meter_fits = refl

pub built_products_fit : AllFit built_products
unfolding built_products
built_products_fit = all_fit built_products (
  (omega arith, small_is_well_formed, small_fits),
  ((omega arith, large_is_well_formed, large_fits), ((omega arith, meter_is_well_formed, meter_fits), tt)),
)
