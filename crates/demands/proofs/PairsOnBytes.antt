-- Demand 3's uploads of the products that are built, on bytes: what the first's upload sends, the second's sends, with the same bytes, for each of the
-- three pairs.
use Prim.Native.Nat.{ℕ}
use mathlib.Core.List.{List}
use Rattle.rules.specs.Catalogue.{Catalogue}
use Rattle.rules.specs.Run.{Input}
use Rattle.rules.specs.Products.{Small, Large, Meter, built_products}
use Rattle.products.proofs.Extends.{large_extends_small, small_extends_meter}
use Rattle.store.proofs.Built.{built_products_fit}
use Rattle.demands.proofs.ProductPairs.{small_is_1, large_is_2, meter_is_3, large_extends_meter}
use Rattle.demands.proofs.UploadsOfBoth.{UploadAskedOfBoth, SecondSendsAll, what_the_first_s_upload_sends_the_second_s_sends}

-- what an upload of product p sends, with the first catalogue, one of product q sends, with the second
abbrev pub SendsAllOf : ℕ → ℕ → Catalogue → Catalogue → Type 0
SendsAllOf p q first second = (a b : List ℕ) (before : List Input) (asked : Input) (between : List Input) (u ru : List ℕ)
    → UploadAskedOfBoth built_products p first a b before asked between u ru → SecondSendsAll built_products p q first second a b before asked between ru

pub large_sends_all_of_small : SendsAllOf 1 2 Small Large
large_sends_all_of_small = what_the_first_s_upload_sends_the_second_s_sends built_products built_products_fit 1 2 Small Large small_is_1 large_is_2 large_extends_small

pub small_sends_all_of_meter : SendsAllOf 3 1 Meter Small
small_sends_all_of_meter = what_the_first_s_upload_sends_the_second_s_sends built_products built_products_fit 3 1 Meter Small meter_is_3 small_is_1 small_extends_meter

pub large_sends_all_of_meter : SendsAllOf 3 2 Meter Large
large_sends_all_of_meter = what_the_first_s_upload_sends_the_second_s_sends built_products built_products_fit 3 2 Meter Large meter_is_3 large_is_2 large_extends_meter
