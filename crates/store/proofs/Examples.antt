-- Whole stores, by computation.
use mathlib.Core.Path.{◌≡◌, refl}
use mathlib.Core.Bool.{true}
use mathlib.Core.Option.{some}
use mathlib.Core.List.{[], ◌∷◌, map}
use lib.ListN.{length}
use Rattle.rules.specs.Catalogue.{Catalogue}
use Rattle.rules.specs.State.{State}
use Rattle.rules.specs.Legal.{legal_state}
use Rattle.rules.specs.Run.{alarm_report, fresh, after, store_length}
use Rattle.rules.specs.Products.{Small, Large, built_products}
use Rattle.rules.proofs.Examples.{bridge, command, call, computing}
use Rattle.store.specs.Layout.{encode, fits}
use Rattle.store.specs.Decode.{decode}
use Rattle.store.specs.Entries.{computing_store}

-- a bridge, an alarm, both walks begun
unfoldable pub busy : Catalogue → State
busy cat = after cat (fresh cat) (bridge ∷ call (alarm_report 11 0x0101 0 true) ∷ command 2 0x4B 2 0 [] ∷ command 3 0x4D 2 0 [] ∷ [])

pub store_has_its_length : map (λ cat. length (encode 1 cat (busy cat))) (Small ∷ Large ∷ []) ≡ store_length ∷ store_length ∷ []
unfolding computing computing_store busy
store_has_its_length = refl

pub both_fit : map fits (Small ∷ Large ∷ []) ≡ true ∷ true ∷ []
unfolding computing computing_store
both_fit = refl

pub busy_is_legal : map (λ cat. legal_state cat (busy cat)) (Small ∷ Large ∷ []) ≡ true ∷ true ∷ []
unfolding computing computing_store busy
busy_is_legal = refl

pub busy_is_read_back : decode built_products (encode 2 Large (busy Large)) ≡ some (record { product = 2; catalogue = Large; state = busy Large })
unfolding computing computing_store busy
busy_is_read_back = refl
