-- Every attribute of a built product may be written exactly if Large's may: who has a reply alone can ask Large.
use mathlib.Core.Path.{◌≡◌, refl}
use mathlib.Core.Bool.{Bool, true, not, cond}
use Rattle.rules.specs.Maps.{◌and◌, every}
use Rattle.rules.specs.Catalogue.{Catalogue, class, attribute, supported}
use Rattle.rules.specs.Run.{computing_rules}
use Rattle.rules.specs.Products.{Large, built_products, computing_products}

-- has the second every attribute of the first, and with the same W?
unfoldable pub same_W : Catalogue → Catalogue → Bool
same_W first second =
    every (λ c k. every (λ n a. supported (class second c) n and cond a.W (attribute (class second c) n).W (not (attribute (class second c) n).W)) k.attributes) first.classes

pub same_W_in_large : every (λ n cat. same_W cat Large) built_products ≡ true
unfolding computing_rules computing_products same_W
same_W_in_large = refl
