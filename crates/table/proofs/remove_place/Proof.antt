use Prim.Native.Nat.{◌-◌}
use native.Mathlib.Omega.{arith}
use mathlib.Core.Path.{refl}
use lib.ListN.{length}
use Rattle.store.specs.Layout.{place_length, place_at}
use Rattle.table.proofs.BlockMoved.{remove_back}
use borrow.Author.Rules.{rules}
use Rattle.table.proofs.remove_place.Statement.{statement}
use Rattle.table.proofs.remove_place.Tie as tie

returns : tie.Need-returns
returns c =
    let a = c.args in
    let f = c.remove_front in
    let at = place_at a.j in
    remove_back a.b.now at (length a.b.now - at) refl (omega arith) (search rules) place_length f.new.t _ _ refl f.ensures

pub remove_place_spec : {M : Type 1} → statement M
remove_place_spec =
    tie.close
    (tie.spec
    (λ c. search rules)
    (λ c. search rules)
    (λ c. search rules)
    (λ c. search rules)
    (λ c. search rules)
    (λ c. search rules)
    (λ c κs. search rules)
    (λ c. search rules)
    (λ c. search rules)
    (λ c. search rules)
    returns)
