use Prim.Native.Nat.{◌-◌}
use native.Mathlib.Omega.{arith}
use native.Mathlib.Numerals.{add-one}
use mathlib.Core.Path.{refl}
use lib.ListN.{length}
use Rattle.rules.specs.Bytes.{byte}
use Rattle.table.proofs.BlockMoved.{insert_back}
use borrow.Author.Rules.{rules}
use Rattle.table.proofs.insert_place.Statement.{statement}
use Rattle.table.proofs.insert_place.Tie as tie
use Rattle.store.specs.Layout.{in_use_at, place_at}

returns : tie.Need-returns
returns c =
    let a = c.args in
    let f = c.insert_front in
    let at = place_at a.j in
    insert_back a.b.now at (length a.b.now - at) refl (omega arith) (search rules) a.r.now f.new.t _ _ (add-one (byte a.b.now in_use_at)) f.ensures

pub insert_place_spec : {M : Type 1} → statement M
insert_place_spec =
    tie.close
    (tie.spec
    (λ c. search rules)
    (λ c. search rules)
    (λ c. search rules)
    (λ c. search rules)
    (λ c. search rules)
    (λ c. search rules)
    (λ c κs. search rules)
    (λ c. search rules)
    (λ c. search rules)
    (λ c. search rules)
    returns)
