use Rattle.engine.proofs.Entered.{too_short, fresh_one, no_product}
use Rattle.engine.proofs.power_on.Goals as goal

pub returns-then-store-lt-STORE : goal.returns-then-store-lt-STORE
returns-then-store-lt-STORE c = too_short c.args.store.now c.args.product c.if-store-lt-STORE.true

pub returns-in_default : goal.returns-in_default
returns-in_default c = no_product c.args.store.now c.if-store-lt-STORE.false c.args.product c.try_from.ensures c.in_default.is

pub returns : goal.returns
returns c =
    fresh_one c.args.store.now c.if-store-lt-STORE.false c.args.product c.try_from.ensures _ c.in-Ok.is _ c.write_fresh.ensures
