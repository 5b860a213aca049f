use Rattle.reset_command.proofs.FreshStore.{fresh_written}
use Rattle.reset_command.proofs.write_fresh.Goals as goal

pub returns : goal.returns
returns c = fresh_written c.args.product c.args.store.now _ _ _ c.requires c.zero.ensures c.from.ensures c.begin_slots.ensures
