use mathlib.Core.Path.{◌∙◌}
use lib.ListN.{length-set}
use Rattle.reset_command.proofs.BlockWritten.{block_written}
use Rattle.reset_command.proofs.reset_block.Goals as goal

pub returns : goal.returns
returns c = block_written c.args.product c.args.b.now _ _ c.requires (c.begin_slots.auto.b ∙ simp length-set) c.begin_slots.ensures c.zero.ensures
