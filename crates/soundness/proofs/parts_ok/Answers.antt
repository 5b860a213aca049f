use Rattle.std.proofs.Common.{sym, ◌∙◌}
use Rattle.rules.specs.Maps.{◌and◌}
use Rattle.class_tables.specs.Built.{cat_of}
use Rattle.soundness.proofs.Parts.{from_left, store_parts}
use Rattle.soundness.proofs.parts_ok.Goals as goal

pub returns : goal.returns
unfolding ◌and◌
returns c =
    from_left c.memory_part_ok.result c.alarms_ok.result c.walk_part_ok.result c.tables_ok.result
    ∙ rw (c.memory_part_ok.ensures, c.alarms_ok.ensures, c.walk_part_ok.ensures, c.tables_ok.ensures) (sym (store_parts (cat_of c.args.product) c.args.s.now))
