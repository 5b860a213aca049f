use mathlib.Core.Path.{refl}
use Rattle.rules.specs.Maps.{◌and◌}
use Rattle.class_tables.proofs.classes.is_ont_data.Statement.{statement}
use Rattle.class_tables.proofs.classes.is_ont_data.Tie as tie

returns : tie.Need-returns
unfolding ◌and◌
returns c = refl

pub is_ont_data_spec : {M : Type 1} → statement M
is_ont_data_spec = tie.close (tie.spec returns)
