use Rattle.class_tables.specs.Lines.{lines_of, line_for}
use borrow.Author.Rules.{rules}
use Rattle.attribute_tables.proofs.attribute_of.Statement.{statement}
use Rattle.attribute_tables.proofs.attribute_of.Tie as tie

returns : tie.Need-returns-in-Small
unfolding line_for lines_of
returns c = record { is_line = rw c.in-Small.is c.small.ensures }

returns-2 : tie.Need-returns-in-Large
unfolding line_for lines_of
returns-2 c = record { is_line = rw c.in-Large.is c.large.ensures }

returns-3 : tie.Need-returns-in-Meter
unfolding line_for lines_of
returns-3 c = record { is_line = rw c.in-Meter.is c.meter.ensures }

pub attribute_of_spec : {M : Type 1} → statement M
attribute_of_spec =
    tie.close (tie.spec (λ c. search rules) (λ c κs. tt) (λ c. search rules) (λ c κs. tt) (λ c. search rules) (λ c κs. tt) returns returns-2 returns-3)
