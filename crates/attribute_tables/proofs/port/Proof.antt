use mathlib.Core.Path.{refl, ◌∙◌, ap}
use mathlib.Core.List.{[], ◌∷◌}
use Rattle.class_tables.specs.Meaning.{judged_if}
use Rattle.class_tables.specs.Lines.{port_lines, computing_lines}
use Rattle.class_tables.proofs.Tables.{listed, not_listed}
use Rattle.attribute_tables.proofs.port.Statement.{statement}
use Rattle.attribute_tables.proofs.port.Tie as tie

returns : tie.Need-returns-in-1
returns c = listed port_lines 1 c.carried.ensures c.in-1.is (unfold computing_lines in refl)

returns-2 : tie.Need-returns-in-2
returns-2 c = listed port_lines 2 c.carried-in-2.ensures c.in-2.is (unfold computing_lines in refl)

returns-3 : tie.Need-returns-in-3
returns-3 c = listed port_lines 3 c.carried-in-3.ensures c.in-3.is (unfold computing_lines in refl)

returns-4 : tie.Need-returns-in-4
returns-4 c = listed port_lines 4 (c.judged_if.ensures ∙ ap (judged_if 3) c.carried-in-4.ensures) c.in-4.is (unfold computing_lines in refl)

returns-5 : tie.Need-returns-in-5
returns-5 c = listed port_lines 5 c.carried-in-5.ensures c.in-5.is (unfold computing_lines in refl)

returns-6 : tie.Need-returns-in-6
returns-6 c = listed port_lines 6 c.carried-in-6.ensures c.in-6.is (unfold computing_lines in refl)

returns-7 : tie.Need-returns-in-7
returns-7 c = listed port_lines 7 c.carried-in-7.ensures c.in-7.is (unfold computing_lines in refl)

returns-8 : tie.Need-returns-in-8
returns-8 c = listed port_lines 8 c.carried-in-8.ensures c.in-8.is (unfold computing_lines in refl)

returns-9 : tie.Need-returns-in_default
returns-9 c = not_listed port_lines (8 ∷ 7 ∷ 6 ∷ 5 ∷ 4 ∷ 3 ∷ 2 ∷ 1 ∷ []) _ c.absent.ensures c.in_default.in_default-own.rest (unfold computing_lines in refl)

pub port_spec : {M : Type 1} → statement M
port_spec =
    tie.close
    (tie.spec
    (λ c κs. tt)
    (λ c κs. tt)
    (λ c κs. tt)
    (λ c κs. tt)
    (λ c κs. tt)
    (λ c κs. tt)
    (λ c κs. tt)
    (λ c κs. tt)
    (λ c κs. tt)
    (λ c κs. tt)
    returns
    returns-2
    returns-3
    returns-4
    returns-5
    returns-6
    returns-7
    returns-8
    returns-9)
