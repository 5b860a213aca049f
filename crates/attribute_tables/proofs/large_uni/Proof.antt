use mathlib.Core.Path.{refl}
use mathlib.Core.List.{[], ◌∷◌}
use Rattle.rules.specs.Maps.{computing_maps}
use Rattle.class_tables.specs.Lines.{large_uni_lines, uni_lines, computing_lines}
use Rattle.class_tables.proofs.Tables.{as_before, listed}
use Rattle.attribute_tables.proofs.large_uni.Statement.{statement}
use Rattle.attribute_tables.proofs.large_uni.Tie as tie

returns : tie.Need-returns-in-7
returns c = listed large_uni_lines 7 c.kept.ensures c.in-7.is (unfold computing_lines in refl)

returns-2 : tie.Need-returns-in-8
returns-2 c = listed large_uni_lines 8 c.kept-in-8.ensures c.in-8.is (unfold computing_lines in refl)

returns-3 : tie.Need-returns-in-9
returns-3 c = listed large_uni_lines 9 c.kept-in-9.ensures c.in-9.is (unfold computing_lines in refl)

returns-4 : tie.Need-returns-in-10
returns-4 c = listed large_uni_lines 10 c.kept-in-10.ensures c.in-10.is (unfold computing_lines in refl)

returns-5 : tie.Need-returns-in-11
returns-5 c = listed large_uni_lines 11 c.kept-in-11.ensures c.in-11.is (unfold computing_lines in refl)

returns-6 : tie.Need-returns-in-12
returns-6 c = listed large_uni_lines 12 c.kept-in-12.ensures c.in-12.is (unfold computing_lines in refl)

returns-7 : tie.Need-returns-in-13
returns-7 c = listed large_uni_lines 13 c.kept-in-13.ensures c.in-13.is (unfold computing_lines in refl)

returns-8 : tie.Need-returns-in_default
returns-8 c = unfold large_uni_lines in as_before uni_lines _ (13 ∷ 12 ∷ 11 ∷ 10 ∷ 9 ∷ 8 ∷ 7 ∷ []) _ c.uni.ensures c.in_default.in_default-own.rest (unfold computing_maps in refl)

pub large_uni_spec : {M : Type 1} → statement M
large_uni_spec =
    tie.close
    (tie.spec
    (λ c κs. tt)
    (λ c κs. tt)
    (λ c κs. tt)
    (λ c κs. tt)
    (λ c κs. tt)
    (λ c κs. tt)
    (λ c κs. tt)
    (λ c κs. tt)
    returns
    returns-2
    returns-3
    returns-4
    returns-5
    returns-6
    returns-7
    returns-8)
