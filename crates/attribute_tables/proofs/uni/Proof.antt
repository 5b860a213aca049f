use mathlib.Core.Path.{refl, ◌∙◌, ap}
use mathlib.Core.List.{[], ◌∷◌}
use Rattle.class_tables.specs.Meaning.{with_avc}
use Rattle.class_tables.specs.Lines.{uni_lines, computing_lines}
use Rattle.class_tables.proofs.Tables.{listed, not_listed}
use Rattle.attribute_tables.proofs.uni.Statement.{statement}
use Rattle.attribute_tables.proofs.uni.Tie as tie

returns : tie.Need-returns-in-1
returns c = listed uni_lines 1 c.kept.ensures c.in-1.is (unfold computing_lines in refl)

returns-2 : tie.Need-returns-in-2
returns-2 c = listed uni_lines 2 (c.notified.ensures ∙ ap with_avc c.kept-in-2.ensures) c.in-2.is (unfold computing_lines in refl)

returns-3 : tie.Need-returns-in-3
returns-3 c = listed uni_lines 3 c.kept-in-3.ensures c.in-3.is (unfold computing_lines in refl)

returns-4 : tie.Need-returns-in-4
returns-4 c = listed uni_lines 4 c.kept-in-4.ensures c.in-4.is (unfold computing_lines in refl)

returns-5 : tie.Need-returns-in-5
returns-5 c = listed uni_lines 5 c.kept-in-5.ensures c.in-5.is (unfold computing_lines in refl)

returns-6 : tie.Need-returns-in-6
returns-6 c = listed uni_lines 6 (c.notified-in-6.ensures ∙ ap with_avc c.kept-in-6.ensures) c.in-6.is (unfold computing_lines in refl)

returns-7 : tie.Need-returns-in_default
returns-7 c = not_listed uni_lines (6 ∷ 5 ∷ 4 ∷ 3 ∷ 2 ∷ 1 ∷ []) _ c.absent.ensures c.in_default.in_default-own.rest (unfold computing_lines in refl)

pub uni_spec : {M : Type 1} → statement M
uni_spec =
    tie.close
    (tie.spec
    (λ c κs. tt)
    (λ c κs. tt)
    (λ c κs. tt)
    (λ c κs. tt)
    (λ c κs. tt)
    (λ c κs. tt)
    (λ c κs. tt)
    (λ c κs. tt)
    (λ c κs. tt)
    returns
    returns-2
    returns-3
    returns-4
    returns-5
    returns-6
    returns-7)
