use mathlib.Core.Path.{refl}
use mathlib.Core.List.{[], ◌∷◌}
use Rattle.class_tables.specs.Lines.{profile_lines, computing_lines}
use Rattle.class_tables.proofs.Tables.{listed, not_listed}
use Rattle.attribute_tables.proofs.profile.Statement.{statement}
use Rattle.attribute_tables.proofs.profile.Tie as tie

returns : tie.Need-returns-in-1
returns c = listed profile_lines 1 c.carried.ensures c.in-1.is (unfold computing_lines in refl)

returns-2 : tie.Need-returns-in-2
returns-2 c = listed profile_lines 2 c.carried-in-2.ensures c.in-2.is (unfold computing_lines in refl)

returns-3 : tie.Need-returns-in-3
returns-3 c = listed profile_lines 3 c.carried-in-3.ensures c.in-3.is (unfold computing_lines in refl)

returns-4 : tie.Need-returns-in-4
returns-4 c = listed profile_lines 4 c.carried-in-4.ensures c.in-4.is (unfold computing_lines in refl)

returns-5 : tie.Need-returns-in-5
returns-5 c = listed profile_lines 5 c.carried-in-5.ensures c.in-5.is (unfold computing_lines in refl)

returns-6 : tie.Need-returns-in-6
returns-6 c = listed profile_lines 6 c.carried-in-6.ensures c.in-6.is (unfold computing_lines in refl)

returns-7 : tie.Need-returns-in-7
returns-7 c = listed profile_lines 7 c.carried-in-7.ensures c.in-7.is (unfold computing_lines in refl)

returns-8 : tie.Need-returns-in_default
returns-8 c = not_listed profile_lines (7 ∷ 6 ∷ 5 ∷ 4 ∷ 3 ∷ 2 ∷ 1 ∷ []) _ c.absent.ensures c.in_default.in_default-own.rest (unfold computing_lines in refl)

pub profile_spec : {M : Type 1} → statement M
profile_spec =
    tie.close
    (tie.spec
    (λ c κs. tt)
    (λ c κs. tt)
    (λ c κs. tt)
    (λ c κs. tt)
    (λ c κs. tt)
    (λ c κs. tt)
    (λ c κs. tt)
    (λ c κs. tt)
    returns
    returns-2
    returns-3
    returns-4
    returns-5
    returns-6
    returns-7
    returns-8)
