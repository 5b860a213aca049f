use native.Mathlib.Omega.{arith}
use mathlib.Core.Path.{◌≡◌, refl, sym}
use mathlib.Core.List.{[], ◌∷◌}
use mathlib.Core.Logic.{inl, inr, ⊎_elim}
use Rattle.rules.specs.Catalogue.{known}
use Rattle.rules.proofs.Laws.{same?}
use Rattle.class_tables.specs.Built.{cat_of}
use Rattle.class_tables.specs.Computing.{computing_tables}
use Rattle.class_tables.proofs.EveryProduct.{in_its_product}
use Rattle.class_tables.proofs.ClassLaws.{is_known, not_known}
use Rattle.class_tables.proofs.classes.known.Statement.{statement}
use Rattle.class_tables.proofs.classes.known.Tie as tie

returns : tie.Need-returns-in-2
returns c = ⊎_elim (λ e. is_known 2 _ e (unfold computing_tables in refl)) (λ e. is_known 11 _ e (unfold computing_tables in refl))
    c.in-2.is

returns-2 : tie.Need-returns-in-45
returns-2 c =
    let n = c.args.class in
    let it = c.provisioned.ensures in
    same? n 45 (λ e. rw e (in_its_product (λ pr x. x ≡ known (cat_of pr) 45) _ it (unfold computing_tables in (refl, refl, refl)))) (λ e.
    same? n 46 (λ f. rw f (in_its_product (λ pr x. x ≡ known (cat_of pr) 46) _ it (unfold computing_tables in (refl, refl, refl)))) (λ f.
    let g : n ≡ 47 = omega arith in
    rw g (in_its_product (λ pr x. x ≡ known (cat_of pr) 47) _ it (unfold computing_tables in (refl, refl, refl)))))

returns-3 : tie.Need-returns-in_default
returns-3 c = let r = c.in_default.in_default-own.rest in
    sym (not_known _ _ (2 ∷ 11 ∷ 45 ∷ 46 ∷ 47 ∷ [])
    (((((tt, λ e. omega arith), λ e. omega arith), λ e. omega arith), λ e. r.1 (inr e)), λ e. r.1 (inl e)) (unfold computing_tables in refl))

returns-4 : tie.Need-returns-in_default-2
returns-4 c = sym (not_known _ _ (2 ∷ 11 ∷ 45 ∷ 46 ∷ 47 ∷ [])
    (((((tt, λ e. omega arith), λ e. omega arith), λ e. omega arith), λ e. omega arith), λ e. omega arith) (unfold computing_tables in refl))

pub known_spec : {M : Type 1} → statement M
known_spec = tie.close (tie.spec (λ c κs. tt) returns returns-2 returns-3 returns-4)
