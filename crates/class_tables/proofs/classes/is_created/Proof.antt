use mathlib.Core.Path.{◌≡◌, refl}
use mathlib.Core.Logic.{inl, inr, ⊎_elim}
use mathlib.Core.List.{[], ◌∷◌}
use Rattle.rules.specs.Catalogue.{is_created}
use Rattle.class_tables.specs.Built.{class_for}
use Rattle.class_tables.specs.Computing.{computing_tables}
use Rattle.class_tables.proofs.EveryProduct.{in_its_product, otherwise_false}
use Rattle.class_tables.proofs.classes.is_created.Statement.{statement}
use Rattle.class_tables.proofs.classes.is_created.Tie as tie

returns : tie.Need-returns-in-45
returns c = ⊎_elim
    (λ e. rw e (in_its_product (λ pr x. x ≡ is_created (class_for pr 45).creation) _ c.provisioned.ensures (unfold computing_tables in (refl, refl, refl))))
    (λ e. rw e (in_its_product (λ pr x. x ≡ is_created (class_for pr 47).creation) _ c.provisioned.ensures (unfold computing_tables in (refl, refl, refl))))
    c.in-45.is

returns-2 : tie.Need-returns-in_default
returns-2 c = otherwise_false _ _ (45 ∷ 47 ∷ []) ((tt, λ e. c.in_default.in_default-own.rest.1 (inr e)), λ e. c.in_default.in_default-own.rest.1 (inl e)) (λ k. is_created k.creation) (unfold computing_tables in (refl, refl))

pub is_created_spec : {M : Type 1} → statement M
is_created_spec = tie.close (tie.spec (λ c κs. tt) returns returns-2)
