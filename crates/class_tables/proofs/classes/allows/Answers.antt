use Prim.Native.Nat.{ℕ}
use mathlib.Core.Path.{◌≡◌, refl, ap}
use mathlib.Core.Bool.{Bool, ◌&&◌, ◌||◌}
use mathlib.Core.Logic.{inl, inr, ⊎_elim}
use mathlib.Core.List.{[], ◌∷◌}
use lib.Dec.{eqb}
use Rattle.rules.specs.Maps.{among}
use Rattle.class_tables.specs.declared.Product.{Product}
use Rattle.class_tables.specs.declared.Product.TheVariants as built
use Rattle.class_tables.specs.Built.{class_for, provisioned}
use Rattle.class_tables.specs.Computing.{computing_tables}
use Rattle.class_tables.proofs.EveryProduct.{in_its_product, none_among}
use Rattle.class_tables.proofs.Matches.{among_1, among_2, among_3, among_4}
use Rattle.class_tables.proofs.classes.allows.Goals as goal

-- what the code asks, of a product that is provisioned if b says so
abbrev set_or_get : Bool → ℕ → Bool
set_or_get b m = (b && eqb m 8) || eqb m 9

abbrev created_set_or_get : Bool → ℕ → Bool
created_set_or_get b m = b && ((eqb m 4 || eqb m 6) || set_or_get b m)

-- a class that can be created where the product is provisioned, and is unknown elsewhere
all_four : (c m : ℕ) {b : Bool} (pr : Product) → b ≡ provisioned pr
    → (4 ∷ 6 ∷ 8 ∷ 9 ∷ [] ≡ (class_for built.Small c).commands) × (4 ∷ 6 ∷ 8 ∷ 9 ∷ [] ≡ (class_for built.Large c).commands) × ([] ≡ (class_for built.Meter c).commands)
    → created_set_or_get b m ≡ among m (class_for pr c).commands
unfolding among
all_four c m pr e h =
    in_its_product (λ pr b. created_set_or_get b m ≡ among m (class_for pr c).commands) pr e
    (among_4 m 4 6 8 9 h.0, among_4 m 4 6 8 9 h.1, ap (among m) h.2)

pub returns-in-2 : goal.returns-in-2
returns-in-2 c =
    let m = c.args.message in
    rw (c.in-2.is, c.is_number_of.ensures, c.is_number_of-2.ensures, c.is_number_of-in-2.ensures)
    (in_its_product (λ pr b. (set_or_get b m || eqb m 15) ≡ among m (class_for pr 2).commands) _ c.provisioned-changes.ensures
    (among_3 m 8 9 15 (unfold computing_tables in refl), among_3 m 8 9 15 (unfold computing_tables in refl), among_2 m 9 15 (unfold computing_tables in refl)))

pub returns-in-11 : goal.returns-in-11
returns-in-11 c =
    let m = c.args.message in
    rw (c.in-11.is, c.is_number_of.ensures, c.is_number_of-2.ensures)
    (in_its_product (λ pr b. set_or_get b m ≡ among m (class_for pr 11).commands) _ c.provisioned-changes.ensures
    (among_2 m 8 9 (unfold computing_tables in refl), among_2 m 8 9 (unfold computing_tables in refl), among_1 m 9 (unfold computing_tables in refl)))

pub returns-in-46 : goal.returns-in-46
returns-in-46 c =
    let m = c.args.message in
    rw (c.in-46.is, c.is_number_of.ensures, c.is_number_of-2.ensures)
    (in_its_product (λ pr b. (b && set_or_get b m) ≡ among m (class_for pr 46).commands) _ c.provisioned-changes.ensures
    (among_2 m 8 9 (unfold computing_tables in refl), among_2 m 8 9 (unfold computing_tables in refl), unfold computing_tables in refl))

pub returns-in-45 : goal.returns-in-45
returns-in-45 c =
    let m = c.args.message in
    rw (c.is_number_of.ensures, c.is_number_of-2.ensures, c.is_number_of-3.ensures, c.is_number_of-4.ensures)
    (⊎_elim
    (λ e. rw e (all_four 45 m _ c.provisioned-changes.ensures (unfold computing_tables in (refl, refl, refl))))
    (λ e. rw e (all_four 47 m _ c.provisioned-changes.ensures (unfold computing_tables in (refl, refl, refl))))
    c.in-45.is)

pub returns-in_default : goal.returns-in_default
returns-in_default c = let r = c.in_default.in_default-own.rest in
    none_among _ _ (45 ∷ 47 ∷ 46 ∷ 11 ∷ 2 ∷ [])
    (((((tt, r.0.0.0.1), r.0.0.1), r.0.1), λ e. r.1 (inr e)), λ e. r.1 (inl e))
    _ (λ k. k.commands) (unfold computing_tables in (refl, refl))
