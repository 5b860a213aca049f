-- How many sections an upload can have, in any catalogue: each instance is cut as its class is, and there are no more
-- entries than automatic ones and places.
use Prim.Native.Nat.{ℕ, ◌+◌, ◌*◌, ◌≤◌}
use native.Mathlib.Omega.{arith}
use native.Mathlib.Nat.{mul-add, mul-le-mul_right}
use mathlib.Core.Path.{◌≡◌, ap}
use mathlib.Core.Bool.{true}
use mathlib.Core.List.{List, [], ◌∷◌, map}
use lib.ListN.{length, length-append, length-map}
use lib.Dec.{eqb, leb}
use Rattle.rules.specs.Maps.{Map, keys, keep, gather}
use Rattle.rules.specs.Catalogue.{Class, Catalogue, lead}
use Rattle.rules.specs.State.{Entry, Table, class_of, number_of, entries}
use Rattle.rules.specs.Legal.{automatic_keys, legal_table, legal_frozen}
use Rattle.rules.specs.Walks.{Section, sections_of, instances_of, sections}
use Rattle.rules.proofs.Laws.{both, leb_le, same_eq}
use Rattle.rules.proofs.MapLaws.{length_keys, length_keep, length_gather}

-- ---- sections

-- how many sections an instance of each class would have together
unfoldable pub sections_of_each : Map Class → ℕ
sections_of_each [] = 0
sections_of_each (e ∷ m) = length (sections_of e.1) + sections_of_each m

pub instances_are_entries : (c : ℕ) (k : Class) (t : Table) → length (instances_of c k t) ≤ length (entries t)
unfolding instances_of
instances_are_entries c k t =
    let m : Map Entry = keep (λ j e. eqb (class_of j) (lead c k.creation)) (entries t) in
    rw (length-map (keys m) number_of, length_keys m) (length_keep _ (entries t))

-- the sections of some classes
abbrev sections_in : Table → Map Class → List Section
sections_in t m =
    gather (λ e. gather (λ i. map (λ l. record { of_class = e.0; of_instance = i; shows = l }) (sections_of e.1)) (instances_of e.0 e.1 t)) m

pub sections_by_entries : (t : Table) (m : Map Class) → length (sections_in t m) ≤ length (entries t) * sections_of_each m
unfolding gather sections_of_each
sections_by_entries t [] = omega arith
sections_by_entries t (e ∷ m) =
    let of : ℕ → List Section = λ i. map (λ l. record { of_class = e.0; of_instance = i; shows = l }) (sections_of e.1) in
    let is : List ℕ = instances_of e.0 e.1 t in
    let n : ℕ = length (sections_of e.1) in
    let n_each : (i : ℕ) → length (of i) ≡ n = λ i. length-map (sections_of e.1) (λ l. record { of_class = e.0; of_instance = i; shows = l }) in
    let h : length (gather of is) ≡ length is * n = length_gather of n n_each is in
    let g : length is * n ≤ length (entries t) * n = mul-le-mul_right n (instances_are_entries e.0 e.1 t) in
    let f = sections_by_entries t m in
    rw (length-append (gather of is) (sections_in t m), mul-add (length (entries t)) n (sections_of_each m)) (omega arith)

-- ---- legal tables

pub frozen_entries : (cat : Catalogue) (t : Table) → legal_frozen cat t ≡ true → length (entries t) ≤ length (automatic_keys cat) + cat.places
unfolding legal_table
frozen_entries cat t h =
    let a : length (keys t.automatic) ≡ length (automatic_keys cat) = ap length (same_eq (keys t.automatic) (automatic_keys cat) (both h).0) in
    let c : length t.created ≤ cat.places = leb_le (length t.created) cat.places (both (both (both (both h).1).1).1).0 in
    let k = length_keys t.automatic in
    rw (length-append t.automatic t.created) (omega arith)

abbrev pub most_sections : Catalogue → ℕ
most_sections cat = (length (automatic_keys cat) + cat.places) * sections_of_each cat.classes

pub uploads_at_most : (cat : Catalogue) (t : Table) → legal_frozen cat t ≡ true → length (sections cat t) ≤ most_sections cat
unfolding sections
uploads_at_most cat t h =
    let f = sections_by_entries t cat.classes in
    let g : length (entries t) * sections_of_each cat.classes ≤ most_sections cat = mul-le-mul_right (sections_of_each cat.classes) (frozen_entries cat t h) in
    omega arith

pub short_uploads : (cat : Catalogue) → leb (most_sections cat) 65535 ≡ true → (t : Table) → legal_frozen cat t ≡ true → length (sections cat t) ≤ 65535
short_uploads cat e t h = let f = uploads_at_most cat t h in let g = leb_le (most_sections cat) 65535 e in omega arith
