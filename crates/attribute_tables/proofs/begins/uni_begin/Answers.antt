use mathlib.Core.Path.{refl}
use mathlib.Core.List.{[], ◌∷◌}
use Rattle.class_tables.specs.Computing.{computing_tables}
use Rattle.class_tables.specs.Describes.{offset_of}
use Rattle.class_tables.proofs.EveryProduct.{by_its_product}
use Rattle.attribute_tables.proofs.ArmLaws.{answer_there, answer_otherwise}
use Rattle.attribute_tables.proofs.BeginLaws.{its_begin}
use Rattle.attribute_tables.proofs.begins.uni_begin.Goals as goal

pub returns-in-2 : goal.returns-in-2
returns-in-2 c = answer_there its_begin 11 2 _ refl c.in-2.is c.requires (unfold computing_tables in refl)

pub returns-in-3 : goal.returns-in-3
returns-in-3 c = answer_there its_begin 11 3 _ refl c.in-3.is c.requires (unfold computing_tables in refl)

pub returns-in-4 : goal.returns-in-4
returns-in-4 c = answer_there its_begin 11 4 _ refl c.in-4.is c.requires (unfold computing_tables in refl)

pub returns-in-5 : goal.returns-in-5
returns-in-5 c = rw c.in-5.is (by_its_product (λ k. offset_of k 5) 11 _ refl c.by.ensures (unfold computing_tables in (refl, refl, refl)))

pub returns-in-6 : goal.returns-in-6
returns-in-6 c = rw c.in-6.is (by_its_product (λ k. offset_of k 6) 11 _ refl c.by-in-6.ensures (unfold computing_tables in (refl, refl, refl)))

pub returns-in-7 : goal.returns-in-7
returns-in-7 c = answer_there its_begin 11 7 _ refl c.in-7.is c.requires (unfold computing_tables in refl)

pub returns-in-8 : goal.returns-in-8
returns-in-8 c = answer_there its_begin 11 8 _ refl c.in-8.is c.requires (unfold computing_tables in refl)

pub returns-in-9 : goal.returns-in-9
returns-in-9 c = answer_there its_begin 11 9 _ refl c.in-9.is c.requires (unfold computing_tables in refl)

pub returns-in-10 : goal.returns-in-10
returns-in-10 c = answer_there its_begin 11 10 _ refl c.in-10.is c.requires (unfold computing_tables in refl)

pub returns-in-11 : goal.returns-in-11
returns-in-11 c = answer_there its_begin 11 11 _ refl c.in-11.is c.requires (unfold computing_tables in refl)

pub returns-in-12 : goal.returns-in-12
returns-in-12 c = answer_there its_begin 11 12 _ refl c.in-12.is c.requires (unfold computing_tables in refl)

pub returns-in-13 : goal.returns-in-13
returns-in-13 c = answer_there its_begin 11 13 _ refl c.in-13.is c.requires (unfold computing_tables in refl)

pub returns-in_default : goal.returns-in_default
returns-in_default c =
    answer_otherwise its_begin 11 (13 ∷ 12 ∷ 11 ∷ 10 ∷ 9 ∷ 8 ∷ 7 ∷ 6 ∷ 5 ∷ 4 ∷ 3 ∷ 2 ∷ []) _ _ refl c.in_default.in_default-own.rest c.requires
    (unfold computing_tables in refl)
