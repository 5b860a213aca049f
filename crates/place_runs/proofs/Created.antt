-- The classes that can be created, in any product, in the order of their runs.
use Rattle.std.proofs.Common.{◌≡◌, ℕ, Bool, true, not, List, [], ◌∷◌, refl, arith}
use Rattle.rules.specs.Maps.{◌or◌, among}
use Rattle.rules.specs.Bytes.{are_bytes}
use Rattle.rules.specs.Catalogue.{Class, Catalogue, is_created, no_class}
use Rattle.rules.proofs.Laws.{or_cases, or_left, not-true, true_false}
use Rattle.rules.proofs.Lookups.{unknown_class}
use Rattle.class_tables.specs.declared.Product.{Product}
use Rattle.class_tables.specs.Built.{cat_of, class_for}
use Rattle.class_tables.specs.Computing.{computing_tables}
use Rattle.class_tables.proofs.EveryProduct.{elsewhere}
use Rattle.place_runs.specs.Tests.{places_test}
use Rattle.place_runs.proofs.Places.{in_runs, tested_in_runs}

abbrev pub classes_in_order : List ℕ
classes_in_order = 45 ∷ 47 ∷ []

listed : Catalogue → ℕ → Class → Bool
listed cat c k = not (is_created k.creation) or among c classes_in_order

created_listed : (pr : Product) (c : ℕ) → is_created (class_for pr c).creation ≡ true → among c classes_in_order ≡ true
unfolding listed
created_listed pr c t =
    or_cases (elsewhere listed pr c [] tt (unfold computing_tables listed in refl) (λ f. rw (unknown_class (cat_of pr) c f) (or_left (among c classes_in_order) (unfold no_class in refl))))
    (λ f. true_false t (not-true f))
    (λ f. f)

pub places_in_runs : (pr : Product) (b : List ℕ) (bs : are_bytes b ≡ true) (n : ℕ) → places_test (cat_of pr) n 0 b ≡ in_runs (cat_of pr) b bs n classes_in_order 0
places_in_runs pr b bs n = tested_in_runs (cat_of pr) b bs n classes_in_order (omega arith, (omega arith, tt)) (created_listed pr)
