-- The slots of the products: which instance has which.
use Prim.Native.Nat.{ℕ, ◌≤◌, ◌<◌}
use native.Mathlib.Omega.{arith}
use mathlib.Core.Path.{◌≡◌, ap}
use mathlib.Core.Bool.{Bool, true, false}
use mathlib.Core.Option.{Option, none, some}
use mathlib.Core.List.{List, [], ◌∷◌}
use lib.ListN.{length, get_or}
use lib.Dec.{eqb, ltb}
use Rattle.rules.specs.Maps.{among, all}
use Rattle.rules.specs.Catalogue.{key}
use Rattle.rules.specs.Legal.{automatic_keys}
use Rattle.rules.specs.WellFormed.{implies}
use Rattle.rules.proofs.Laws.{never, eqb_eq, lt-ltb}
use Rattle.rules.proofs.Lookups.{implied}
use Rattle.std.specs.Prelude.{Some, None}
use Rattle.std.specs.declared.option.Option as code
use Rattle.class_tables.specs.declared.Product.{Product}
use Rattle.class_tables.specs.declared.Product.TheVariants as built
use Rattle.class_tables.specs.Built.{cat_of, by_product}
use Rattle.class_tables.specs.Finding.{found_of}
use Rattle.store.specs.Layout.{slot_count}
use Rattle.store.specs.Positions.{position}
use Rattle.store.proofs.Widths.{slots_are_enough}
use Rattle.class_tables.proofs.Matches.{Avoids, not_there}
use Rattle.class_tables.proofs.EveryProduct.{fits_of, in_its_product, Passed, in_each}
use Rattle.store.proofs.Positions.{not_placed}

-- a position is this one
abbrev is_at : ℕ → Option ℕ → Bool
is_at j none = false
is_at j (some i) = eqb j i

at_it : (j : ℕ) (o : Option ℕ) → is_at j o ≡ true → some j ≡ o
at_it j none h = never h
at_it j (some i) h = ap some (eqb_eq j i h)

-- an instance that has no slot
pub no_slot : (listed : List ℕ) (pr : Product) (k : ℕ) → Avoids k listed → Passed (λ cat. all (λ j. among j listed) (automatic_keys cat))
    → none ≡ position k (automatic_keys (cat_of pr))
no_slot listed pr k a h =
    not_placed k (automatic_keys (cat_of pr)) (not_there k listed (automatic_keys (cat_of pr)) a (in_each (λ cat. all (λ j. among j listed) (automatic_keys cat)) h pr))

-- one that has the same slot in every product
pub same_slot : (c n : ℕ) {j m : ℕ} (pr : Product) → m ≡ n → Passed (λ cat. is_at j (position (key c n) (automatic_keys cat)))
    → some j ≡ position (key c m) (automatic_keys (cat_of pr))
same_slot c n {j} pr e h =
    rw e (at_it j (position (key c n) (automatic_keys (cat_of pr))) (in_each (λ cat. is_at j (position (key c n) (automatic_keys cat))) h pr))

-- one that has a slot in Large alone
pub large_slot : (c n j : ℕ) {m : ℕ} {r : code.Option ℕ} (pr : Product) → m ≡ n → r ≡ by_product pr None (Some j) None
    → (none ≡ position (key c n) (automatic_keys (cat_of built.Small)))
    × (some j ≡ position (key c n) (automatic_keys (cat_of built.Large)))
    × (none ≡ position (key c n) (automatic_keys (cat_of built.Meter)))
    → found_of r ≡ position (key c m) (automatic_keys (cat_of pr))
large_slot c n j pr e g h = rw e (in_its_product (λ pr r. found_of r ≡ position (key c n) (automatic_keys (cat_of pr))) pr g h)

pub few_slots : (pr : Product) → length (automatic_keys (cat_of pr)) ≤ slot_count
few_slots pr = slots_are_enough (cat_of pr) (fits_of pr)

-- the key of a slot, in each product that has it
pub slot_key : (i : ℕ) {j k : ℕ} (pr : Product) → j ≡ i → j < length (automatic_keys (cat_of pr))
    → Passed (λ cat. implies (ltb i (length (automatic_keys cat))) (eqb k (get_or (automatic_keys cat) i 0))) → k ≡ get_or (automatic_keys (cat_of pr)) j 0
slot_key i {j} {k} pr e h g =
    let there : ltb i (length (automatic_keys (cat_of pr))) ≡ true = lt-ltb i (length (automatic_keys (cat_of pr))) (rw e at h) in
    rw e (eqb_eq k (get_or (automatic_keys (cat_of pr)) i 0)
    (implied (in_each (λ cat. implies (ltb i (length (automatic_keys cat))) (eqb k (get_or (automatic_keys cat) i 0))) g pr) there))

pub last_slot : (pr : Product) (j : ℕ) → Avoids j (2 ∷ 1 ∷ 0 ∷ []) → j < length (automatic_keys (cat_of pr)) → j ≡ 3
last_slot pr j a h =
    let f = few_slots pr in
    let x = a.1 in
    let y = a.0.1 in
    let z = a.0.0.1 in
    omega arith
