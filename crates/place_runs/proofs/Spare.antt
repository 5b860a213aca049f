-- What is gathered over the run of ports: the bytes of their places that are zero in every product.
use Rattle.std.proofs.Common.{◌≡◌, ℕ, ◌+◌, ◌-◌, Bool, List, length, drop, replicate, refl, drop-drop}
use Rattle.rules.specs.Maps.{◌and◌, all}
use Rattle.rules.specs.Bytes.{all_zero}
use Rattle.store.specs.Layout.{key_length, place_width}
use Rattle.bulk_octets.specs.Gathered.{gathered}
use Rattle.bulk_octets.proofs.Gathering.{zeros_gathered}
use Rattle.class_tables.specs.declared.Product.{Product}
use Rattle.class_tables.specs.Built.{cat_of}
use Rattle.class_tests.specs.Tests.{entry_test, front_test, port_front}
use Rattle.class_tests.proofs.Entries.{port_parts}
use Rattle.std.specs.Prelude.{Option}
use Rattle.place_runs.proofs.Turns.{zeroed}

abbrev pub spare_length : ℕ
spare_length = place_width - port_front

-- nothing at first
pub nothing_gathered : (r : Option ℕ) → zeroed (all_zero (replicate spare_length 0)) r ≡ r
unfolding all_zero all ◌and◌
nothing_gathered r = refl

-- a port's test, and the zeros behind what it reads
pub port_tested : (pr : Product) (x : List ℕ) (f : Bool) → f ≡ front_test (cat_of pr) 47 port_front x → length x ≡ place_width
    → entry_test (cat_of pr) 47 x ≡ (f and all_zero (drop port_front x))
port_tested pr x f e l = rw e (port_parts pr x l)

-- one more place
pub more_gathered : (s t r x y : List ℕ) → t ≡ gathered s y → length s ≡ length y → x ≡ drop key_length r → y ≡ drop (key_length + port_front) r
    → (all_zero s and all_zero (drop port_front x)) ≡ all_zero t
more_gathered s t r x y e l p q = rw (e, zeros_gathered s y l, p, q, drop-drop port_front key_length r) refl
