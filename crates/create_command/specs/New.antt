-- A new instance's bytes, what is bad in a Create, and a live table's bytes with one place more.
use Rattle.std.specs.Prelude.{ℕ, suc, not, Option, Some, None, List, [], ◌∷◌, ◌++◌, drop, replicate}
use Rattle.rules.specs.Maps.{among, those}
use Rattle.rules.specs.Bytes.{byte, laid}
use Rattle.rules.specs.Masks.{total}
use Rattle.rules.specs.Catalogue.{Class, Catalogue, size_of, stored_numbers, carried_numbers}
use Rattle.rules.specs.Commands.{carried_by, not_zero}
use Rattle.store.specs.Layout.{key_length, place_width, in_use_at, place_at}
use Rattle.store.specs.Positions.{inside}
use Rattle.class_tables.specs.Built.{cat_of, class_for}
use Rattle.class_tables.specs.declared.Product.{Product}
use Rattle.table.specs.Spots.{inserted}
use Rattle.table.specs.Counts.{moved_on}
use Rattle.attribute_write.specs.Lays.{laid_values, firsts, leading_class}
use Rattle.attribute_check.specs.Judges.{is_in, bad_among}

-- ---- a new entry's contents

-- the stored attributes that no Create carries
unfoldable pub other_numbers : Class → List ℕ
other_numbers k = those (λ n. not (among n (carried_numbers k))) (stored_numbers k)

-- their first contents laid into a new entry, `own` being the contents of the leading instance
unfoldable pub with_others : Product → ℕ → List ℕ → List ℕ → List ℕ
with_others pr c own b =
    laid_values (class_for pr c) (inside (cat_of pr) c) (firsts (class_for pr c) (leading_class pr c) own (other_numbers (class_for pr c))) b

-- what a Create carries, and zeros
unfoldable pub with_carried : Product → ℕ → List ℕ → List ℕ
with_carried pr c v = laid_values (class_for pr c) 0 (carried_by (class_for pr c) v) (replicate place_width 0)

-- the first contents of the class that comes with it, if one does
abbrev pub with_companion : Product → Option ℕ → List ℕ → List ℕ → List ℕ
with_companion pr None own b = b
with_companion pr (Some d) own b = with_others pr d own b

-- ---- what is bad in a Create

-- of what isn't kept
unfoldable pub unkept_bad : Class → List ℕ → List ℕ
unkept_bad k v = not_zero k.unkept (drop (total (size_of k) (carried_numbers k)) v)

-- all of it, in the bytes of a live table; `r` is the new place
unfoldable pub bad_carried : Catalogue → List ℕ → Class → List ℕ → List ℕ → List ℕ
bad_carried cat live k r v = bad_among (is_in cat live) k r key_length (carried_numbers k) v ++ unkept_bad k v

-- ---- one place more

-- a place put in as the j-th, and the counter moved on
unfoldable pub with_place : ℕ → List ℕ → List ℕ → List ℕ
with_place j r b = moved_on (laid in_use_at (suc (byte b in_use_at) ∷ []) (inserted (place_at j) r b))
