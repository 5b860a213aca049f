-- Where a stored attribute's content begins, as what a table of the code is asked.
use Prim.Native.Nat.{ℕ}
use mathlib.Core.Path.{◌≡◌}
use mathlib.Core.Bool.{true}
use lib.Dec.{eqb}
use Rattle.rules.specs.Catalogue.{attribute, supported, is_stored, stored_numbers}
use Rattle.rules.proofs.Laws.{eqb_eq}
use Rattle.class_tables.specs.Describes.{offset_of}
use Rattle.class_tables.proofs.Offsets.{is_among_stored}
use Rattle.attribute_tables.proofs.ArmLaws.{Question}

abbrev pub its_begin : Question ℕ
its_begin = record {
  Asked = λ k n. (supported k n ≡ true) × (is_stored (attribute k n).source ≡ true);
  numbers = stored_numbers;
  is_number = λ k n s. is_among_stored k n s.0 s.1;
  answer = offset_of;
  is = eqb;
  same_if = eqb_eq;
}
