-- What a well formed catalogue says of an attribute that isn't stored: where it is read, there is a stored one.
use Prim.Native.Nat.{ℕ}
use mathlib.Core.Path.{◌≡◌}
use mathlib.Core.Bool.{true}
use Rattle.rules.specs.Maps.{among}
use Rattle.rules.specs.Catalogue.{of_creator, count_of, Catalogue, class, attribute, supported, size_of, is_stored, stored_numbers, is_created, leader}
use Rattle.rules.specs.WellFormed.{WellFormed, is_companion, readable_from, read_in_one_of_two_ways}
use Rattle.rules.proofs.Laws.{both, eqb_eq}
use Rattle.rules.proofs.Lookups.{attribute_says}
use Rattle.class_tables.proofs.Offsets.{is_among_stored}

-- attribute n of class c is read as attribute a of its creator
pub record FromCreator (cat : Catalogue) (c n a : ℕ) : Type 0 where
  pub comes_along : is_companion (class cat c).creation ≡ true
  pub there : supported (class cat (leader cat c)) a ≡ true
  pub kept : is_stored (attribute (class cat (leader cat c)) a).source ≡ true
  pub among_kept : among a (stored_numbers (class cat (leader cat c))) ≡ true
  pub alike : size_of (class cat (leader cat c)) a ≡ size_of (class cat c) n

-- it is read as the number of instances of class d that name its own in attribute a
pub record Counts (cat : Catalogue) (c n d a : ℕ) : Type 0 where
  pub made : is_created (class cat d).creation ≡ true
  pub there : supported (class cat d) a ≡ true
  pub kept : is_stored (attribute (class cat d) a).source ≡ true
  pub among_kept : among a (stored_numbers (class cat d)) ≡ true
  pub two_bytes : size_of (class cat d) a ≡ 2

module _ (cat : Catalogue) (wf : WellFormed cat) (c n : ℕ) (t : supported (class cat c) n ≡ true) where
  says : readable_from cat c (size_of (class cat c) n) (attribute (class cat c) n).source ≡ true
  unfolding read_in_one_of_two_ways
  says = attribute_says (read_in_one_of_two_ways cat) cat wf.unstored_is_readable c n t

  pub from_creator : (a : ℕ) → (attribute (class cat c) n).source ≡ of_creator a → FromCreator cat c n a
  unfolding readable_from
  from_creator a e =
      let h = both (rw e at says) in
      let g = both h.1 in
      let f = both g.1 in
      record {
        comes_along = h.0;
        there = g.0;
        kept = f.0;
        among_kept = is_among_stored (class cat (leader cat c)) a g.0 f.0;
        alike = eqb_eq (size_of (class cat (leader cat c)) a) (size_of (class cat c) n) f.1;
      }

  pub counts : (d a : ℕ) → (attribute (class cat c) n).source ≡ count_of d a → Counts cat c n d a
  unfolding readable_from
  counts d a e =
      let h = both (rw e at says) in
      let g = both h.1 in
      let f = both g.1 in
      let z = both f.1 in
      record {
        made = h.0;
        there = g.0;
        kept = f.0;
        among_kept = is_among_stored (class cat d) a g.0 f.0;
        two_bytes = eqb_eq (size_of (class cat d) a) 2 z.0;
      }
