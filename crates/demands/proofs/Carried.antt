-- Two conditions of well-formed catalogues, said of one class: the class with whose instances a class's own come leads itself, and is known; and what a Create
-- carries has room in a message.
use Prim.Native.Nat.{ℕ, ◌≤◌}
use native.Mathlib.Omega.{arith}
use mathlib.Core.Path.{◌≡◌, refl}
use mathlib.Core.Bool.{true}
use Rattle.rules.specs.Catalogue.{Creation, created, automatic, comes_with, Catalogue, class, known, attribute, size_of, carried_numbers, leader, lead}
use Rattle.rules.specs.Masks.{total}
use Rattle.rules.specs.WellFormed.{carried_bytes, carries_at_most_32, WellFormed, leader_is_created, comes_with_a_created_one}
use Rattle.rules.proofs.Laws.{leb_le}
use Rattle.rules.proofs.Lookups.{C_supported, supported_known, class_says, leads_itself, created_known}

module _ (cat : Catalogue) (wf : WellFormed cat) where
  -- the class with whose instances a class's own come leads itself, and is known
  pub its_leader : (c : ℕ) → known cat c ≡ true → (leader cat (leader cat c) ≡ leader cat c) × (known cat (leader cat c) ≡ true)
  unfolding comes_with_a_created_one
  its_leader c h = go (class cat c).creation refl (class_says (comes_with_a_created_one cat) cat wf.companions_of_created c h)
    where
      go : (a : Creation) → (class cat c).creation ≡ a → leader_is_created cat a ≡ true → (leader cat (lead c a) ≡ lead c a) × (known cat (lead c a) ≡ true)
      go created e z = (rw e refl, h)
      go (automatic l) e z = (rw e refl, h)
      go (comes_with d) e z = (leads_itself d (class cat d).creation z, created_known cat d z)

  -- the values of a class's set-by-create attributes have room in a message
  pub carried_fits : (c n : ℕ) → (attribute (class cat c) n).C ≡ true → total (size_of (class cat c)) (carried_numbers (class cat c)) ≤ 32
  unfolding carries_at_most_32 carried_bytes
  carried_fits c n e =
      let z = leb_le (carried_bytes (class cat c)) 32 (class_says carries_at_most_32 cat wf.create_fits c (supported_known cat c n (C_supported (class cat c) n e))) in
      omega arith
