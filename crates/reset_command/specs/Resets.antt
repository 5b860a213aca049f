-- What a reset and a power-on write into the slots.
use Rattle.std.specs.Prelude.{ℕ, ◌+◌, Bool, true, false, List, [], ◌∷◌, replicate}
use Rattle.rules.specs.Bytes.{laid}
use Rattle.rules.specs.Legal.{automatic_keys}
use Rattle.rules.specs.Catalogue.{Class, Catalogue, class, stored_numbers, leader}
use Rattle.rules.specs.State.{class_of}
use Rattle.store.specs.Layout.{slot_width, slots_at, places_at, places_length}
use Rattle.class_tables.specs.Masks.{writable_numbers}
use Rattle.attribute_write.specs.Lays.{laid_values, firsts}

-- the attributes whose first contents are written: every stored one, or those that a Set may write
abbrev pub begun : Bool → Class → List ℕ
begun true k = stored_numbers k
begun false k = writable_numbers k

-- first contents laid into an instance's own, which begin at a place; nothing comes with an instance that has a slot
abbrev pub begun_at : Catalogue → Bool → ℕ → ℕ → List ℕ → List ℕ
begun_at cat every c at b = laid_values (class cat c) at (firsts (class cat c) (class cat (leader cat c)) [] (begun every (class cat c))) b

-- and into the slots of the instances with these keys
unfoldable pub slots_begun : Catalogue → Bool → List ℕ → ℕ → List ℕ → List ℕ
slots_begun cat every [] at b = b
slots_begun cat every (k ∷ l) at b = slots_begun cat every l (at + slot_width) (begun_at cat every (class_of k) at b)

-- the live block after a reset: no counter and no place in use, first contents in the slots, nothing in the places
unfoldable pub block_reset : Catalogue → List ℕ → List ℕ
block_reset cat b = laid places_at (replicate places_length 0) (slots_begun cat false (automatic_keys cat) slots_at (laid 0 (0 ∷ 0 ∷ []) b))
