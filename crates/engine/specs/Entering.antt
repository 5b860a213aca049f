-- What every call finds first.
use Rattle.std.specs.Prelude.{ℕ, ◌≤◌, ◌≡◌, Bool, not, List, [], ◌∷◌, ltb, Result, Ok, Err}
use Rattle.std.proofs.Math.Option.{some}
use Rattle.rules.specs.Maps.{first_that_applies}
use Rattle.rules.specs.Products.{built_products}
use Rattle.rules.specs.Run.{reply_length}
use Rattle.store.specs.Decode.{Held, decode, sound}
use Rattle.class_tables.specs.Built.{cat_of, product_of}
use Rattle.class_tables.specs.declared.Product.{Product}
use Rattle.sound_store.specs.Held.{state_in, Sound}
use Rattle.message_frame.specs.Drops.{drop_number}
use Rattle.message_frame.specs.declared.drops.DropReason.{DropReason}

-- the drops that every call tries first: a reply buffer of so much room; a store
abbrev pub first_drops : ℕ → List ℕ → List (Bool × ℕ)
first_drops room store = (ltb room reply_length, 1) ∷ (not (sound built_products store), 2) ∷ []

abbrev held : Product → List ℕ → Held
held pr b = record { product = product_of pr; catalogue = cat_of pr; state = state_in pr b }

-- a sound store of this product
pub record Opened (pr : Product) (b : List ℕ) : Type 0 where
  pub its_sound : Sound pr b
  pub its_state : decode built_products b ≡ some (held pr b)

-- r is what a call finds first
pub record Enters (room : ℕ) (b : List ℕ) (r : Result Product DropReason) : Type 0 where
  pub dropped : (reason : DropReason) → r ≡ Err reason → first_that_applies (first_drops room b) ≡ some (drop_number reason)
  pub has_room : (pr : Product) → r ≡ Ok pr → reply_length ≤ room
  pub opened : (pr : Product) → r ≡ Ok pr → Opened pr b
