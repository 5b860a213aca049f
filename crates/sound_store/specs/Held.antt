-- What a sound store holds, for the code.
use Rattle.std.specs.Prelude.{ℕ, ◌≤◌, ◌≡◌, true, List, ◌++◌, length, take, drop}
use Rattle.rules.specs.Bytes.{fill}
use Rattle.rules.specs.State.{State}
use Rattle.rules.specs.Legal.{legal_state}
use Rattle.rules.specs.Messages.{Answer}
use Rattle.rules.specs.Run.{store_length}
use Rattle.store.specs.Layout.{encode}
use Rattle.store.specs.Decode.{read_state}
use Rattle.class_tables.specs.Built.{cat_of, product_of}
use Rattle.class_tables.specs.declared.Product.{Product}

-- the state that a store's first bytes are read as
unfoldable pub state_in : Product → List ℕ → State
state_in pr b = read_state (cat_of pr) (take store_length b)

-- a store of this product: its first bytes are the encoding of a legal state
pub record Sound (pr : Product) (b : List ℕ) : Type 0 where
  pub long : store_length ≤ length b
  pub legal : legal_state (cat_of pr) (state_in pr b) ≡ true
  pub is : take store_length b ≡ encode (product_of pr) (cat_of pr) (state_in pr b)

-- a state over a store's first bytes; those past the length stay
unfoldable pub stored : Product → State → List ℕ → List ℕ
stored pr s b = encode (product_of pr) (cat_of pr) s ++ drop store_length b

-- what answering a command leaves: the store, and the reply's 32 bytes of contents
pub record Leaves (pr : Product) (a : Answer) (before after contents : List ℕ) : Type 0 where
  pub store : after ≡ stored pr a.0 before
  pub reply : contents ≡ fill 32 a.1
