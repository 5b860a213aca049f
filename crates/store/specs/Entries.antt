-- What a call does to the bytes that are lent to it: its outcome, the store and the reply buffer, for every input.
use Rattle.std.specs.Prelude.{ℕ, cond, List, ◌++◌, length, drop, ltb}
use Rattle.std.proofs.Math.Option.{Option, none, some}
use Rattle.rules.specs.Maps.{given, find}
use Rattle.rules.specs.State.{State}
use Rattle.rules.specs.Reports.{Outcome, dropped, quiet, answered}
use Rattle.rules.specs.Run.{Call, store_length, reply_length, taken, fresh, computing_rules}
use Rattle.rules.specs.Products.{Products, computing_products}
use Rattle.store.specs.Layout.{encode, computing_layout}
use Rattle.store.specs.Decode.{Held, decode, computing_decode}

-- what a call leaves
pub record Left : Type 0 where
  pub outcome : Outcome
  pub store : List ℕ
  pub buffer : List ℕ

-- a state over a store's first bytes; those past the length stay
unfoldable pub written : Held → State → List ℕ → List ℕ
written h s store = encode h.product h.catalogue s ++ drop store_length store

-- a drop leaves store and buffer as they were; quiet leaves the buffer; an answer fills the buffer's first 48 bytes only
unfoldable pub leave : Held → List ℕ → List ℕ → State → Outcome → Left
leave h store buffer s (dropped n) = record { outcome = dropped n; store = store; buffer = buffer }
leave h store buffer s quiet = record { outcome = quiet; store = written h s store; buffer = buffer }
leave h store buffer s (answered r) = record { outcome = answered r; store = written h s store; buffer = r ++ drop reply_length buffer }

unfoldable pub refuse : List ℕ → List ℕ → ℕ → Left
refuse store buffer n = record { outcome = dropped n; store = store; buffer = buffer }

-- drop 1, drop 2, then what the call does to the state
unfoldable pub enter : Products → Call → List ℕ → List ℕ → Left
enter products c store buffer =
    cond (ltb (length buffer) reply_length) (refuse store buffer 1)
    (given (decode products store) (refuse store buffer 2)
    (λ h. let r : State × Outcome = taken h.catalogue h.state c in leave h store buffer r.0 r.1))

-- the drop of a power-on, or none, and the store that it leaves
unfoldable pub power_on : Products → ℕ → List ℕ → Option ℕ × List ℕ
power_on products p store =
    cond (ltb (length store) store_length) (some 2, store)
    (given (find p products) (some 12, store) (λ cat. (none, encode p cat (fresh cat) ++ drop store_length store)))

-- everything computes where this name is unfolded
unfoldable pub computing_store : ℕ
unfolding computing_rules computing_products computing_layout computing_decode written leave refuse enter power_on
computing_store = 0
