-- A run of calls on a store in memory: each call is lent the store's first bytes, so many as its input says (all, if there are fewer), and a
-- reply buffer of the size that its input says. The buffer holds zeros here; what it held changes nothing
-- (`RunsOnBytes.what_the_buffer_held_changes_nothing`).
use Rattle.std.specs.Prelude.{ℕ, List, [], ◌∷◌, ◌++◌, take, drop, replicate}
use Rattle.rules.specs.Reports.{Outcome}
use Rattle.rules.specs.Run.{Input}
use Rattle.rules.specs.Products.{Products}
use Rattle.store.specs.Entries.{Left, enter}

unfoldable pub lend : Products → Input → List ℕ → Left
lend products p store = enter products p.call (take p.store_room store) (replicate p.reply_room 0)

-- what isn't lent stays
unfoldable pub memory_after : Products → Input → List ℕ → List ℕ
memory_after products p store = (lend products p store).store ++ drop p.store_room store

unfoldable pub outcomes : Products → List ℕ → List Input → List Outcome
outcomes products store [] = []
outcomes products store (p ∷ l) = (lend products p store).outcome ∷ outcomes products (memory_after products p store) l

unfoldable pub memory_after_all : Products → List ℕ → List Input → List ℕ
memory_after_all products store [] = store
memory_after_all products store (p ∷ l) = memory_after_all products (memory_after products p store) l
