-- The parts of a sound store, and what the store is when one part of its state changes.
use Prim.Native.Nat.{ℕ, ◌+◌}
use mathlib.Core.Path.{◌≡◌, refl, sym, ◌∙◌, ap}
use mathlib.Core.Bool.{true}
use mathlib.Core.Option.{none, some}
use mathlib.Core.List.{List, [], ◌∷◌, ◌++◌}
use lib.ListN.{take, drop, replicate, take-append-drop}
use lib.Seq.{take_at}
use Rattle.rules.specs.Maps.{Map}
use Rattle.rules.specs.Bytes.{laid, fill}
use Rattle.rules.specs.State.{Table, Alarms, State, with_table, with_alarms, with_alarm_number, with_upload, with_walk}
use Rattle.rules.specs.Legal.{legal_state, legal_live}
use Rattle.rules.specs.Run.{store_length}
use Rattle.rules.proofs.Laws.{both}
use Rattle.store.specs.Layout.{slot_count, table_length, memory_length, code_table, code_alarms, code_memory, code_optional, encode, live_bytes, block_length, alarm_number_at}
use Rattle.store.specs.Layout.{memory_at, alarms_at, walk_at, live_at, upload_at, table_at}
use Rattle.store.specs.Decode.{read_state}
use Rattle.store.proofs.Parts.{Remembers, legal_remembers}
use Rattle.store.proofs.StateBack.{read_back}
use Rattle.store.proofs.Soundness.{legal_length}
use Rattle.legality.proofs.Tables.{LegalLive, open_table}
use Rattle.rules.proofs.Standing.{standing}
use Rattle.class_tables.specs.Built.{cat_of, product_of}
use Rattle.class_tables.proofs.EveryProduct.{well_formed_of, fits_of}
use Rattle.table.specs.Places.{InShape}
use Rattle.octets.proofs.Parted.{part}
use Rattle.table.proofs.PlaceKeys.{live_in_shape}
use Rattle.store.proofs.StateLaid as laid_over
use Rattle.table.specs.Live.{Holding}
use Rattle.sound_store.specs.Held.{state_in, Sound, stored, Leaves}
use Rattle.class_tables.specs.declared.Product.{Product}
use Rattle.rules.specs.Walks.{frozen}
use Rattle.rules.specs.Messages.{Answer}

module _ (pr : Product) (b : List ℕ) (h : Sound pr b) where
  abbrev pub now : State
  now = state_in pr b

  abbrev pub rest : List ℕ
  rest = drop store_length b

  pub remembers : Remembers now
  remembers = legal_remembers (cat_of pr) now h.legal

  -- the store is the state's encoding, and what follows it
  pub in_parts : b ≡ encode (product_of pr) (cat_of pr) now ++ rest
  in_parts = sym (take-append-drop store_length b) ∙ ap (λ (x : List ℕ). x ++ rest) h.is

  pub as_stored : b ≡ stored pr now b
  unfolding stored
  as_stored = in_parts

  -- ---- the live table

  pub live_legal : legal_live (cat_of pr) now.table ≡ true
  unfolding legal_state
  live_legal = (both h.legal).0

  pub live_opened : LegalLive (cat_of pr) (well_formed_of pr) now.table
  live_opened = open_table (cat_of pr) (well_formed_of pr) (standing (cat_of pr) (well_formed_of pr)) now.table live_legal

  pub live_is : part live_at block_length b ≡ live_bytes now.table
  live_is = ap (part live_at block_length) in_parts ∙ laid_over.live_part (product_of pr) (cat_of pr) now remembers rest

  pub live_held : Holding (cat_of pr) (part live_at block_length b) now.table
  live_held = record { legal = live_legal; is = live_is }

  pub live_shaped : InShape (part live_at block_length b)
  live_shaped = rw live_is (live_in_shape (cat_of pr) (well_formed_of pr) (fits_of pr) now.table live_opened)

  pub live_changed : (t : Table) → stored pr (with_table t now) b ≡ laid live_at (live_bytes t) b
  unfolding stored
  live_changed t = laid_over.live_laid (product_of pr) (cat_of pr) now remembers rest t ∙ ap (laid live_at (live_bytes t)) (sym in_parts)

  -- ---- the other parts: read

  pub memory_is : part memory_at (1 + memory_length) b ≡ code_optional memory_length code_memory now.remembered
  memory_is = ap (part memory_at (1 + memory_length)) in_parts ∙ laid_over.memory_part (product_of pr) (cat_of pr) now remembers rest

  pub alarms_are : part alarms_at slot_count b ≡ code_alarms (cat_of pr) now.alarms
  alarms_are = ap (part alarms_at slot_count) in_parts ∙ laid_over.alarms_part (product_of pr) (cat_of pr) now remembers rest

  pub walk_is : part walk_at (1 + slot_count) b ≡ code_optional slot_count (code_alarms (cat_of pr)) now.walk
  walk_is = ap (part walk_at (1 + slot_count)) in_parts ∙ laid_over.walk_part (product_of pr) (cat_of pr) now remembers rest

  pub upload_is : part upload_at block_length b ≡ code_optional table_length code_table now.upload
  upload_is = ap (part upload_at block_length) in_parts ∙ laid_over.upload_part (product_of pr) (cat_of pr) now remembers rest

  -- the live table without class 2
  pub table_is : part table_at table_length b ≡ code_table (frozen now.table)
  table_is = ap (part table_at table_length) in_parts ∙ laid_over.table_part (product_of pr) (cat_of pr) now remembers rest

  -- ---- the other parts: changed

  pub number_changed : (n : ℕ) → stored pr (with_alarm_number n now) b ≡ laid alarm_number_at (n ∷ []) b
  unfolding stored
  number_changed n = laid_over.number_laid (product_of pr) (cat_of pr) now remembers rest n ∙ ap (laid alarm_number_at (n ∷ [])) (sym in_parts)

  pub alarms_changed : (m : Map Alarms) → stored pr (with_alarms m now) b ≡ laid alarms_at (code_alarms (cat_of pr) m) b
  unfolding stored
  alarms_changed m = laid_over.alarms_laid (product_of pr) (cat_of pr) now remembers rest m ∙ ap (laid alarms_at (code_alarms (cat_of pr) m)) (sym in_parts)

  pub upload_changed : (u : Table) → stored pr (with_upload (some u) now) b ≡ laid upload_at (1 ∷ code_table u) b
  unfolding stored
  upload_changed u = laid_over.upload_laid (product_of pr) (cat_of pr) now remembers rest u ∙ ap (laid upload_at (1 ∷ code_table u)) (sym in_parts)

  pub upload_ended : stored pr (with_upload none now) b ≡ laid upload_at (0 ∷ replicate table_length 0) b
  unfolding stored
  upload_ended = laid_over.no_upload_laid (product_of pr) (cat_of pr) now remembers rest ∙ ap (laid upload_at (0 ∷ replicate table_length 0)) (sym in_parts)

  pub walk_ended : stored pr (with_walk none now) b ≡ laid walk_at (0 ∷ replicate slot_count 0) b
  unfolding stored
  walk_ended = laid_over.no_walk_laid (product_of pr) (cat_of pr) now remembers rest ∙ ap (laid walk_at (0 ∷ replicate slot_count 0)) (sym in_parts)

-- ---- an answer that changes nothing

-- the state as it was, and these contents
pub only_says : (pr : Product) (b : List ℕ) → Sound pr b → (a : Answer) (out : List ℕ) → a.0 ≡ state_in pr b → out ≡ fill 32 a.1 → Leaves pr a b b out
only_says pr b h a out e f = record { store = as_stored pr b h ∙ ap (λ s. stored pr s b) (sym e); reply = f }

-- a refusal changes nothing, and its bytes are the reply's first
pub told : (pr : Product) (b : List ℕ) → Sound pr b → (r : List ℕ) → Leaves pr (state_in pr b, r) b b (fill 32 r)
told pr b h r = only_says pr b h (state_in pr b, r) (fill 32 r) refl refl

-- ---- a store after a change is sound, and holds the new state

module _ (pr : Product) (b : List ℕ) (s : State) (g : legal_state (cat_of pr) s ≡ true) where
  front : take store_length (stored pr s b) ≡ encode (product_of pr) (cat_of pr) s
  unfolding stored
  front = take_at (encode (product_of pr) (cat_of pr) s) (drop store_length b) store_length (legal_length (product_of pr) (cat_of pr) s g)

  pub state_after : state_in pr (stored pr s b) ≡ s
  unfolding state_in
  state_after = ap (read_state (cat_of pr)) front ∙ read_back (product_of pr) (cat_of pr) s (well_formed_of pr) (fits_of pr) g
