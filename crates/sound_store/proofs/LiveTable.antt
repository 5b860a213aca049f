-- The live table in a sound store: its keys, which instance is there, and the store when other bytes are given back for it.
use Prim.Native.Nat.{ℕ, ◌+◌, ◌<◌}
use mathlib.Core.Path.{◌≡◌, sym, ◌∙◌, ap}
use mathlib.Core.Bool.{true}
use mathlib.Core.List.{List}
use lib.ListN.{length}
use Rattle.rules.specs.Maps.{is_some, keys}
use Rattle.rules.specs.Catalogue.{is_created, leader, family, key}
use Rattle.rules.specs.State.{Table, holds, with_table}
use Rattle.rules.proofs.Lookups.{leads_itself}
use Rattle.class_tables.specs.Built.{cat_of, class_for}
use Rattle.store.specs.Positions.{position, before}
use Rattle.table.specs.Spots.{spot_among, spot}
use Rattle.store.specs.Layout.{place_at, live_at, block_length, live_bytes, key_length}
use Rattle.table.specs.Places.{keys_in}
use Rattle.table.specs.Live.{Holding}
use Rattle.table.proofs.HeldAt.{there_is_held, moved_is_some}
use Rattle.class_tables.specs.declared.Product.{Product}
use Rattle.sound_store.specs.Held.{stored, Sound, state_in}
use Rattle.legality.proofs.Tables.{LegalLive}
use Rattle.rules.specs.Bytes.{byte}
use Rattle.octets.proofs.Parted.{part}
use Rattle.class_tables.proofs.EveryProduct.{well_formed_of, fits_of}
use Rattle.sound_store.proofs.Held.{live_is, live_opened, live_changed}
use borrow.Rule.Slice.PartMut.{put_mid}
use Rattle.table.proofs.PlaceKeys.{live_count, live_keys, live_in_shape}
use Rattle.octets.proofs.Laid.{laid_part}

-- a live table lent and given back with other bytes
pub live_given_back : (pr : Product) (b : List ℕ) (h : Sound pr b) (t : Table) → LegalLive (cat_of pr) (well_formed_of pr) t
    → put_mid live_at block_length b (live_bytes t) ≡ stored pr (with_table t (state_in pr b)) b
live_given_back pr b h t legal =
    laid_part live_at block_length (live_bytes t) b (live_in_shape (cat_of pr) (well_formed_of pr) (fits_of pr) t legal).long ∙ sym (live_changed pr b h t)

-- the keys of the places in use, and how many they are
module _ (pr : Product) (b : List ℕ) (h : Sound pr b) where
  pub created_keys : keys_in (part live_at block_length b) ≡ keys (state_in pr b).table.created
  created_keys = ap keys_in (live_is pr b h) ∙ live_keys (cat_of pr) (well_formed_of pr) (fits_of pr) (state_in pr b).table (live_opened pr b h)

  -- where an instance's contents begin in the table is where they begin in its bytes
  pub its_spot : (c i : ℕ) → spot (cat_of pr) (state_in pr b).table c i ≡ spot_among (cat_of pr) (keys_in (part live_at block_length b)) c i
  its_spot c i = ap (λ (made : List ℕ). spot_among (cat_of pr) made c i) (sym created_keys)

  pub created_count : byte (part live_at block_length b) 1 ≡ length (state_in pr b).table.created
  created_count = ap (λ (x : List ℕ). byte x 1) (live_is pr b h) ∙ live_count (cat_of pr) (well_formed_of pr) (fits_of pr) (state_in pr b).table (live_opened pr b h)

module _ (pr : Product) (b : List ℕ) (t : Table) (q : Holding (cat_of pr) b t) (c i : ℕ) (lt : i < 65536) (cr : is_created (class_for pr c).creation ≡ true) where
  pub made_held : holds (cat_of pr) t c i ≡ is_some (position (key c i) (keys_in b))
  unfolding spot_among
  made_held =
      let leads : leader (cat_of pr) c ≡ c = leads_itself c (class_for pr c).creation cr in
      let e : is_some (spot_among (cat_of pr) (keys_in b) c i) ≡ is_some (position (key c i) (keys_in b)) =
      rw (leads, cr) (moved_is_some (λ j. place_at j + key_length + before (family (cat_of pr) c) c) (position (key c i) (keys_in b))) in
      sym (there_is_held pr b t q c i lt) ∙ e
