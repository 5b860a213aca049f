-- Where an instance's contents begin in the bytes of a table, there is room for them.
use Prim.Native.Nat.{ℕ, ◌+◌, ◌≤◌, ◌<◌}
use native.Mathlib.Omega.{arith}
use mathlib.Core.Path.{◌≡◌, refl}
use mathlib.Core.Option.{some}
use mathlib.Core.List.{List}
use lib.ListN.{length}
use lib.Dec.{eqb}
use Rattle.rules.specs.Maps.{◌and◌}
use Rattle.rules.specs.Catalogue.{Catalogue, class, is_created, leader, key, ont_data}
use Rattle.rules.specs.Legal.{automatic_keys}
use Rattle.rules.proofs.Laws.{cases}
use Rattle.rules.proofs.MapLaws.{some_eq}
use Rattle.store.specs.Layout.{contents_width, slot_at, place_at, key_length, place_count, slot_count}
use Rattle.class_tables.specs.Built.{cat_of, class_for}
use Rattle.class_tables.proofs.ClassLaws.{inside_fits}
use Rattle.store.specs.Positions.{position, inside}
use Rattle.table.specs.Spots.{spot_among}
use Rattle.table.specs.Places.{InShape, keys_in}
use Rattle.table.proofs.TableLaid.{at_some}
use Rattle.table.proofs.Located.{place_small, slot_small}
use Rattle.class_tables.specs.declared.Product.{Product}

module _ (pr : Product) (b : List ℕ) (h : InShape b) (c i : ℕ) where
  -- all contents of an instance are behind its spot
  pub spot_room : {o : ℕ} → spot_among (cat_of pr) (keys_in b) c i ≡ some o → o + contents_width (class_for pr c) ≤ length b
  unfolding spot_among
  spot_room {o} sp =
      let cat : Catalogue = cat_of pr in
      let k : ℕ = key (leader cat c) i in
      let wide = inside_fits pr c in
      let long = h.long in
      cases (is_created (class cat (leader cat c)).creation)
      (λ cr. at_some (λ j. place_at j + key_length + inside cat c) (position k (keys_in b)) o (rw cr at sp) (λ j p eq.
      let small : j < place_count = place_small b h k p refl in
      omega arith))
      (λ au. cases (eqb c ont_data and eqb i 0)
      (λ e. let z : 0 ≡ o = some_eq (rw (au, e) at sp) in omega arith)
      (λ e. at_some slot_at (position (key c i) (automatic_keys cat)) o (rw (au, e) at sp) (λ j p eq.
      let small : j < slot_count = slot_small pr (key c i) p refl in
      omega arith)))
