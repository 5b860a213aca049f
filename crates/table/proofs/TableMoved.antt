-- An entry put in among the created ones, or taken out: the table's bytes.
use Prim.Native.Nat.{ℕ, suc, ◌+◌, ◌*◌, ◌-◌, ◌≤◌, ◌<◌}
use native.Mathlib.Omega.{arith}
use mathlib.Core.Path.{◌≡◌, refl, sym, ◌∙◌, ap}
use mathlib.Core.Bool.{true, false}
use mathlib.Core.Option.{some}
use mathlib.Core.List.{List, [], ◌∷◌, ◌++◌, append_assoc}
use lib.ListN.{length, take, drop, replicate, length-append}
use lib.Seq.{take-append-add, drop-append-add}
use lib.Dec.{ltb}
use Rattle.rules.specs.Maps.{Map, keys, put, remove, among, gather}
use Rattle.rules.specs.Bytes.{fill, laid}
use Rattle.rules.specs.Catalogue.{Catalogue}
use Rattle.rules.specs.State.{Entry, Table}
use Rattle.rules.specs.Commands.{with_created}
use Rattle.rules.specs.WellFormed.{WellFormed}
use Rattle.rules.proofs.Laws.{cases}
use Rattle.rules.proofs.MapLaws.{rising_up, length_keys, length_gather}
use Rattle.rules.proofs.ByteLaws.{length_fill}
use Rattle.store.specs.Layout.{ont_data_width, slots_length, place_length, places_length, entry_bytes, slot, place, fits, live_bytes, place_at, places_at}
use Rattle.store.proofs.Widths.{places_are_enough}
use Rattle.store.proofs.TablesBack.{place_has_its_length}
use Rattle.legality.proofs.Tables.{LegalLive}
use Rattle.store.specs.Positions.{position}
use Rattle.table.specs.Spots.{rank, inserted, removed}
use Rattle.octets.proofs.Laid.{laid_behind, laid_before}
use Rattle.store.proofs.Positions.{stands_at}
use Rattle.table.proofs.BlocksMoved.{put_blocks, remove_blocks, fill_insert, fill_remove}
use Rattle.table.proofs.TableLaid.{table_of, pieces, in_pieces, front_length, Shape, shape_of}

-- ---- behind a front

pub inserted_behind : (f r b : List ℕ) (n q : ℕ) → length f ≡ n → q ≤ length b → inserted (n + q) r (f ++ b) ≡ f ++ inserted q r b
unfolding inserted
inserted_behind f r b n q e h =
    let len : length (f ++ b) - (length f + q) - length r ≡ length b - q - length r = rw (length-append f b) (omega arith) in
    rw (← e, take-append-add f b q, drop-append-add f b q, len) (append_assoc f (take q b) (r ++ take (length b - q - length r) (drop q b)))

pub removed_behind : (f b : List ℕ) (m n q : ℕ) → length f ≡ n → removed (n + q) m (f ++ b) ≡ f ++ removed q m b
unfolding removed
removed_behind f b m n q e = rw (← e, take-append-add f b q, drop-append-add f b q) (append_assoc f (take q b) (drop m (drop q b) ++ replicate m 0))

inserted_is : (q n w : ℕ) (r b : List ℕ) → length b ≡ n → length r ≡ w → take q b ++ (r ++ take (n - q - w) (drop q b)) ≡ inserted q r b
unfolding inserted
inserted_is q n w r b lb lr = rw (lb, lr)

removed_is : (q w : ℕ) (b : List ℕ) → removed q w b ≡ take q b ++ (drop w (drop q b) ++ replicate w 0)
unfolding removed
removed_is q w b = refl

pub rank_fits : (k : ℕ) (l : List ℕ) → rank k l ≤ length l
unfolding rank
rank_fits k [] = omega arith
rank_fits k (x ∷ l) = let h = rank_fits k l in cases (ltb k x) (λ t. rw t (omega arith)) (λ t. rw t (omega arith))

-- the count in front of the slots
recount : (e : Entry) (a m : Map Entry) (n : ℕ) (b : List ℕ)
    → laid 1 (n ∷ []) ((fill ont_data_width (entry_bytes e) ++ (length m ∷ fill slots_length (gather slot a))) ++ b)
    ≡ (fill ont_data_width (entry_bytes e) ++ (n ∷ fill slots_length (gather slot a))) ++ b
unfolding laid
recount e a m n b =
    let x : List ℕ = fill ont_data_width (entry_bytes e) in
    let s : List ℕ = fill slots_length (gather slot a) in
    let lx : length x ≡ 1 = length_fill ont_data_width (entry_bytes e) in
    let z : length x + 0 ≡ 1 = omega arith in
    let one : laid 0 (n ∷ []) (length m ∷ s) ≡ n ∷ s = refl in
    let in_front : laid 1 (n ∷ []) (x ++ (length m ∷ s)) ≡ x ++ (n ∷ s) =
    ap (λ (k : ℕ). laid k (n ∷ []) (x ++ (length m ∷ s))) (sym z) ∙ sym (laid_behind x (n ∷ []) (length m ∷ s) 0) ∙ ap (λ (y : List ℕ). x ++ y) one in
    sym (laid_before (n ∷ []) (x ++ (length m ∷ s)) b 1 (rw (front_length e a m) (omega arith))) ∙ ap (λ (y : List ℕ). y ++ b) in_front

module _ (cat : Catalogue) (wf : WellFormed cat) (ft : fits cat ≡ true) (t : Table) (h : LegalLive cat wf t) where
  old_pieces : (sh : Shape cat t.automatic) → live_bytes t ≡ pieces sh.first sh.rest t.created
  old_pieces sh = ap live_bytes (λ d. table_of (sh.is d) t.created) ∙ in_pieces cat wf sh.first sh.rest t.created sh.rest_keys

  new_pieces : (sh : Shape cat t.automatic) (m : Map Entry) → live_bytes (with_created m t) ≡ pieces sh.first sh.rest m
  unfolding with_created
  new_pieces sh m = ap live_bytes (λ d. table_of (sh.is d) m) ∙ in_pieces cat wf sh.first sh.rest m sh.rest_keys

  pub put_moved : (k : ℕ) (e : Entry) → among k (keys t.created) ≡ false → length t.created < cat.places → length (put k e t.created) ≡ suc (length t.created)
      → live_bytes (with_created (put k e t.created) t)
      ≡ laid 1 (suc (length t.created) ∷ []) (inserted (place_at (rank k (keys t.created))) (place (k, e)) (live_bytes t))
  put_moved k e absent room grown =
      let m : Map Entry = t.created in
      let sh : Shape cat t.automatic = shape_of cat t.automatic h.automatic_keys in
      let g : List ℕ = gather place m in
      let q : ℕ = place_length * rank k (keys m) in
      let lg : length g ≡ length m * place_length = length_gather place place_length place_has_its_length m in
      let lp : length (place (k, e)) ≡ place_length = place_has_its_length (k, e) in
      let few = places_are_enough cat ft in
      let rk = rank_fits k (keys m) in
      let lk = length_keys m in
      let f : List ℕ = fill ont_data_width (entry_bytes sh.first) ++ (length m ∷ fill slots_length (gather slot sh.rest)) in
      let lf : length f ≡ places_at = front_length sh.first sh.rest m in
      let lfill : length (fill places_length g) ≡ places_length = length_fill places_length g in
      let placed : fill places_length (gather place (put k e m)) ≡ inserted q (place (k, e)) (fill places_length g) =
      ap (λ (b : List ℕ). fill places_length b) (put_blocks place place_length place_has_its_length k e m absent)
      ∙ fill_insert places_length q place_length (place (k, e)) g lp (omega arith) (omega arith)
      ∙ inserted_is q places_length place_length (place (k, e)) (fill places_length g) lfill lp in
      new_pieces sh (put k e m)
      ∙ rw (grown, placed) (
      sym (
      ap (λ (b : List ℕ). laid 1 (suc (length m) ∷ []) (inserted (place_at (rank k (keys m))) (place (k, e)) b)) (old_pieces sh)
      ∙ ap (λ (b : List ℕ). laid 1 (suc (length m) ∷ []) b) (inserted_behind f (place (k, e)) (fill places_length g) (places_at) q lf (omega arith))
      ∙ recount sh.first sh.rest m (suc (length m)) (inserted q (place (k, e)) (fill places_length g))
      )
      )

  pub remove_moved : (k j : ℕ) → position k (keys t.created) ≡ some j → suc (length (remove k t.created)) ≡ length t.created
      → live_bytes (with_created (remove k t.created) t)
      ≡ laid 1 (length (remove k t.created) ∷ []) (removed (place_at j) place_length (live_bytes t))
  remove_moved k j p shrunk =
      let m : Map Entry = t.created in
      let sh : Shape cat t.automatic = shape_of cat t.automatic h.automatic_keys in
      let g : List ℕ = gather place m in
      let q : ℕ = place_length * j in
      let lg : length g ≡ length m * place_length = length_gather place place_length place_has_its_length m in
      let few = places_are_enough cat ft in
      let places = h.in_places in
      let small = (stands_at k j (keys m) p).0 in
      let lk = length_keys m in
      let n : ℕ = length (remove k m) in
      let f : List ℕ = fill ont_data_width (entry_bytes sh.first) ++ (length m ∷ fill slots_length (gather slot sh.rest)) in
      let lf : length f ≡ places_at = front_length sh.first sh.rest m in
      let placed : fill places_length (gather place (remove k m)) ≡ removed q place_length (fill places_length g) =
      ap (λ (b : List ℕ). fill places_length b) (remove_blocks place place_length place_has_its_length k j 0 m (rising_up (keys m) h.rise) p)
      ∙ fill_remove places_length q place_length g (omega arith) (omega arith)
      ∙ sym (removed_is q place_length (fill places_length g)) in
      new_pieces sh (remove k m)
      ∙ rw placed (
      sym (
      ap (λ (b : List ℕ). laid 1 (n ∷ []) (removed (place_at j) place_length b)) (old_pieces sh)
      ∙ ap (λ (b : List ℕ). laid 1 (n ∷ []) b) (removed_behind f (fill places_length g) place_length (places_at) q lf)
      ∙ recount sh.first sh.rest m n (removed q place_length (fill places_length g))
      )
      )
