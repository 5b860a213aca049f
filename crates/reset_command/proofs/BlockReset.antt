-- The live block of a table after a reset.
use Prim.Native.Nat.{ℕ, ◌+◌, ◌-◌, ◌*◌, ◌≤◌}
use native.Mathlib.Omega.{arith}
use mathlib.Core.Path.{◌≡◌, refl, sym, ◌∙◌, ap}
use mathlib.Core.Bool.{true, false}
use mathlib.Core.List.{List, [], ◌∷◌, ◌++◌, append_assoc, append-nil}
use lib.ListN.{length, take, drop, replicate, length-append, length-replicate, drop_of_length-le}
use lib.Seq.{take_at}
use Rattle.rules.specs.Maps.{Map, keys, every, each, gather, among, all}
use Rattle.rules.specs.Bytes.{fill, laid}
use Rattle.rules.specs.Catalogue.{Catalogue, key, ont_data}
use Rattle.rules.specs.State.{Entry, Table, with_counter}
use Rattle.rules.specs.Legal.{legal_entry, automatic_keys}
use Rattle.rules.specs.WellFormed.{WellFormed}
use Rattle.rules.specs.Commands.{reset_table}
use Rattle.rules.proofs.Laws.{both, keys_each}
use Rattle.rules.proofs.MapLaws.{length_keys, length_gather}
use Rattle.rules.proofs.Standing.{all_self}
use Rattle.rules.proofs.ByteLaws.{length_fill, fill_keeps}
use Rattle.store.specs.Layout.{ont_data_width, slot_width, slots_length, slots_at, places_at, places_length, entry_bytes, slot, place, live_bytes}
use Rattle.store.proofs.TablesBack.{slot_length}
use Rattle.legality.proofs.Tables.{LegalLive, reset_legal, length_each}
use Rattle.class_tables.specs.Built.{cat_of}
use Rattle.class_tables.proofs.EveryProduct.{well_formed_of}
use Rattle.class_tables.proofs.SlotLaws.{few_slots}
use Rattle.table.proofs.TableLaid.{table_of, in_pieces, Shape, shape_of}
use Rattle.table.proofs.Counted.{counter_written}
use Rattle.reset_command.specs.Resets.{slots_begun, block_reset}
use Rattle.reset_command.proofs.SlotsReset.{reset_entry, reset_entries, slots_reset}
use Rattle.class_tables.specs.declared.Product.{Product}

-- ---- over plain lists

-- the counter's byte and the count, in front of the slots
front_zero : (p rest : List ℕ) (n : ℕ) → length p ≡ ont_data_width → laid 0 (0 ∷ 0 ∷ []) (p ++ (n ∷ rest)) ≡ 0 ∷ 0 ∷ rest
unfolding laid
front_zero [] rest n e = absurd (omega arith)
front_zero (x ∷ []) rest n e = refl
front_zero (x ∷ y ∷ p) rest n e = absurd (omega arith)

first_zero : (p rest : List ℕ) → length p ≡ ont_data_width → laid 0 (0 ∷ []) (p ++ (0 ∷ rest)) ≡ 0 ∷ 0 ∷ rest
unfolding laid
first_zero [] rest e = absurd (omega arith)
first_zero (x ∷ []) rest e = refl
first_zero (x ∷ y ∷ p) rest e = absurd (omega arith)

-- what is laid over the end
over_the_end : (x v y : List ℕ) (at : ℕ) → length x ≡ at → length y ≡ length v → laid at v (x ++ y) ≡ x ++ v
unfolding laid
over_the_end x v y at e f =
    let d : drop (at + length v) (x ++ y) ≡ [] = drop_of_length-le (x ++ y) {i = at + length v} (simp length-append (omega arith)) in
    rw (take_at x y at e, d, append-nil v)

-- ---- the table

module _ (pr : Product) (t : Table) (h : LegalLive (cat_of pr) (well_formed_of pr) t) where
  abbrev cat : Catalogue
  cat = cat_of pr

  abbrev wf : WellFormed cat
  wf = well_formed_of pr

  sh : Shape cat t.automatic
  sh = shape_of cat t.automatic h.automatic_keys

  abbrev first : Entry
  first = sh.first

  abbrev others : Map Entry
  others = sh.rest

  abbrev padding : List ℕ
  padding = take (slots_length - length (gather slot others)) (replicate slots_length 0)

  others_few : length (gather slot others) ≤ slots_length
  others_few =
      let lg = length_gather slot slot_width slot_length others in
      let lk = length_keys others in
      let la = ap length sh.rest_keys in
      let few = few_slots pr in
      omega arith

  others_filled : fill slots_length (gather slot others) ≡ gather slot others ++ padding
  others_filled = fill_keeps slots_length (gather slot others) others_few

  same_length : length (gather slot (reset_entries pr others)) ≡ length (gather slot others)
  same_length =
      length_gather slot slot_width slot_length (reset_entries pr others)
      ∙ ap (λ (n : ℕ). n * slot_width) (length_each (λ k e. reset_entry pr e) others)
      ∙ sym (length_gather slot slot_width slot_length others)

  reset_filled : fill slots_length (gather slot (reset_entries pr others)) ≡ gather slot (reset_entries pr others) ++ padding
  reset_filled =
      let few = others_few in
      let same = same_length in
      fill_keeps slots_length (gather slot (reset_entries pr others)) (omega arith)
      ∙ ap (λ (n : ℕ). gather slot (reset_entries pr others) ++ take (slots_length - n) (replicate slots_length 0)) same_length

  -- the table as bytes, before
  abbrev behind : List ℕ
  behind = fill places_length (gather place t.created)

  before_is : live_bytes t ≡ fill ont_data_width (entry_bytes first) ++ (length t.created ∷ (gather slot others ++ (padding ++ behind)))
  before_is =
      let m : Map Entry = t.created in
      let p : List ℕ = fill ont_data_width (entry_bytes first) in
      let old : t ≡ table_of ((key ont_data 0, first) ∷ others) m = λ d. record { automatic = sh.is d; created = m } in
      ap live_bytes old ∙ in_pieces cat wf first others m sh.rest_keys
      ∙ ap (λ (x : List ℕ). (p ++ (length m ∷ x)) ++ behind) others_filled
      ∙ append_assoc p (length m ∷ (gather slot others ++ padding)) behind
      ∙ ap (λ (x : List ℕ). p ++ (length m ∷ x)) (append_assoc (gather slot others) padding behind)

  -- and after, before the counter is set
  after_is : live_bytes (reset_table cat t) ≡ fill ont_data_width (entry_bytes (reset_entry pr first)) ++ (0 ∷ (gather slot (reset_entries pr others) ++ (padding ++ replicate places_length 0)))
  unfolding reset_table each gather
  after_is =
      let p : List ℕ = fill ont_data_width (entry_bytes (reset_entry pr first)) in
      let a : Map Entry = reset_entries pr others in
      let new : reset_table cat t ≡ table_of ((key ont_data 0, reset_entry pr first) ∷ a) [] =
      λ d. record { automatic = reset_entries pr (sh.is d); created = [] } in
      ap live_bytes new ∙ in_pieces cat wf (reset_entry pr first) a [] (keys_each (λ k e. reset_entry pr e) others ∙ sh.rest_keys)
      ∙ ap (λ (x : List ℕ). (p ++ (0 ∷ x)) ++ fill places_length []) reset_filled
      ∙ append_assoc p (0 ∷ (gather slot a ++ padding)) (fill places_length [])
      ∙ ap (λ (x : List ℕ). p ++ (0 ∷ x)) (append_assoc (gather slot a) padding (fill places_length []))

  abbrev after_reset : Table
  after_reset = with_counter cat 0 (reset_table cat t)

  counter_laid : live_bytes after_reset ≡ laid 0 (0 ∷ []) (live_bytes (reset_table cat t))
  counter_laid = counter_written pr (reset_table cat t) (reset_legal cat wf t h) 0

  rest_legal : every (legal_entry cat) others ≡ true
  unfolding every
  rest_legal = (both (rw sh.is at h.automatic_legal)).1

  abbrev zeros : List ℕ
  zeros = replicate places_length 0

  -- the counter and the count, then the slots, then the places
  count_zero : laid 0 (0 ∷ 0 ∷ []) (live_bytes t) ≡ (0 ∷ 0 ∷ []) ++ (gather slot others ++ (padding ++ behind))
  count_zero =
      let p : List ℕ = fill ont_data_width (entry_bytes first) in
      ap (laid 0 (0 ∷ 0 ∷ [])) before_is
      ∙ front_zero p (gather slot others ++ (padding ++ behind)) (length t.created) (length_fill ont_data_width (entry_bytes first))

  slots_first : slots_begun cat false (automatic_keys cat) slots_at ((0 ∷ 0 ∷ []) ++ (gather slot others ++ (padding ++ behind)))
      ≡ ((0 ∷ 0 ∷ []) ++ (gather slot (reset_entries pr others) ++ padding)) ++ behind
  slots_first =
      let a : List ℕ = gather slot (reset_entries pr others) in
      let in_slots : all (λ k. among k (automatic_keys cat)) (keys others) ≡ true = rw sh.rest_keys (all_self (automatic_keys cat)) in
      rw sh.rest_keys at (slots_reset pr others (0 ∷ 0 ∷ []) (padding ++ behind) in_slots rest_legal)
      ∙ ap (λ (b : List ℕ). 0 ∷ 0 ∷ b) (sym (append_assoc a padding behind))

  places_zero : laid places_at zeros (((0 ∷ 0 ∷ []) ++ (gather slot (reset_entries pr others) ++ padding)) ++ behind)
      ≡ 0 ∷ 0 ∷ (gather slot (reset_entries pr others) ++ (padding ++ zeros))
  places_zero =
      let a : List ℕ = gather slot (reset_entries pr others) in
      let lp : length (a ++ padding) ≡ slots_length = ap length (sym reset_filled) ∙ length_fill slots_length a in
      over_the_end ((0 ∷ 0 ∷ []) ++ (a ++ padding)) zeros behind places_at (omega arith)
      (length_fill places_length (gather place t.created) ∙ sym (length-replicate {A = ℕ} places_length 0))
      ∙ ap (λ (b : List ℕ). 0 ∷ 0 ∷ b) (append_assoc a padding zeros)

  after_reset_is : live_bytes after_reset ≡ 0 ∷ 0 ∷ (gather slot (reset_entries pr others) ++ (padding ++ zeros))
  after_reset_is =
      let p : List ℕ = fill ont_data_width (entry_bytes (reset_entry pr first)) in
      counter_laid ∙ ap (laid 0 (0 ∷ [])) after_is
      ∙ first_zero p (gather slot (reset_entries pr others) ++ (padding ++ zeros)) (length_fill ont_data_width (entry_bytes (reset_entry pr first)))

  pub block_law : block_reset cat (live_bytes t) ≡ live_bytes after_reset
  unfolding block_reset
  block_law =
      ap (λ (b : List ℕ). laid places_at zeros (slots_begun cat false (automatic_keys cat) slots_at b)) count_zero
      ∙ ap (laid places_at zeros) slots_first ∙ places_zero ∙ sym after_reset_is
