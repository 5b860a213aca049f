-- The live table and its alarms: their bytes are legal exactly if class 2's and the table's pass, and the alarms' pass.
use Prim.Native.Nat.{ℕ}
use mathlib.Core.Path.{◌≡◌, refl, ◌∙◌, ap}
use mathlib.Core.Bool.{Bool, true}
use mathlib.Core.List.{List, [], ◌∷◌}
use lib.ListN.{length, take, drop}
use lib.Dec.{eqb, leb}
use Rattle.rules.specs.Maps.{◌and◌, Map, has, keys, every, all, among, same, rising}
use Rattle.rules.specs.Bytes.{fill, are_bytes}
use Rattle.rules.specs.Catalogue.{Catalogue, class, is_created, lead, leader, family, key, ont_data}
use Rattle.rules.specs.State.{Entry, Table, class_of, number_of, entry, holds}
use Rattle.rules.specs.Legal.{legal_entry, automatic_keys, legal_table, legal_live, legal_bitmaps}
use Rattle.rules.specs.WellFormed.{WellFormed}
use Rattle.rules.specs.Walks.{frozen}
use Rattle.rules.proofs.Laws.{both, and_true, or_right, bool_eq, eqb_true, same_refl, find_some, has_among, all_among}
use Rattle.rules.proofs.MapLaws.{Each, each_find, find_append, find_kept}
use Rattle.rules.proofs.Lookups.{known_class}
use Rattle.rules.proofs.Standing.{stands, all_imp, automatic_keys_stand, all_self, key_back, stands_leads}
use Rattle.store.specs.Layout.{ont_data_width, slot_count, slots_length, slot_width, table_length, entry_bytes, code_table, code_alarms, fits}
use Rattle.store.specs.Decode.{read_entry, read_slots, read_table, read_live, read_alarms}
use Rattle.store.proofs.Widths.{class_2_fits}
use Rattle.store.proofs.TablesBack.{frozen_live, entry_live}
use Rattle.class_tests.specs.Tests.{family_test}
use Rattle.slot_tests.specs.Tests.{alarms_test}
use Rattle.soundness.specs.Tests.{table_test}
use Rattle.soundness.proofs.TableTested.{keys_of_entry, keys_of_slots, entry_tested, table_tested}
use Rattle.soundness.proofs.AlarmsTested.{bitmaps_tested}

module _ (cat : Catalogue) (wf : WellFormed cat) where
  -- ---- the instances of slots are there, whatever their contents

  -- an entry for each class of its family
  abbrev whole : ℕ → Entry → Type 0
  whole k e = keys e ≡ keys (family cat (class_of k))

  slots_whole : (l b : List ℕ) → Each whole (read_slots cat l b)
  unfolding read_slots
  slots_whole [] b = tt
  slots_whole (k ∷ l) b = (keys_of_entry (family cat (class_of k)) (take slot_width b), slots_whole l (drop slot_width b))

  leads_its_family : (k : ℕ) → stands cat k ≡ true → has (class_of k) (family cat (class_of k)) ≡ true
  unfolding family
  leads_its_family k h =
      let c : ℕ = class_of k in
      rw (find_kept (λ d k. eqb (lead d k.creation) c) c (class cat c) cat.classes (known_class cat c (both h).0)
      (eqb_true (leader cat c) c (stands_leads cat wf k h)))

  module _ (x y : List ℕ) where
    keys_of_live : keys (read_live cat x y).automatic ≡ key ont_data 0 ∷ automatic_keys cat
    unfolding read_live read_table keys
    keys_of_live = rw (keys_of_slots cat wf (automatic_keys cat) (take slots_length (drop 1 y)))

    live_whole : Each whole (read_live cat x y).automatic
    unfolding read_live read_table
    live_whole = (keys_of_entry (family cat ont_data) x, slots_whole (automatic_keys cat) (take slots_length (drop 1 y)))

    held : (k : ℕ) → stands cat k ≡ true → among k (automatic_keys cat) ≡ true → holds cat (read_live cat x y) (class_of k) (number_of k) ≡ true
    unfolding holds entry
    held k h a =
        let t : Table = read_live cat x y in
        let c : ℕ = class_of k in
        let g : among k (key ont_data 0 ∷ automatic_keys cat) ≡ true = unfold among in or_right (eqb k (key ont_data 0)) a in
        let f = find_some k t.automatic (has_among k t.automatic ∙ ap (among k) keys_of_live ∙ g) in
        let w : keys f.0 ≡ keys (family cat c) = each_find whole t.automatic live_whole k f.0 f.1 in
        rw (stands_leads cat wf k h, key_back k, find_append k t.automatic t.created, f.1, has_among c f.0, w, ← has_among c (family cat c)) (leads_its_family k h)

    all_held : all (λ k. holds cat (read_live cat x y) (class_of k) (number_of k)) (automatic_keys cat) ≡ true
    all_held = all_imp (λ k. among k (automatic_keys cat)) (λ k. holds cat (read_live cat x y) (class_of k) (number_of k))
        (λ k a. held k (all_among (stands cat) (automatic_keys cat) (automatic_keys_stand cat wf) k a) a)
        (automatic_keys cat) (all_self (automatic_keys cat))

    -- ---- the live table

    pub live_tested : fits cat ≡ true → length x ≡ ont_data_width → length y ≡ table_length → are_bytes y ≡ true
        → (legal_live cat (read_live cat x y)
        and (same (fill ont_data_width (entry_bytes (entry (key ont_data 0) (read_live cat x y)))) x and same (code_table (frozen (read_live cat x y))) y))
        ≡ (family_test cat (family cat ont_data) x and table_test cat y)
    unfolding read_live legal_table keys same every
    live_tested f lx ly bs =
        let e : ℕ × Entry = (key ont_data 0, read_entry (family cat ont_data) x) in
        let m : Map Entry = (read_table cat y).automatic in
        let c : Map Entry = (read_table cat y).created in
        let s : same (keys m) (automatic_keys cat) ≡ true = unfold read_table in rw (keys_of_slots cat wf (automatic_keys cat) (take slots_length (drop 1 y))) (same_refl (automatic_keys cat)) in
        rw (
          entry_live cat wf f e m c refl,
          frozen_live cat wf f e m c refl s,
          ← entry_tested cat wf (key ont_data 0) ont_data_width x lx (class_2_fits cat f wf),
          ← table_tested cat wf f y ly bs,
          eqb_true (key ont_data 0) (key ont_data 0) refl,
        )
        (sorted
        (same (keys m) (automatic_keys cat)) (rising (keys c)) (every (λ k e. is_created (class cat (class_of k)).creation) c) (leb (length c) cat.places)
        (legal_entry cat (key ont_data 0) e.1) (every (legal_entry cat) m) (every (legal_entry cat) c)
        (same (fill ont_data_width (entry_bytes e.1)) x) (same (code_table (read_table cat y)) y))
      where
        sorted : (k r c n l a b s₁ s₂ : Bool)
            → (((true and k) and (r and (c and (n and ((l and a) and b))))) and (s₁ and s₂)) ≡ ((l and s₁) and ((k and (r and (c and (n and (a and b))))) and s₂))
        sorted k r c n l a b s₁ s₂ = bool_eq _ _
            (λ p. let p₁ = both p in let q = both p₁.0 in let q₂ = both q.1 in let q₃ = both q₂.1 in let q₄ = both q₃.1 in let q₅ = both q₄.1 in
            let v = both q₅.0 in let s = both p₁.1 in
            and_true (and_true v.0 s.0) (and_true (and_true (both q.0).1 (and_true q₂.0 (and_true q₃.0 (and_true q₄.0 (and_true v.1 q₅.1))))) s.1))
            (λ p. let p₁ = both p in let v = both p₁.0 in let w = both p₁.1 in let q = both w.0 in let q₂ = both q.1 in let q₃ = both q₂.1 in let q₄ = both
            q₃.1 in let q₅ =
            both q₄.1 in
            and_true (and_true (and_true refl q.0) (and_true q₂.0 (and_true q₃.0 (and_true q₄.0 (and_true (and_true v.0 q₅.0) q₅.1))))) (and_true v.1 w.1))

    pub live_alarms_tested : fits cat ≡ true → (b : List ℕ) → length b ≡ slot_count → are_bytes b ≡ true
        → (legal_bitmaps cat (holds cat (read_live cat x y)) (read_alarms (automatic_keys cat) b) and same (code_alarms cat (read_alarms (automatic_keys cat) b)) b)
        ≡ alarms_test cat (automatic_keys cat) b
    live_alarms_tested f b len bs = bitmaps_tested cat (holds cat (read_live cat x y)) wf f all_held b len bs
