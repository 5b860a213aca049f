-- The live block of a power-on: first contents in the slots of zeros.
use Prim.Native.Nat.{ℕ, ◌+◌, ◌-◌, ◌*◌, ◌≤◌}
use native.Mathlib.Omega.{arith}
use mathlib.Core.Path.{◌≡◌, refl, sym, ◌∙◌, ap}
use mathlib.Core.Bool.{true, false}
use mathlib.Core.List.{List, [], ◌∷◌, ◌++◌, map, append-nil, append_assoc}
use lib.ListN.{length, replicate, length-replicate, replicate-append-replicate, take}
use Rattle.rules.specs.Maps.{Map, keys, each, gather, among, all}
use Rattle.rules.specs.Bytes.{fill}
use Rattle.rules.specs.Catalogue.{Class, Catalogue, is_created, leader, ont_data, stored_numbers}
use Rattle.rules.specs.State.{Contents, Entry, class_of, content}
use Rattle.rules.specs.Legal.{legal_contents, automatic_keys}
use Rattle.rules.specs.WellFormed.{WellFormed}
use Rattle.rules.specs.Commands.{first_content, new_contents, new_entry}
use Rattle.rules.specs.Run.{fresh_table}
use Rattle.rules.proofs.Laws.{true_false, both}
use Rattle.rules.proofs.MapLaws.{Each, length_keys, length_gather}
use Rattle.rules.proofs.ByteLaws.{take_zeros, fill_is, fill_nothing}
use Rattle.rules.proofs.Standing.{all_self, class_2_known}
use Rattle.store.specs.Layout.{ont_data_width, slot_width, slots_length, places_length, block_length, slots_at, contents_bytes, entry_bytes, slot, live_bytes, contents_width}
use Rattle.store.proofs.TablesBack.{slot_length}
use Rattle.legality.proofs.Contents.{close_contents}
use Rattle.legality.proofs.NewContents.{CarriedIsLegal, content_of_new, legal_new}
use Rattle.legality.proofs.ResetContents.{nothing_carried}
use Rattle.legality.proofs.Tables.{keys_map}
use Rattle.class_tables.specs.declared.Product.{Product}
use Rattle.class_tables.specs.Built.{cat_of, class_for}
use Rattle.class_tables.proofs.ClassLaws.{stored_there, counter_stored, counter_size, counter_first}
use Rattle.class_tables.proofs.EveryProduct.{well_formed_of}
use Rattle.class_tables.proofs.Offsets.{content_is_at}
use Rattle.class_tables.proofs.SlotLaws.{few_slots}
use Rattle.table.proofs.TableLaid.{in_pieces}
use Rattle.attribute_write.proofs.Overwritten.{contents_over_zeros}
use Rattle.reset_command.specs.Resets.{begun_at, slots_begun}
use Rattle.reset_command.proofs.SlotClasses.{begun_rises, all_of_its_family, SlotClass, slot_class}
use Rattle.reset_command.proofs.FirstContents.{keys_firsts, new_are_firsts}
use Rattle.reset_command.proofs.SlotsBegun.{first_ones, first_ones_sized, slot_filled, SlotBegun, slots_turned}
use Rattle.attribute_write.specs.Lays.{leading_class}
use native.Mathlib.Nat.{suc-mul}

-- ---- zeros

pub fill_zeros : (n m : ℕ) → fill n (replicate m 0) ≡ replicate n 0
fill_zeros n m =
    ap (λ (x : List ℕ). take n x) (replicate-append-replicate m n 0) ∙ take_zeros n (m + n) (omega arith)

gather_zeros : {A : Type 0} (n : ℕ) (m : Map A) → gather (λ e. replicate {A = ℕ} n 0) m ≡ replicate (length m * n) 0
unfolding gather
gather_zeros n [] = ap (λ (k : ℕ). replicate {A = ℕ} k 0) (let z : 0 ≡ 0 * n = omega arith in z)
gather_zeros n (e ∷ m) =
    ap (λ (x : List ℕ). replicate n 0 ++ x) (gather_zeros n m) ∙ replicate-append-replicate n (length m * n) 0
    ∙ ap (λ (k : ℕ). replicate {A = ℕ} k 0) (let z : n + length m * n ≡ length (e ∷ m) * n = rw suc-mul (omega arith) in z)

zeros_in_three : (n s p : ℕ) → n ≤ s → replicate n 0 ++ (replicate (s - n) 0 ++ replicate p 0) ≡ replicate {A = ℕ} (s + p) 0
zeros_in_three n s p h =
    let sum : n + (s - n + p) ≡ s + p = omega arith in
    ap (λ (x : List ℕ). replicate n 0 ++ x) (replicate-append-replicate (s - n) p 0)
    ∙ replicate-append-replicate n (s - n + p) 0 ∙ ap (λ (k : ℕ). replicate {A = ℕ} k 0) sum

module _ (pr : Product) where
  abbrev cat : Catalogue
  cat = cat_of pr

  abbrev wf : WellFormed cat
  wf = well_formed_of pr

  -- ---- class 2: the counter, which begins at 0

  counter_entry : Entry
  counter_entry = new_entry cat ont_data []

  counter_begins_at_0 : fill ont_data_width (entry_bytes counter_entry) ≡ 0 ∷ []
  unfolding counter_entry new_entry entry_bytes gather each first_content
  counter_begins_at_0 =
      let k : Class = class_for pr ont_data in
      let r : Contents = new_contents [] k in
      let leads : leader cat ont_data ≡ ont_data = rw wf.class_2_has_instance_0_alone refl in
      let made : is_created (class_for pr ont_data).creation ≡ false = rw wf.class_2_has_instance_0_alone refl in
      let stays : is_created (class_for pr (leader cat ont_data)).creation ≡ false = rw leads made in
      let none_carried : CarriedIsLegal cat (leader cat ont_data) [] = λ n e. true_false e (rw leads (nothing_carried cat wf ont_data stays n)) in
      let legal : legal_contents cat k r ≡ true = close_contents cat k r (legal_new cat wf ont_data (class_2_known cat wf) [] none_carried) in
      let there = stored_there pr ont_data 1 (counter_stored pr) in
      let starts : content 1 r ≡ 0 ∷ [] =
      rw (content_of_new (class_for pr ont_data) [] 1 there.0 there.1, wf.class_2_has_the_counter.not_C, wf.class_2_has_the_counter.starts_at_0) refl in
      rw (all_of_its_family cat wf ont_data (class_2_known cat wf) leads made, append-nil (contents_bytes r))
      (rw (counter_size pr, counter_first pr) at (content_is_at k 1 cat r (replicate ont_data_width 0) legal (counter_stored pr)) ∙ starts)

  -- ---- a slot

  slot_fresh : (k : ℕ) → among k (automatic_keys cat) ≡ true → slot (k, new_entry cat (class_of k) []) ≡ begun_at cat true (class_of k) 0 (replicate slot_width 0)
  unfolding slot new_entry entry_bytes gather each
  slot_fresh k h =
      let c : ℕ = class_of k in
      let s : SlotClass pr c = slot_class pr k h in
      let v : List ℕ = contents_bytes (new_contents [] (class_for pr c)) in
      let zeros : List ℕ = replicate (contents_width (class_for pr c)) 0 in
      let over : v ≡ begun_at cat true c 0 zeros =
      ap contents_bytes (new_are_firsts pr c s.stays)
      ∙ sym (contents_over_zeros (class_for pr c) (first_ones pr true c) (begun_rises pr c true)
      (keys_firsts (class_for pr c) (leading_class pr c) [] (stored_numbers (class_for pr c))) (first_ones_sized pr true c s).are_sized) in
      rw (s.its_family, append-nil v)
      (slot_filled pr true c zeros v s (length-replicate {A = ℕ} (contents_width (class_for pr c)) 0) over
      ∙ ap (begun_at cat true c 0) (fill_zeros slot_width (contents_width (class_for pr c))))

  -- ---- the slots

  abbrev entries_of : List ℕ → Map Entry
  entries_of l = map (λ k. (k, new_entry cat (class_of k) [])) l

  each_fresh : (l : List ℕ) → all (λ k. among k (automatic_keys cat)) l ≡ true
      → Each (λ k e. SlotBegun pr true k (replicate slot_width 0) (slot (k, e))) (entries_of l)
  unfolding all
  each_fresh [] h = tt
  each_fresh (k ∷ l) h = (
    record { has_slot = (both h).0; old_length = length-replicate {A = ℕ} slot_width 0; new_is = slot_fresh k (both h).0 },
    each_fresh l (both h).1,
  )

  abbrev entries : Map Entry
  entries = entries_of (automatic_keys cat)

  its_keys : keys entries ≡ automatic_keys cat
  its_keys = keys_map cat wf (λ k. new_entry cat (class_of k) []) (automatic_keys cat)

  entries_fit : length entries * slot_width ≤ slots_length
  entries_fit =
      let few = few_slots pr in
      let lk = ap length its_keys in
      let le = length_keys entries in
      omega arith

  slots_long : length (gather slot entries) ≡ length entries * slot_width
  slots_long = length_gather slot slot_width slot_length entries

  -- what is behind the slots that are used
  abbrev left : List ℕ
  left = replicate (slots_length - length entries * slot_width) 0 ++ replicate places_length 0

  before_is : replicate block_length 0 ≡ (0 ∷ 0 ∷ []) ++ (gather (λ e. replicate {A = ℕ} slot_width 0) entries ++ left)
  before_is = sym (ap (λ (x : List ℕ). 0 ∷ 0 ∷ x)
      (ap (λ (x : List ℕ). x ++ left) (gather_zeros slot_width entries) ∙ zeros_in_three (length entries * slot_width) slots_length places_length entries_fit))

  slots_filled : fill slots_length (gather slot entries) ≡ gather slot entries ++ replicate (slots_length - length entries * slot_width) 0
  slots_filled =
      let fit = entries_fit in
      let long = slots_long in
      fill_is slots_length (gather slot entries) (omega arith) ∙ ap (λ (k : ℕ). gather slot entries ++ replicate (slots_length - k) 0) long

  after_is : live_bytes (fresh_table cat) ≡ (0 ∷ 0 ∷ []) ++ (gather slot entries ++ left)
  unfolding fresh_table counter_entry gather
  after_is =
      let zeros : List ℕ = replicate places_length 0 in
      let g : List ℕ = gather slot entries in
      let q : List ℕ = replicate (slots_length - length entries * slot_width) 0 in
      let pieces_are : live_bytes (fresh_table cat) ≡ (fill ont_data_width (entry_bytes counter_entry) ++ (0 ∷ fill slots_length g)) ++ fill places_length [] =
      in_pieces cat wf counter_entry entries [] its_keys in
      let front : fill ont_data_width (entry_bytes counter_entry) ++ (0 ∷ fill slots_length g) ≡ 0 ∷ 0 ∷ (g ++ q) =
      ap (λ (x : List ℕ). x ++ (0 ∷ fill slots_length g)) counter_begins_at_0 ∙ ap (λ (x : List ℕ). 0 ∷ 0 ∷ x) slots_filled in
      pieces_are ∙ ap (λ (x : List ℕ). x ++ fill places_length []) front ∙ ap (λ (x : List ℕ). (0 ∷ 0 ∷ (g ++ q)) ++ x) (fill_nothing places_length)
      ∙ ap (λ (x : List ℕ). 0 ∷ 0 ∷ x) (append_assoc g q zeros)

  pub fresh_block : slots_begun cat true (automatic_keys cat) slots_at (replicate block_length 0) ≡ live_bytes (fresh_table cat)
  fresh_block =
      ap (slots_begun cat true (automatic_keys cat) slots_at) before_is
      ∙ ap (λ (l : List ℕ). slots_begun cat true l slots_at ((0 ∷ 0 ∷ []) ++ (gather (λ e. replicate {A = ℕ} slot_width 0) entries ++ left))) (sym its_keys)
      ∙ slots_turned pr true (λ e. replicate slot_width 0) slot entries (0 ∷ 0 ∷ []) left (each_fresh (automatic_keys cat) (all_self (automatic_keys cat)))
      ∙ sym after_is
