-- The entries of a table by their keys, and the loops over them: what one turn shows of the answer, and what the end shows.
use Prim.Native.Nat.{ℕ, suc, ◌+◌, ◌-◌, ◌≤◌, ◌<◌}
use native.Mathlib.Omega.{arith}
use mathlib.Core.Path.{◌≡◌, sym, ◌∙◌, ap}
use mathlib.Core.Logic.{◌≢◌}
use mathlib.Core.List.{List, [], ◌∷◌, map}
use lib.ListN.{length, drop, get_or, length-append, length-map, drop_of_length-le, get_or-append}
use lib.Seq.{get_or-append-add}
use lib.Dec.{eqb}
use Rattle.rules.specs.Maps.{those, nth}
use Rattle.rules.specs.Bytes.{byte, two}
use Rattle.rules.specs.Catalogue.{leader, key}
use Rattle.rules.specs.State.{class_of, number_of}
use Rattle.rules.specs.Legal.{automatic_keys}
use Rattle.rules.proofs.Laws.{cases, eqb_true, eqb_false, lt-ltb, le-ltb}
use Rattle.rules.proofs.Standing.{key_class, key_number}
use Rattle.store.specs.Layout.{in_use_at, place_at, places_at, slot_count, place_count, slot_at, key_length}
use Rattle.class_tables.specs.Built.{cat_of}
use Rattle.class_tables.proofs.SlotLaws.{few_slots}
use Rattle.table.specs.Places.{InShape, keys_in}
use Rattle.table.proofs.Located.{place_keys_length}
use Rattle.table.proofs.Turns.{key_of, key_there}
use Rattle.upload_sections.specs.Sections.{entry_keys, numbers_in, entry_begin}
use Rattle.class_tables.specs.declared.Product.{Product}
use Rattle.store.specs.Positions.{inside}
use mathlib.Core.Option.{some}
use Rattle.rules.proofs.MapLaws.{none_some, some_eq}
use Rattle.rules.proofs.ByteLaws.{drop_next}

module _ (pr : Product) (b : List ℕ) where
  abbrev pub all_keys : List ℕ
  all_keys = entry_keys (cat_of pr) (keys_in b)

  pub entries_length : length all_keys ≡ length (automatic_keys (cat_of pr)) + byte b in_use_at
  entries_length = length-append (automatic_keys (cat_of pr)) (keys_in b) ∙ ap (λ (n : ℕ). length (automatic_keys (cat_of pr)) + n) (place_keys_length (byte b in_use_at) (drop places_at b))

  pub few_entries : InShape b → length all_keys ≤ slot_count + place_count
  few_entries s =
      let e = entries_length in
      let f = few_slots pr in
      let g : byte b in_use_at ≤ place_count = s.few in
      omega arith

  -- the instance in a slot, and that in a place
  module _ (n i : ℕ) (e : n ≡ length (automatic_keys (cat_of pr))) (c m : ℕ) (lt : m < 65536) where
    told : key c m ≡ get_or all_keys i 0 → (c ≡ class_of (get_or all_keys i 0)) × (m ≡ number_of (get_or all_keys i 0))
    told q = (sym (key_class c m lt) ∙ ap class_of q, sym (key_number c m lt) ∙ ap number_of q)

    pub slot_entry : i < n → key c m ≡ get_or (automatic_keys (cat_of pr)) i 0 → (c ≡ class_of (get_or all_keys i 0)) × (m ≡ number_of (get_or all_keys i 0))
    slot_entry h q = told (q ∙ sym (get_or-append (automatic_keys (cat_of pr)) (keys_in b) 0 i (omega arith)))

    pub place_entry : n ≤ i → i < length all_keys → c ≡ two b (place_at (i - n)) → m ≡ two b (place_at (i - n) + 2)
        → (c ≡ class_of (get_or all_keys i 0)) × (m ≡ number_of (get_or all_keys i 0))
    place_entry h few p q =
        let j : ℕ = i - n in
        let z : i ≡ length (automatic_keys (cat_of pr)) + j = omega arith in
        let lk = entries_length in
        let there : get_or (keys_in b) j 0 ≡ key_of b j = key_there b j (omega arith) in
        let k : get_or all_keys i 0 ≡ key_of b j =
        ap (λ (x : ℕ). get_or all_keys x 0) z ∙ get_or-append-add (automatic_keys (cat_of pr)) (keys_in b) j 0 ∙ there in
        told (ap (λ (x : ℕ). key x m) p ∙ ap (key (two b (place_at j))) q ∙ sym k)

-- ---- where the contents of an instance of class c begin in entry i

module _ (pr : Product) (c : ℕ) {i n : ℕ} (e : n ≡ length (automatic_keys (cat_of pr))) where
  pub begins_in_slot : i < n → slot_at i ≡ entry_begin (cat_of pr) c i
  unfolding entry_begin
  begins_in_slot h = rw (← e, lt-ltb i n h)

  pub begins_in_place : {o : ℕ} → n ≤ i → o ≡ inside (cat_of pr) c → place_at (i - n) + key_length + o ≡ entry_begin (cat_of pr) c i
  unfolding entry_begin
  begins_in_place h f = rw (← e, le-ltb i n h, f)

-- ---- the instances of a class among entries with these keys

-- those that the class d leads
abbrev pub led_by : ℕ → List ℕ → List ℕ
led_by d l = those (λ j. eqb (class_of j) d) l

abbrev pub numbers_of : ℕ → List ℕ → List ℕ
numbers_of d l = map number_of (led_by d l)

pub numbers_are : (pr : Product) (b : List ℕ) (c : ℕ) {d : ℕ} → d ≡ leader (cat_of pr) c → numbers_of d (all_keys pr b) ≡ numbers_in (cat_of pr) (keys_in b) c
unfolding numbers_in
numbers_are pr b c e = ap (λ (d : ℕ). numbers_of d (all_keys pr b)) e

pub numbers_length : (d : ℕ) (l : List ℕ) → length (numbers_of d l) ≡ length (led_by d l)
numbers_length d l = length-map (led_by d l) number_of

pub led_few : (d : ℕ) (l : List ℕ) → length (led_by d l) ≤ length l
unfolding those
led_few d [] = omega arith
led_few d (k ∷ l) = let z = led_few d l in cases (eqb (class_of k) d) (λ t. rw t (omega arith)) (λ t. rw t (omega arith))

module _ (l : List ℕ) (d i : ℕ) where
  pub led_here : i < length l → class_of (get_or l i 0) ≡ d → led_by d (drop i l) ≡ get_or l i 0 ∷ led_by d (drop (i + 1) l)
  unfolding those
  led_here h e = rw (drop_next l i h, eqb_true (class_of (get_or l i 0)) d e)

  pub led_not : i < length l → class_of (get_or l i 0) ≢ d → led_by d (drop i l) ≡ led_by d (drop (i + 1) l)
  unfolding those
  led_not h e = rw (drop_next l i h, eqb_false (class_of (get_or l i 0)) d e)

  pub led_end : length l ≤ i → led_by d (drop i l) ≡ []
  unfolding those
  led_end h = ap (led_by d) (drop_of_length-le l {i = i} h)

  -- the one that is so many on from here
  module _ (left : ℕ) {x : ℕ} (e : nth (numbers_of d (drop i l)) left ≡ some x) where
    pub number_here : i < length l → class_of (get_or l i 0) ≡ d → left ≡ 0 → number_of (get_or l i 0) ≡ x
    unfolding nth
    number_here h q z = some_eq (rw (led_here h q, z) at e)

    pub number_further : i < length l → class_of (get_or l i 0) ≡ d → left ≢ 0 → nth (numbers_of d (drop (i + 1) l)) (left - 1) ≡ some x
    unfolding nth
    number_further h q z = let s : left ≡ suc (left - 1) = omega arith in
        sym (ap (nth (numbers_of d (drop i l))) s ∙ ap (λ (k : List ℕ). nth (map number_of k) (suc (left - 1))) (led_here h q)) ∙ e

    pub number_not : i < length l → class_of (get_or l i 0) ≢ d → nth (numbers_of d (drop (i + 1) l)) left ≡ some x
    number_not h q = rw (led_not h q) at e

    pub number_end {ℓ} : {X : Type ℓ} → length l ≤ i → X
    unfolding nth
    number_end h = none_some (rw (led_end h) at e)
