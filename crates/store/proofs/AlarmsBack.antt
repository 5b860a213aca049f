-- Alarms as bytes, read back: a byte of each slot has all that can be on there.
use Prim.Native.Nat.{ℕ, zero, suc, ◌+◌, ◌-◌, ◌≤◌, ◌<◌}
use native.Mathlib.Omega.{arith}
use mathlib.Core.Path.{◌≡◌, refl, sym, ap}
use mathlib.Core.Bool.{Bool, true, false}
use mathlib.Core.Option.{Option, none, some}
use mathlib.Core.Logic.{◌≢◌}
use mathlib.Core.List.{List, [], ◌∷◌, ◌++◌, map}
use lib.ListN.{length, take, drop, replicate, length-drop, length-map}
use lib.Seq.{length-take-le}
use lib.Dec.{ltb}
use Rattle.rules.specs.Maps.{◌and◌, ◌or◌, Map, given, find, has, is_some, keys, all, among, empty}
use Rattle.rules.specs.Bytes.{bits_from, bits}
use Rattle.rules.specs.Catalogue.{Creation, created, automatic, comes_with, Class, Catalogue, no_class, class, known, is_created, automatic_numbers, leader, key, ont_data}
use Rattle.rules.specs.State.{Entry, Table, Alarms, class_of, number_of, entries, entry, holds, alarms_of}
use Rattle.rules.specs.Legal.{may_be_there, there_or_gone, automatic_keys, legal_table, legal_live, declared_from, some_on, legal_bitmap, legal_bitmaps, legal_walk}
use Rattle.rules.specs.WellFormed.{WellFormed, is_companion}
use Rattle.rules.proofs.Laws.{never, true_false, both, or_cases, eqb_eq, ltb_lt, all_among, same_eq, every_find, find_some, has_among}
use Rattle.rules.proofs.MapLaws.{rising_up, among_past, each_of_every, each_imp, has_append, collect, collect_all}
use Rattle.rules.proofs.Lookups.{class_or_none, plain_lead}
use Rattle.rules.proofs.Standing.{automatic_rise, automatic_among, key_back}
use Rattle.store.specs.Layout.{slot_count, code_alarms, fits}
use Rattle.store.specs.Decode.{read_alarms}
use Rattle.rules.proofs.ByteLaws.{fill_keeps}
use Rattle.store.proofs.BytesBack.{byte_bits_back}
use Rattle.store.proofs.Widths.{Found, slots_are_enough, alarms_fit, alarms_below_8}
use Rattle.rules.proofs.Bitmaps.{bitmap_is_declared}

-- ---- one bitmap

-- where nothing is declared, nothing is on
quiet : (d : List ℕ) (m n : ℕ) (b : Alarms) → all (λ i. ltb i m) d ≡ true → m ≤ n → declared_from n d b ≡ true → b ≡ replicate (length b) false
unfolding declared_from
quiet d m n [] h g t = refl
quiet d m n (false ∷ b) h g t = ap (λ (l : Alarms). false ∷ l) (quiet d m (suc n) b h (omega arith) (both t).1)
quiet d m n (true ∷ b) h g t = or_cases (both t).0 (λ e. never e) (λ e. let x : n < m = ltb_lt n m (all_among (λ i. ltb i m) d h n e) in absurd (omega arith))

quiet_behind : (d : List ℕ) (m j n : ℕ) (b : Alarms) → all (λ i. ltb i m) d ≡ true → m ≤ n + j → declared_from n d b ≡ true
    → b ≡ take j b ++ replicate (length (drop j b)) false
unfolding declared_from
quiet_behind d m zero n b h g t = quiet d m n b h (omega arith) t
quiet_behind d m (suc j) n [] h g t = refl
quiet_behind d m (suc j) n (on ∷ b) h g t = ap (λ (l : Alarms). on ∷ l) (quiet_behind d m j (suc n) b h (omega arith) (both t).1)

-- what a byte shows of a bitmap
abbrev pub shown : Alarms → Alarms
shown b = bits 8 (bits_from 0 (take 8 b)) ++ replicate 216 false

pub bitmap_back : (k : Class) (b : Alarms) → all (λ i. ltb i 8) k.alarms ≡ true → legal_bitmap k b ≡ true → shown b ≡ b
unfolding legal_bitmap
bitmap_back k b h t =
    let n : length b ≡ 224 = eqb_eq (length b) 224 (both t).0 in
    let l : length (take 8 b) ≡ 8 = length-take-le 8 b (omega arith) in
    let r : length (drop 8 b) ≡ 216 = simp length-drop (omega arith) in
    let q : b ≡ take 8 b ++ replicate (length (drop 8 b)) false = quiet_behind k.alarms 8 8 0 b h (omega arith) (both (both t).1).0 in
    rw (byte_bits_back (take 8 b) l) (sym (rw r at q))

-- ---- which instances have a bitmap

plain_there : (i : ℕ) (x : Creation) → is_created x ≡ false → is_companion x ≡ false → may_be_there x i ≡ among i (automatic_numbers x)
plain_there i created h g = never (sym h)
plain_there i (automatic l) h g = refl
plain_there i (comes_with d) h g = never (sym g)

-- an instance that a table holds is in some entry
held : (cat : Catalogue) (t : Table) (c i : ℕ) → holds cat t c i ≡ true → has (key (leader cat c) i) (entries t) ≡ true
unfolding holds entry find
held cat t c i h = go (find (key (leader cat c) i) (entries t)) h
  where
    go : (o : Option Entry) → has c (given o [] (λ e. e)) ≡ true → is_some o ≡ true
    go none h = never h
    go (some e) h = refl

module _ (cat : Catalogue) (f : fits cat ≡ true) where
  -- a class that has a legal bitmap is in the catalogue
  pub bitmap_found : (c : ℕ) (b : Alarms) → legal_bitmap (class cat c) b ≡ true → Found cat c
  unfolding no_class
  bitmap_found c b h =
      let n : empty (class cat c).alarms ≡ false = bitmap_is_declared (class cat c) b h in
      class_or_none cat c (λ x. x) (λ e. never (sym (rw e at n)))

  -- and it is one of those with slots
  pub bitmap_plain : (c : ℕ) (b : Alarms) → legal_bitmap (class cat c) b ≡ true
      → (c ≢ ont_data) × (is_created (class cat c).creation ≡ false) × (is_companion (class cat c).creation ≡ false)
  bitmap_plain c b h = alarms_fit cat f c (bitmap_found c b h) (bitmap_is_declared (class cat c) b h)

  -- of an alarm walk
  pub walked_stands : (k : ℕ) (b : Alarms) → there_or_gone cat (class_of k) (number_of k) ≡ true → legal_bitmap (class cat (class_of k)) b ≡ true
      → among k (automatic_keys cat) ≡ true
  walked_stands k b t h =
      let c : ℕ = class_of k in
      let p = bitmap_plain c b h in
      let l : among (number_of k) (automatic_numbers (class cat c).creation) ≡ true = rw (plain_there (number_of k) (class cat c).creation p.1 p.2) at t in
      let a : among (key c (number_of k)) (automatic_keys cat) ≡ true = automatic_among cat c (number_of k) (class cat c) (bitmap_found c b h) p.0 l in
      rw (key_back k) at a

  -- of a live table
  pub live_stands : (t : Table) → legal_live cat t ≡ true → (k : ℕ) (b : Alarms) → holds cat t (class_of k) (number_of k) ≡ true
      → legal_bitmap (class cat (class_of k)) b ≡ true → among k (automatic_keys cat) ≡ true
  unfolding legal_table
  live_stands t v k b x h =
      let c : ℕ = class_of k in
      let p = bitmap_plain c b h in
      let e : key (leader cat c) (number_of k) ≡ k = rw (plain_lead c (class cat c).creation p.1 p.2) (key_back k) in
      let y : has k (entries t) ≡ true = rw e at (held cat t c (number_of k) x) in
      let z : (has k t.automatic or has k t.created) ≡ true = rw (has_append k t.automatic t.created) at y in
      or_cases z
      (λ g.
      let l : among k (keys t.automatic) ≡ true = rw (has_among k t.automatic) at g in
      let m : among k (key ont_data 0 ∷ automatic_keys cat) ≡ true = rw (same_eq (keys t.automatic) (key ont_data 0 ∷ automatic_keys cat) (both v).0) at l in
      among_past k (key ont_data 0) (automatic_keys cat) m (λ q. p.0 (let r : class_of k ≡ 2 = omega arith in r)))
      (λ g.
      let n = find_some k t.created g in
      true_false (every_find (λ k e. is_created (class cat (class_of k)).creation) t.created (both (both (both v).1).1).0 k n.0 n.1) p.1)

-- ---- all bitmaps

nothing_shown : some_on (shown (replicate 224 false)) ≡ false
unfolding some_on all bits bits_from ◌and◌
nothing_shown = refl

-- a slot's byte
abbrev slot_byte : Map Alarms → ℕ → ℕ
slot_byte m k = bits_from 0 (take 8 (alarms_of k m))

-- reading collects the bitmaps of the slots' instances
module _ (m : Map Alarms) (h : (k : ℕ) (b : Alarms) → find k m ≡ some b → (shown b ≡ b) × (some_on b ≡ true)) where
  alarms_collected : (l rest : List ℕ) → read_alarms l (map (slot_byte m) l ++ rest) ≡ collect l m
  unfolding read_alarms collect alarms_of
  alarms_collected [] rest = refl
  alarms_collected (k ∷ l) rest = go (find k m) refl (alarms_collected l rest)
    where
      go : (o : Option Alarms) → find k m ≡ o → read_alarms l (map (slot_byte m) l ++ rest) ≡ collect l m
          → read_alarms (k ∷ l) (map (slot_byte m) (k ∷ l) ++ rest) ≡ collect (k ∷ l) m
      go none e r = rw (e, nothing_shown) r
      go (some b) e r = rw (e, (h k b e).0, (h k b e).1, r)

module _ (cat : Catalogue) (w : WellFormed cat) (f : fits cat ≡ true) where
  bitmaps_back : (there : ℕ → ℕ → Bool) (m : Map Alarms) → legal_bitmaps cat there m ≡ true
      → ((k : ℕ) (b : Alarms) → there (class_of k) (number_of k) ≡ true → legal_bitmap (class cat (class_of k)) b ≡ true → among k (automatic_keys cat) ≡ true)
      → read_alarms (automatic_keys cat) (code_alarms cat m) ≡ m
  unfolding code_alarms legal_bitmaps
  bitmaps_back there m h g =
      let l : List ℕ = automatic_keys cat in
      let p : ℕ → Alarms → Bool = λ k b. there (class_of k) (number_of k) and legal_bitmap (class cat (class_of k)) b in
      let v : length (map (slot_byte m) l) ≤ slot_count = rw (length-map l (slot_byte m)) (slots_are_enough cat f) in
      rw (
        fill_keeps slot_count (map (slot_byte m) l) v,
        alarms_collected m
            (λ k b e. let t : legal_bitmap (class cat (class_of k)) b ≡ true = (both (every_find p m (both h).1 k b e)).1 in whole (class_of k) b t)
            l (take (slot_count - length (map (slot_byte m) l)) (replicate slot_count 0)),
      )
      (collect_all 0 l m (automatic_rise cat w) (rising_up (keys m) (both h).0)
      (each_imp (λ k b. p k b ≡ true) (λ k b. among k l ≡ true) (λ k b t. g k b (both t).0 (both t).1) m (each_of_every p m (both h).1)))
    where
      whole : (c : ℕ) (b : Alarms) → legal_bitmap (class cat c) b ≡ true → (shown b ≡ b) × (some_on b ≡ true)
      whole c b t = (bitmap_back (class cat c) b (alarms_below_8 cat f c (bitmap_found cat f c b t)) t, unfold legal_bitmap in (both (both t).1).1)

  pub live_alarms_back : (t : Table) (m : Map Alarms) → legal_live cat t ≡ true → legal_bitmaps cat (holds cat t) m ≡ true
      → read_alarms (automatic_keys cat) (code_alarms cat m) ≡ m
  live_alarms_back t m v h = bitmaps_back (holds cat t) m h (live_stands cat f t v)

  pub walk_back : (m : Map Alarms) → legal_walk cat m ≡ true → read_alarms (automatic_keys cat) (code_alarms cat m) ≡ m
  unfolding legal_walk
  walk_back m h = bitmaps_back (λ c i. known cat c and there_or_gone cat c i) m (both h).0 (λ k b t. walked_stands cat f k b (both t).1)
