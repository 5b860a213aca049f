-- The two walks in a sound store: what is frozen, and what is shown.
use Prim.Native.Nat.{ℕ, suc, ◌+◌, ◌≤◌, ◌<◌, ◌-◌}
use native.Mathlib.Omega.{arith}
use mathlib.Core.Path.{◌≡◌, refl, sym, ◌∙◌, ap}
use mathlib.Core.Logic.{◌≢◌}
use mathlib.Core.Bool.{true, false}
use mathlib.Core.Option.{some}
use mathlib.Core.List.{List, [], ◌∷◌, ◌++◌}
use lib.ListN.{length, take, drop, get_or, set, replicate, length-set, length-take}
use lib.Seq.{get_or-take, get_or-drop}
use lib.Dec.{eqb}
use Rattle.rules.specs.Maps.{◌and◌, Map, given, nth}
use Rattle.rules.specs.Bytes.{byte, two, bytes, fill, laid}
use Rattle.rules.specs.Catalogue.{key, ont_data}
use Rattle.rules.specs.State.{Alarms, State, with_alarm_number, with_walk}
use Rattle.rules.specs.Messages.{Answer}
use Rattle.rules.specs.Walks.{if_ont_data, all_alarms, alarms_next, alarms_contents}
use Rattle.rules.proofs.Laws.{eqb_true, eqb_false}
use Rattle.rules.proofs.ByteLaws.{byte_small}
use Rattle.rules.proofs.Standing.{key_class, key_number}
use Rattle.store.specs.Layout.{slot_count, code_alarms, alarm_number_at, alarms_at, walk_at}
use Rattle.store.specs.Decode.{read_alarms}
use Rattle.store.proofs.Parts.{alarms_have_their_length}
use Rattle.store.proofs.AlarmBits.{shown_by, bitmap_read}
use Rattle.octets.proofs.Laid.{length_laid, drop_laid_behind, one_laid}
use Rattle.class_tables.specs.Built.{cat_of, product_of}
use Rattle.octets.proofs.Parted.{part}
use Rattle.store.proofs.StateLaid as laid_over
use Rattle.sound_store.specs.Held.{Sound, stored, Leaves}
use Rattle.sound_store.proofs.Held.{now, rest, remembers, as_stored, alarms_are, number_changed}
use Rattle.alarm_walk.specs.OnBytes.{count_on, place_on}
use Rattle.alarm_walk.proofs.AlarmBytes.{how_many_read, nth_read, none_read}
use Rattle.alarm_walk.proofs.Shown.{one_written}
use Rattle.class_tables.specs.declared.Product.{Product}
use Rattle.sound_store.proofs.AlarmPart.{slot_keys, walk_read, slot_bytes_are_bytes, alarms_read, slot_bytes_at, slot_bytes_length}

-- ---- what is asked of another class or instance

-- so many bytes from a place on, as the code lends them
lent : (o n : ℕ) → o + n - o ≡ n
lent o n = omega arith

pub length_lent : (o : ℕ) (b : List ℕ) (n : ℕ) → length (take (o + n - o) (drop o b)) ≤ n
length_lent o b n = let e = length-take (o + n - o) (drop o b) in omega arith

module _ (c i : ℕ) (s : State) (a : Answer) where
  walks : (eqb c ont_data and eqb i 0) ≡ true → if_ont_data c i s a ≡ a
  unfolding if_ont_data
  walks h = rw h

  walks_not : (eqb c ont_data and eqb i 0) ≡ false → if_ont_data c i s a ≡ (s, [])
  unfolding if_ont_data
  walks_not h = rw h

module _ (pr : Product) (b : List ℕ) (h : Sound pr b) where
  -- ---- Get all alarms

  -- the state after it
  abbrev pub frozen_state : State
  frozen_state = with_walk (some (now pr b h).alarms) (with_alarm_number 0 (now pr b h))

  frozen_stored : stored pr frozen_state b ≡ laid walk_at (1 ∷ code_alarms (cat_of pr) (now pr b h).alarms) (laid alarm_number_at (0 ∷ []) b)
  unfolding stored
  frozen_stored =
      let m : Map Alarms = (now pr b h).alarms in
      let unnumbered : State = with_alarm_number 0 (now pr b h) in
      laid_over.walk_laid (product_of pr) (cat_of pr) unnumbered (remembers pr b h) (rest pr b h) m
      ∙ ap (laid walk_at (1 ∷ code_alarms (cat_of pr) m)) (number_changed pr b h 0)

  -- the bytes after the number was set to 0
  abbrev numbered : List ℕ
  numbered = set b alarm_number_at 0

  numbered_is : numbered ≡ laid alarm_number_at (0 ∷ []) b
  numbered_is = let z = h.long in one_laid alarm_number_at 0 b (omega arith)

  still_there : part alarms_at slot_count numbered ≡ code_alarms (cat_of pr) (now pr b h).alarms
  still_there =
      let z = h.long in
      rw (numbered_is, drop_laid_behind alarm_number_at (0 ∷ []) b (omega arith) alarms_at (omega arith)) (alarms_are pr b h)

  store_frozen : {after : List ℕ} → after ≡ laid walk_at (1 ∷ part alarms_at slot_count numbered) numbered → after ≡ stored pr frozen_state b
  store_frozen e = e ∙ rw (still_there, numbered_is) (sym frozen_stored)

  pub length_frozen : {after : List ℕ} → after ≡ laid walk_at (1 ∷ part alarms_at slot_count numbered) numbered → length after ≡ length b
  length_frozen e =
      let z = h.long in
      let l : length (1 ∷ part alarms_at slot_count numbered) ≡ 1 + slot_count =
      ap (λ (x : List ℕ). suc (length x)) still_there ∙ ap suc (alarms_have_their_length (cat_of pr) (now pr b h).alarms) in
      let n : length numbered ≡ length b = length-set b alarm_number_at 0 in
      ap length e ∙ length_laid walk_at (1 ∷ part alarms_at slot_count numbered) numbered (omega arith) ∙ n

  module _ (c i : ℕ) where
    asked_elsewhere : (eqb c ont_data and eqb i 0) ≡ false → all_alarms (now pr b h) c i ≡ (now pr b h, [])
    unfolding all_alarms
    asked_elsewhere off = walks_not c i (now pr b h) (frozen_state, bytes 2 (length (now pr b h).alarms)) off

    asked_here : (eqb c ont_data and eqb i 0) ≡ true → all_alarms (now pr b h) c i ≡ (frozen_state, bytes 2 (length (now pr b h).alarms))
    unfolding all_alarms
    asked_here on = walks c i (now pr b h) (frozen_state, bytes 2 (length (now pr b h).alarms)) on

    pub nothing_frozen : (z : List ℕ) → (eqb c ont_data and eqb i 0) ≡ false → z ≡ replicate 32 0 → Leaves pr (all_alarms (now pr b h) c i) b b z
    nothing_frozen z off blank = rw (asked_elsewhere off) (record { store = as_stored pr b h; reply = blank })

    pub all_frozen : {after z o : List ℕ} {k m : ℕ} → (eqb c ont_data and eqb i 0) ≡ true → after ≡ laid walk_at (1 ∷ part alarms_at slot_count numbered) numbered
        → k ≡ length (slot_keys pr b h) → m ≡ count_on (take (alarms_at + k - alarms_at) (drop alarms_at b)) → z ≡ replicate 32 0 → o ≡ take 0 z ++ (bytes 2 m ++ drop 2 z)
        → Leaves pr (all_alarms (now pr b h) c i) b after o
    all_frozen {z = z} {o = o} {k = k} {m = m} on e ek em blank written =
        let bytes_there = slot_bytes_are_bytes pr b h alarms_at (omega arith) in
        let q : length (now pr b h).alarms ≡ m =
        ap length (alarms_read pr b h)
        ∙ how_many_read (slot_keys pr b h) (slot_bytes_at pr b h alarms_at) (slot_bytes_length pr b h alarms_at (omega arith)) bytes_there ∙ sym (rw (lent alarms_at k, ek) at em) in
        rw (asked_here on) (record { store = store_frozen e; reply = one_written z o m blank written ∙ ap (λ (n : ℕ). fill 32 (bytes 2 n)) (sym q) })

  -- ---- its Next

  module _ (c i : ℕ) (v : List ℕ) where
    pub nothing_asked : (z : List ℕ) → (eqb c ont_data and eqb i 0) ≡ false → z ≡ replicate 32 0 → z ≡ fill 32 (alarms_next (now pr b h) c i v).1
    unfolding alarms_next
    nothing_asked z off blank =
        let e = walks_not c i (now pr b h) (now pr b h, given (now pr b h).walk [] (λ w. given (nth w (two v 0)) [] alarms_contents)) off in
        rw e blank

    module _ (on : (eqb c ont_data and eqb i 0) ≡ true) where
      asked : (alarms_next (now pr b h) c i v).1 ≡ given (now pr b h).walk [] (λ w. given (nth w (two v 0)) [] alarms_contents)
      unfolding alarms_next
      asked = ap (λ (a : Answer). a.1) (walks c i (now pr b h) (now pr b h, given (now pr b h).walk [] (λ w. given (nth w (two v 0)) [] alarms_contents)) on)

      pub nothing_walked : (z : List ℕ) → byte b walk_at ≡ 0 → z ≡ replicate 32 0 → z ≡ fill 32 (alarms_next (now pr b h) c i v).1
      nothing_walked z e blank = rw (asked, (walk_read pr b h), eqb_true (byte b walk_at) 0 e) blank

      module _ (e : byte b walk_at ≢ 0) where
        in_walk : (alarms_next (now pr b h) c i v).1 ≡ given (nth (read_alarms (slot_keys pr b h) (slot_bytes_at pr b h (walk_at + 1))) (two v 0)) [] alarms_contents
        in_walk = rw (asked, (walk_read pr b h), eqb_false (byte b walk_at) 0 e)

        -- the bytes of so many slots, as the code lends them
        abbrev lent_bytes : ℕ → List ℕ
        lent_bytes k = take ((walk_at + 1) + k - (walk_at + 1)) (drop (walk_at + 1) b)

        pub nothing_left : (z : List ℕ) {k n : ℕ} → k ≡ length (slot_keys pr b h) → n ≡ two v 0 → place_on n (lent_bytes k) ≡ length (lent_bytes k)
            → z ≡ replicate 32 0
            → z ≡ fill 32 (alarms_next (now pr b h) c i v).1
        nothing_left z {k} {n} ek en g blank =
            let s = slot_bytes_length pr b h (walk_at + 1) (omega arith) in
            let p : place_on (two v 0) (slot_bytes_at pr b h (walk_at + 1)) ≡ length (slot_bytes_at pr b h (walk_at + 1)) = rw (lent (walk_at + 1) k, ek, en) at g in
            rw (in_walk, none_read (two v 0) (slot_keys pr b h) (slot_bytes_at pr b h (walk_at + 1)) s (slot_bytes_are_bytes pr b h (walk_at + 1) (omega arith)) (omega (arith, p))) blank

        pub next_shown : {o : List ℕ} {k n j : ℕ} (d m : ℕ) → k ≡ length (slot_keys pr b h) → n ≡ two v 0
            → (j ≡ place_on n (lent_bytes k)) × (j < length (lent_bytes k))
            → key d m ≡ get_or (slot_keys pr b h) j 0 → m < 65536 → o ≡ fill 32 (bytes 2 d ++ bytes 2 m ++ byte b ((walk_at + 1) + j) ∷ [])
            → o ≡ fill 32 (alarms_next (now pr b h) c i v).1
        unfolding alarms_contents
        next_shown {o} {k} {n} {j} d m ek en at_place same small is =
            let s = slot_bytes_length pr b h (walk_at + 1) (omega arith) in
            let bs = slot_bytes_are_bytes pr b h (walk_at + 1) (omega arith) in
            let p : j ≡ place_on (two v 0) (slot_bytes_at pr b h (walk_at + 1)) = rw (lent (walk_at + 1) k, ek, en) at at_place.0 in
            let g : j < length (slot_bytes_at pr b h (walk_at + 1)) = rw (lent (walk_at + 1) k, ek) at at_place.1 in
            let y : byte (slot_bytes_at pr b h (walk_at + 1)) j ≡ byte b ((walk_at + 1) + j) = get_or-take (length (slot_keys pr b h)) (drop (walk_at + 1) b) j 0 (omega arith)
            ∙ get_or-drop (walk_at + 1) b j 0 in
            let lt : byte b ((walk_at + 1) + j) < 256 = rw y at (byte_small (slot_bytes_at pr b h (walk_at + 1)) j bs) in
            let q : nth (read_alarms (slot_keys pr b h) (slot_bytes_at pr b h (walk_at + 1))) (two v 0) ≡ some (key d m, shown_by (byte b ((walk_at + 1) + j))) =
            nth_read (two v 0) (slot_keys pr b h) (slot_bytes_at pr b h (walk_at + 1)) s bs (omega arith) ∙ rw (← p, ← same, y) refl in
            rw (in_walk, q, key_class d m small, key_number d m small, bitmap_read (byte b ((walk_at + 1) + j)) lt) (is ∙ filled d m (byte b ((walk_at + 1) + j)))
          where
            filled : (d m x : ℕ) → fill 32 (bytes 2 d ++ bytes 2 m ++ x ∷ []) ≡ fill 32 (bytes 2 d ++ bytes 2 m ++ (x ∷ replicate 27 0))
            filled d m x = unfold bytes in refl
