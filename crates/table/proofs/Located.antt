-- Where contents stand, from where an instance's key does.
use Prim.Native.Nat.{ℕ, zero, suc, ◌+◌, ◌≤◌, ◌<◌}
use native.Mathlib.Omega.{arith}
use mathlib.Core.Path.{◌≡◌, refl, sym, ◌∙◌, ap}
use mathlib.Core.Bool.{Bool, true, false}
use mathlib.Core.Option.{Option, some}
use mathlib.Core.List.{List}
use lib.ListN.{length, drop}
use lib.Dec.{eqb}
use Rattle.rules.specs.Maps.{◌and◌}
use Rattle.rules.specs.Bytes.{byte}
use Rattle.rules.specs.Catalogue.{Catalogue, class, is_created, leader, key, ont_data}
use Rattle.rules.specs.Legal.{automatic_keys}
use Rattle.store.specs.Layout.{slot_at, place_at, place_length, in_use_at, places_at, key_length, place_count, slot_count}
use Rattle.class_tables.specs.Built.{cat_of}
use Rattle.class_tables.proofs.SlotLaws.{few_slots}
use Rattle.table.specs.Places.{InShape, place_keys, keys_in}
use Rattle.store.specs.Positions.{position, inside}
use Rattle.table.specs.Spots.{at_position, spot_among}
use Rattle.store.proofs.Positions.{stands_at}
use Rattle.class_tables.specs.declared.Product.{Product}

pub place_keys_length : (n : ℕ) (b : List ℕ) → length (place_keys n b) ≡ n
unfolding place_keys
place_keys_length zero b = refl
place_keys_length (suc n) b = ap suc (place_keys_length n (drop place_length b))

pub how_many_keys : (b : List ℕ) → length (keys_in b) ≡ byte b in_use_at
how_many_keys b = place_keys_length (byte b in_use_at) (drop places_at b)

pub place_small : (b : List ℕ) → InShape b → (k : ℕ) {j : ℕ} {found : Option ℕ} → found ≡ some j → found ≡ position k (keys_in b) → j < place_count
place_small b s k {j} h e =
    let z : j < length (keys_in b) = (stands_at k j (keys_in b) (sym e ∙ h)).0 in
    let n : length (keys_in b) ≡ byte b in_use_at = how_many_keys b in
    let f : byte b in_use_at ≤ place_count = s.few in
    omega arith

pub slot_small : (pr : Product) (k : ℕ) {j : ℕ} {found : Option ℕ} → found ≡ some j → found ≡ position k (automatic_keys (cat_of pr)) → j < slot_count
slot_small pr k {j} h e =
    let z : j < length (automatic_keys (cat_of pr)) = (stands_at k j (automatic_keys (cat_of pr)) (sym e ∙ h)).0 in
    let f = few_slots pr in
    omega arith

-- the three places where contents can stand

module _ (cat : Catalogue) (made : List ℕ) (c i : ℕ) where
  made_or_not : {d : ℕ} {r : Bool} → d ≡ leader cat c → r ≡ is_created (class cat d).creation → is_created (class cat (leader cat c)).creation ≡ r
  made_or_not e f = sym (f ∙ ap (λ k. is_created (class cat k).creation) e)

  -- d is the leader, o where the contents begin within the place
  pub with_its_leader : {d o : ℕ} {r : Bool} {found : Option ℕ} → d ≡ leader cat c → r ≡ is_created (class cat d).creation → r ≡ true → o ≡ inside cat c
      → found ≡ at_position (λ j. place_at j + key_length + o) (position (key d i) made) → found ≡ spot_among cat made c i
  unfolding spot_among
  with_its_leader e f t h g = g ∙ rw (made_or_not e f ∙ t, ← h, ← e) refl

  pub in_front : {d : ℕ} {r q : Bool} → d ≡ leader cat c → r ≡ is_created (class cat d).creation → r ≡ false
      → q ≡ (eqb c ont_data and eqb i 0) → q ≡ true → some 0 ≡ spot_among cat made c i
  unfolding spot_among
  in_front e f t h y = rw (made_or_not e f ∙ t, sym h ∙ y) refl

  pub by_itself : {d : ℕ} {r q : Bool} {found : Option ℕ} → d ≡ leader cat c → r ≡ is_created (class cat d).creation → r ≡ false
      → q ≡ (eqb c ont_data and eqb i 0) → q ≡ false → found ≡ at_position slot_at (position (key c i) (automatic_keys cat)) → found ≡ spot_among cat made c i
  unfolding spot_among
  by_itself e f t h y g = g ∙ rw (made_or_not e f ∙ t, sym h ∙ y) refl
