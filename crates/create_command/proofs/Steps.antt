-- What each function's calls need, and what they leave together.
use Prim.Native.Nat.{ℕ, suc, ◌-◌, ◌≤◌, ◌<◌}
use native.Mathlib.Omega.{arith}
use mathlib.Core.Path.{◌≡◌, sym, ◌∙◌, ap}
use mathlib.Core.Bool.{true}
use mathlib.Core.List.{List, [], ◌∷◌, ◌++◌, append-nil}
use lib.ListN.{length, take, drop, replicate}
use lib.Bits.{bit_and}
use borrow.Rule.Slice.PartMut.{put_mid}
use Rattle.std.specs.Prelude.{Option, Some, None}
use Rattle.rules.specs.Bytes.{byte, bytes, fill, laid}
use Rattle.rules.specs.Catalogue.{Class, size_of, stored_numbers, carried_numbers, is_created, key}
use Rattle.rules.specs.Masks.{named, mask, total}
use Rattle.rules.specs.State.{Entry, class_of, number_of}
use Rattle.rules.proofs.Standing.{key_class, key_number}
use Rattle.octets.proofs.Laid.{laid_all}
use Rattle.store.specs.Layout.{place_width, place_length, entry_bytes, place, place_at, in_use_at, key_length}
use Rattle.store.specs.Positions.{inside}
use Rattle.class_tables.specs.Built.{cat_of, class_for}
use Rattle.class_tables.specs.Families.{Companion}
use Rattle.class_tables.specs.declared.Product.{Product}
use Rattle.class_tables.proofs.ClassLaws.{inside_fits}
use Rattle.class_tables.proofs.Facts.{carried_fit}
use Rattle.table.specs.Counts.{moved_on}
use Rattle.table.specs.Places.{keys_in}
use Rattle.table.specs.Spots.{rank, inserted}
use Rattle.table.proofs.Located.{how_many_keys}
use Rattle.table.proofs.TableMoved.{rank_fits}
use Rattle.attribute_write.specs.Lays.{laid_values, firsts, leading_class, LayingFirsts}
use Rattle.create_command.specs.New.{other_numbers, with_others, with_carried, with_companion, with_place}
use Rattle.create_command.proofs.NewEntry.{expected, is_made, carried_fills, carried_stands, nothing_beside}
use Rattle.create_command.proofs.Others.{carried_named, others_named, may_lay}

-- ---- the first contents that no Create carries

module _ (pr : Product) (c : ℕ) {st ca m at : ℕ} (s : st ≡ mask (stored_numbers (class_for pr c))) (f : ca ≡ mask (carried_numbers (class_for pr c))) (e : m ≡ bit_and st (65535 - ca))
    (i : at ≡ inside (cat_of pr) c) where
  others_are : named m ≡ other_numbers (class_for pr c)
  others_are = ap named (e ∙ (λ d. bit_and (s d) (65535 - f d))) ∙ others_named pr c

  pub may_lay_others : (own b : List ℕ) → length b ≡ place_width → length own ≡ place_width → LayingFirsts (class_for pr c) (leading_class pr c) at (named m) own b
  may_lay_others own b lb lo = rw others_are (let z = inside_fits pr c in may_lay pr c at own b lo (omega arith))

  pub others_laid : (own b : List ℕ) {x : List ℕ} → x ≡ laid_values (class_for pr c) at (firsts (class_for pr c) (leading_class pr c) own (named m)) b → x ≡ with_others pr c own b
  unfolding with_others
  others_laid own b g = g ∙ (λ d. laid_values (class_for pr c) (i d) (firsts (class_for pr c) (leading_class pr c) own (others_are d)) b)

-- ---- what a Create carries

module _ (pr : Product) (c : ℕ) (v : List ℕ) (long : length v ≡ 32) where
  abbrev k : Class
  k = class_for pr c

  pub carried_room : total (size_of k) (carried_numbers k) ≤ length v
  carried_room = let z = carried_fit pr c in omega arith

  pub named_room : {m : ℕ} → m ≡ mask (carried_numbers k) → total (size_of k) (named m) ≤ length v
  named_room e = let z = ap (total (size_of k)) (ap named e ∙ carried_named pr c) in let y = carried_room in omega arith

  -- ---- a new entry's contents

  module _ (cr : is_created k.creation ≡ true) {size : ℕ} (e : size ≡ total (size_of k) (carried_numbers k)) {own : List ℕ}
      (copied : own ≡ laid 0 (take (size - 0) v) (replicate place_width 0)) where
    carried_laid : own ≡ with_carried pr c v
    carried_laid =
        let all : size - 0 ≡ total (size_of k) (carried_numbers k) = omega arith in
        copied ∙ ap (λ (n : ℕ). laid 0 (take n v) (replicate place_width 0)) all ∙ sym (carried_stands pr c cr v long)

    pub carried_long : length own ≡ place_width
    carried_long = ap length carried_laid ∙ carried_fills pr c cr v long

    module _ {c₀ c₁ : List ℕ} (z : c₀ ≡ replicate place_width 0) (first : c₁ ≡ laid 0 own c₀) where
      copied_whole : c₁ ≡ own
      copied_whole = first ∙ laid_all own c₀ (carried_long ∙ sym (ap length z))

      so_far : c₁ ≡ with_others pr c (with_carried pr c v) (with_carried pr c v)
      so_far = copied_whole ∙ carried_laid ∙ sym (nothing_beside pr c cr v long (with_carried pr c v) (with_carried pr c v))

      with_all : (d : Option ℕ) → Companion pr c d → with_companion pr d own c₁ ≡ expected pr c v
      with_all d q = (λ i. with_companion pr d (carried_laid i) (so_far i)) ∙ is_made pr c cr v long d q

      pub made_alone : Companion pr c None → c₁ ≡ expected pr c v
      made_alone q = with_all None q

      pub made_with : (d : ℕ) → Companion pr c (Some d) → {c₂ : List ℕ} → c₂ ≡ with_others pr d own c₁ → c₂ ≡ expected pr c v
      made_with d q g = g ∙ with_all (Some d) q

-- ---- a new place

module _ (c n : ℕ) {r₀ r₁ : List ℕ} (z : r₀ ≡ replicate place_length 0) (first : r₁ ≡ take 0 r₀ ++ (bytes 2 c ++ drop 2 r₀)) where
  pub first_long : length r₁ ≡ place_length
  unfolding bytes
  first_long = ap length (first ∙ ap (λ (x : List ℕ). take 0 x ++ (bytes 2 c ++ drop 2 x)) z)

  module _ {r₂ : List ℕ} (second : r₂ ≡ take 2 r₁ ++ (bytes 2 n ++ drop key_length r₁)) where
    headed : r₂ ≡ bytes 2 c ++ (bytes 2 n ++ replicate place_width 0)
    unfolding bytes
    headed = second ∙ ap (λ (x : List ℕ). take 2 x ++ (bytes 2 n ++ drop key_length x)) (first ∙ ap (λ (x : List ℕ). take 0 x ++ (bytes 2 c ++ drop 2 x)) z)

    pub second_long : length r₂ ≡ place_length
    unfolding bytes
    second_long = ap length headed

    pub blank_behind : take (length r₂ - key_length) (drop key_length r₂) ≡ replicate place_width 0
    unfolding bytes
    blank_behind = ap (λ (x : List ℕ). take (length x - key_length) (drop key_length x)) headed

    pub new_placed : n < 65536 → (e : Entry) {x : List ℕ} → x ≡ fill place_width (entry_bytes e) → put_mid key_length (length r₂ - key_length) r₂ x ≡ place (key c n, e)
    unfolding bytes place
    new_placed lt e {x} g =
        let kc : class_of (key c n) ≡ c = key_class c n lt in
        let kn : number_of (key c n) ≡ n = key_number c n lt in
        ap (λ (y : List ℕ). put_mid key_length (length y - key_length) y x) headed
        ∙ ap (λ (y : List ℕ). bytes 2 c ++ (bytes 2 n ++ y)) (append-nil x ∙ g)
        ∙ sym (λ d. bytes 2 (kc d) ++ (bytes 2 (kn d) ++ fill place_width (entry_bytes e)))

-- ---- one place more

pub rank_small : (k : ℕ) (b : List ℕ) {j : ℕ} → j ≡ rank k (keys_in b) → j ≤ byte b in_use_at
rank_small k b e =
    let f = rank_fits k (keys_in b) in
    let n = how_many_keys b in
    omega arith

pub put_in_is : (j : ℕ) (r b : List ℕ) {x y : List ℕ} → x ≡ laid in_use_at (suc (byte b in_use_at) ∷ []) (inserted (place_at j) r b) → y ≡ moved_on x → y ≡ with_place j r b
unfolding with_place
put_in_is j r b f g = g ∙ ap moved_on f
