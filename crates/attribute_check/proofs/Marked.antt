-- The mask of bad attributes, one attribute after another.
use Prim.Native.Nat.{ℕ, ◌+◌, ◌-◌, ◌≤◌, ◌<◌, ◌^◌}
use native.Mathlib.Omega.{arith}
use mathlib.Core.Path.{◌≡◌, refl, sym, ◌∙◌, ap}
use mathlib.Core.Bool.{Bool, true, false, not}
use mathlib.Core.List.{List, [], ◌∷◌}
use lib.ListN.{length, take, drop, length-drop}
use lib.Seq.{length-take-le, drop-drop}
use Rattle.rules.specs.Maps.{keys, keep}
use Rattle.rules.specs.Masks.{named, mask, total}
use Rattle.rules.specs.Catalogue.{Class, size_of}
use Rattle.rules.specs.Commands.{cut}
use Rattle.rules.proofs.Laws.{not-true, not-false}
use Rattle.bits.proofs.Masks.{mask_small, named_within}
use Rattle.bits.proofs.MaskWalk.{Walked, nothing_walked, next_in_range, next_within, one_walked}
use Rattle.bits.specs.Digits.{digit}
use Rattle.class_tables.specs.declared.Product.{Product}
use Rattle.class_tables.specs.Built.{class_for}
use Rattle.class_tables.specs.Sizes.{size_digits}
use Rattle.class_tables.proofs.SizeLaws.{read_off}
use Rattle.attribute_check.specs.Judges.{legal_at, bad_among}

module _ (there : ℕ → ℕ → Bool) (pr : Product) (c : ℕ) (b : List ℕ) (at : ℕ) where
  abbrev k : Class
  k = class_for pr c

  abbrev bad_mask : List ℕ → List ℕ → ℕ
  bad_mask l v = mask (bad_among there k b at l v)

  none_bad : (v : List ℕ) → bad_mask [] v ≡ 0
  unfolding bad_among cut keep keys mask
  none_bad v = refl

  next_bad : (n : ℕ) (l v : List ℕ) → legal_at there k b at n (take (size_of k n) v) ≡ false → bad_mask (n ∷ l) v ≡ 2 ^ (16 - n) + bad_mask l (drop (size_of k n) v)
  unfolding bad_among cut keep keys mask
  next_bad n l v h = rw h refl

  next_good : (n : ℕ) (l v : List ℕ) → legal_at there k b at n (take (size_of k n) v) ≡ true → bad_mask (n ∷ l) v ≡ bad_mask l (drop (size_of k n) v)
  unfolding bad_among cut keep keys mask
  next_good n l v h = rw h refl

  -- those found so far and those among the rest; v has the contents of all
  pub record Marked (m : ℕ) (v left : List ℕ) (from bad : ℕ) : Type 0 where
    pub walked : Walked (size_of k) m left from
    pub so_far : bad + bad_mask left (drop from v) ≡ bad_mask (named m) v
    pub room : total (size_of k) (named m) ≤ length v
    pub few : bad + mask left ≤ mask (named m)

  pub nothing_marked : {m left : ℕ} (v : List ℕ) → left ≡ m → total (size_of k) (named m) ≤ length v → Marked m v (named left) 0 0
  nothing_marked v e h = record { walked = nothing_walked (size_of k) e; so_far = rw e (omega arith); room = h; few = rw e (omega arith) }

  module _ {m : ℕ} {v left : List ℕ} {from bad : ℕ} (s : Marked m v left from bad) where
    pub all_marked : left ≡ [] → bad ≡ bad_mask (named m) v
    all_marked e =
        let z : bad_mask left (drop from v) ≡ 0 = ap (λ (l : List ℕ). bad_mask l (drop from v)) e ∙ none_bad (drop from v) in
        let all = s.so_far in
        omega arith

    module _ {n : ℕ} {rest : List ℕ} (first : left ≡ n ∷ rest) where
      heavier : mask left ≡ 2 ^ (16 - n) + mask rest
      unfolding mask
      heavier = rw first

      -- there is room for its bit
      pub bit_room : {bit : ℕ} → bit ≡ 2 ^ (16 - n) → bad + bit < 65536
      bit_room e = let few = s.few in let h = heavier in let z = mask_small (named m) (named_within m) in omega arith

      -- so many bytes, read off the class's sizes
      module _ {sizes w : ℕ} (digits : sizes ≡ size_digits k) (read : w ≡ digit sizes n) where
        sized : w ≡ size_of k n
        sized = let i = next_in_range s.walked first in read_off pr c n i.0 i.1 digits read

        pub part_room : from + w ≤ length v
        part_room = let e = sized in let z = next_within s.walked first in let r = s.room in omega arith

        part_is : take (from + w - from) (drop from v) ≡ take (size_of k n) (drop from v)
        part_is = let z = sized in let e : from + w - from ≡ size_of k n = omega arith in rw e

        pub part_sized : length (take (from + w - from) (drop from v)) ≡ size_of k n
        part_sized = let z = sized in let r = part_room in rw part_is (length-take-le (size_of k n) (drop from v) (rw (length-drop from v) (omega arith)))

        module _ {bit : ℕ} {t : Bool} (is : bit ≡ 2 ^ (16 - n)) (judged : t ≡ legal_at there k b at n (take (from + w - from) (drop from v))) where
          was : {u : Bool} → t ≡ u → legal_at there k b at n (take (size_of k n) (drop from v)) ≡ u
          was e = ap (legal_at there k b at n) (sym part_is) ∙ sym judged ∙ e

          -- those that are found from here on
          next_marked : {now : ℕ} → bad_mask (n ∷ rest) (drop from v) + bad ≡ now + bad_mask rest (drop (size_of k n) (drop from v))
              → now ≤ bad + bit → Marked m v rest (from + w) now
          next_marked {now} x h =
              let y = ap (λ (l : List ℕ). bad_mask l (drop from v)) first in
              let z = ap (bad_mask rest) (drop-drop (size_of k n) from v ∙ ap (λ (i : ℕ). drop (from + i) v) (sym sized)) in
              let all = s.so_far in
              let few = s.few in
              let more = heavier in
              record { walked = one_walked s.walked first sized; so_far = omega arith; room = s.room; few = omega arith }

          pub one_marked : not t ≡ true → {now : ℕ} → now ≡ bad + bit → Marked m v rest (from + w) now
          one_marked h e = next_marked (let x = next_bad n rest (drop from v) (was (not-true h)) in omega arith) (omega arith)

          pub none_marked : not t ≡ false → {now : ℕ} → now ≡ bad → Marked m v rest (from + w) now
          none_marked h e = next_marked (let x = next_good n rest (drop from v) (was (not-false h)) in omega arith) (omega arith)
