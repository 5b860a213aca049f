-- The loop of the packer: what is written so far, and what is left to write.
use Prim.Native.Nat.{ℕ, ◌+◌, ◌≤◌, ◌<◌}
use native.Mathlib.Omega.{arith}
use mathlib.Core.Path.{◌≡◌, refl, sym, ◌∙◌, ap}
use mathlib.Core.Bool.{true}
use mathlib.Core.List.{List, [], ◌∷◌, ◌++◌, append_assoc, append-nil}
use lib.ListN.{length, length-append}
use Rattle.rules.specs.Maps.{all}
use Rattle.rules.specs.Bytes.{laid}
use Rattle.rules.specs.Masks.{named, total}
use Rattle.rules.specs.Catalogue.{Class, supported, size_of}
use Rattle.rules.proofs.Laws.{both}
use Rattle.bits.proofs.MaskWalk.{Walked, nothing_walked, next_passes, next_within, one_walked}
use Rattle.octets.proofs.Laid.{length_laid, laid_next}
use Rattle.class_tables.specs.Built.{cat_of, class_for}
use Rattle.class_tables.proofs.ClassLaws.{sized_if_there}
use Rattle.table.specs.declared.Which.{Which}
use Rattle.table.specs.Places.{chosen}
use Rattle.attribute_read.specs.declared.Item.{Item}
use Rattle.attribute_read.specs.Values.{item_of, shown, content_at, values_at, Within, Fits, Packable}
use Rattle.attribute_read.proofs.Items.{within, placed_item, length_shown}
use Rattle.store.specs.Layout.{block_length}
use Rattle.class_tables.specs.declared.Product.{Product}

-- how many bytes the contents take
pub length_values : (pr : Product) (b : List ℕ) (c i o : ℕ) → length b ≡ block_length → Within (cat_of pr) c o → (m : List ℕ) → all (λ n. supported (class_for pr c) n) m ≡ true
    → length (values_at (cat_of pr) b c i o m) ≡ total (size_of (class_for pr c)) m
unfolding values_at content_at item_of total all
length_values pr b c i o lb w [] s = refl
length_values pr b c i o lb w (n ∷ m) s =
    let x : Item = item_of (cat_of pr) c o n in
    let first : length (shown b i x) ≡ size_of (class_for pr c) n = length_shown b i x lb (placed_item pr c n o w (both s).0) in
    let others : length (values_at (cat_of pr) b c i o m) ≡ total (size_of (class_for pr c)) m = length_values pr b c i o lb w m (both s).1 in
    length-append (shown b i x) (values_at (cat_of pr) b c i o m) ∙ omega arith

-- `front` is written over the first `to` bytes of `before`; the attributes of `left` follow
pub record Packed (pr : Product) (which : Which) (live frozen : List ℕ) (c i o m : ℕ) (left : List ℕ) (to : ℕ) (before now : List ℕ) : Type 0 where
  pub may : Packable pr which live frozen c i o m (length before)
  pub walked : Walked (size_of (class_for pr c)) m left to
  pub front : List ℕ
  pub is : now ≡ laid 0 front before
  pub long : length front ≡ to
  pub whole : front ++ values_at (cat_of pr) (chosen which live frozen) c i o left ≡ values_at (cat_of pr) (chosen which live frozen) c i o (named m)

pub nothing_packed : (pr : Product) {which : Which} {live frozen : List ℕ} {c i o m left : ℕ} {before : List ℕ} → left ≡ m → Packable pr which live frozen c i o m (length before)
    → Packed pr which live frozen c i o m (named left) 0 before before
unfolding laid
nothing_packed pr {c = c} e h = record { may = h; walked = nothing_walked (size_of (class_for pr c)) e; front = []; is = refl; long = refl; whole = rw e refl }

module _ (pr : Product) {which : Which} {live frozen : List ℕ} {c i o m to : ℕ} {left before now : List ℕ} (p : Packed pr which live frozen c i o m left to before now) where
  abbrev k : Class
  k = class_for pr c

  abbrev b : List ℕ
  b = chosen which live frozen

  abbrev values_of : List ℕ → List ℕ
  values_of l = values_at (cat_of pr) b c i o l

  front_fits : 0 + length p.front ≤ length before
  front_fits =
      let s = p.walked.summed in
      let r = p.may.room_for_all in
      let e = p.long in
      omega arith

  pub length_packed : length now ≡ length before
  length_packed = ap length p.is ∙ length_laid 0 p.front before front_fits

  -- the last one is written
  pub all_packed : left ≡ [] → now ≡ laid 0 (values_of (named m)) before
  unfolding values_at
  all_packed e =
      let all_of_it : p.front ≡ values_of (named m) = sym (append-nil p.front) ∙ ap (λ (x : List ℕ). p.front ++ values_of x) (sym e) ∙ p.whole in
      p.is ∙ ap (λ (x : List ℕ). laid 0 x before) all_of_it

  pub its_entry : Within (cat_of pr) c o
  its_entry = within pr b c i o p.may.shaped p.may.at_its_spot

  module _ {n : ℕ} {rest : List ℕ} (first : left ≡ n ∷ rest) where
    pub next_there : supported k n ≡ true
    next_there = next_passes p.walked first (λ n. supported k n) p.may.all_there

    module _ {x : Item} (e : x ≡ item_of (cat_of pr) c o n) where
      its_size : x.size ≡ size_of k n
      unfolding item_of
      its_size = ap (λ (y : Item). y.size) e

      -- the next item stands in the chosen block, and there is room for it
      pub next_fits : Fits which live frozen x to (length now)
      next_fits =
          let sx = its_size in
          let z : 0 < size_of k n = sized_if_there pr c n next_there in
          let w = next_within p.walked first in
          let r = p.may.room_for_all in
          let l = length_packed in
          record {
            live_long = p.may.live_long;
            frozen_long = p.may.frozen_long;
            shaped = p.may.shaped;
            sized = omega arith;
            placed = rw e (placed_item pr c n o its_entry next_there);
            room_for_it = omega arith;
          }

      -- one more is written
      pub one_more : {after : List ℕ} → after ≡ laid to (shown b i x) now → Packed pr which live frozen c i o m rest (to + x.size) before after
      unfolding values_at content_at
      one_more y =
          let v : List ℕ = shown b i x in
          let lv : length v ≡ x.size = length_shown b i x p.may.shaped.long next_fits.placed in
          let start : to ≡ 0 + length p.front = omega (arith, p.long) in
          record {
            may = p.may;
            walked = one_walked p.walked first its_size;
            front = p.front ++ v;
            is = y ∙ ap (λ (z : ℕ). laid z v now) start ∙ ap (laid (0 + length p.front) v) p.is ∙ laid_next 0 p.front before front_fits v;
            long = length-append p.front v ∙ omega (arith, p.long, lv);
            whole = append_assoc p.front v (values_of rest)
                ∙ ap (λ (z : Item). p.front ++ (shown b i z ++ values_of rest)) e
                ∙ ap (λ (l : List ℕ). p.front ++ values_of l) (sym first) ∙ p.whole;
          }
