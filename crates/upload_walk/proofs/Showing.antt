-- What is written of a section: its head, and behind it the values.
use Prim.Native.Nat.{ℕ, ◌+◌, ◌≤◌}
use native.Mathlib.Omega.{arith}
use mathlib.Core.Path.{◌≡◌, ◌∙◌, ap}
use mathlib.Core.List.{List, ◌++◌}
use lib.ListN.{length, take, drop, length-append, length-drop}
use lib.Seq.{length-take-le}
use borrow.Rule.Slice.PartMut.{mid_of, put_mid}
use Rattle.rules.specs.Bytes.{bytes, laid}
use Rattle.rules.specs.Masks.{named}
use Rattle.octets.proofs.Laid.{laid_number, length_laid, laid_next, laid_in_part}
use Rattle.class_tables.specs.Built.{cat_of}
use Rattle.table.specs.declared.Which.TheVariants.{Frozen}
use Rattle.attribute_read.specs.Values.{values_at, Packable}
use Rattle.attribute_read.proofs.Items.{within}
use Rattle.attribute_read.proofs.Packed.{length_values}
use Rattle.rules.proofs.ByteLaws.{length_bytes}
use Rattle.upload_walk.specs.SectionBytes.{frozen_block, section_bytes, Showable}
use Rattle.class_tables.specs.declared.Product.{Product}
use Rattle.store.specs.Layout.{block_length, live_at}

-- ---- the head

abbrev pub head : ℕ → ℕ → ℕ → List ℕ
head c i m = bytes 2 c ++ bytes 2 i ++ bytes 2 m

head_length : (c i m : ℕ) → length (head c i m) ≡ 6
head_length c i m =
    length-append (bytes 2 c ++ bytes 2 i) (bytes 2 m)
    ∙ omega (arith, length-append (bytes 2 c) (bytes 2 i), length_bytes 2 c, length_bytes 2 i, length_bytes 2 m)

pub head_written : (c i m : ℕ) (o₀ o₁ o₂ o₃ : List ℕ) → length o₀ ≡ 32 → o₁ ≡ take 0 o₀ ++ (bytes 2 c ++ drop (0 + 2) o₀)
    → o₂ ≡ take 2 o₁ ++ (bytes 2 i ++ drop (2 + 2) o₁) → o₃ ≡ take 4 o₂ ++ (bytes 2 m ++ drop (4 + 2) o₂) → o₃ ≡ laid 0 (head c i m) o₀
head_written c i m o₀ o₁ o₂ o₃ n e f g =
    let lc = length_bytes 2 c in
    let li = length_bytes 2 i in
    let la = length-append (bytes 2 c) (bytes 2 i) in
    let two : 2 ≡ 0 + length (bytes 2 c) = omega arith in
    let four : 4 ≡ 0 + length (bytes 2 c ++ bytes 2 i) = omega arith in
    let one : o₁ ≡ laid 0 (bytes 2 c) o₀ = e ∙ laid_number 0 c o₀ in
    let more : o₂ ≡ laid 0 (bytes 2 c ++ bytes 2 i) o₀ =
    f ∙ laid_number 2 i o₁ ∙ ap (laid 2 (bytes 2 i)) one ∙ ap (λ (k : ℕ). laid k (bytes 2 i) (laid 0 (bytes 2 c) o₀)) two
    ∙ laid_next 0 (bytes 2 c) o₀ (omega arith) (bytes 2 i) in
    g ∙ laid_number 4 m o₂ ∙ ap (laid 4 (bytes 2 m)) more ∙ ap (λ (k : ℕ). laid k (bytes 2 m) (laid 0 (bytes 2 c ++ bytes 2 i) o₀)) four
    ∙ laid_next 0 (bytes 2 c ++ bytes 2 i) o₀ (omega arith) (bytes 2 m)

-- ---- the values

module _ (pr : Product) (st : List ℕ) {c i o m : ℕ} (s : Showable pr st c i o m) where
  abbrev values : List ℕ
  values = values_at (cat_of pr) (frozen_block st) c i o (named m)

  values_fit : length values ≤ 26
  values_fit =
      let e = length_values pr (frozen_block st) c i o s.shaped.long (within pr (frozen_block st) c i o s.shaped s.at_its_spot) (named m) s.all_there in
      let r = s.room in
      omega arith

  pub bytes_fit : length (section_bytes (cat_of pr) (frozen_block st) c i o m) ≤ 32
  unfolding section_bytes
  bytes_fit = let fit = values_fit in let lh = head_length c i m in let la = length-append (head c i m) values in omega arith

  module _ (o₀ : List ℕ) {o₁ : List ℕ} (n : length o₀ ≡ 32) (e : o₁ ≡ laid 0 (head c i m) o₀) where
    headed : length o₁ ≡ 32
    headed = ap length e ∙ length_laid 0 (head c i m) o₀ (let lh = head_length c i m in omega arith) ∙ n

    -- the values can be packed behind the head
    pub packable : Packable pr Frozen (take block_length (drop live_at st)) (frozen_block st) c i o m (length (take 26 (drop 6 o₁)))
    packable =
        let long = s.long in
        let len = headed in
        let all : length (take 26 (drop 6 o₁)) ≡ 26 = length-take-le 26 (drop 6 o₁) (simp length-drop (omega arith)) in
        let room = s.room in
        record {
          live_long = length-take-le block_length (drop live_at st) (simp length-drop (omega arith));
          frozen_long = s.shaped.long;
          shaped = s.shaped;
          at_its_spot = s.at_its_spot;
          all_there = s.all_there;
          room_for_all = omega arith;
        }

    pub with_values : {w : List ℕ} → w ≡ laid 0 values (mid_of 6 26 o₁) → put_mid 6 26 o₁ w ≡ laid 0 (section_bytes (cat_of pr) (frozen_block st) c i o m) o₀
    unfolding section_bytes
    with_values f =
        let fit = values_fit in
        let lh = head_length c i m in
        let len = headed in
        let six : 6 + 0 ≡ 0 + length (head c i m) = omega arith in
        ap (put_mid 6 26 o₁) f ∙ laid_in_part 6 26 0 values o₁ (omega arith) (omega arith)
        ∙ ap (λ (x : List ℕ). laid (6 + 0) values x) e ∙ ap (λ (k : ℕ). laid k values (laid 0 (head c i m) o₀)) six
        ∙ laid_next 0 (head c i m) o₀ (omega arith) values
