-- The eight alarms that a byte of the store shows.
use Prim.Native.Nat.{ℕ, zero, suc, ◌<◌, ◌≤◌}
use mathlib.Core.Path.{◌≡◌, refl, ap, ◌∙◌}
use mathlib.Core.Bool.{true, false, not}
use mathlib.Core.List.{◌++◌, List, ◌∷◌, []}
use lib.ListN.{length, take, replicate, length-append}
use lib.Seq.{take_at}
use lib.Dec.{eqb}
use Rattle.rules.specs.Maps.{computing_maps}
use Rattle.rules.specs.Bytes.{bits_from, bits, computing_bytes, bit_bytes}
use Rattle.rules.specs.State.{Alarms}
use Rattle.rules.proofs.Laws.{eqb_eq}
use Rattle.rules.proofs.Computed.{all_below, below, agree, alike_below}
use Rattle.rules.specs.Walks.{bitmap}
use Rattle.store.specs.Decode.{read_alarms}
use Rattle.rules.specs.Legal.{some_on}
use native.Mathlib.Omega.{arith}

-- the bitmap of which a byte shows the first eight alarms
abbrev pub shown_by : ℕ → Alarms
shown_by x = bits 8 x ++ replicate 216 false

pub byte_of_bits : (x : ℕ) → x < 256 → bits_from 0 (bits 8 x) ≡ x
byte_of_bits x h = eqb_eq (bits_from 0 (bits 8 x)) x (below (λ x. eqb (bits_from 0 (bits 8 x)) x) 256 computed x h)
  where
    computed : all_below (λ x. eqb (bits_from 0 (bits 8 x)) x) 256 ≡ true
    computed = unfold all_below computing_maps computing_bytes in refl

length_bits : (n x : ℕ) → length (bits n x) ≡ n
unfolding bits
length_bits zero x = refl
length_bits (suc n) x = ap suc (length_bits n x)

pub length_shown : (x : ℕ) → length (shown_by x) ≡ 224
length_shown x = rw (length-append (bits 8 x) (replicate 216 false), length_bits 8 x)

pub byte_shown : (x : ℕ) → x < 256 → bits_from 0 (take 8 (shown_by x)) ≡ x
byte_shown x h = rw (take_at (bits 8 x) (replicate 216 false) 8 (length_bits 8 x)) (byte_of_bits x h)

-- an alarm is on in every byte but 0
pub on_byte : (x : ℕ) → x < 256 → some_on (shown_by x) ≡ not (eqb x 0)
on_byte x h = alike_below (λ x. some_on (shown_by x)) (λ x. not (eqb x 0)) 256 computed x h
  where
    computed : all_below (λ x. agree (some_on (shown_by x)) (not (eqb x 0))) 256 ≡ true
    computed = unfold all_below some_on computing_maps computing_bytes in refl

-- such a bitmap's bytes: the first, and zeros
pub bitmap_read : (x : ℕ) → x < 256 → bitmap (shown_by x) ≡ x ∷ replicate 27 0
bitmap_read x h = first ∙ ap (λ (y : ℕ). y ∷ replicate 27 0) (byte_of_bits x h)
  where
    first : bitmap (shown_by x) ≡ bits_from 0 (bits 8 x) ∷ replicate 27 0
    first = unfold bits bits_from bit_bytes in refl

-- bytes behind those of the keys say nothing
pub read_front : (m : ℕ) (ks b : List ℕ) → length ks ≤ m → read_alarms ks (take m b) ≡ read_alarms ks b
unfolding read_alarms
read_front m [] b h = refl
read_front zero (k ∷ ks) b h = absurd (omega arith)
read_front (suc m) (k ∷ ks) [] h = refl
read_front (suc m) (k ∷ ks) (x ∷ b) h = rw (read_front m ks b (omega arith))
