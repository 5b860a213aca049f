-- One alarm of a byte turned on or off, by computing it for every byte.
use Rattle.std.proofs.Common.{◌≡◌, ℕ, ◌-◌, ◌/◌, ◌^◌, ◌<◌, Bool, true, false, cond, eqb, set, refl}
use lib.Bits.{bit_and, bit_or}
use Rattle.rules.specs.Maps.{◌and◌}
use Rattle.rules.specs.Bytes.{bits, bits_from}
use Rattle.rules.proofs.Computed.{all_below, below}
use Rattle.rules.proofs.Laws.{eqb_eq}

abbrev pub turned : ℕ → ℕ → Bool → ℕ
turned b n on = cond on (bit_or b (128 / 2 ^ n)) (bit_and b (255 - 128 / 2 ^ n))

turn_test : Bool → ℕ → ℕ → Bool
turn_test on n b = eqb (turned b n on) (bits_from 0 (set (bits 8 b) n on))

turns : (on : Bool) → all_below (λ n. all_below (turn_test on n) 256) 8 ≡ true
unfolding all_below ◌and◌ turn_test bits bits_from
turns true = refl
turns false = refl

pub turned_is : (b n : ℕ) (on : Bool) → b < 256 → n < 8 → turned b n on ≡ bits_from 0 (set (bits 8 b) n on)
unfolding turn_test
turned_is b n on h i = eqb_eq (turned b n on) (bits_from 0 (set (bits 8 b) n on)) (below (turn_test on n) 256 (below (λ k. all_below (turn_test on k) 256) 8 (turns on) n i) b h)
