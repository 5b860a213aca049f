-- A digit is four bits.
use Rattle.std.proofs.Common.{◌≡◌, ℕ, ◌-◌, ◌*◌, ◌/◌, ◌^◌, ◌≤◌, eqb, refl, ◌∙◌, arith}
use lib.Bits.{bit_and, and_mask}
use Rattle.rules.specs.Maps.{◌and◌}
use Rattle.rules.proofs.Laws.{eqb_eq}
use Rattle.rules.proofs.Computed.{all_below, below}
use Rattle.bits.specs.Digits.{digit}

shifted_by_fours : (n : ℕ) → n ≤ 16 → 2 ^ (64 - 4 * n) ≡ 16 ^ (16 - n)
shifted_by_fours n h = eqb_eq (2 ^ (64 - 4 * n)) (16 ^ (16 - n)) (below (λ k. eqb (2 ^ (64 - 4 * k)) (16 ^ (16 - k))) 17 (unfold all_below ◌and◌ in refl) n (omega arith))

pub digit_read : (x n : ℕ) → n ≤ 16 → bit_and (x / 2 ^ (64 - 4 * n)) 15 ≡ digit x n
unfolding digit
digit_read x n h = and_mask (x / 2 ^ (64 - 4 * n)) 4 ∙ rw (shifted_by_fours n h) refl
