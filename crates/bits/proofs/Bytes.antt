-- A bit of a byte, and the number after another.
use Rattle.std.proofs.Common.{◌≡◌, ℕ, zero, suc, ◌+◌, ◌-◌, ◌/◌, ◌%◌, ◌^◌, ◌<◌, false, eqb, get_or, max, refl, arith}
use Rattle.rules.specs.Bytes.{bits}
use Rattle.rules.specs.Messages.{next_number}
use Rattle.rules.proofs.Laws.{eqb_false, same?}

-- bit n of so many, from the top
pub bits_at : (k x n : ℕ) → n < k → get_or (bits k x) n false ≡ eqb (x / 2 ^ (k - 1 - n) % 2) 1
unfolding bits
bits_at zero x n h = absurd (omega arith)
bits_at (suc k) x zero h = let e : suc k - 1 - 0 ≡ k = omega arith in rw e
bits_at (suc k) x (suc n) h = let e : suc k - 1 - suc n ≡ k - 1 - n = omega arith in rw e (bits_at k x n (omega arith))

-- a byte goes on, and from 255 to 1
pub next_or_one : (x : ℕ) → x < 256 → max ((x + 1) % 256) 1 ≡ next_number x
unfolding next_number
next_or_one x h = same? x 255
    (λ q. rw q refl)
    (λ q. rw (eqb_false x 255 q) (omega arith))
