-- The law of the two numbers that count: below 255 one more, 255 to 1, and never 0.
use Prim.Native.Nat.{ℕ}
use native.Mathlib.Omega.{arith}
use mathlib.Core.Path.{◌≡◌, refl}
use Rattle.rules.specs.Messages.{next_number}
use Rattle.rules.proofs.Laws.{same?, eqb_true, eqb_false}
use Rattle.demands.specs.Counting.{OneOn}

-- The number that the rules put after another is one on from it: below 255 it is one more, after 255 it is 1, and it is never 0.
pub the_next_number_is_one_on : (n : ℕ) → OneOn n (next_number n)
unfolding next_number
the_next_number_is_one_on n = same? n 255
    (λ e. rw (eqb_true n 255 e) (record { below_255_one_more = λ lt. absurd (omega arith); from_255_to_1 = λ y. refl; never_0 = λ z. absurd (omega arith) }))
    (λ e. rw (eqb_false n 255 e) (record { below_255_one_more = λ lt. refl; from_255_to_1 = λ y. absurd (e y); never_0 = λ z. absurd (omega arith) }))

pub one_on_if_next : (before after : ℕ) → after ≡ next_number before → OneOn before after
one_on_if_next before after e = rw e (the_next_number_is_one_on before)
