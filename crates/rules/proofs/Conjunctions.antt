-- Tests joined by `and` and `or`: how they are nested doesn't matter.
use mathlib.Core.Path.{◌≡◌, ◌∙◌}
use mathlib.Core.Bool.{Bool, true, false, ◌&&◌}
use Rattle.rules.specs.Maps.{◌and◌, ◌or◌}
use Rattle.rules.proofs.Laws.{cases, true_and}

pub and_assoc : (a b c : Bool) → ((a and b) and c) ≡ (a and (b and c))
unfolding ◌and◌
and_assoc a b c = cases a (λ e. rw e) (λ e. rw e)

-- as the code joins them
pub join_assoc : (a b c : Bool) → ((a && b) && c) ≡ (a && (b && c))
join_assoc a b c = cases a (λ e. rw e) (λ e. rw e)

pub join_end : (a : Bool) → (a && true) ≡ a
join_end a = cases a (λ e. rw e) (λ e. rw e)

pub join_never : (a : Bool) → (a && false) ≡ false
join_never a = cases a (λ e. rw e) (λ e. rw e)

pub and_end : (a : Bool) → (a and true) ≡ a
unfolding ◌and◌
and_end a = cases a (λ e. rw e) (λ e. rw e)

-- the middle two of four change places
pub and_swap : (a b c d : Bool) → ((a and b) and (c and d)) ≡ ((a and c) and (b and d))
unfolding ◌and◌
and_swap a b c d = cases a (λ e. rw e (cases b (λ f. rw f) (λ f. rw f (cases c (λ g. rw g) (λ g. rw g))))) (λ e. rw e)

pub or_end : (a : Bool) → (a or false) ≡ a
unfolding ◌or◌
or_end a = cases a (λ e. rw e) (λ e. rw e)

-- tests one after another, and what each of them is

-- one that passes, and the rest
pub passed : {p q y : Bool} → p ≡ true → q ≡ y → (p and q) ≡ y
passed {q = q} e f = rw e (true_and q ∙ f)

-- one that always passes, and the rest
pub past : {q y : Bool} → q ≡ y → (true and q) ≡ y
past {q} f = true_and q ∙ f

-- the last one that can fail
pub last_of : {p q x : Bool} → p ≡ x → q ≡ true → (p and q) ≡ x
last_of {p = p} e f = rw f (and_end p ∙ e)
