-- Alarms read from bytes, a byte to each key: how many bitmaps there are, and the n-th of them.
use Prim.Native.Nat.{ℕ, zero, suc, ◌+◌, ◌-◌, ◌≤◌, ◌<◌}
use native.Mathlib.Omega.{arith}
use mathlib.Core.Path.{◌≡◌, refl, ◌∙◌, ap}
use mathlib.Core.Bool.{Bool, true, false, not}
use mathlib.Core.Option.{none, some}
use mathlib.Core.Logic.{◌≢◌}
use mathlib.Core.List.{List, [], ◌∷◌}
use lib.ListN.{length, get_or}
use lib.Dec.{eqb}
use Rattle.std.specs.Prelude.{Option, Some, None, MatchOption, slice_get}
use Rattle.std.specs.List.{filter, enumerate_from}
use Rattle.rules.specs.Maps.{nth}
use Rattle.rules.specs.Bytes.{byte, are_bytes}
use Rattle.rules.specs.Legal.{some_on}
use Rattle.rules.proofs.Laws.{cases, eqb_false}
use Rattle.rules.proofs.ByteLaws.{byte_small, bytes_drop}
use Rattle.store.specs.Decode.{read_alarms}
use Rattle.store.proofs.AlarmBits.{shown_by, on_byte}
use Rattle.alarm_walk.specs.OnBytes.{count_on, place_on}

off_here : (x : ℕ) → x < 256 → eqb x 0 ≡ true → some_on (shown_by x) ≡ false
off_here x h t = on_byte x h ∙ ap not t

on_here : (x : ℕ) → x < 256 → eqb x 0 ≡ false → some_on (shown_by x) ≡ true
on_here x h t = on_byte x h ∙ ap not t

pub how_many_read : (ks b : List ℕ) → length b ≡ length ks → are_bytes b ≡ true → length (read_alarms ks b) ≡ count_on b
unfolding read_alarms count_on
how_many_read [] [] e h = refl
how_many_read [] (x ∷ b) e h = absurd (omega arith)
how_many_read (k ∷ ks) [] e h = absurd (omega arith)
how_many_read (k ∷ ks) (x ∷ b) e h =
    let r : length (read_alarms ks b) ≡ count_on b = how_many_read ks b (omega arith) (bytes_drop 1 (x ∷ b) h) in
    let s : x < 256 = byte_small (x ∷ b) 0 h in
    cases (eqb x 0)
    (λ t. rw (t, off_here x s t) r)
    (λ t. rw (t, on_here x s t) (ap suc r))

-- ---- the n-th byte in which an alarm is on

pub place_past_off : (n x : ℕ) (b : List ℕ) → eqb x 0 ≡ true → place_on n (x ∷ b) ≡ suc (place_on n b)
unfolding place_on
place_past_off n x b t = rw t

pub place_here : (x : ℕ) (b : List ℕ) → eqb x 0 ≡ false → place_on 0 (x ∷ b) ≡ 0
unfolding place_on
place_here x b t = rw t

pub place_past_on : (n x : ℕ) (b : List ℕ) → n ≢ 0 → eqb x 0 ≡ false → place_on n (x ∷ b) ≡ suc (place_on (n - 1) b)
unfolding place_on
place_past_on n x b h t = rw (t, eqb_false n 0 h)

place_past_next : (n x : ℕ) (b : List ℕ) → eqb x 0 ≡ false → place_on (suc n) (x ∷ b) ≡ suc (place_on n b)
place_past_next n x b t =
    let e : suc n - 1 ≡ n = omega arith in
    let ne : suc n ≢ 0 = omega arith in
    place_past_on (suc n) x b ne t ∙ ap (λ (m : ℕ). suc (place_on m b)) e

-- the n-th bitmap is that of this byte
pub nth_read : (n : ℕ) (ks b : List ℕ) → length b ≡ length ks → are_bytes b ≡ true → place_on n b < length b
    → nth (read_alarms ks b) n ≡ some (get_or ks (place_on n b) 0, shown_by (byte b (place_on n b)))
unfolding read_alarms nth
nth_read n [] b e h l = absurd (omega arith)
nth_read n (k ∷ ks) [] e h l = absurd (omega arith)
nth_read zero (k ∷ ks) (x ∷ b) e h l =
    let s : x < 256 = byte_small (x ∷ b) 0 h in
    cases (eqb x 0)
    (λ t.
    let q = place_past_off zero x b t in
    rw (q, off_here x s t) (nth_read zero ks b (omega arith) (bytes_drop 1 (x ∷ b) h) (omega (arith, l, q))))
    (λ t. rw (place_here x b t, on_here x s t))
nth_read (suc n) (k ∷ ks) (x ∷ b) e h l =
    let s : x < 256 = byte_small (x ∷ b) 0 h in
    cases (eqb x 0)
    (λ t.
    let q = place_past_off (suc n) x b t in
    rw (q, off_here x s t) (nth_read (suc n) ks b (omega arith) (bytes_drop 1 (x ∷ b) h) (omega (arith, l, q))))
    (λ t.
    let q = place_past_next n x b t in
    rw (q, on_here x s t) (nth_read n ks b (omega arith) (bytes_drop 1 (x ∷ b) h) (omega (arith, l, q))))

-- there is none where there are not so many
pub none_read : (n : ℕ) (ks b : List ℕ) → length b ≡ length ks → are_bytes b ≡ true → length b ≤ place_on n b → nth (read_alarms ks b) n ≡ none
unfolding read_alarms nth
none_read n [] b e h l = refl
none_read n (k ∷ ks) [] e h l = absurd (omega arith)
none_read zero (k ∷ ks) (x ∷ b) e h l =
    let s : x < 256 = byte_small (x ∷ b) 0 h in
    cases (eqb x 0)
    (λ t. rw (off_here x s t) (none_read zero ks b (omega arith) (bytes_drop 1 (x ∷ b) h) (omega (arith, l, place_past_off zero x b t))))
    (λ t. absurd (omega (arith, l, place_here x b t)))
none_read (suc n) (k ∷ ks) (x ∷ b) e h l =
    let s : x < 256 = byte_small (x ∷ b) 0 h in
    cases (eqb x 0)
    (λ t. rw (off_here x s t) (none_read (suc n) ks b (omega arith) (bytes_drop 1 (x ∷ b) h) (omega (arith, l, place_past_off (suc n) x b t))))
    (λ t. rw (on_here x s t) (none_read n ks b (omega arith) (bytes_drop 1 (x ∷ b) h) (omega (arith, l, place_past_next n x b t))))

-- ---- what the code's chains keep: the bytes with an alarm that is on

abbrev pub is_on : ℕ → Bool
is_on x = not (eqb x 0)

pub count_kept : (b : List ℕ) → length (filter is_on b) ≡ count_on b
unfolding count_on
count_kept [] = refl
count_kept (x ∷ b) = cases (eqb x 0) (λ t. rw t (count_kept b)) (λ t. rw t (ap suc (count_kept b)))

-- a place and its byte
abbrev pub on_at : ℕ × ℕ → Bool
on_at p = is_on p.1

-- the n-th of them is at this place, counted from m; or there are not so many
abbrev pub Placed : ℕ → ℕ → ℕ → Option (ℕ × ℕ) → Type 0
Placed m place n o = MatchOption o (place ≡ n) (λ p. (p.0 ≡ m + place) × (place < n))

further_on : (m place n : ℕ) (o : Option (ℕ × ℕ)) → Placed (m + 1) place n o → Placed m (suc place) (suc n) o
further_on m place n None h = ap suc h
further_on m place n (Some p) h = (let e = h.0 in omega arith, let l = h.1 in omega arith)

none_placed : (n : ℕ) → place_on n [] ≡ 0
unfolding place_on
none_placed n = refl

place_kept : (m n : ℕ) (b : List ℕ) → Placed m (place_on n b) (length b) (slice_get (filter on_at (enumerate_from m b)) n)
place_kept m n [] = none_placed n
place_kept m zero (x ∷ b) = cases (eqb x 0)
    (λ t. rw (place_past_off zero x b t, t) (further_on m (place_on zero b) (length b) _ (place_kept (m + 1) zero b)))
    (λ t. rw (place_here x b t, t) (omega arith, omega arith))
place_kept m (suc n) (x ∷ b) = cases (eqb x 0)
    (λ t. rw (place_past_off (suc n) x b t, t) (further_on m (place_on (suc n) b) (length b) _ (place_kept (m + 1) (suc n) b)))
    (λ t. rw (place_past_next n x b t, t) (further_on m (place_on n b) (length b) _ (place_kept (m + 1) n b)))

-- what the chain answers for the number n
pub placed : (n k : ℕ) (b : List ℕ) {o : Option (ℕ × ℕ)} → k ≡ n → o ≡ slice_get (filter on_at (enumerate_from 0 b)) k → Placed 0 (place_on n b) (length b) o
placed n k b is e = rw (e, is) (place_kept 0 n b)
