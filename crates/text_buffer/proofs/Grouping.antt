-- A message in groups grows by a byte: a blank where a group begins, then two digits.
use Prim.Native.Nat.{ℕ, suc, ◌+◌, ◌<◌}
use native.Mathlib.Nat.{add-zero, zero-add}
use native.Mathlib.Omega.{arith}
use mathlib.Core.Path.{◌≡◌, sym, ap, ◌∙◌}
use mathlib.Core.List.{List, [], ◌∷◌, ◌++◌, append_assoc, append-nil}
use lib.ListN.{length, take, get_or}
use lib.Seq.{length-take-le}
use Rattle.text_buffer.specs.Digits.{hex}
use Rattle.text_buffer.specs.Groups.{gap, grouped}
use Rattle.text_buffer.proofs.Hexes.{one_more}

grouped_append : (k : ℕ) (a b : List ℕ) → grouped k (a ++ b) ≡ grouped k a ++ grouped (k + length a) b
unfolding grouped
grouped_append k [] b = ap (λ (n : ℕ). grouped n b) (sym (add-zero k))
grouped_append k (x ∷ a) b =
    let e : suc k + length a ≡ k + suc (length a) = omega arith in
    ap (λ (l : List ℕ). gap k ++ (hex x ++ l)) (grouped_append (suc k) a b ∙ ap (λ (n : ℕ). grouped (suc k) a ++ grouped n b) e)
    ∙ ap (λ (l : List ℕ). gap k ++ l) (sym (append_assoc (hex x) (grouped (suc k) a) (grouped (k + suc (length a)) b)))
    ∙ sym (append_assoc (gap k) (hex x ++ grouped (suc k) a) (grouped (k + suc (length a)) b))

pub grouped_more : (m : List ℕ) (i : ℕ) → i < length m
    → grouped 0 (take i m) ++ (gap i ++ hex (get_or m i 0)) ≡ grouped 0 (take (i + 1) m)
unfolding grouped
grouped_more m i h =
    let e : i ≡ 0 + length (take i m) = sym (zero-add (length (take i m)) ∙ length-take-le i m (omega arith)) in
    ap (λ (l : List ℕ). grouped 0 (take i m) ++ (gap i ++ l)) (sym (append-nil (hex (get_or m i 0))))
    ∙ ap (λ (n : ℕ). grouped 0 (take i m) ++ grouped n (get_or m i 0 ∷ [])) e
    ∙ sym (grouped_append 0 (take i m) (get_or m i 0 ∷ [])) ∙ ap (grouped 0) (one_more m i h)
