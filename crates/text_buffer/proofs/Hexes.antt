-- The digits of bytes grow by a byte's two.
use Prim.Native.Nat.{ℕ, ◌+◌, ◌<◌}
use native.Mathlib.Numerals.{add-one}
use mathlib.Core.Path.{◌≡◌, refl, sym, ap, ◌∙◌}
use mathlib.Core.List.{List, [], ◌∷◌, ◌++◌, append_assoc, append-nil}
use lib.ListN.{length, take, get_or}
use lib.Seq.{take-suc}
use Rattle.text_buffer.specs.Digits.{hex, hexes}

hexes_append : (a b : List ℕ) → hexes (a ++ b) ≡ hexes a ++ hexes b
unfolding hexes
hexes_append [] b = refl
hexes_append (x ∷ a) b = rw (hexes_append a b) (sym (append_assoc (hex x) (hexes a) (hexes b)))

-- the texts so far, and one byte more
pub one_more : (s : List ℕ) (i : ℕ) → i < length s → take i s ++ (get_or s i 0 ∷ []) ≡ take (i + 1) s
one_more s i h = rw (add-one i) (sym (take-suc s i 0 h))

pub hexes_more : (s : List ℕ) (i : ℕ) → i < length s → hexes (take i s) ++ hex (get_or s i 0) ≡ hexes (take (i + 1) s)
unfolding hexes
hexes_more s i h =
    ap (λ (l : List ℕ). hexes (take i s) ++ l) (sym (append-nil (hex (get_or s i 0))))
    ∙ sym (hexes_append (take i s) (get_or s i 0 ∷ [])) ∙ ap hexes (one_more s i h)
