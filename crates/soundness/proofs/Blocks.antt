-- Comparing bytes block by block, and with zeros behind them.
use Prim.Native.Nat.{ℕ, zero, suc, ◌+◌, ◌*◌, ◌-◌, ◌/◌, ◌%◌, ◌≤◌, ◌<◌}
use native.Mathlib.Omega.{arith}
use mathlib.Core.Path.{◌≡◌, refl, sym, ◌∙◌, ap}
use mathlib.Core.Bool.{true}
use mathlib.Core.List.{List, [], ◌∷◌, ◌++◌, append_assoc}
use lib.ListN.{length, take, drop, replicate, length-append, length-drop, take-append-drop}
use lib.Seq.{length-take-le}
use lib.Dec.{eqb}
use Rattle.rules.specs.Maps.{◌and◌, all, same}
use Rattle.rules.specs.Bytes.{two, bytes, fill, are_bytes, all_zero}
use Rattle.rules.proofs.Laws.{both, and_true, bool_eq, eqb_true, eqb_eq, same_refl, true_and, ltb_lt}
use Rattle.rules.proofs.ByteLaws.{fill_is}
use Rattle.bulk_octets.proofs.Pieces.{same_append}

-- a block is the front of what it is compared with
pub same_front : (x y b : List ℕ) (n : ℕ) → length x ≡ n → n ≤ length b → same (x ++ y) b ≡ (same x (take n b) and same y (drop n b))
same_front x y b n l h =
    ap (λ (z : List ℕ). same (x ++ y) z) (sym (take-append-drop n b))
    ∙ same_append x y (take n b) (drop n b) (l ∙ sym (length-take-le n b h))

pub same_zeros : (n : ℕ) (b : List ℕ) → length b ≡ n → same (replicate n 0) b ≡ all_zero b
unfolding same all_zero all
same_zeros zero [] h = refl
same_zeros zero (x ∷ b) h = absurd (omega (arith, h))
same_zeros (suc n) [] h = absurd (omega (arith, h))
same_zeros (suc n) (x ∷ b) h = rw (same_zeros n b (omega (arith, h)))
    (bool_eq (eqb 0 x and all (λ x. eqb x 0) b) (eqb x 0 and all (λ x. eqb x 0) b)
    (λ p. and_true (eqb_true x 0 (sym (eqb_eq 0 x (both p).0))) (both p).1)
    (λ p. and_true (eqb_true 0 x (sym (eqb_eq x 0 (both p).0))) (both p).1))

-- what is filled, compared
pub fill_front : (n w : ℕ) (v rest : List ℕ) → length v ≡ w → w + length rest ≤ n → fill n (v ++ rest) ≡ v ++ fill (n - w) rest
fill_front n w v rest l h =
    let e : length (v ++ rest) ≡ w + length rest = length-append v rest ∙ ap (λ (k : ℕ). k + length rest) l in
    let z : n - (w + length rest) ≡ n - w - length rest = omega arith in
    fill_is n (v ++ rest) (omega (arith, e))
    ∙ append_assoc v rest (replicate (n - length (v ++ rest)) 0)
    ∙ ap (λ (k : ℕ). v ++ (rest ++ replicate (n - k) 0)) e
    ∙ ap (λ (k : ℕ). v ++ (rest ++ replicate k 0)) z
    ∙ ap (λ (y : List ℕ). v ++ y) (sym (fill_is (n - w) rest (omega arith)))

-- the front of a block with zeros behind it is the block exactly if the rest of the block is zero
pub fill_take : (n w : ℕ) (x : List ℕ) → length x ≡ n → w ≤ n → same (fill n (take w x)) x ≡ all_zero (drop w x)
fill_take n w x l h =
    let t : length (take w x) ≡ w = length-take-le w x (omega arith) in
    let d : length (drop w x) ≡ n - w = simp length-drop (omega arith) in
    rw (fill_is n (take w x) (omega arith), t, same_front (take w x) (replicate (n - w) 0) x w t (omega arith), same_refl (take w x), true_and, same_zeros (n - w) (drop w x) d)

-- a number in two bytes, and again: the first four bytes are those that they were read from
pub four_front : (r : List ℕ) → 4 ≤ length r → are_bytes r ≡ true → (x : List ℕ) → same (bytes 2 (two r 0) ++ bytes 2 (two r 2) ++ x) r ≡ same x (drop 4 r)
unfolding bytes same are_bytes all
four_front [] h b x = absurd (omega arith)
four_front (a ∷ []) h b x = absurd (omega arith)
four_front (a ∷ c ∷ []) h b x = absurd (omega arith)
four_front (a ∷ c ∷ d ∷ []) h b x = absurd (omega arith)
four_front (a ∷ c ∷ d ∷ e ∷ r) h b x =
    let b₁ = both b in let b₂ = both b₁.1 in let b₃ = both b₂.1 in let b₄ = both b₃.1 in
    let p₁ : a < 256 = ltb_lt a 256 b₁.0 in
    let p₂ : c < 256 = ltb_lt c 256 b₂.0 in
    let p₃ : d < 256 = ltb_lt d 256 b₃.0 in
    let p₄ : e < 256 = ltb_lt e 256 b₄.0 in
    rw (
      eqb_true ((a * 256 + c) / 256 % 256) a (high a c p₁ p₂),
      eqb_true ((a * 256 + c) / 1 % 256) c (omega arith),
      eqb_true ((d * 256 + e) / 256 % 256) d (high d e p₃ p₄),
      eqb_true ((d * 256 + e) / 1 % 256) e (omega arith),
      true_and,
      true_and,
      true_and,
      true_and,
    )
  where
    high : (x y : ℕ) → x < 256 → y < 256 → (x * 256 + y) / 256 % 256 ≡ x
    high x y h g = let z : (x * 256 + y) / 256 ≡ x = omega arith in rw z (omega arith)
