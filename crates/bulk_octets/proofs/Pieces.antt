-- Two slices compared piece by piece.
use Prim.Native.Nat.{ℕ, zero, suc, ◌+◌, ◌*◌, ◌-◌, ◌≤◌}
use native.Mathlib.Omega.{arith}
use mathlib.Core.Path.{◌≡◌, refl, sym, ◌∙◌, ap}
use mathlib.Core.Bool.{Bool, true, false, ◌&&◌}
use mathlib.Core.List.{List, [], ◌∷◌, ◌++◌}
use lib.ListN.{length, take, drop, length-drop, take-append-drop}
use lib.Seq.{length-take-le, drop-drop, take_all}
use lib.Dec.{eqb}
use Rattle.std.specs.List.{list_all, zip}
use Rattle.std.specs.Simd.{first_chunks}
use Rattle.rules.specs.Maps.{◌and◌, same}
use Rattle.rules.proofs.Laws.{true_and}
use Rattle.rules.proofs.Conjunctions.{and_assoc, join_assoc}

joined : (a b c : Bool) → ((a && b) and c) ≡ (a and (b and c))
unfolding ◌and◌
joined a b c = join_assoc a b c

-- two blocks of one length, and what follows them
pub same_append : (x y u v : List ℕ) → length x ≡ length u → same (x ++ y) (u ++ v) ≡ (same x u and same y v)
unfolding same
same_append [] y [] v h = sym (true_and (same y v))
same_append [] y (a ∷ u) v h = absurd (omega (arith, h))
same_append (a ∷ x) y [] v h = absurd (omega (arith, h))
same_append (a ∷ x) y (b ∷ u) v h = rw (same_append x y u v (omega (arith, h))) (sym (and_assoc (eqb a b) (same x u) (same y v)))

-- the first n bytes, and the others
pub same_split : (n : ℕ) (a b : List ℕ) → n ≤ length a → n ≤ length b → same a b ≡ (same (take n a) (take n b) and same (drop n a) (drop n b))
same_split n a b h k =
    ap (λ (x : List ℕ). same x b) (sym (take-append-drop n a)) ∙ ap (λ (x : List ℕ). same (take n a ++ drop n a) x) (sym (take-append-drop n b))
    ∙ same_append (take n a) (drop n a) (take n b) (drop n b) (length-take-le n a h ∙ sym (length-take-le n b k))

-- the first k pieces of n bytes, and the rest behind them
abbrev pub pieces_alike : ℕ → ℕ → List ℕ → List ℕ → Bool
pieces_alike n k a b = list_all (λ p. same p.0 p.1) (zip (first_chunks n k a) (first_chunks n k b))

pieces_and_rest : (n k : ℕ) (a b : List ℕ) → length a ≡ length b → k * n ≤ length a
    → (pieces_alike n k a b and same (drop (k * n) a) (drop (k * n) b)) ≡ same a b
pieces_and_rest n zero a b l h = let z : 0 * n ≡ 0 = omega arith in rw z (true_and (same a b))
pieces_and_rest n (suc k) a b l h =
    let m : suc k * n ≡ n + k * n = omega arith in
    let first : Bool = same (take n a) (take n b) in
    let others : Bool = pieces_alike n k (drop n a) (drop n b) in
    let rest : same (drop (suc k * n) a) (drop (suc k * n) b) ≡ same (drop (k * n) (drop n a)) (drop (k * n) (drop n b)) =
    rw (m, drop-drop (k * n) n a, drop-drop (k * n) n b) refl in
    let again = pieces_and_rest n k (drop n a) (drop n b) (simp length-drop (omega arith)) (simp length-drop (omega arith)) in
    ap (λ (z : Bool). (first && others) and z) rest ∙ joined first others _ ∙ ap (λ (z : Bool). first and z) again
    ∙ sym (same_split n a b (omega arith) (omega arith))

-- a piece differs, or only the rest is left to be compared
module _ (n k : ℕ) (a b : List ℕ) (l : length a ≡ length b) (h : k * n ≤ length a) where
  pub piece_differs : pieces_alike n k a b ≡ false → false ≡ same a b
  unfolding ◌and◌
  piece_differs p = rw p at (pieces_and_rest n k a b l h)

  pub rest_decides : pieces_alike n k a b ≡ true → same (drop (k * n) a) (drop (k * n) b) ≡ same a b
  rest_decides p = rw (p, true_and) at (pieces_and_rest n k a b l h)

-- what is lent from a place to the end
pub the_rest : (at : ℕ) (a : List ℕ) → take (length a - at) (drop at a) ≡ drop at a
the_rest at a = take_all (length a - at) (drop at a) (simp length-drop (omega arith))
