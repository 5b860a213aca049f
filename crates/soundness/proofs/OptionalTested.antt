-- What may be absent, and the remembered command: their bytes are those of something legal exactly if they pass the test.
use Prim.Native.Nat.{ℕ, suc}
use native.Mathlib.Omega.{arith}
use mathlib.Core.Path.{◌≡◌, refl, sym}
use mathlib.Core.Bool.{Bool, true}
use mathlib.Core.List.{List, [], ◌∷◌}
use lib.ListN.{length, take, drop, length-drop, take-append-drop}
use lib.Seq.{length-take-le, take_all}
use lib.Dec.{eqb}
use Rattle.rules.specs.Maps.{◌and◌, given, same}
use Rattle.rules.specs.Bytes.{are_bytes}
use Rattle.rules.specs.Legal.{legal_memory}
use Rattle.rules.proofs.Laws.{cases, both, and_true, bool_eq, true_and, eqb_true, eqb_eq, same_refl}
use Rattle.rules.proofs.ByteLaws.{bytes_take, bytes_drop}
use Rattle.store.specs.Layout.{memory_length, code_memory, code_optional}
use Rattle.store.specs.Decode.{read_optional, read_memory}
use Rattle.rules.proofs.Conjunctions.{past, last_of}
use Rattle.soundness.specs.Tests.{memory_test, optional_test}
use Rattle.soundness.proofs.Blocks.{same_zeros}

module _ {A : Type 0} (n : ℕ) (code : A → List ℕ) (reading : List ℕ → A) (legal : A → Bool) (test : List ℕ → Bool) where
  -- the bytes that something was read from are its encoding, and it is legal
  abbrev pub is_optional : List ℕ → Bool
  is_optional b = given (read_optional reading b) true legal and same (code_optional n code (read_optional reading b)) b

  pub optional_tested : ((b : List ℕ) → length b ≡ n → are_bytes b ≡ true → (legal (reading b) and same (code (reading b)) b) ≡ test b)
      → (b : List ℕ) → length b ≡ suc n → are_bytes b ≡ true → is_optional b ≡ optional_test test b
  unfolding read_optional code_optional optional_test same
  optional_tested h [] len bs = absurd (omega (arith, len))
  optional_tested h (x ∷ b) len bs =
      let l : length b ≡ n = omega (arith, len) in
      let g : Bool = legal (reading b) in
      let s : Bool = same (code (reading b)) b in
      cases (eqb x 0)
      (λ t. rw (t, eqb_true 0 x (sym (eqb_eq x 0 t)), true_and, true_and, same_zeros n b l))
      (λ t. rw (t, ← h b l (bytes_drop 1 (x ∷ b) bs))
      (bool_eq (g and (eqb 1 x and s)) (eqb x 1 and (g and s))
      (λ p. let q = both p in let r = both q.1 in and_true (eqb_true x 1 (sym (eqb_eq 1 x r.0))) (and_true q.0 r.1))
      (λ p. let q = both p in let r = both q.1 in and_true r.0 (and_true (eqb_true 1 x (sym (eqb_eq x 1 q.0))) r.1))))

-- ---- the remembered command

-- 88 bytes always hold a command and a reply of their lengths
pub memory_tested : (b : List ℕ) → length b ≡ memory_length → are_bytes b ≡ true → (legal_memory (read_memory b) and same (code_memory (read_memory b)) b) ≡ memory_test b
unfolding legal_memory read_memory code_memory memory_test
memory_tested b len bs =
    let c : List ℕ = take 40 b in
    let d : List ℕ = drop 40 b in
    let ld : length d ≡ 48 = simp length-drop (omega (arith, len)) in
    rw (
      take_all 48 d (omega (arith, ld)),
      take-append-drop 40 b,
      same_refl b,
      eqb_true (length c) 40 (length-take-le 40 b (omega (arith, len))),
      bytes_take 40 b bs,
      eqb_true (length d) 48 ld,
      bytes_drop 40 b bs,
    )
    (last_of (past (past (last_of refl (past refl)))) refl)
