-- What is bad in a Create: the attributes whose content isn't legal, and what isn't kept and must be zero.
use Prim.Native.Nat.{ℕ, ◌+◌, ◌-◌, ◌^◌, ◌≤◌, ◌<◌}
use native.Mathlib.Omega.{arith}
use mathlib.Core.Path.{◌≡◌, refl, sym, ◌∙◌, ap}
use mathlib.Core.Bool.{Bool, true, false, not}
use mathlib.Core.Logic.{◌≢◌}
use mathlib.Core.List.{List, [], ◌∷◌}
use lib.ListN.{length, take, drop, replicate, length-drop}
use lib.Seq.{length-take-le}
use lib.Dec.{leb}
use lib.Pow.{pow_pos}
use Rattle.std.specs.Prelude.{Some, None}
use Rattle.rules.specs.Bytes.{all_zero}
use Rattle.rules.specs.Catalogue.{Class, size_of, carried_numbers}
use Rattle.rules.specs.Commands.{cut, not_zero}
use Rattle.rules.specs.Maps.{◌and◌, Map, keys, keep, every, same, empty}
use Rattle.rules.specs.Masks.{named, mask, total}
use Rattle.rules.proofs.Laws.{cases, both, true_false, leb_le, same_eq, eq_same}
use Rattle.octets.proofs.Tests.{zeros_are, are_zeros}
use Rattle.store.specs.Layout.{key_length}
use Rattle.bits.proofs.Masks.{mask_append}
use Rattle.class_tables.specs.Built.{cat_of, class_for}
use Rattle.class_tables.specs.Meaning.{unkept_of}
use Rattle.class_tables.specs.declared.Product.{Product}
use Rattle.class_tables.specs.declared.Unkept.{Unkept}
use Rattle.class_tables.proofs.Facts.{bits_apart, unkept_fits}
use Rattle.attribute_check.specs.Judges.{is_in, legal_at, bad_among}
use Rattle.create_command.specs.New.{unkept_bad, bad_carried}
use Rattle.create_command.proofs.Others.{carried_named}

-- ---- masks

-- a mask is 0 exactly if it names nothing
pub none_masked : (l : List ℕ) → mask l ≡ 0 → empty l ≡ true
unfolding mask
none_masked [] e = refl
none_masked (n ∷ l) e = let p = pow_pos (16 - n) in absurd (omega arith)

pub some_masked : (l : List ℕ) → mask l ≢ 0 → empty l ≡ false
unfolding mask
some_masked [] e = absurd (e refl)
some_masked (n ∷ l) e = refl

-- the mask of some of them
some_of_them : (p : ℕ → List ℕ → Bool) (size : ℕ → ℕ) (l v : List ℕ) → mask (keys (keep p (cut size l v))) ≤ mask l
unfolding mask keys keep cut
some_of_them p size [] v = omega arith
some_of_them p size (n ∷ l) v =
    let rest = some_of_them p size l (drop (size n) v) in
    cases (p n (take (size n) v)) (λ e. rw e (omega arith)) (λ e. rw e (omega arith))

some_not_zero : (m : Map ℕ) (v : List ℕ) → mask (not_zero m v) ≤ mask (keys m)
unfolding mask keys not_zero
some_not_zero [] v = omega arith
some_not_zero (e ∷ m) v =
    let rest = some_not_zero m (drop e.1 v) in
    cases (not (same (take e.1 v) (replicate e.1 0))) (λ t. rw t (omega arith)) (λ t. rw t (omega arith))

-- ---- what isn't kept, which is at most one attribute

zeros_or_not : (l : List ℕ) (n : ℕ) → length l ≡ n → all_zero l ≡ same l (replicate n 0)
zeros_or_not l n e = cases (all_zero l)
    (λ y. y ∙ sym (eq_same l (replicate n 0) (zeros_are l y ∙ ap (λ (m : ℕ). replicate {A = ℕ} m 0) e)))
    (λ y. cases (same l (replicate n 0))
    (λ z. true_false (ap all_zero (same_eq l (replicate n 0) z) ∙ are_zeros n) y)
    (λ z. y ∙ sym z))

one_zero : (n z : ℕ) (w : List ℕ) → same (take z w) (replicate z 0) ≡ true → mask (not_zero ((n, z) ∷ []) w) ≡ 0
unfolding not_zero mask
one_zero n z w e = rw e refl

one_not_zero : (n z : ℕ) (w : List ℕ) → same (take z w) (replicate z 0) ≡ false → mask (not_zero ((n, z) ∷ []) w) ≡ 2 ^ (16 - n)
unfolding not_zero mask
one_not_zero n z w e = rw e (omega arith)

module _ (pr : Product) (c : ℕ) where
  abbrev k : Class
  k = class_for pr c

  -- so many bytes are kept
  abbrev kept : ℕ
  kept = total (size_of k) (carried_numbers k)

  module _ (v : List ℕ) (long : length v ≡ 32) where
    -- what is bad, where this isn't kept
    abbrev bad_of : Map ℕ → ℕ
    bad_of m = mask (not_zero m (drop kept v))

    pub nothing_unkept : unkept_of None ≡ k.unkept → 0 ≡ mask (unkept_bad k v)
    unfolding unkept_bad not_zero mask
    nothing_unkept is = ap bad_of is

    module _ (u : Unkept) (is : unkept_of (Some u) ≡ k.unkept) where
      fits : (leb 1 u.number and leb u.number 16 and leb (kept + u.size) 32) ≡ true
      unfolding every
      fits = (both (ap (every (λ n z. leb 1 n and leb n 16 and leb (kept + z) 32)) is ∙ unkept_fits pr c)).0

      pub is_number : (1 ≤ u.number) × (u.number ≤ 16)
      is_number = (leb_le 1 u.number (both fits).0, leb_le u.number 16 (both (both fits).1).0)

      module _ {from : ℕ} (from_is : from ≡ kept) where
        pub unkept_room : from + u.size ≤ length v
        unkept_room = let z = leb_le (kept + u.size) 32 (both (both fits).1).1 in let y = from_is in omega arith

        -- its bytes, as the code takes them, and as the rules do
        abbrev seen : List ℕ
        seen = take (from + u.size - from) (drop from v)

        abbrev its_bytes : List ℕ
        its_bytes = take u.size (drop kept v)

        seen_is : seen ≡ its_bytes
        seen_is = let z : from + u.size - from ≡ u.size = omega arith in rw (z, ← from_is)

        its_length : length its_bytes ≡ u.size
        its_length = let z = unkept_room in let y = from_is in length-take-le u.size (drop kept v) (simp length-drop (omega arith))

        zero_is : {t : Bool} → t ≡ all_zero seen → same its_bytes (replicate u.size 0) ≡ t
        zero_is g = sym (g ∙ ap all_zero seen_is ∙ zeros_or_not its_bytes u.size its_length)

        bad_is_one : mask (unkept_bad k v) ≡ bad_of ((u.number, u.size) ∷ [])
        unfolding unkept_bad
        bad_is_one = ap bad_of (sym is)

        pub was_zero : {t : Bool} → t ≡ all_zero seen → t ≡ true → 0 ≡ mask (unkept_bad k v)
        was_zero g t = sym (bad_is_one ∙ one_zero u.number u.size (drop kept v) (zero_is g ∙ t))

        pub was_not_zero : {t : Bool} {bit : ℕ} → t ≡ all_zero seen → t ≡ false → bit ≡ 2 ^ (16 - u.number) → bit ≡ mask (unkept_bad k v)
        was_not_zero g t b = b ∙ sym (bad_is_one ∙ one_not_zero u.number u.size (drop kept v) (zero_is g ∙ t))

  -- ---- both together: their bits are others, so that the sum of the masks is the mask of both

  module _ (live r v : List ℕ) where
    abbrev judged : List ℕ → List ℕ
    judged l = bad_among (is_in (cat_of pr) live) k r key_length l v

    pub judged_is : {m x : ℕ} → m ≡ mask (carried_numbers k) → x ≡ mask (judged (named m)) → x ≡ mask (judged (carried_numbers k))
    judged_is e f = f ∙ ap (λ (l : List ℕ). mask (judged l)) (ap named e ∙ carried_named pr c)

    pub sum_small : mask (judged (carried_numbers k)) + mask (unkept_bad k v) < 65536
    unfolding bad_among unkept_bad
    sum_small =
        let a = some_of_them (λ n w. not (legal_at (is_in (cat_of pr) live) k r key_length n w)) (size_of k) (carried_numbers k) v in
        let b = some_not_zero k.unkept (drop kept v) in
        let s = bits_apart pr c in
        omega arith

    pub sum_is : {x y : ℕ} → x ≡ mask (judged (carried_numbers k)) → y ≡ mask (unkept_bad k v) → x + y ≡ mask (bad_carried (cat_of pr) live k r v)
    unfolding bad_carried
    sum_is e f = rw (e, f) (sym (mask_append (judged (carried_numbers k)) (unkept_bad k v)))
