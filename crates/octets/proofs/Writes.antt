-- What a number's bytes and the moves make of a slice.
use Prim.Native.Nat.{ℕ, ◌+◌, ◌-◌, ◌/◌, ◌^◌, ◌≤◌}
use native.Mathlib.Nat.{zero-add}
use native.Mathlib.Omega.{arith}
use mathlib.Core.Path.{◌≡◌, refl, sym, ap, ◌∙◌}
use mathlib.Core.List.{List, [], ◌++◌, append-nil}
use lib.ListN.{length, take, drop, drop_of_length-le}
use lib.Seq.{paste, drop_at, length-take-le}
use Rattle.std.specs.Int.{w16, to_be_bytes}
use Rattle.rules.specs.Bytes.{bytes, laid}

-- the two bytes of a number, as the library has them
pub two_bytes : (n : ℕ) → to_be_bytes w16 n ≡ bytes 2 n
unfolding bytes
two_bytes n = let e : n / 256 ^ 0 ≡ n = omega arith in rw e refl

-- bytes laid over the first of those that were moved up
pub put_in_front : (t u v w : List ℕ) → length v ≤ length t → u ≡ paste t (length v) t (length t - length v) → w ≡ laid 0 v u
    → w ≡ v ++ take (length t - length v) t
unfolding laid
put_in_front t u v w h p q =
    let k = length v in
    let m = length t - k in
    let none : drop (k + m) t ≡ [] = drop_of_length-le t (omega arith) in
    q ∙ rw (p, none, append-nil) (ap (λ (x : List ℕ). v ++ x) (drop_at (take k t) (take m t) (0 + k) (length-take-le k t h ∙ sym (zero-add k))))
