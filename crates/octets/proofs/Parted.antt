-- A part of bytes: so many from a place on.
use Prim.Native.Nat.{ℕ, ◌+◌, ◌-◌, ◌≤◌}
use native.Mathlib.Omega.{arith}
use mathlib.Core.Path.{◌≡◌, sym, ◌∙◌, ap}
use mathlib.Core.List.{List, ◌++◌}
use lib.ListN.{length, take, drop, replicate, length-drop, length-append, length-replicate, take-append-drop}
use lib.Seq.{take-append-le, drop-append-le, drop-append-add, length-take-le}
use Rattle.rules.specs.Bytes.{fill}
use Rattle.rules.proofs.ByteLaws.{fill_keeps}

abbrev pub part : ℕ → ℕ → List ℕ → List ℕ
part o n b = take n (drop o b)

pub part_behind : (x y : List ℕ) (o n : ℕ) → part (length x + o) n (x ++ y) ≡ part o n y
part_behind x y o n = rw (drop-append-add x y o)

pub part_before : (x y : List ℕ) (o n : ℕ) → o + n ≤ length x → part o n (x ++ y) ≡ part o n x
part_before x y o n h = rw (drop-append-le o x y (omega arith), take-append-le n (drop o x) y (simp length-drop (omega arith)))

-- of bytes with zeros behind them
pub part_filled : (m : ℕ) (x : List ℕ) (o n : ℕ) → o + n ≤ m → part o n (fill m x) ≡ part o n (x ++ replicate m 0)
part_filled m x o n h =
    let y : List ℕ = x ++ replicate m 0 in
    let l : length (take m y) ≡ m = length-take-le m y (simp (length-append, length-replicate) (omega arith)) in
    sym (part_before (take m y) (drop m y) o n (omega arith)) ∙ ap (part o n) (take-append-drop m y)

pub part_fill : (m : ℕ) (x : List ℕ) (o n : ℕ) → length x ≤ m → o + n ≤ length x → part o n (fill m x) ≡ part o n x
part_fill m x o n l h = rw (fill_keeps m x l, part_before x (take (m - length x) (replicate m 0)) o n h)
