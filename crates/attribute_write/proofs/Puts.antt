-- A number put into bytes, the last byte first.
use Prim.Native.Nat.{ℕ, suc, ◌+◌, ◌-◌, ◌/◌, ◌%◌, ◌^◌, ◌≤◌, ◌<◌}
use native.Mathlib.Nat.{pow-suc, div-div-eq-div-mul}
use native.Mathlib.Omega.{arith}
use mathlib.Core.Path.{◌≡◌, refl, sym, ◌∙◌, ap}
use mathlib.Core.List.{List, ◌∷◌}
use lib.ListN.{length, set}
use lib.Seq.{set_split}
use Rattle.rules.specs.Bytes.{bytes, laid}
use Rattle.octets.proofs.Laid.{length_laid, take_laid_before, drop_laid, laid_nothing}
use Rattle.rules.proofs.ByteLaws.{length_bytes}

-- a byte set before those that were laid
set_before : (p y : ℕ) (w b : List ℕ) → suc p + length w ≤ length b → set (laid (suc p) w b) p y ≡ laid p (y ∷ w) b
unfolding laid
set_before p y w b h =
    let l : length (laid (suc p) w b) ≡ length b = length_laid (suc p) w b h in
    let e : p + suc (length w) ≡ suc p + length w = omega arith in
    set_split (laid (suc p) w b) p y (omega arith) ∙ rw (take_laid_before (suc p) w b h p (omega arith), drop_laid (suc p) w b h, e)

-- so many bytes, and the number that is left for those before them
pub record Put (at size x : ℕ) (b₀ b : List ℕ) (rest i : ℕ) : Type 0 where
  pub near : i ≤ size
  pub long : length b ≡ length b₀
  pub is : b ≡ laid (at + i) (bytes (size - i) x) b₀
  pub left : rest ≡ x / 256 ^ (size - i)

pub nothing_put : (at size x : ℕ) (b : List ℕ) → Put at size x b b x size
unfolding bytes
nothing_put at size x b =
    let z : size - size ≡ 0 = omega arith in
    record { near = omega arith; long = refl; is = rw z (sym (laid_nothing (at + size) b)); left = rw z (omega arith) }

pub one_put : {at size x rest i y : ℕ} {b₀ b : List ℕ} → Put at size x b₀ b rest i → at + size ≤ length b₀ → 0 < i → y ≡ rest % 256
    → Put at size x b₀ (set b (at + (i - 1)) y) (rest / 256) (i - 1)
unfolding bytes
one_put {at} {size} {x} {rest} {i} {y} {b₀} {b} s h g e =
    let near = s.near in
    let k : ℕ = size - i in
    let n : size - (i - 1) ≡ suc k = omega arith in
    let p : at + i ≡ suc (at + (i - 1)) = omega arith in
    let room : suc (at + (i - 1)) + length (bytes k x) ≤ length b₀ = rw (length_bytes k x) (omega arith) in
    let byte : y ≡ x / 256 ^ k % 256 = e ∙ ap (λ (z : ℕ). z % 256) s.left in
    let was : b ≡ laid (suc (at + (i - 1))) (bytes k x) b₀ = s.is ∙ ap (λ (z : ℕ). laid z (bytes k x) b₀) p in
    let now : set b (at + (i - 1)) y ≡ laid (at + (i - 1)) (y ∷ bytes k x) b₀ = rw was (set_before (at + (i - 1)) y (bytes k x) b₀ room) in
    record {
      near = omega arith;
      long = ap length now ∙ length_laid (at + (i - 1)) (y ∷ bytes k x) b₀ (omega arith);
      is = now ∙ rw (n, byte);
      left = rw (n, pow-suc 256 k, ← div-div-eq-div-mul x (256 ^ k) 256) (ap (λ (z : ℕ). z / 256) s.left);
    }

pub all_put : {at size x rest i : ℕ} {b₀ b : List ℕ} → Put at size x b₀ b rest i → i ≡ 0 → b ≡ laid at (bytes size x) b₀
all_put {at} {size} {x} {rest} {i} {b₀} {b} s e =
    let p : at + i ≡ at = omega arith in
    let n : size - i ≡ size = omega arith in
    s.is ∙ rw (p, n)
