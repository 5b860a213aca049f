-- Contents that were all zero, with numbers written in front.
use Prim.Native.Nat.{ℕ}
use mathlib.Core.Path.{◌≡◌, refl}
use mathlib.Core.List.{List, [], ◌∷◌, ◌++◌}
use lib.ListN.{length, take, drop, set, replicate}
use Rattle.rules.specs.Bytes.{bytes, fill}

pub blank_length : (z : List ℕ) → z ≡ replicate 32 0 → length z ≡ 32
blank_length z e = rw e refl

module _ (z a : List ℕ) (n : ℕ) (blank : z ≡ replicate 32 0) (p : a ≡ take 0 z ++ (bytes 2 n ++ drop 2 z)) where
  pub one_written : a ≡ fill 32 (bytes 2 n)
  unfolding bytes
  one_written = rw (p, blank) refl

  pub one_length : length a ≡ 32
  unfolding bytes
  one_length = rw one_written refl

  module _ (b : List ℕ) (i : ℕ) (q : b ≡ take 2 a ++ (bytes 2 i ++ drop 4 a)) where
    two_written : b ≡ bytes 2 n ++ (bytes 2 i ++ replicate 28 0)
    unfolding bytes
    two_written = rw (q, one_written) refl

    pub two_length : length b ≡ 32
    unfolding bytes
    two_length = rw two_written refl

    pub all_written : (x : ℕ) → set b 4 x ≡ fill 32 (bytes 2 n ++ bytes 2 i ++ x ∷ [])
    unfolding bytes
    all_written x = rw two_written refl
