-- A result and its masks, written into a reply's contents.
use Rattle.std.proofs.Common.{◌≡◌, refl, ℕ, List, ◌∷◌, ◌++◌, set, replicate}
use Rattle.rules.specs.Bytes.{bytes, fill}
use Rattle.message_frame.proofs.Frames.{with_number}

-- contents of zeros with a result in front
abbrev pub with_result : ℕ → List ℕ
with_result r = set (replicate 32 0) 0 r

pub one_mask : (r m : ℕ) → with_number 1 m (with_result r) ≡ fill 32 (r ∷ bytes 2 m)
unfolding bytes
one_mask r m = refl

pub two_masks : (r m n : ℕ) → with_number 3 n (with_number 1 m (with_result r)) ≡ fill 32 (r ∷ bytes 2 m ++ bytes 2 n)
unfolding bytes
two_masks r m n = refl

pub mask_behind_values : (r m : ℕ) → with_number 28 m (with_result r) ≡ fill 32 (r ∷ replicate 27 0 ++ bytes 2 m)
unfolding bytes
mask_behind_values r m = refl
