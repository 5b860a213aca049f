-- So many zeros are so many, stated over any number: at a large one the checker would count them out.
use Rattle.std.proofs.Common.{◌≡◌, ℕ, length, replicate, sym}
use lib.ListN.{length-replicate}

pub many_zeros : (n : ℕ) → n ≡ length {A = ℕ} (replicate n 0)
many_zeros n = sym (length-replicate n 0)
