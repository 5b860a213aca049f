-- A message that was begun, with its contents filled in.
use Prim.Native.Nat.{ℕ}
use native.Mathlib.Omega.{arith}
use mathlib.Core.Path.{◌≡◌, refl, ◌∙◌, ap}
use mathlib.Core.List.{List, [], ◌∷◌, ◌++◌, append_assoc}
use lib.ListN.{length, take, drop, replicate, length-append}
use lib.Seq.{take_at, drop_at}
use Rattle.rules.specs.Bytes.{fill, laid}
use Rattle.rules.specs.Messages.{trailer, checksum, framed}
use Rattle.rules.proofs.ByteLaws.{length_fill}
use Rattle.octets.proofs.Laid.{laid_split}

-- laid over 32 zeros
over_zeros : (v tail : List ℕ) → length v ≡ 32 → laid 0 v (fill 32 [] ++ tail) ≡ v ++ tail
unfolding laid
over_zeros v tail l = rw l refl

module _ (id : List ℕ) (kind : ℕ) (entity : List ℕ) (two : length id ≡ 2) (four : length entity ≡ 4) where
  front : List ℕ
  front = id ++ (kind ∷ 0x0A ∷ entity)

  front_length : length front ≡ 8
  unfolding front
  front_length = length-append id (kind ∷ 0x0A ∷ entity) ∙ omega arith

  -- the eight bytes in front, the contents, and what follows them
  in_three : (c rest : List ℕ) → framed id kind entity c ++ rest ≡ front ++ (fill 32 c ++ (trailer ++ (checksum ++ rest)))
  unfolding framed front
  in_three c rest = simp append_assoc

  pub contents_blank : (rest : List ℕ) → take 32 (drop 8 (framed id kind entity [] ++ rest)) ≡ replicate 32 0
  contents_blank rest =
      let tail : List ℕ = fill 32 [] ++ (trailer ++ (checksum ++ rest)) in
      rw (in_three [] rest, drop_at front tail 8 front_length) refl

  pub contents_filled : (c rest : List ℕ) → laid 8 (fill 32 c) (framed id kind entity [] ++ rest) ≡ framed id kind entity c ++ rest
  contents_filled c rest =
      let tail : List ℕ = trailer ++ (checksum ++ rest) in
      let l : length (fill 32 c) ≡ 32 = length_fill 32 c in
      rw (in_three [] rest, in_three c rest)
      (laid_split 8 0 (fill 32 c) (front ++ (fill 32 [] ++ tail))
      ∙ rw (take_at front (fill 32 [] ++ tail) 8 front_length, drop_at front (fill 32 [] ++ tail) 8 front_length)
      (ap (λ (x : List ℕ). front ++ x) (over_zeros (fill 32 c) tail l)))
