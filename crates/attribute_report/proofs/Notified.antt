-- The notification of one attribute, as it is written: its frame, then its mask and its content over zeros.
use Prim.Native.Nat.{ℕ, ◌+◌, ◌-◌, ◌^◌, ◌≤◌}
use native.Mathlib.Omega.{arith}
use mathlib.Core.Path.{◌≡◌, refl, sym, ◌∙◌, ap}
use mathlib.Core.List.{List, [], ◌∷◌, ◌++◌}
use lib.ListN.{length, take, drop, length-take, length-drop}
use borrow.Rule.Slice.PartMut.{mid_of, put_mid}
use Rattle.rules.specs.Bytes.{bytes, fill, laid}
use Rattle.rules.specs.Masks.{mask}
use Rattle.rules.specs.Messages.{avc_type, framed, notification}
use Rattle.rules.proofs.ByteLaws.{length_fill}
use Rattle.octets.proofs.Laid.{laid_number, laid_next, laid_part, laid_in_part, laid_on_zeros}
use Rattle.message_frame.proofs.Filled.{contents_blank, contents_filled}

module _ (id : List ℕ) (kind : ℕ) (entity : List ℕ) (two : length id ≡ 2) (four : length entity ≡ 4) (rest : List ℕ) where
  abbrev begun : List ℕ
  begun = framed id kind entity [] ++ rest

  long : 40 ≤ length begun
  long = let e : length (take 32 (drop 8 begun)) ≡ 32 = ap length (contents_blank id kind entity two four rest) in
      let f = rw (length-take 32 (drop 8 begun), length-drop 8 begun) at e in omega arith

  -- contents laid over those of a message that was begun
  pub contents_laid : (c : List ℕ) → length c ≤ 32 → laid 8 c begun ≡ framed id kind entity c ++ rest
  contents_laid c h =
      let z : put_mid 8 32 begun (laid 0 c (mid_of 8 32 begun)) ≡ laid 8 c begun = laid_in_part 8 32 0 c begun (omega arith) long in
      sym z
      ∙ ap (λ (x : List ℕ). put_mid 8 32 begun (laid 0 c x)) (contents_blank id kind entity two four rest)
      ∙ ap (put_mid 8 32 begun) (laid_on_zeros [] c 32 h)
      ∙ laid_part 8 32 (fill 32 c) begun (length_fill 32 c)
      ∙ contents_filled id kind entity two four c rest

-- the three steps of the code
module _ (class number n m : ℕ) (v rest : List ℕ) (is : m ≡ 2 ^ (16 - n)) (short : length v ≤ 30) {r₁ r₂ r₃ : List ℕ}
    (begins : r₁ ≡ framed (bytes 2 0) avc_type (bytes 2 class ++ bytes 2 number) [] ++ rest)
    (masked : r₂ ≡ take 8 r₁ ++ (bytes 2 m ++ drop (8 + 2) r₁))
    (copied : r₃ ≡ laid 10 v r₂) where
  pub notified : r₃ ≡ notification avc_type class number (bytes 2 (mask (n ∷ [])) ++ v) ++ rest
  unfolding notification bytes mask
  notified =
      let e : 2 ^ (16 - n) + 0 ≡ m = omega (arith, is) in
      let room : 8 + length (bytes 2 m) ≤ length r₁ = rw begins (let z = long (bytes 2 0) avc_type (bytes 2 class ++ bytes 2 number) refl refl rest in omega arith) in
      let next : laid 10 v (laid 8 (bytes 2 m) r₁) ≡ laid 8 (bytes 2 m ++ v) r₁ = laid_next 8 (bytes 2 m) r₁ room v in
      copied
      ∙ ap (laid 10 v) (masked ∙ laid_number 8 m r₁)
      ∙ next
      ∙ ap (laid 8 (bytes 2 m ++ v)) begins
      ∙ contents_laid (bytes 2 0) avc_type (bytes 2 class ++ bytes 2 number) refl refl rest (bytes 2 m ++ v) (omega arith)
      ∙ rw e refl
