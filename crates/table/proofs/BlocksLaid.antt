-- One entry changed among blocks of one length.
use Prim.Native.Nat.{ℕ, suc, ◌+◌, ◌*◌, ◌≤◌}
use native.Mathlib.Omega.{arith}
use native.Mathlib.Nat.{mul-suc}
use mathlib.Core.Path.{◌≡◌, sym}
use mathlib.Core.Bool.{false}
use mathlib.Core.Option.{some}
use mathlib.Core.List.{List, [], ◌∷◌}
use lib.ListN.{length}
use lib.Dec.{eqb}
use Rattle.rules.specs.Maps.{Map, find, keys, each, at_key, gather}
use Rattle.rules.specs.Bytes.{laid}
use Rattle.rules.proofs.Laws.{cases, eqb_true, eqb_false, eqb_eq, eqb_ne}
use Rattle.rules.proofs.MapLaws.{some_eq, none_some, Up, at_absent}
use Rattle.store.specs.Positions.{position}
use Rattle.octets.proofs.Laid.{laid_behind, laid_before}
use Rattle.table.proofs.ContentsLaid.{not_below}
use Rattle.store.proofs.Positions.{further}

module _ {A : Type 0} (code : ℕ × A → List ℕ) (width : ℕ) (long : (e : ℕ × A) → length (code e) ≡ width) where
  pub blocks_laid : (b : ℕ) (m : Map A) (k j o : ℕ) (w : List ℕ) (g : A → A) (a : A) → Up b (keys m) → position k (keys m) ≡ some j → find k m ≡ some a
      → code (k, g a) ≡ laid o w (code (k, a)) → o + length w ≤ width → gather code (at_key k g m) ≡ laid (width * j + o) w (gather code m)
  unfolding keys position find each gather
  blocks_laid b [] k j o w g a u p f eq fit = none_some f
  blocks_laid b (x ∷ m) k j o w g a u p f eq fit =
      let rest : List ℕ = gather code m in
      cases (eqb k x.0)
      (λ t.
      let z : k ≡ x.0 = eqb_eq k x.0 t in
      let y : x.1 ≡ a = some_eq (rw t at f) in
      let j0 : 0 ≡ j = some_eq (rw t at p) in
      let eq' : code (x.0, g x.1) ≡ laid o w (code x) = rw (← z, y) eq in
      let at0 : width * j + o ≡ o = rw (← j0) (omega arith) in
      rw (eqb_true x.0 k (sym z), at_absent k g m (not_below (suc x.0) k (keys m) u.1 (omega arith)), eq', at0)
      (laid_before w (code x) rest o (rw (long x) fit)))
      (λ t.
      let ne : eqb x.0 k ≡ false = eqb_false x.0 k (λ z. eqb_ne k x.0 t (sym z)) in
      further (position k (keys m)) j (rw t at p) (λ i q n.
      let ih : gather code (at_key k g m) ≡ laid (width * i + o) w rest = blocks_laid (suc x.0) m k i o w g a u.1 q (rw t at f) eq fit in
      let sum : width * j + o ≡ length (code x) + (width * i + o) = next i n x in
      rw (ne, ih, sum) (laid_behind (code x) w rest (width * i + o))))
    where
      next : (i : ℕ) → j ≡ suc i → (x : ℕ × A) → width * j + o ≡ length (code x) + (width * i + o)
      next i n x = rw (long x, n, mul-suc width i) (omega arith)
