-- The part of an instance's contents that an attribute has, of an entry that an instance has, of blocks that one of them has.
use Prim.Native.Nat.{ℕ, ◌+◌, ◌*◌, ◌≤◌}
use native.Mathlib.Omega.{arith}
use native.Mathlib.Nat.{mul-suc}
use mathlib.Core.Path.{◌≡◌, refl, sym, ◌∙◌}
use mathlib.Core.Bool.{true, false}
use mathlib.Core.Option.{some}
use mathlib.Core.List.{List, [], ◌∷◌}
use lib.ListN.{length}
use lib.Seq.{take_at}
use lib.Dec.{eqb}
use Rattle.rules.specs.Maps.{Map, find, keys, every, gather, same}
use Rattle.rules.specs.Catalogue.{Class, Catalogue, class}
use Rattle.rules.specs.State.{Contents, Entry}
use Rattle.rules.specs.Legal.{legal_contents}
use Rattle.rules.proofs.Laws.{cases, never, both, eqb_true, eqb_false, eqb_eq, eqb_ne}
use Rattle.rules.proofs.MapLaws.{some_eq, none_some, Each}
use Rattle.store.specs.Layout.{contents_bytes, entry_bytes, contents_width}
use Rattle.store.proofs.ContentsBack.{sized, contents_length}
use Rattle.octets.proofs.Parted.{part, part_behind, part_before}
use Rattle.store.specs.Positions.{position, before, offset}
use Rattle.store.proofs.Positions.{further}

-- ---- contents

pub contents_part : (size : ℕ → ℕ) (r : Contents) (n : ℕ) (v : List ℕ) → sized size r ≡ true → find n r ≡ some v
    → part (offset size (keys r) n) (size n) (contents_bytes r) ≡ v
unfolding find keys contents_bytes gather every offset
contents_part size [] n v s f = none_some f
contents_part size (e ∷ r) n v s f =
    let le : length e.1 ≡ size e.0 = eqb_eq (length e.1) (size e.0) (both s).0 in
    cases (eqb n e.0)
    (λ t. let y : e.1 ≡ v = some_eq (rw t at f) in
    rw (t, eqb_eq n e.0 t, ← le, take_at e.1 (gather (λ (x : ℕ × List ℕ). x.1) r) (length e.1) refl) y)
    (λ t. rw (t, ← le, part_behind e.1 (contents_bytes r) (offset size (keys r) n) (size n)) (contents_part size r n v (both s).1 (rw t at f)))

-- ---- entries

module _ (cat : Catalogue) where
  pub entry_part : (fam : Map Class) (e : Entry) (c o n : ℕ) (r : Contents)
      → Each (λ d k. class cat d ≡ k) fam → same (keys e) (keys fam) ≡ true → every (λ c r. legal_contents cat (class cat c) r) e ≡ true
      → find c e ≡ some r → o + n ≤ length (contents_bytes r) → part (before fam c + o) n (entry_bytes e) ≡ part o n (contents_bytes r)
  unfolding entry_bytes keys same every gather find before
  entry_part [] [] c o n r cl s h f fit = none_some f
  entry_part [] (x ∷ e) c o n r cl s h f fit = never s
  entry_part (k ∷ fam) [] c o n r cl s h f fit = never s
  entry_part (k ∷ fam) (x ∷ e) c o n r cl s h f fit =
      let same_key : x.0 ≡ k.0 = eqb_eq x.0 k.0 (both s).0 in
      let g : legal_contents cat k.1 x.1 ≡ true = rw (← cl.0, ← same_key) (both h).0 in
      let lx : length (contents_bytes x.1) ≡ contents_width k.1 = contents_length cat k.1 x.1 g in
      cases (eqb c x.0)
      (λ t.
      let y : x.1 ≡ r = some_eq (rw t at f) in
      let none_before : 0 + o ≡ o = omega arith in
      rw (eqb_true c k.0 (eqb_eq c x.0 t ∙ same_key), none_before, y) (part_before (contents_bytes r) (entry_bytes e) o n fit))
      (λ t.
      let nk : eqb c k.0 ≡ false = eqb_false c k.0 (λ z. eqb_ne c x.0 t (z ∙ sym same_key)) in
      let sum : contents_width k.1 + before fam c + o ≡ contents_width k.1 + (before fam c + o) = omega arith in
      rw (nk, sum, ← lx, part_behind (contents_bytes x.1) (entry_bytes e) (before fam c + o) n)
      (entry_part fam e c o n r cl.1 (both s).1 (both h).1 (rw t at f) fit))

-- ---- blocks

module _ {A : Type 0} (code : ℕ × A → List ℕ) (width : ℕ) (long : (e : ℕ × A) → length (code e) ≡ width) where
  pub blocks_part : (m : Map A) (k j o n : ℕ) (a : A) → position k (keys m) ≡ some j → find k m ≡ some a → o + n ≤ width
      → part (width * j + o) n (gather code m) ≡ part o n (code (k, a))
  unfolding keys position find gather
  blocks_part [] k j o n a p f fit = none_some f
  blocks_part (x ∷ m) k j o n a p f fit = cases (eqb k x.0)
      (λ t.
      let z : k ≡ x.0 = eqb_eq k x.0 t in
      let y : x.1 ≡ a = some_eq (rw t at f) in
      let j0 : 0 ≡ j = some_eq (rw t at p) in
      let at0 : width * j + o ≡ o = rw (← j0) (omega arith) in
      rw (at0, part_before (code x) (gather code m) o n (rw (long x) fit), z, ← y))
      (λ t. further (position k (keys m)) j (rw t at p) (λ i q e.
      let sum : width * j + o ≡ length (code x) + (width * i + o) = rw (long x, e, mul-suc width i) (omega arith) in
      rw (sum, part_behind (code x) (gather code m) (width * i + o) n) (blocks_part m k i o n a q (rw t at f) fit)))
