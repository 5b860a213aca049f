-- A line can be judged, and what its rule looks at is read where it stands.
use Prim.Native.Nat.{ℕ, zero, suc, ◌+◌, ◌≤◌, ◌<◌}
use native.Mathlib.Omega.{arith}
use mathlib.Core.Path.{◌≡◌, refl, sym, ◌∙◌, ap}
use mathlib.Core.Bool.{Bool, true, not, ◌||◌}
use Rattle.std.specs.Prelude.{Option, Some, None, is_some}
use mathlib.Core.Logic.{◌≢◌}
use mathlib.Core.List.{List}
use lib.ListN.{length, get_or}
use lib.Seq.{drop-cons}
use lib.Dec.{eqb}
use Rattle.rules.specs.Bytes.{number, number_from}
use Rattle.rules.specs.Catalogue.{Class}
use Rattle.rules.specs.Catalogue as rules
use Rattle.store.specs.Layout.{contents_width}
use Rattle.class_tables.specs.declared.Rule.{Rule}
use Rattle.class_tables.specs.declared.Rule.TheVariants.{Pointer}
use Rattle.class_tables.specs.declared.Attribute.{Attribute}
use Rattle.class_tables.specs.Describes.{offset_of, DescribedIn, Looked}
use Rattle.class_tables.proofs.Offsets.{is_among_stored, offset_fits}
use Rattle.attribute_check.specs.Judges.{fixed_at, legal_at, legal_by, looked_at, is_met, Judgeable}
use Rattle.rules.specs.Legal.{passes}
use Rattle.rules.proofs.Laws.{eqb_false}

-- what a line says, it can be judged by
pub judgeable : {k : Class} {n : ℕ} {a : Attribute} → DescribedIn k n a → Judgeable k a
judgeable d = record { wide = d.wide; looks = d.looks }

-- and to be legal by it is to be legal for its attribute
pub by_its_line : (there : ℕ → ℕ → Bool) {k : Class} {n : ℕ} {a : Attribute} → DescribedIn k n a → (b : List ℕ) (at : ℕ) (v : List ℕ)
    → legal_by there k b at a v ≡ legal_at there k b at n v
unfolding legal_by legal_at
by_its_line there {k} d b at v = ap (λ (x : rules.Attribute). passes there (x.rule v (fixed_at k b at))) d.is

-- ---- where it stands

module _ (k : Class) (n : ℕ) (b : List ℕ) (at : ℕ) (s : Looked k n) (room : at + contents_width k ≤ length b) where
  inside : offset_of k n + 1 ≤ contents_width k
  inside = let z = offset_fits k n (is_among_stored k n s.is_there s.kept) in let o = s.one in omega arith

  pub looked_room : {o : ℕ} → o ≡ offset_of k n → at + o < length b
  looked_room e = let i = inside in omega arith

  looked_byte : number (fixed_at k b at n) ≡ get_or b (at + offset_of k n) 0
  unfolding fixed_at number_from
  looked_byte =
      let i = inside in
      rw (s.fixed, s.one, drop-cons b (at + offset_of k n) 0 (omega arith)) (omega arith)

  -- the byte that the code reads
  pub looked_there : {o : ℕ} → o ≡ offset_of k n → {x : ℕ} → x ≡ get_or b (at + o) 0 → x ≡ number (fixed_at k b at n)
  looked_there e h = h ∙ ap (λ (o : ℕ). get_or b (at + o) 0) e ∙ sym looked_byte

-- ---- what a pointer is judged by

module _ (others : ℕ → List ℕ) where
  pub looked_condition : (o : Option ℕ) (n : ℕ) {x c : ℕ} {rule : Rule} → rule ≡ Pointer c → o ≡ Some n → x ≡ number (others n) → x ≡ looked_at rule o others
  looked_condition o n e z h = rw (e, z) h

  -- as the judging by a line tests it
  pub met_is : (o : Option ℕ) {c : ℕ} {rule : Rule} → rule ≡ Pointer c → (not (is_some o) || eqb (looked_at rule o others) 1) ≡ is_met o others
  met_is None e = refl
  met_is (Some n) e = rw e refl
