-- A message's drops, tried one after another.
use Prim.Native.Nat.{ℕ, suc, ◌+◌, ◌/◌, ◌≤◌}
use native.Mathlib.Omega.{arith}
use mathlib.Core.Path.{◌≡◌, sym, ◌∙◌, refl}
use mathlib.Core.Bool.{Bool, true, false, ◌&&◌}
use mathlib.Core.List.{List, [], ◌∷◌}
use lib.ListN.{length, take, drop, get_or}
use lib.Seq.{drop-cons}
use lib.Dec.{eqb}
use Rattle.rules.specs.Maps.{◌and◌, same, first_that_applies}
use Rattle.rules.specs.Bytes.{byte, two}
use Rattle.rules.specs.Legal.{header_drops}
use Rattle.rules.specs.Messages.{trailer, message_drops}
use Rattle.rules.proofs.Laws.{cases, eqb_true, eqb_false, eqb_eq, eqb_ne}
use Rattle.std.specs.Prelude.{Result, Ok, Err}
use Rattle.message_frame.specs.Drops.{drop_of}
use Rattle.message_frame.specs.declared.drops.DropReason.{DropReason}
use Rattle.message_frame.specs.declared.drops.DropReason.TheVariants as reason
use mathlib.Core.Logic.{◌≢◌}

-- four bytes from a place on, one by one
pub four_at : (m : List ℕ) (i : ℕ) → i + 4 ≤ length m → take 4 (drop i m) ≡ get_or m i 0 ∷ get_or m (suc i) 0 ∷ get_or m (suc (suc i)) 0 ∷ get_or m (suc (suc (suc i))) 0 ∷ []
four_at m i h = rw (
  drop-cons m i 0 (omega arith),
  drop-cons m (suc i) 0 (omega arith),
  drop-cons m (suc (suc i)) 0 (omega arith),
  drop-cons m (suc (suc (suc i))) 0 (omega arith),
)

pub trailer_test : (m : List ℕ) → 48 ≤ length m
    → (((eqb (get_or m 40 0) 0 && eqb (get_or m 41 0) 0) && eqb (get_or m 42 0) 0) && eqb (get_or m 43 0) 0x28) ≡ same (take 4 (drop 40 m)) trailer
unfolding same ◌and◌
trailer_test m h = rw (four_at m 40 (omega arith)) (last (eqb (get_or m 40 0) 0) (eqb (get_or m 41 0) 0) (eqb (get_or m 42 0) 0) (eqb (get_or m 43 0) 0x28))
  where
    last : (a b c d : Bool) → (((a && b) && c) && d) ≡ (a && (b && (c && (d && true))))
    last true true true true = refl
    last true true true false = refl
    last true true false d = refl
    last true false c d = refl
    last false b c d = refl

-- both bytes of the id are zero exactly if the id is
pub id_test : (m : List ℕ) → (eqb (get_or m 0 0) 0 && eqb (get_or m 1 0) 0) ≡ eqb (two m 0) 0
id_test m = cases (eqb (get_or m 0 0) 0)
    (λ e. let z = eqb_eq (get_or m 0 0) 0 e in rw e (cases (eqb (get_or m 1 0) 0)
    (λ f. let y = eqb_eq (get_or m 1 0) 0 f in rw f (sym (eqb_true (two m 0) 0 (omega arith))))
    (λ f. let y = eqb_ne (get_or m 1 0) 0 f in rw f (sym (eqb_false (two m 0) 0 (omega arith))))))
    (λ e. let z = eqb_ne (get_or m 0 0) 0 e in rw e (sym (eqb_false (two m 0) 0 (omega arith))))

-- an answer tells the first of a message's drops that applies
abbrev pub tells_first : List ℕ → Result (Unit {0}) DropReason → Type 0
tells_first m r = drop_of r ≡ first_that_applies (message_drops m)

module _ (m : List ℕ) where
  pub wrong_length : length m ≢ 48 → tells_first m (Err reason.WrongLength)
  unfolding message_drops first_that_applies
  wrong_length h = rw (eqb_false (length m) 48 h)

  module _ (h₃ : length m ≡ 48) where
    pub wrong_device : byte m 3 ≢ 0x0A → tells_first m (Err reason.WrongDevice)
    unfolding message_drops header_drops first_that_applies
    wrong_device h = rw (eqb_true (length m) 48 h₃, eqb_false (byte m 3) 0x0A h)

    module _ (h₄ : byte m 3 ≡ 0x0A) where
      pub wrong_type : byte m 2 / 32 ≢ 2 → tells_first m (Err reason.WrongType)
      unfolding message_drops header_drops first_that_applies
      wrong_type h = rw (eqb_true (length m) 48 h₃, eqb_true (byte m 3) 0x0A h₄, eqb_false (byte m 2 / 32) 2 h)

      module _ (h₅ : byte m 2 / 32 ≡ 2) where
        pub no_correlation_id : (eqb (get_or m 0 0) 0 && eqb (get_or m 1 0) 0) ≡ true → tells_first m (Err reason.NoCorrelationId)
        unfolding message_drops header_drops first_that_applies
        no_correlation_id h = rw (eqb_true (length m) 48 h₃, eqb_true (byte m 3) 0x0A h₄, eqb_true (byte m 2 / 32) 2 h₅, sym (id_test m) ∙ h)

        module _ (h₆ : (eqb (get_or m 0 0) 0 && eqb (get_or m 1 0) 0) ≡ false) where
          pub wrong_fixed_bytes : same (take 4 (drop 40 m)) trailer ≡ false → tells_first m (Err reason.WrongFixedBytes)
          unfolding message_drops header_drops first_that_applies
          wrong_fixed_bytes h = rw (eqb_true (length m) 48 h₃, eqb_true (byte m 3) 0x0A h₄, eqb_true (byte m 2 / 32) 2 h₅, sym (id_test m) ∙ h₆, h)

          pub nothing_wrong : same (take 4 (drop 40 m)) trailer ≡ true → tells_first m (Ok tt)
          unfolding message_drops header_drops first_that_applies
          nothing_wrong h = rw (eqb_true (length m) 48 h₃, eqb_true (byte m 3) 0x0A h₄, eqb_true (byte m 2 / 32) 2 h₅, sym (id_test m) ∙ h₆, h)
