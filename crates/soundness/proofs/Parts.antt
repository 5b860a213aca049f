-- The other parts of a store, byte by byte: the remembered command, what may be absent, and where each part lies.
use Prim.Native.Nat.{ℕ, zero, suc, ◌+◌, ◌*◌, ◌/◌, ◌≤◌, ◌<◌}
use native.Mathlib.Omega.{arith}
use mathlib.Core.Path.{◌≡◌, refl, sym, ◌∙◌, ap}
use mathlib.Core.Bool.{Bool, true, not, ◌&&◌}
use mathlib.Core.List.{List, [], ◌∷◌}
use lib.ListN.{length, take, drop, get_or}
use lib.Seq.{drop-drop, take-take, get_or-take, take-nil, get_or-drop}
use lib.Dec.{eqb}
use Rattle.rules.specs.Maps.{◌and◌, is_some, first_that_applies, same}
use Rattle.rules.specs.Bytes.{byte, two, all_zero}
use Rattle.rules.specs.Masks.{total}
use Rattle.rules.specs.Catalogue.{Catalogue}
use Rattle.rules.specs.Legal.{automatic_keys, header_drops}
use Rattle.rules.specs.Run.{store_length}
use Rattle.rules.proofs.Conjunctions.{join_assoc}
use Rattle.rules.proofs.Laws.{cases, same?, eqb_true, eqb_false, true_and, same_eq}
use Rattle.store.specs.Layout.{part_lengths, slot_count, table_length, block_length, command_length, memory_length, nth_memory, nth_alarms, nth_walk, nth_table, nth_upload}
use Rattle.store.specs.Layout.{memory_at, alarms_at, walk_at, live_at, table_at, upload_at}
use Rattle.store.specs.Decode.{cut_parts}
use Rattle.slot_tests.specs.Tests.{alarms_test}
use Rattle.soundness.specs.Tests.{memory_test, optional_test, store_test, table_test}

-- four tests joined from the left
pub from_left : (p q r s : Bool) → (((p && q) && r) && s) ≡ (p && (q && (r && s)))
from_left p q r s = join_assoc (p && q) r s ∙ join_assoc p q (r && s)

-- ---- the remembered command

-- an id is zero exactly if both its bytes are
id_test : (x y : ℕ) → (eqb x 0 && eqb y 0) ≡ eqb (x * 256 + y) 0
id_test x y = same? x 0
    (λ e. same? y 0
    (λ f. rw (eqb_true x 0 e, eqb_true y 0 f) (sym (eqb_true (x * 256 + y) 0 (omega arith))))
    (λ f. rw (eqb_true x 0 e, eqb_false y 0 f) (sym (eqb_false (x * 256 + y) 0 (omega arith)))))
    (λ e. rw (eqb_false x 0 e) (sym (eqb_false (x * 256 + y) 0 (omega arith))))

-- none of three lines applies
none_of_three : (p q r : Bool) → not (is_some (first_that_applies {A = ℕ} ((not p, 4) ∷ (not q, 5) ∷ (r, 6) ∷ []))) ≡ (p && (q && not r))
unfolding first_that_applies
none_of_three p q r = cases p (λ e. rw e (cases q (λ f. rw f (cases r (λ g. rw g) (λ g. rw g))) (λ f. rw f))) (λ e. rw e)

memory_bytes : (b : List ℕ) → memory_test b ≡ (eqb (byte b 3) 0x0A && (eqb (byte b 2 / 32) 2 && not (eqb (byte b 0) 0 && eqb (byte b 1) 0)))
unfolding memory_test header_drops
memory_bytes b =
    rw (
      get_or-take command_length b 3 0 (omega arith),
      get_or-take command_length b 2 0 (omega arith),
      get_or-take command_length b 0 0 (omega arith),
      get_or-take command_length b 1 0 (omega arith),
      id_test (byte b 0) (byte b 1),
    )
    (none_of_three (eqb (byte b 3) 0x0A) (eqb (byte b 2 / 32) 2) (eqb (two b 0) 0))

-- behind the mark that there is one
pub memory_behind : (b : List ℕ) → memory_test (drop 1 b) ≡ (eqb (byte b 4) 0x0A && (eqb (byte b 3 / 32) 2 && not (eqb (byte b 1) 0 && eqb (byte b 2) 0)))
memory_behind b = memory_bytes (drop 1 b) ∙ rw (get_or-drop 1 b 3 0, get_or-drop 1 b 2 0, get_or-drop 1 b 0 0, get_or-drop 1 b 1 0) refl

-- ---- what may be absent

module _ (t : List ℕ → Bool) (b : List ℕ) where
  pub absent : byte b 0 ≡ 0 → optional_test t b ≡ all_zero (drop 1 b)
  unfolding optional_test
  absent e = rw (eqb_true (byte b 0) 0 e)

  pub present : (byte b 0 ≡ 0 → ⊥) → optional_test t b ≡ (eqb (byte b 0) 1 and t (drop 1 b))
  unfolding optional_test
  present n = rw (eqb_false (byte b 0) 0 n)

-- ---- the live table, and what may be absent beside it

module _ (t : List ℕ → Bool) (live b : List ℕ) (fine : t (drop 1 live) ≡ true) where
  pub none_beside : byte b 0 ≡ 0 → (t (drop 1 live) and optional_test t b) ≡ all_zero (drop 1 b)
  none_beside e = rw (fine, true_and) (absent t b e)

  pub beside : (byte b 0 ≡ 0 → ⊥) → (t (drop 1 live) and optional_test t b) ≡ (eqb (byte b 0) 1 and t (drop 1 b))
  beside n = rw (fine, true_and) (present t b n)

  pub same_beside : (byte b 0 ≡ 0 → ⊥) → byte b 0 ≡ 1 → same (drop 1 live) (drop 1 b) ≡ true → (t (drop 1 live) and optional_test t b) ≡ true
  same_beside n e h = beside n ∙ rw (eqb_true (byte b 0) 1 e, ← same_eq (drop 1 live) (drop 1 b) h, fine) (true_and true)

-- ---- where the parts lie

-- what stands behind the first byte of a block
behind_front : (at n m : ℕ) (s : List ℕ) → m ≡ suc n → take n (drop (at + 1) s) ≡ drop 1 (take m (drop at s))
behind_front at n m s e = rw (e, ← drop-drop 1 at s) (behind (drop at s))
  where
    behind : (l : List ℕ) → take n (drop 1 l) ≡ drop 1 (take (suc n) l)
    behind [] = take-nil n
    behind (x ∷ l) = refl

part_lies : (l b : List ℕ) (i : ℕ) → i < length l → get_or (cut_parts l b) i [] ≡ take (get_or l i 0) (drop (total (λ n. n) (take i l)) b)
unfolding cut_parts total
part_lies [] b i h = absurd (omega arith)
part_lies (n ∷ l) b zero h = refl
part_lies (n ∷ l) b (suc i) h = part_lies l (drop n b) i (omega arith) ∙ ap (λ (x : List ℕ). take (get_or l i 0) x) (drop-drop (total (λ n. n) (take i l)) n b)

front_of : (at n m : ℕ) (s : List ℕ) → at + n ≤ m → take n (drop at (take m s)) ≡ take n (drop at s)
front_of zero n m s h = take-take n m s (omega arith)
front_of (suc at) n zero s h = absurd (omega arith)
front_of (suc at) n (suc m) [] h = refl
front_of (suc at) n (suc m) (x ∷ s) h = front_of at n m s (omega arith)

pub store_parts : (cat : Catalogue) (s : List ℕ) → store_test cat (take store_length s)
    ≡ (optional_test memory_test (take (1 + memory_length) (drop memory_at s))
    and (alarms_test cat (automatic_keys cat) (take slot_count (drop alarms_at s))
    and (optional_test (alarms_test cat (automatic_keys cat)) (take (1 + slot_count) (drop walk_at s))
    and (table_test cat (drop 1 (take block_length (drop live_at s)))
    and optional_test (table_test cat) (take block_length (drop upload_at s))))))
unfolding store_test total
store_parts cat s =
    let b : List ℕ = take store_length s in
    rw (
      part_lies part_lengths b nth_memory (omega arith) ∙ front_of memory_at (1 + memory_length) store_length s (omega arith),
      part_lies part_lengths b nth_alarms (omega arith) ∙ front_of alarms_at slot_count store_length s (omega arith),
      part_lies part_lengths b nth_walk (omega arith) ∙ front_of walk_at (1 + slot_count) store_length s (omega arith),
      part_lies part_lengths b nth_table (omega arith) ∙ front_of table_at table_length store_length s (omega arith) ∙ behind_front live_at table_length block_length s (omega arith),
      part_lies part_lengths b nth_upload (omega arith) ∙ front_of upload_at block_length store_length s (omega arith),
    )
