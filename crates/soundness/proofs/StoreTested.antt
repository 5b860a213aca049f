-- A store's bytes are those of a legal state exactly if each part passes its test.
use Prim.Native.Nat.{ℕ, zero, suc, ◌≤◌, ◌<◌}
use native.Mathlib.Omega.{arith}
use mathlib.Core.Path.{◌≡◌, refl, ◌∙◌, ap}
use mathlib.Core.Bool.{Bool, true, false}
use mathlib.Core.List.{List, [], ◌∷◌, map}
use lib.ListN.{length, drop, get_or, length-drop}
use lib.Seq.{length-take-le, get_or-take}
use Rattle.rules.specs.Maps.{◌and◌, given, gather, same}
use Rattle.rules.specs.Bytes.{byte, fill, is_byte, are_bytes}
use Rattle.rules.specs.Masks.{total}
use Rattle.rules.specs.Catalogue.{Catalogue, family, key, ont_data}
use Rattle.rules.specs.State.{State, entry, holds}
use Rattle.rules.specs.Legal.{automatic_keys, legal_live, legal_frozen, legal_bitmaps, legal_walk, legal_memory, legal_state}
use Rattle.rules.specs.WellFormed.{WellFormed}
use Rattle.rules.specs.Run.{store_length}
use Rattle.rules.specs.Walks.{frozen}
use Rattle.rules.proofs.Laws.{cases, true_false, both, and_true, bool_eq, true_and, lt-ltb, eqb_true}
use Rattle.rules.proofs.ByteLaws.{bytes_none, bytes_take, bytes_drop, byte_small}
use Rattle.store.specs.Layout.{ont_data_width, slot_count, table_length, memory_length, part_lengths, entry_bytes, code_table, code_alarms, code_memory, code_optional, parts}
use Rattle.store.specs.Layout.{encode, fits, nth_product, nth_alarm_number, nth_memory, nth_alarms, nth_walk, nth_ont_data, nth_table, nth_upload}
use Rattle.store.specs.Decode.{read_alarms, read_memory, read_table, read_state, cut_parts, nth_part}
use Rattle.store.proofs.Parts.{Remembers, each_part_has_its_length, parts_lengths}
use Rattle.class_tests.specs.Tests.{family_test}
use Rattle.slot_tests.specs.Tests.{alarms_test}
use Rattle.rules.proofs.Conjunctions.{and_end}
use Rattle.soundness.specs.Tests.{memory_test, table_test, optional_test, store_test}
use Rattle.soundness.proofs.Blocks.{same_front}
use Rattle.soundness.proofs.TableTested.{table_tested}
use Rattle.soundness.proofs.OptionalTested.{optional_tested, memory_tested}
use Rattle.soundness.proofs.WalkTested.{walk_tested}
use Rattle.soundness.proofs.LiveTested.{live_tested, live_alarms_tested}

-- ---- part by part

-- each list is the one that it is compared with
unfoldable pub each_same : List (List ℕ) → List (List ℕ) → Bool
each_same [] m = true
each_same (x ∷ l) [] = false
each_same (x ∷ l) (y ∷ m) = same x y and each_same l m

-- lists that were joined are compared one after another
pub same_parts : (l : List (List ℕ)) (b : List ℕ) → length b ≡ total (λ n. n) (map length l)
    → same (gather (λ b. b) l) b ≡ each_same l (cut_parts (map length l) b)
unfolding gather total each_same cut_parts same
same_parts [] [] h = refl
same_parts [] (x ∷ b) h = absurd (omega (arith, h))
same_parts (x ∷ l) b h =
    rw (same_front x (gather (λ b. b) l) b (length x) refl (omega (arith, h)), same_parts l (drop (length x) b) (rw (length-drop (length x) b) (omega (arith, h))))

-- a part of one byte
one_byte : (x : List ℕ) → length x ≡ 1 → same (byte x 0 ∷ []) x ≡ true
unfolding same
one_byte [] h = absurd (omega (arith, h))
one_byte (a ∷ []) h = and_true (eqb_true a a refl) refl
one_byte (a ∷ b ∷ x) h = absurd (omega (arith, h))

-- ---- the whole

-- class 2 may have any byte
abbrev pub AnyCounter : Catalogue → Type 0
AnyCounter cat = (x : List ℕ) → length x ≡ ont_data_width → are_bytes x ≡ true → family_test cat (family cat ont_data) x ≡ true

-- a part that was cut off has its length, and is bytes
part_length : (l b : List ℕ) (i : ℕ) → total (λ n. n) l ≤ length b → i < length l → length (get_or (cut_parts l b) i []) ≡ get_or l i 0
unfolding cut_parts total
part_length [] b i h n = absurd (omega arith)
part_length (x ∷ l) b zero h n = length-take-le x b (omega arith)
part_length (x ∷ l) b (suc i) h n = part_length l (drop x b) i (rw (length-drop x b) (omega arith)) (omega arith)

part_bytes : (l b : List ℕ) (i : ℕ) → are_bytes b ≡ true → are_bytes (get_or (cut_parts l b) i []) ≡ true
unfolding cut_parts
part_bytes [] b zero h = bytes_none
part_bytes [] b (suc i) h = bytes_none
part_bytes (x ∷ l) b zero h = bytes_take x b h
part_bytes (x ∷ l) b (suc i) h = part_bytes l (drop x b) i (bytes_drop x b h)

module _ (cat : Catalogue) (wf : WellFormed cat) (f : fits cat ≡ true) (any : AnyCounter cat) (b : List ℕ) (len : length b ≡ store_length) (bs : are_bytes b ≡ true) where
  part_has : (i : ℕ) → i < length part_lengths → length (nth_part i b) ≡ get_or part_lengths i 0
  part_has i h = part_length part_lengths b i (rw parts_lengths (omega (arith, len))) h

  are_part : (i : ℕ) → are_bytes (nth_part i b) ≡ true
  are_part i = part_bytes part_lengths b i bs

  -- ---- a law for each part, of the state that is read

  memory : (given (read_state cat b).remembered true legal_memory and same (code_optional memory_length code_memory (read_state cat b).remembered) (nth_part nth_memory b))
      ≡ optional_test memory_test (nth_part nth_memory b)
  unfolding read_state
  memory = optional_tested memory_length code_memory read_memory legal_memory memory_test memory_tested (nth_part nth_memory b) (part_has nth_memory (omega arith)) (are_part nth_memory)

  alarms : (legal_bitmaps cat (holds cat (read_state cat b).table) (read_state cat b).alarms and same (code_alarms cat (read_state cat b).alarms) (nth_part nth_alarms b))
      ≡ alarms_test cat (automatic_keys cat) (nth_part nth_alarms b)
  unfolding read_state
  alarms = live_alarms_tested cat wf (nth_part nth_ont_data b) (nth_part nth_table b) f (nth_part nth_alarms b) (part_has nth_alarms (omega arith)) (are_part nth_alarms)

  walk : (given (read_state cat b).walk true (legal_walk cat) and same (code_optional slot_count (code_alarms cat) (read_state cat b).walk) (nth_part nth_walk b))
      ≡ optional_test (alarms_test cat (automatic_keys cat)) (nth_part nth_walk b)
  unfolding read_state
  walk =
      let l : List ℕ = automatic_keys cat in
      optional_tested slot_count (code_alarms cat) (read_alarms l) (legal_walk cat) (alarms_test cat l) (walk_tested cat wf f) (nth_part nth_walk b) (part_has nth_walk (omega arith))
      (are_part nth_walk)

  table : (legal_live cat (read_state cat b).table
      and (same (fill ont_data_width (entry_bytes (entry (key ont_data 0) (read_state cat b).table))) (nth_part nth_ont_data b) and same (code_table (frozen (read_state cat b).table))
      (nth_part nth_table b)))
      ≡ table_test cat (nth_part nth_table b)
  unfolding read_state
  table = live_tested cat wf (nth_part nth_ont_data b) (nth_part nth_table b) f (part_has nth_ont_data (omega arith)) (part_has nth_table (omega arith)) (are_part nth_table)
      ∙ rw (any (nth_part nth_ont_data b) (part_has nth_ont_data (omega arith)) (are_part nth_ont_data)) (true_and (table_test cat (nth_part nth_table b)))

  upload : (given (read_state cat b).upload true (legal_frozen cat) and same (code_optional table_length code_table (read_state cat b).upload) (nth_part nth_upload b))
      ≡ optional_test (table_test cat) (nth_part nth_upload b)
  unfolding read_state
  upload = optional_tested table_length code_table (read_table cat) (legal_frozen cat) (table_test cat) (table_tested cat wf f) (nth_part nth_upload b) (part_has nth_upload (omega arith))
      (are_part nth_upload)

  -- product and alarm number are always the bytes that they were read from
  product : same (byte b 0 ∷ []) (nth_part nth_product b) ≡ true
  unfolding cut_parts
  product = rw (get_or-take 1 b 0 0 (omega arith)) at (one_byte (nth_part nth_product b) (part_has nth_product (omega arith)))

  alarm_number : is_byte (read_state cat b).alarm_number ≡ true
  unfolding read_state
  alarm_number = lt-ltb (byte (nth_part nth_alarm_number b) 0) 256 (byte_small (nth_part nth_alarm_number b) 0 (are_part nth_alarm_number))

  -- ---- all of them

  parts_compared : Remembers (read_state cat b) → same (encode (byte b 0) cat (read_state cat b)) b ≡ each_same (parts (byte b 0) cat (read_state cat b)) (cut_parts part_lengths b)
  unfolding encode
  parts_compared r =
      let l : List (List ℕ) = parts (byte b 0) cat (read_state cat b) in
      let n : map length l ≡ part_lengths = each_part_has_its_length (byte b 0) cat (read_state cat b) r in
      same_parts l b (rw (n, parts_lengths) len) ∙ ap (λ (m : List ℕ). each_same l (cut_parts m b)) n

  compared : each_same (parts (byte b 0) cat (read_state cat b)) (cut_parts part_lengths b)
      ≡ (same (code_optional memory_length code_memory (read_state cat b).remembered) (nth_part nth_memory b)
      and same (code_alarms cat (read_state cat b).alarms) (nth_part nth_alarms b)
      and same (code_optional slot_count (code_alarms cat) (read_state cat b).walk) (nth_part nth_walk b)
      and same (fill ont_data_width (entry_bytes (entry (key ont_data 0) (read_state cat b).table))) (nth_part nth_ont_data b)
      and same (code_table (frozen (read_state cat b).table)) (nth_part nth_table b)
      and same (code_optional table_length code_table (read_state cat b).upload) (nth_part nth_upload b))
  unfolding each_same parts cut_parts read_state
  compared = rw (
    product,
    one_byte (nth_part nth_alarm_number b) (part_has nth_alarm_number (omega arith)),
    true_and,
    true_and,
    and_end (same (code_optional table_length code_table (read_state cat b).upload) (nth_part nth_upload b)),
  )

  pub store_tested : (legal_state cat (read_state cat b) and same (encode (byte b 0) cat (read_state cat b)) b) ≡ store_test cat b
  unfolding legal_state store_test
  store_tested =
      let s : State = read_state cat b in
      cases (given s.remembered true legal_memory)
      (λ r. rw (parts_compared r, compared, alarm_number, ← memory, ← alarms, ← walk, ← table, ← upload)
      (sorted
      (legal_live cat s.table) (legal_bitmaps cat (holds cat s.table) s.alarms) (given s.remembered true legal_memory)
      (given s.upload true (legal_frozen cat)) (given s.walk true (legal_walk cat))
      (same (code_optional memory_length code_memory s.remembered) (nth_part nth_memory b))
      (same (code_alarms cat s.alarms) (nth_part nth_alarms b))
      (same (code_optional slot_count (code_alarms cat) s.walk) (nth_part nth_walk b))
      (same (fill ont_data_width (entry_bytes (entry (key ont_data 0) s.table))) (nth_part nth_ont_data b))
      (same (code_table (frozen s.table)) (nth_part nth_table b))
      (same (code_optional table_length code_table s.upload) (nth_part nth_upload b))))
      (λ r. bool_eq _ _ (λ p. true_false (both (both (both (both (both p).0).1).1).1).0 r) (λ p. true_false (both (memory ∙ (both p).0)).0 r))
    where
      sorted : (l a m u w s₂ s₃ s₄ s₅ s₆ s₇ : Bool)
          → ((l and (a and (true and (m and (u and w))))) and (s₂ and (s₃ and (s₄ and (s₅ and (s₆ and s₇))))))
          ≡ ((m and s₂) and ((a and s₃) and ((w and s₄) and ((l and (s₅ and s₆)) and (u and s₇)))))
      sorted l a m u w s₂ s₃ s₄ s₅ s₆ s₇ = bool_eq _ _
          (λ p.
          let x = both p in let x₁ = both x.0 in let x₂ = both x₁.1 in let x₃ = both (both x₂.1).1 in let x₄ = both x₃.1 in
          let y₂ = both x.1 in let y₃ = both y₂.1 in let y₄ = both y₃.1 in let y₅ = both y₄.1 in let y₆ = both y₅.1 in
          and_true (and_true x₃.0 y₂.0) (and_true (and_true x₂.0 y₃.0) (and_true (and_true x₄.1 y₄.0)
          (and_true (and_true x₁.0 (and_true y₅.0 y₆.0)) (and_true x₄.0 y₆.1)))))
          (λ p.
          let x₁ = both p in let x₂ = both x₁.1 in let x₃ = both x₂.1 in let x₄ = both x₃.1 in
          let y₁ = both x₁.0 in let y₂ = both x₂.0 in let y₃ = both x₃.0 in let y₄ = both x₄.0 in let z = both y₄.1 in let y₅ = both x₄.1 in
          and_true (and_true y₄.0 (and_true y₂.0 (and_true refl (and_true y₁.0 (and_true y₅.0 y₃.0)))))
          (and_true y₁.1 (and_true y₂.1 (and_true y₃.1 (and_true z.0 (and_true z.1 y₅.1))))))
