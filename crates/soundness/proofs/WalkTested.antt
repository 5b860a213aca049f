-- The bytes of an alarm walk are those of a legal one exactly if they pass the test.
use Prim.Native.Nat.{ℕ}
use native.Mathlib.Omega.{arith}
use mathlib.Core.Path.{◌≡◌, refl}
use mathlib.Core.Bool.{Bool, true, false}
use mathlib.Core.List.{List, [], ◌∷◌}
use lib.ListN.{length, drop}
use lib.Dec.{leb}
use Rattle.rules.specs.Maps.{◌and◌, Map, keys, keep, all, among, distinct, same}
use Rattle.rules.specs.Bytes.{byte, are_bytes}
use Rattle.rules.specs.Catalogue.{Creation, created, automatic, comes_with, Catalogue, class, known, is_created, automatic_numbers, leader}
use Rattle.rules.specs.State.{Alarms, class_of, number_of}
use Rattle.rules.specs.Legal.{may_be_there, there_or_gone, automatic_keys, some_on, legal_bitmaps, walked_entries, legal_walk}
use Rattle.rules.specs.WellFormed.{WellFormed}
use Rattle.rules.proofs.Laws.{cases, never, both, and_true, le-leb}
use Rattle.rules.proofs.Standing.{stands, all_imp, automatic_keys_stand, stands_not_created, stands_leads}
use Rattle.store.specs.Layout.{slot_count, code_alarms, fits}
use Rattle.store.specs.Decode.{read_alarms}
use Rattle.slot_tests.specs.Tests.{alarms_test}
use Rattle.rules.proofs.Conjunctions.{and_end}
use Rattle.store.proofs.AlarmBits.{shown_by}
use Rattle.soundness.proofs.AlarmsTested.{bitmaps_tested}

-- ---- instances that are there by themselves

automatic_there : (x : Creation) (i : ℕ) → among i (automatic_numbers x) ≡ true → may_be_there x i ≡ true
unfolding among
automatic_there created i h = never h
automatic_there (automatic l) i h = h
automatic_there (comes_with d) i h = never h

module _ (cat : Catalogue) (wf : WellFormed cat) where
  standing_there : all (λ k. known cat (class_of k) and there_or_gone cat (class_of k) (number_of k)) (automatic_keys cat) ≡ true
  standing_there = all_imp (stands cat) (λ k. known cat (class_of k) and there_or_gone cat (class_of k) (number_of k))
      (λ k h. and_true (both h).0 (automatic_there (class cat (class_of k)).creation (number_of k) (both (both h).1).1))
      (automatic_keys cat) (automatic_keys_stand cat wf)

  -- none of them is created
  abbrev made : ℕ → Alarms → Bool
  made k b = is_created (class cat (leader cat (class_of k))).creation

  none_made : (l b : List ℕ) → all (stands cat) l ≡ true → keep made (read_alarms l b) ≡ []
  unfolding all keep read_alarms
  none_made [] b h = refl
  none_made (k ∷ l) b h =
      let r : keep made (read_alarms l (drop 1 b)) ≡ [] = none_made l (drop 1 b) (both h).1 in
      let n : is_created (class cat (leader cat (class_of k))).creation ≡ false = rw (stands_leads cat wf k (both h).0) (stands_not_created cat wf k (both h).0) in
      cases (some_on (shown_by (byte b 0))) (λ t. rw (t, n) r) (λ t. rw t r)

  no_walked_entries : (b : List ℕ) → leb (length (walked_entries cat (read_alarms (automatic_keys cat) b))) cat.places ≡ true
  unfolding walked_entries
  no_walked_entries b = rw (none_made (automatic_keys cat) b (automatic_keys_stand cat wf)) (unfold keys distinct in le-leb 0 cat.places (omega arith))

  -- ---- the walk

  pub walk_tested : fits cat ≡ true → (b : List ℕ) → length b ≡ slot_count → are_bytes b ≡ true
      → (legal_walk cat (read_alarms (automatic_keys cat) b) and same (code_alarms cat (read_alarms (automatic_keys cat) b)) b) ≡ alarms_test cat (automatic_keys cat) b
  unfolding legal_walk
  walk_tested f b len bs =
      let m : Map Alarms = read_alarms (automatic_keys cat) b in
      let g : Bool = legal_bitmaps cat (λ c i. known cat c and there_or_gone cat c i) m in
      rw (no_walked_entries b, and_end g) (bitmaps_tested cat (λ c i. known cat c and there_or_gone cat c i) wf f standing_there b len bs)
