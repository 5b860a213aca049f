-- What an accepted Create or Set carries is legal.
use Prim.Native.Nat.{ℕ, ◌≤◌}
use native.Mathlib.Omega.{arith}
use mathlib.Core.Path.{◌≡◌, refl, ◌∙◌, ap}
use mathlib.Core.Bool.{true, false, not}
use mathlib.Core.Option.{some}
use mathlib.Core.List.{List}
use lib.ListN.{length, drop}
use lib.Dec.{eqb}
use Rattle.rules.specs.Maps.{◌and◌, find, keep, among, empty, rising, keys}
use Rattle.rules.specs.Bytes.{are_bytes}
use Rattle.rules.specs.Masks.{total}
use Rattle.rules.specs.Catalogue.{Class, Catalogue, class, attribute, supported, size_of, carried_numbers}
use Rattle.rules.specs.State.{Contents, Table, State, holds, contents, content}
use Rattle.rules.specs.Legal.{fixed_contents, legal_content, there_or_gone}
use Rattle.rules.specs.Commands.{cut, illegal, carried_by, not_zero, bad_in_create, set_by, bad_in_set, asked, unsupported, unwritable}
use Rattle.rules.specs.WellFormed.{WellFormed, carried_bytes, carries_at_most_32}
use Rattle.rules.proofs.Laws.{cases, true_false, not-true, not-false, and_true, eqb_eq, leb_le, every_find, find_some, has_among, all_among}
use Rattle.rules.proofs.MapLaws.{find_kept, found_kept}
use Rattle.rules.proofs.Lookups.{known_attribute, C_supported, class_says, supported_known, with_W, found_attribute}
use Rattle.rules.proofs.Verdicts.{passes_later}
use Rattle.rules.proofs.ByteLaws.{keys_cut, sized_cut, bytes_cut, bytes_drop}
use Rattle.legality.proofs.Refusals.{none_of_those, none_kept, empty_front}
use Rattle.legality.proofs.Contents.{Value, Writable}
use Rattle.legality.proofs.NewContents.{CarriedIsLegal}
use Rattle.legality.proofs.Tables.{LegalLive}
use Rattle.legality.proofs.Holds.{holds_known}

-- the values that a message carries for these attributes, none of them illegal
module _ (cat : Catalogue) (wf : WellFormed cat) (t : Table) (h : LegalLive cat wf t) (k : Class) (r : Contents) (l v : List ℕ)
    (long : total (size_of k) l ≤ length v) (bytes : are_bytes v ≡ true)
    (good : empty (illegal (holds cat t) k r (cut (size_of k) l v)) ≡ true) where
  pub cut_value : (n : ℕ) (w : List ℕ) → find n (cut (size_of k) l v) ≡ some w → Value cat k r n w
  unfolding illegal legal_content
  cut_value n w e = record {
    sized = eqb_eq (length w) (size_of k n) (every_find (λ n w. eqb (length w) (size_of k n)) (cut (size_of k) l v) (sized_cut (size_of k) l v long) n w e);
    bytes = every_find (λ n w. are_bytes w) (cut (size_of k) l v) (bytes_cut (size_of k) l v bytes) n w e;
    legal = passes_later (holds cat t) (there_or_gone cat) (λ c i y. (holds_known cat wf t h c i y).may_be) ((attribute k n).rule w (fixed_contents k r))
        (every_find (legal_content (holds cat t) k r) (cut (size_of k) l v) (none_kept (legal_content (holds cat t) k r) (cut (size_of k) l v) good) n w e);
  }

-- every number that a Create carries is of a set-by-create attribute
pub carried_is_C : (k : Class) → rising (keys k.attributes) ≡ true → (n : ℕ) → among n (carried_numbers k) ≡ true → (attribute k n).C ≡ true
unfolding carried_numbers
carried_is_C k up n h =
    let m = keep (λ n a. a.C) k.attributes in
    let f = find_some n m (has_among n m ∙ h) in
    let g = found_kept (λ n a. a.C) k.attributes up n f.0 f.1 in
    rw (found_attribute k n f.0 g.0) g.1

module _ (cat : Catalogue) (wf : WellFormed cat) where
  pub C_in_carried : (k : Class) (n : ℕ) → (attribute k n).C ≡ true → among n (carried_numbers k) ≡ true
  unfolding carried_numbers
  C_in_carried k n e =
      let m = keep (λ n a. a.C) k.attributes in
      rw (← has_among n m, find_kept (λ n a. a.C) n (attribute k n) k.attributes (known_attribute k n (C_supported k n e)) e) refl

  carried_fits : (c n : ℕ) → (attribute (class cat c) n).C ≡ true → total (size_of (class cat c)) (carried_numbers (class cat c)) ≤ 32
  unfolding carries_at_most_32 carried_bytes
  carried_fits c n e =
      let z = leb_le (carried_bytes (class cat c)) 32 (class_says carries_at_most_32 cat wf.create_fits c (supported_known cat c n (C_supported (class cat c) n e))) in
      omega arith

  pub create_carries_legal : (s : State) → LegalLive cat wf s.table → (c : ℕ) (v : List ℕ) → length v ≡ 32 → are_bytes v ≡ true
      → empty (bad_in_create cat s c v) ≡ true → CarriedIsLegal cat c (carried_by (class cat c) v)
  unfolding bad_in_create carried_by content
  create_carries_legal s h c v long bytes good n e =
      let k : Class = class cat c in
      let l : List ℕ = carried_numbers k in
      let room : total (size_of k) l ≤ length v = omega (arith, long, carried_fits c n e) in
      let fine_ones = (empty_front (illegal (holds cat s.table) k (cut (size_of k) l v) (cut (size_of k) l v))
      (not_zero k.unkept (drop (total (size_of k) l) v)) good).0 in
      let f = find_some n (cut (size_of k) l v) (has_among n (cut (size_of k) l v) ∙ ap (λ (x : List ℕ). among n x) (keys_cut (size_of k) l v) ∙ C_in_carried k n e) in
      rw f.1 (cut_value cat wf s.table h k (cut (size_of k) l v) l v room bytes fine_ones n f.0 f.1)

  pub set_carries_legal : (s : State) → LegalLive cat wf s.table → (c i : ℕ) (v : List ℕ) → length v ≡ 32 → are_bytes v ≡ true
      → empty (unsupported (class cat c) (asked v)) ≡ true → empty (unwritable (class cat c) (asked v)) ≡ true
      → total (size_of (class cat c)) (asked v) ≤ 30 → empty (bad_in_set cat s c i v) ≡ true
      → Writable cat (class cat c) (contents cat s.table c i) (set_by (class cat c) v)
  unfolding bad_in_set set_by unsupported unwritable
  set_carries_legal s h c i v long bytes known_ones writable_ones room good n w e =
      let k : Class = class cat c in
      let r : Contents = contents cat s.table c i in
      let fits : total (size_of k) (asked v) ≤ length (drop 2 v) = Prim.simp lib.ListN.length-drop (omega arith) in
      let named_one : among n (asked v) ≡ true = rw (← keys_cut (size_of k) (asked v) (drop 2 v), ← has_among n (cut (size_of k) (asked v) (drop 2 v)), e) refl in
      let sup : supported k n ≡ true = not-false (not-true (all_among (λ n. not (not (supported k n))) (asked v) (none_of_those (λ n. not (supported k n)) (asked v) known_ones) n named_one)) in
      let nw : (supported k n and not (attribute k n).W) ≡ false = not-true
      (all_among (λ n. not (supported k n and not (attribute k n).W)) (asked v) (none_of_those (λ n. supported k n and not (attribute k n).W) (asked v) writable_ones) n named_one) in
      let w_right : (attribute k n).W ≡ true = cases (attribute k n).W (λ y. y) (λ y. true_false (and_true sup (Rattle.rules.proofs.Laws.false_not y)) nw) in
      (cut_value cat wf s.table h k r (asked v) (drop 2 v) fits (bytes_drop 2 v bytes) good n w e, with_W (attribute k n) w_right)
