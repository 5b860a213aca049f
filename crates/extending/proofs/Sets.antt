-- A Set that the first product accepts, the second accepts too, and leaves a state that matches.
use Prim.Native.Nat.{ℕ, ◌≤◌, ◌<◌}
use native.Mathlib.Omega.{arith}
use mathlib.Core.Path.{◌≡◌, refl}
use mathlib.Core.Bool.{Bool, true}
use mathlib.Core.Option.{some}
use mathlib.Core.List.{List, [], ◌∷◌}
use lib.ListN.{length, drop, length-drop}
use lib.Dec.{eqb}
use Rattle.rules.specs.Maps.{◌and◌, ◌or◌, find, among, all, empty, those}
use Rattle.rules.specs.Bytes.{byte, two, are_bytes}
use Rattle.rules.specs.Masks.{total}
use Rattle.rules.specs.Catalogue.{Class, Catalogue, class, known, attribute, supported, size_of, ont_data}
use Rattle.rules.specs.State.{Contents, Table, State, holds, contents, overwrite, change, with_table}
use Rattle.rules.specs.Messages.{done}
use Rattle.rules.specs.Commands.{cut, asked, unsupported, unwritable, set_by, bad_in_set, set_results, moved_by_set, set}
use Rattle.rules.specs.WellFormed.{WellFormed}
use Rattle.rules.specs.Extends.{Extends}
use Rattle.rules.proofs.Laws.{cases, never, not-false, both, and_true, or_left, ltb_le, all_among, has_among}
use Rattle.rules.proofs.Lookups.{W_supported}
use Rattle.rules.proofs.ByteLaws.{keys_cut, bytes_drop}
use Rattle.rules.proofs.Standing.{all_imp}
use Rattle.legality.proofs.Tables.{LegalLive}
use Rattle.legality.proofs.LegalStates.{LegalState}
use Rattle.legality.proofs.Refusals.{NoneApplies}
use Rattle.legality.proofs.Carried.{set_carries_legal}
use Rattle.legality.proofs.Written.{set_legal}
use Rattle.extending.specs.Promise.{is_0_1_or_7}
use Rattle.extending.specs.Matched.{MatchedContents, MatchedTable, MatchedState, Untouched}
use Rattle.extending.proofs.Found.{class_extends, live_apart, matched_instance}
use Rattle.extending.proofs.Gets.{none_unsupported, all_supported_too, same_total}
use Rattle.extending.proofs.Accepted.{none_applied, accepted_is}
use Rattle.extending.proofs.Judged.{contents_agree, same_cut, none_illegal}
use Rattle.extending.proofs.Changed.{with_tables_match, overwritten_match, changed_match, moved_match, untouched_changed, untouched_moved}

-- ---- what a Set names can be written

all_writable : (k : Class) (l : List ℕ) → empty (unsupported k l) ≡ true → empty (unwritable k l) ≡ true → all (λ n. (attribute k n).W) l ≡ true
unfolding unsupported unwritable those all ◌and◌
all_writable k [] sup wr = refl
all_writable k (n ∷ l) sup wr = cases (supported k n)
    (λ s. cases (attribute k n).W
    (λ w. rw w (all_writable k l (rw s at sup) (rw (s, w) at wr)))
    (λ w. never (rw (s, w) at wr)))
    (λ s. never (rw s at sup))

none_unwritable : (k : Class) (l : List ℕ) → all (λ n. (attribute k n).W) l ≡ true → empty (unwritable k l) ≡ true
unfolding unwritable those all ◌and◌
none_unwritable k [] h = refl
none_unwritable k (n ∷ l) h =
    let g = both {a = (attribute k n).W} h in
    let w : (attribute k n).W ≡ true = g.0 in
    rw (W_supported k n w, w) (none_unwritable k l g.1)

-- ---- a Set that isn't refused

-- the lines that can refuse it
abbrev results : Catalogue → State → ℕ → ℕ → List ℕ → List (Bool × List ℕ)
results cat s c i v = set_results (holds cat s.table c i) (class cat c) (two v 0) (bad_in_set cat s c i v)

-- no refusal of a Set has the result 0, 1 or 7
set_clear : (cat : Catalogue) (s : State) (c i : ℕ) (v : List ℕ) → is_0_1_or_7 (byte (set cat s c i v).1 0) ≡ true
    → NoneApplies (results cat s c i v)
unfolding set set_results among ◌or◌
set_clear cat s c i v = none_applied s (results cat s c i v) _ ((λ t. refl), ((λ t. refl), ((λ t. refl), ((λ t. refl), ((λ t. refl), tt)))))

set_is : (cat : Catalogue) (s : State) (c i : ℕ) (v : List ℕ) → NoneApplies (results cat s c i v)
    → set cat s c i v ≡ (with_table (moved_by_set cat c (change cat c i (overwrite (set_by (class cat c) v)) s.table)) s, done ∷ [])
unfolding set
set_is cat s c i v clear = accepted_is s (results cat s c i v) _ clear

-- it leaves a legal table, before the counter moves
set_table_legal : (cat : Catalogue) (wf : WellFormed cat) (s : State) → LegalState cat wf s
    → (c i : ℕ) (v : List ℕ) → i < 65536 → length v ≡ 32 → are_bytes v ≡ true → NoneApplies (results cat s c i v)
    → LegalLive cat wf (change cat c i (overwrite (set_by (class cat c) v)) s.table)
unfolding set_results
set_table_legal cat wf s h c i v lt long bytes clear =
    let fine_ones = both (not-false clear.1.1.0) in
    set_legal cat wf s.table h.its_table c i (set_by (class cat c) v) lt
    (set_carries_legal cat wf s h.its_table c i v long bytes fine_ones.0 fine_ones.1
    (ltb_le 30 (total (size_of (class cat c)) (asked v)) clear.1.1.1.0) (not-false clear.1.1.1.1.0))

module _ (first second : Catalogue) (wf : WellFormed first) (wf' : WellFormed second) (ext : Extends first second) where
  all_writable_too : (c : ℕ) → known first c ≡ true → (l : List ℕ) → all (λ n. (attribute (class first c) n).W) l ≡ true
      → all (λ n. (attribute (class second c) n).W) l ≡ true
  all_writable_too c kn l h = all_imp (λ n. (attribute (class first c) n).W) (λ n. (attribute (class second c) n).W)
      (λ n w. ((class_extends first second wf wf' ext c kn).attributes_kept n (W_supported (class first c) n w)).1.W_grows w) l h

  -- a Set of another class than 2 moves both counters on
  moved_by_set_match : (c : ℕ) (t u : Table) → LegalLive first wf t → LegalLive second wf' u → MatchedTable first second t u → Untouched first second t
      → MatchedTable first second (moved_by_set first c t) (moved_by_set second c u) × Untouched first second (moved_by_set first c t)
  unfolding moved_by_set
  moved_by_set_match c t u l l' m old = cases (eqb c ont_data)
      (λ e. rw e (m, old))
      (λ e. rw e (moved_match first second wf wf' ext t u l l' m, untouched_moved first second wf wf' ext t old))

  module _ (s z : State) (h : LegalState first wf s) (h' : LegalState second wf' z) (m : MatchedState first second s z)
      (c i : ℕ) (v : List ℕ) (kn : known first c ≡ true) (lt : i < 65536) (long : length v ≡ 32) (bytes : are_bytes v ≡ true)
      (clear : NoneApplies (results first s c i v)) where
    named_W : all (λ n. (attribute (class first c) n).W) (asked v) ≡ true
    unfolding set_results
    named_W = let g = both (not-false clear.1.1.0) in all_writable (class first c) (asked v) g.0 g.1

    named_supported : all (supported (class first c)) (asked v) ≡ true
    named_supported = all_imp (λ n. (attribute (class first c) n).W) (supported (class first c)) (λ n w. W_supported (class first c) n w) (asked v) named_W

    -- both carry the same
    same_set : set_by (class second c) v ≡ set_by (class first c) v
    unfolding set_by
    same_set = same_cut first second wf wf' ext c kn (asked v) (drop 2 v) named_supported

    instance_match : (holds second z.table c i ≡ true)
        × MatchedContents (class first c) (class second c) (contents first s.table c i) (contents second z.table c i)
    unfolding set_results
    instance_match = matched_instance first second wf wf' ext s.table z.table m.tables
        (live_apart first second wf wf' ext z.table h'.its_table) c i kn (not-false clear.0)

    none_bad : empty (bad_in_set second z c i v) ≡ true
    unfolding set_results bad_in_set set_by
    none_bad =
        let k : Class = class first c in
        let r : Contents = contents first s.table c i in
        let q : Contents = contents second z.table c i in
        let short : total (size_of k) (asked v) ≤ 30 = ltb_le 30 (total (size_of k) (asked v)) clear.1.1.1.0 in
        let fits : total (size_of k) (asked v) ≤ length (drop 2 v) = Prim.simp length-drop (omega arith) in
        rw same_set (none_illegal first second wf wf' ext s.table z.table h.its_table h'.its_table m.tables c kn (asked v) (drop 2 v) r q
        (contents_agree first second wf wf' ext c kn r q instance_match.1) named_supported fits (bytes_drop 2 v bytes) (not-false clear.1.1.1.1.0))

    -- the second doesn't refuse it
    clear_too : NoneApplies (results second z c i v)
    unfolding set_results
    clear_too =
        let l : Class = class second c in
        let sup = none_unsupported l (asked v) (all_supported_too first second wf wf' ext c kn (asked v) named_supported) in (
          rw instance_match.0 refl,
          (
            clear.1.0,
            (
              rw (and_true sup (none_unwritable l (asked v) (all_writable_too c kn (asked v) named_W))) refl,
              (rw (same_total first second wf wf' ext c kn (asked v) named_supported) clear.1.1.1.0, (rw none_bad refl, tt)),
            ),
          ),
        )

    -- what both leave
    both_sets_match : MatchedState first second
        (with_table (moved_by_set first c (change first c i (overwrite (set_by (class first c) v)) s.table)) s)
        (with_table (moved_by_set second c (change second c i (overwrite (set_by (class second c) v)) z.table)) z)
    unfolding set_by
    both_sets_match =
        let new : Contents = set_by (class first c) v in
        let t : Table = change first c i (overwrite new) s.table in
        let u : Table = change second c i (overwrite (set_by (class second c) v)) z.table in
        let match : MatchedTable first second t u = rw same_set (changed_match first second wf wf' ext c i kn (overwrite new) (overwrite new)
        (λ r q x. overwritten_match (class first c) (class second c) new r q (λ n w e. W_supported (class first c) n (written n w e)) x)
        s.table z.table m.tables) in
        let old : Untouched first second t = untouched_changed first second wf wf' ext c i new
        (λ n w e. or_left (attribute (class first c) n).L (written n w e)) s.table m.untouched in
        let moved = moved_by_set_match c t u (set_table_legal first wf s h c i v lt long bytes clear)
        (set_table_legal second wf' z h' c i v lt long bytes clear_too) match old in
        with_tables_match first second wf wf' ext s z m (moved_by_set first c t) (moved_by_set second c u) moved.0 moved.1
      where
        written : (n : ℕ) (w : List ℕ) → find n (set_by (class first c) v) ≡ some w → (attribute (class first c) n).W ≡ true
        written n w e = all_among (λ n. (attribute (class first c) n).W) (asked v) named_W n
            (rw (← keys_cut (size_of (class first c)) (asked v) (drop 2 v), ← has_among n (cut (size_of (class first c)) (asked v) (drop 2 v)), e) refl)

  pub set_matched : (s z : State) → LegalState first wf s → LegalState second wf' z → MatchedState first second s z
      → (c i : ℕ) (v : List ℕ) → known first c ≡ true → i < 65536 → length v ≡ 32 → are_bytes v ≡ true
      → is_0_1_or_7 (byte (set first s c i v).1 0) ≡ true
      → MatchedState first second (set first s c i v).0 (set second z c i v).0 × ((set second z c i v).1 ≡ (set first s c i v).1)
  set_matched s z h h' m c i v kn lt long bytes settled =
      let clear = set_clear first s c i v settled in
      rw (set_is first s c i v clear, set_is second z c i v (clear_too s z h h' m c i v kn lt long bytes clear))
      (both_sets_match s z h h' m c i v kn lt long bytes clear, refl)
