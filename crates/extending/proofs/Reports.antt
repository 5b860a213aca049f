-- A report that names what the first product has does the same in both, and is notified in the same way.
use Prim.Native.Nat.{ℕ}
use mathlib.Core.Path.{◌≡◌, refl, sym, ◌∙◌, ap}
use mathlib.Core.Bool.{Bool, true, false, not}
use mathlib.Core.Option.{some}
use mathlib.Core.List.{List, [], ◌∷◌}
use lib.ListN.{length, get_or}
use lib.Dec.{eqb}
use Rattle.rules.specs.Maps.{◌and◌, ◌or◌, Map, find, among, first_that_applies}
use Rattle.rules.specs.Bytes.{are_bytes}
use Rattle.rules.specs.Catalogue.{Catalogue, class, attribute, supported, size_of, key}
use Rattle.rules.specs.State.{Contents, Alarms, State, holds, contents, content, alarms_of, overwrite, change, with_table}
use Rattle.rules.specs.Legal.{fixed_contents, passes, legal_content}
use Rattle.rules.specs.Reports.{unless_dropped, attribute_drops, report_attribute, alarm_drops, turned, report_alarm}
use Rattle.rules.specs.WellFormed.{WellFormed}
use Rattle.rules.specs.Extends.{Extends}
use Rattle.rules.proofs.Laws.{cases, both, or_right, eqb_eq}
use Rattle.rules.proofs.MapLaws.{none_some}
use Rattle.rules.proofs.Lookups.{supported_known, L_supported}
use Rattle.legality.proofs.Holds.{holds_known}
use Rattle.legality.proofs.LegalStates.{LegalState}
use Rattle.extending.specs.Matched.{MatchedContents, MatchedState}
use Rattle.extending.proofs.Found.{class_extends, live_apart, matched_instance}
use Rattle.extending.proofs.Changed.{changed_match, overwritten_match, untouched_changed, with_tables_match}
use Rattle.legality.proofs.Contents.{passes_anywhere}

-- an L attribute's content is legal or not by itself
legal_alone : (cat : Catalogue) → WellFormed cat → (c n : ℕ) (v : List ℕ) → (attribute (class cat c) n).L ≡ true
    → (there there' : ℕ → ℕ → Bool) (r : Contents) → legal_content there (class cat c) r n v ≡ passes there' ((attribute (class cat c) n).rule v (λ m. []))
unfolding legal_content
legal_alone cat wf c n v l there there' r =
    let x = wf.L_looks_at_its_own_alone c n l in
    rw (x.same_with_others v (fixed_contents (class cat c) r))
    (passes_anywhere there there' ((attribute (class cat c) n).rule v (λ m. [])) (x.no_instance v))

-- a report writes one attribute
one_written : (n m : ℕ) (v w : List ℕ) → find m ((n, v) ∷ []) ≡ some w → m ≡ n
unfolding find
one_written n m v w e = cases (eqb m n) (λ t. eqb_eq m n t) (λ t. none_some (rw t at e))

module _ (first second : Catalogue) (wf : WellFormed first) (wf' : WellFormed second) (ext : Extends first second) where
  -- ---- attributes

  -- whether a content has the size and is legal for an L attribute of an instance, where these instances are there
  abbrev may_be_reported : Catalogue → (ℕ → ℕ → Bool) → ℕ → Contents → ℕ → List ℕ → Bool
  may_be_reported cat there c r n v = eqb (length v) (size_of (class cat c) n) and legal_content there (class cat c) r n v

  same_judgement : (c n : ℕ) (v : List ℕ) → are_bytes v ≡ true → (attribute (class first c) n).L ≡ true
      → (there there' : ℕ → ℕ → Bool) (r q : Contents) → may_be_reported second there' c q n v ≡ may_be_reported first there c r n v
  unfolding ◌and◌
  same_judgement c n v b l there there' r q =
      let s : supported (class first c) n ≡ true = L_supported (class first c) n l in
      let x = ((class_extends first second wf wf' ext c (supported_known first c n s)).attributes_kept n s).1 in
      rw (← x.same_size) (cases (eqb (length v) (size_of (class first c) n))
      (λ e. rw (
        e,
        legal_alone first wf c n v l there there r,
        legal_alone second wf' c n v (sym x.same_L ∙ l) there' there q,
        ← x.same_legal_L l v (λ m. []) (eqb_eq (length v) (size_of (class first c) n) e) b,
      ) refl)
      (λ e. rw e refl))

  module _ (s z : State) (h : LegalState first wf s) (h' : LegalState second wf' z) (m : MatchedState first second s z) (c i n : ℕ) where
    -- the instance that is named is there in both, with contents that match
    found_in_both : holds first s.table c i ≡ true
        → (holds second z.table c i ≡ true)
        × MatchedContents (class first c) (class second c) (contents first s.table c i) (contents second z.table c i)
    found_in_both here = matched_instance first second wf wf' ext s.table z.table m.tables
        (live_apart first second wf wf' ext z.table h'.its_table) c i
        (holds_known first wf s.table h.its_table c i here).is_known here

    written_matched : (v : List ℕ) → (attribute (class first c) n).L ≡ true
        → MatchedState first second (with_table (change first c i (overwrite ((n, v) ∷ [])) s.table) s)
        (with_table (change second c i (overwrite ((n, v) ∷ [])) z.table) z)
    written_matched v l =
        let new : Contents = (n, v) ∷ [] in
        let sup : supported (class first c) n ≡ true = L_supported (class first c) n l in
        with_tables_match first second wf wf' ext s z m (change first c i (overwrite new) s.table) (change second c i (overwrite new) z.table)
        (changed_match first second wf wf' ext c i (supported_known first c n sup) (overwrite new) (overwrite new)
        (λ r q y. overwritten_match (class first c) (class second c) new r q (λ a w e. rw (one_written n a v w e) sup) y)
        s.table z.table m.tables)
        (untouched_changed first second wf wf' ext c i new
        (λ a w e. rw (one_written n a v w e) (or_right (attribute (class first c) n).W l)) s.table m.untouched)

    pub attribute_report_matched : (v : List ℕ) → are_bytes v ≡ true → (holds first s.table c i and supported (class first c) n) ≡ true
        → MatchedState first second (report_attribute first s c i n v).0 (report_attribute second z c i n v).0
        × ((report_attribute second z c i n v).1 ≡ (report_attribute first s c i n v).1)
    unfolding report_attribute attribute_drops unless_dropped first_that_applies content
    attribute_report_matched v b named =
        let sup : supported (class first c) n ≡ true = (both named).1 in
        let f = found_in_both (both named).0 in
        let x = ((class_extends first second wf wf' ext c (supported_known first c n sup)).attributes_kept n sup).1 in
        let r : Contents = contents first s.table c i in
        let q : Contents = contents second z.table c i in
        rw ((both named).0, f.0, ← x.same_L) (cases (attribute (class first c) n).L
        (λ l. rw (l, same_judgement c n v b l (holds first s.table) (holds second z.table) r q)
        (cases (may_be_reported first (holds first s.table) c r n v)
        (λ e. rw (e, f.1.same_contents n sup, ← x.same_AVC) (written_matched v l, refl))
        (λ e. rw e (m, refl))))
        (λ l. rw l (m, refl)))

    -- ---- alarms

    turned_matched : (on : Bool)
        → MatchedState first second (turned s c i n on).0 (turned z c i n on).0 × ((turned z c i n on).1 ≡ (turned s c i n on).1)
    unfolding turned
    turned_matched on = (
      record {
        tables = m.tables;
        untouched = m.untouched;
        same_alarms = rw m.same_alarms refl;
        same_alarm_number = rw m.same_alarm_number refl;
        memories = m.memories;
        uploads = m.uploads;
        same_walk = m.same_walk;
      },
      rw (m.same_alarms, m.same_alarm_number) refl,
    )

    pub alarm_report_matched : (on : Bool) → (holds first s.table c i and among n (class first c).alarms) ≡ true
        → MatchedState first second (report_alarm first s c i n on).0 (report_alarm second z c i n on).0
        × ((report_alarm second z c i n on).1 ≡ (report_alarm first s c i n on).1)
    unfolding report_alarm alarm_drops unless_dropped first_that_applies
    alarm_report_matched on named =
        let here : holds first s.table c i ≡ true = (both named).0 in
        let x = class_extends first second wf wf' ext c (holds_known first wf s.table h.its_table c i here).is_known in
        let is_on : Bool = get_or (alarms_of (key c i) s.alarms) n false in
        let same_on : get_or (alarms_of (key c i) z.alarms) n false ≡ is_on =
        ap (λ (a : Map Alarms). get_or (alarms_of (key c i) a) n false) m.same_alarms in
        rw (here, (found_in_both here).0, ← x.same_alarms n, (both named).1, same_on) (cases ((is_on and on) or not (is_on or on))
        (λ e. rw e (m, refl))
        (λ e. rw e (turned_matched on)))
