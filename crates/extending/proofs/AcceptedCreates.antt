-- What the first accepts in a Create, the second accepts.
use Prim.Native.Nat.{ℕ}
use mathlib.Core.Path.{◌≡◌, refl, sym, ◌∙◌}
use mathlib.Core.Bool.{true, false}
use mathlib.Core.Option.{some}
use mathlib.Core.List.{List, [], ◌∷◌, ◌++◌}
use lib.ListN.{length, drop, replicate}
use Rattle.rules.specs.Maps.{find, keys, every, among, rising, empty}
use Rattle.rules.specs.Bytes.{are_bytes}
use Rattle.rules.specs.Masks.{total}
use Rattle.rules.specs.Catalogue.{Class, Catalogue, class, known, attribute, supported, size_of, carried_numbers}
use Rattle.rules.specs.State.{Contents, State, holds, content}
use Rattle.rules.specs.Legal.{fixed_contents, passes, legal_content}
use Rattle.rules.specs.Commands.{cut, illegal, carried_by, not_zero, bad_in_create}
use Rattle.rules.specs.WellFormed.{WellFormed}
use Rattle.rules.specs.Extends.{Agree, added_carried, Extends}
use Rattle.rules.proofs.Laws.{cases, never, both, every_find, has_among}
use Rattle.rules.proofs.MapLaws.{some_eq, rising_keep, every_if_found}
use Rattle.rules.proofs.ByteLaws.{keys_cut}
use Rattle.legality.proofs.Contents.{Value}
use Rattle.legality.proofs.NewContents.{attributes_in_order}
use Rattle.legality.proofs.Refusals.{none_kept, empty_front}
use Rattle.legality.proofs.Carried.{create_carries_legal, carried_is_C}
use Rattle.legality.proofs.Tables.{LegalLive}
use Rattle.extending.specs.Matched.{MatchedContents, MatchedTable}
use Rattle.extending.proofs.Found.{known_too, class_extends, automatic_held, companion_held, held_by_both}
use Rattle.extending.proofs.Judged.{every_kept, contents_agree, legal_too}
use Rattle.extending.proofs.Carried.{MatchedCarried, in_added, clean_too, carried_match}

both_empty : (l m : List ℕ) → empty l ≡ true → empty m ≡ true → empty (l ++ m) ≡ true
both_empty [] m h g = g
both_empty (a ∷ l) m h g = never h

-- what is carried matches as contents do
carried_as_contents : (k l : Class) (r q : Contents) → MatchedCarried k l r q → MatchedContents k l r q
unfolding content
carried_as_contents k l r q m = record {
  same_contents = m.same_carried;
  added_is_zero = λ n absent fixed. rw (m.added_carried_zero n absent (both fixed).0) refl;
}

module _ (first second : Catalogue) (wf : WellFormed first) (wf' : WellFormed second) (ext : Extends first second) (s z : State)
    (h : LegalLive first wf s.table) (h' : LegalLive second wf' z.table) (m : MatchedTable first second s.table z.table)
    (c : ℕ) (kn : known first c ≡ true) (v : List ℕ) (long : length v ≡ 32) (bytes : are_bytes v ≡ true)
    (good : empty (bad_in_create first s c v) ≡ true) where
  abbrev k : Class
  k = class first c

  abbrev l : Class
  l = class second c

  abbrev r : Contents
  r = carried_by k v

  abbrev q : Contents
  q = carried_by l v

  -- what the first carries is legal, and what it doesn't keep is zero
  good_ones : (every (legal_content (holds first s.table) k r) r ≡ true)
      × (empty (not_zero k.unkept (drop (total (size_of k) (carried_numbers k)) v)) ≡ true)
  unfolding bad_in_create illegal
  good_ones =
      let e = empty_front (illegal (holds first s.table) k r r) (not_zero k.unkept (drop (total (size_of k) (carried_numbers k)) v)) good in
      (none_kept (legal_content (holds first s.table) k r) r e.0, e.1)

  pub accepted_match : MatchedCarried k l r q
  accepted_match = carried_match first second wf wf' ext c kn v good_ones.1

  rules_agree : Agree k l (fixed_contents k r) (fixed_contents l q)
  rules_agree = contents_agree first second wf wf' ext c kn r q (carried_as_contents k l r q accepted_match)

  -- a content that both carry
  legal_as_before : (n : ℕ) (w : List ℕ) → supported k n ≡ true → (attribute k n).C ≡ true → find n r ≡ some w
      → legal_content (holds second z.table) l q n w ≡ true
  unfolding legal_content content
  legal_as_before n w sup set_by_create e =
      let value : Value first k r n w = rw e at (create_carries_legal first wf s h c v long bytes good n set_by_create) in
      legal_too first second wf wf' ext s.table z.table h h' m c kn (fixed_contents k r) (fixed_contents l q) rules_agree n sup w value.sized value.bytes
      (every_find (legal_content (holds first s.table) k r) r good_ones.0 n w e)

  -- one that only the second carries
  legal_if_added : (n : ℕ) (w : List ℕ) → supported k n ≡ false → (attribute l n).C ≡ true → find n q ≡ some w
      → legal_content (holds second z.table) l q n w ≡ true
  unfolding legal_content passes
  legal_if_added n w absent set_by_create e =
      let zero : replicate (size_of l n) 0 ≡ w = some_eq (sym (accepted_match.added_carried_zero n absent set_by_create) ∙ e) in
      let here : among n (added_carried k l) ≡ true = in_added first second wf wf' ext c kn n absent set_by_create in
      rw (← zero) ((class_extends first second wf wf' ext c kn).added_accept_zero n here (fixed_contents k r) (fixed_contents l q) rules_agree
      (holds first s.table) (holds second z.table) (held_by_both first second wf wf' ext s.table z.table m h h') (automatic_held second wf' z.table h')
      (companion_held second wf' z.table h') refl)

  all_legal : (n : ℕ) (w : List ℕ) → find n q ≡ some w → legal_content (holds second z.table) l q n w ≡ true
  unfolding carried_by
  all_legal n w e =
      let here : among n (carried_numbers l) ≡ true =
      rw (← keys_cut (size_of l) (carried_numbers l) v, ← has_among n (cut (size_of l) (carried_numbers l) v), e) refl in
      let set_by_create : (attribute l n).C ≡ true = carried_is_C l (attributes_in_order second wf' c (known_too first second wf wf' ext c kn)) n here in
      cases (supported k n)
      (λ sup. legal_as_before n w sup (((class_extends first second wf wf' ext c kn).attributes_kept n sup).1.same_C ∙ set_by_create)
      (sym (accepted_match.same_carried n sup) ∙ e))
      (λ absent. legal_if_added n w absent set_by_create e)

  carried_rise : rising (keys q) ≡ true
  unfolding carried_by carried_numbers
  carried_rise = rw (keys_cut (size_of l) (carried_numbers l) v)
      (rising_keep (λ n a. a.C) l.attributes (attributes_in_order second wf' c (known_too first second wf wf' ext c kn)))

  pub accepted_too : empty (bad_in_create second z c v) ≡ true
  unfolding bad_in_create illegal
  accepted_too = both_empty (illegal (holds second z.table) l q q) (not_zero l.unkept (drop (total (size_of l) (carried_numbers l)) v))
      (every_kept (legal_content (holds second z.table) l q) q (every_if_found (legal_content (holds second z.table) l q) q carried_rise all_legal))
      (clean_too first second wf wf' ext c kn v good_ones.1)
