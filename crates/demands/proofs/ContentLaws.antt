-- What a change of one instance's contents leaves of every other's, which contents are there, and what holds where no line refused a Set.
use Prim.Native.Nat.{ℕ, ◌≤◌}
use mathlib.Core.Path.{◌≡◌, refl, sym, ◌∙◌, ap}
use mathlib.Core.Bool.{Bool, true, false, not, cond}
use mathlib.Core.Option.{none, some}
use mathlib.Core.List.{List}
use Rattle.rules.specs.Maps.{◌and◌, find, has, keep, among}
use Rattle.rules.specs.Masks.{named, total}
use Rattle.rules.specs.Catalogue.{Class, Catalogue, class, attribute, supported, size_of, is_stored, stored_numbers}
use Rattle.rules.specs.State.{Contents, Table, entry, contents, content, overwrite, change}
use Rattle.rules.specs.Commands.{unsupported, unwritable, set_results}
use Rattle.rules.specs.WellFormed.{WellFormed}
use Rattle.rules.proofs.Laws.{cases, true_false, not-true, not-false, false_not, both, and_true, ltb_le, all_among}
use Rattle.rules.proofs.Laws.{find_some, has_among}
use Rattle.rules.proofs.MapLaws.{find_kept}
use Rattle.rules.proofs.Lookups.{known_attribute}
use Rattle.legality.proofs.Refusals.{NoneApplies, none_of_those}
use Rattle.legality.proofs.Tables.{LegalTable}
use Rattle.legality.proofs.Contents.{LegalContents}
use Rattle.legality.proofs.Holds.{There}
use Rattle.legality.proofs.Counter.{contents_legal}
use Rattle.demands.proofs.NotRefused.{above_0, Refuses}
use Rattle.demands.proofs.Sets.{others_stay}

-- ---- and then perhaps a second change

-- What a second change doesn't touch stays, whether it is made or not.
pub stays_beside : (cat : Catalogue) (t : Table) (b : Bool) (c i : ℕ) (new : Contents) (d j n : ℕ) → (b ≡ false → d ≡ c → j ≡ i → find n new ≡ none)
    → content n (contents cat (cond b t (change cat c i (overwrite new) t)) d j) ≡ content n (contents cat t d j)
stays_beside cat t b c i new d j n h = cases b (λ e. rw e refl) (λ e. rw e (others_stay cat t c i new d j n (h e)))

-- ---- the lines of a Set's results

module _ (there : Bool) (k : Class) (mask : ℕ) (bad : List ℕ) where
  -- each refuses with another result than 0
  pub set_lines_refuse : Refuses (set_results there k mask bad)
  unfolding set_results
  set_lines_refuse = ((λ y. above_0 4), ((λ y. above_0 2), ((λ y. above_0 8), ((λ y. above_0 2), ((λ y. above_0 8), tt)))))

  -- where none has applied:
  module _ (clear : NoneApplies (set_results there k mask bad)) where
    pub its_instance_is_there : there ≡ true
    unfolding set_results
    its_instance_is_there = not-false clear.0

    pub at_most_30_bytes : total (size_of k) (named mask) ≤ 30
    unfolding set_results
    at_most_30_bytes = ltb_le 30 (total (size_of k) (named mask)) clear.1.1.1.0

    pub what_it_names_can_be_written : (n : ℕ) → among n (named mask) ≡ true → (attribute k n).W ≡ true
    unfolding set_results unsupported unwritable
    what_it_names_can_be_written n is_named =
        let l : List ℕ = named mask in
        let e = both (not-false clear.1.1.0) in
        let sup : supported k n ≡ true = not-false (not-true (all_among (λ n. not (not (supported k n))) l (none_of_those (λ n. not (supported k n)) l e.0) n is_named)) in
        let w : (supported k n and not (attribute k n).W) ≡ false =
        not-true (all_among (λ n. not (supported k n and not (attribute k n).W)) l (none_of_those (λ n. supported k n and not (attribute k n).W) l e.1) n is_named) in
        cases (attribute k n).W (λ y. y) (λ y. true_false (and_true sup (false_not y)) w)

-- ---- legal states

module _ (cat : Catalogue) (wf : WellFormed cat) (stand : List ℕ) (t : Table) (h : LegalTable cat wf stand t) where
  -- a stored attribute of an instance that is there has a content
  pub stored_is_there : (c i n : ℕ) → There cat t c i → supported (class cat c) n ≡ true → is_stored (attribute (class cat c) n).source ≡ true → has n (contents cat t c i) ≡ true
  unfolding contents entry stored_numbers
  stored_is_there c i n x sup st =
      let f = find_some c x.its_entry x.has_class in
      let l : LegalContents cat (class cat c) f.0 = contents_legal cat wf stand t h c i x.its_entry f.0 x.found f.1 in
      let kept : find n (keep (λ m a. is_stored a.source) (class cat c).attributes) ≡ some (attribute (class cat c) n) =
      find_kept (λ m a. is_stored a.source) n (attribute (class cat c) n) (class cat c).attributes (known_attribute (class cat c) n sup) st in
      let q : has n (keep (λ m a. is_stored a.source) (class cat c).attributes) ≡ true = rw kept refl in
      rw (x.found, f.1)
      (has_among n f.0 ∙ ap (among n) l.its_keys ∙ sym (has_among n (keep (λ m a. is_stored a.source) (class cat c).attributes)) ∙ q)
