-- A table without class 2 has every other instance as it was.
use Prim.Native.Nat.{ℕ, ◌<◌}
use mathlib.Core.Path.{◌≡◌, refl, sym, ◌∙◌, ap}
use mathlib.Core.Bool.{true, false, not}
use mathlib.Core.Option.{Option, some}
use mathlib.Core.Logic.{◌≢◌}
use mathlib.Core.List.{[]}
use lib.Dec.{eqb}
use Rattle.rules.specs.Maps.{given, find, keep}
use Rattle.rules.specs.Catalogue.{Creation, created, automatic, comes_with, Catalogue, class, known, is_created, lead, leader, key, ont_data}
use Rattle.rules.specs.State.{Entry, Table, class_of, entries, contents, entry}
use Rattle.rules.specs.Walks.{frozen}
use Rattle.rules.specs.WellFormed.{WellFormed, leader_is_created, comes_with_a_created_one}
use Rattle.rules.proofs.Laws.{true_false, false_not, eqb_false}
use Rattle.rules.proofs.MapLaws.{find_append, find_keep}
use Rattle.rules.proofs.Lookups.{class_says}
use Rattle.rules.proofs.Standing.{key_class}

module _ (cat : Catalogue) (wf : WellFormed cat) where
  pub class_2_not_created : is_created (class cat ont_data).creation ≡ false
  class_2_not_created = rw wf.class_2_has_instance_0_alone refl

  pub created_not_2 : (d : ℕ) → is_created (class cat d).creation ≡ true → d ≢ ont_data
  created_not_2 d cr e = true_false (rw e at cr) class_2_not_created

  module _ (c : ℕ) where
    pub led : known cat c ≡ true → leader_is_created cat (class cat c).creation ≡ true
    unfolding comes_with_a_created_one
    led kn = class_says (comes_with_a_created_one cat) cat wf.companions_of_created c kn

    leader_not_2 : known cat c ≡ true → c ≢ ont_data → leader cat c ≢ ont_data
    leader_not_2 kn other = go (class cat c).creation (led kn)
      where
        go : (m : Creation) → leader_is_created cat m ≡ true → lead c m ≢ ont_data
        go created y = other
        go (automatic a) y = other
        go (comes_with d) y = created_not_2 d y

    module _ (t : Table) (i : ℕ) (lt : i < 65536) (kn : known cat c ≡ true) (other : c ≢ ont_data) where
      abbrev k : ℕ
      k = key (leader cat c) i

      pub frozen_entry : find k (entries (frozen t)) ≡ find k (entries t)
      unfolding frozen
      frozen_entry =
          let no : eqb (class_of k) ont_data ≡ false = rw (key_class (leader cat c) i lt) (eqb_false (leader cat c) ont_data (leader_not_2 kn other)) in
          let same : find k (keep (λ k e. not (eqb (class_of k) ont_data)) t.automatic) ≡ find k t.automatic =
          find_keep (λ k. not (eqb (class_of k) ont_data)) k t.automatic (false_not no) in
          find_append k (frozen t).automatic t.created
          ∙ ap (λ (o : Option Entry). given o (find k t.created) some) same ∙ sym (find_append k t.automatic t.created)

      pub frozen_contents : contents cat (frozen t) c i ≡ contents cat t c i
      unfolding contents entry
      frozen_contents = ap (λ (o : Option Entry). given (find c (given o [] (λ e. e))) [] (λ r. r)) frozen_entry
