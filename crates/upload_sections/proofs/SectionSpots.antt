-- Where an instance's contents begin in the entry that was found for it is the instance's spot, in a table whose created instances rise.
use Prim.Native.Nat.{ℕ, ◌+◌, ◌-◌, ◌≤◌, ◌<◌}
use native.Mathlib.Omega.{arith}
use mathlib.Core.Path.{◌≡◌, refl, sym, ◌∙◌, ap}
use mathlib.Core.Bool.{true, false}
use mathlib.Core.Logic.{◌≢◌}
use mathlib.Core.Option.{some}
use mathlib.Core.List.{List}
use lib.ListN.{length, get_or, length-append, get_or-append}
use lib.Seq.{get_or-append-add}
use lib.Dec.{ltb, eqb}
use Rattle.rules.specs.Maps.{◌and◌, all, rising}
use Rattle.rules.specs.Catalogue.{Catalogue, class, known, no_class, is_created, leader, key, ont_data}
use Rattle.rules.specs.State.{class_of}
use Rattle.rules.specs.Legal.{automatic_keys}
use Rattle.rules.specs.WellFormed.{WellFormed}
use Rattle.rules.proofs.Laws.{cases, never, true_false, not-true, both, eqb_true, eqb_false, ltb_lt, ltb_le, le-ltb, lt-ltb}
use Rattle.rules.proofs.MapLaws.{rising_up}
use Rattle.rules.proofs.Lookups.{unknown_class}
use Rattle.rules.proofs.Families.{family_has, alone}
use Rattle.rules.proofs.Standing.{stands, automatic_keys_stand, automatic_rise, stands_not_created, key_back}
use Rattle.store.specs.Positions.{position}
use Rattle.store.proofs.Positions.{stands_once}
use Rattle.table.specs.Spots.{spot_among}
use Rattle.upload_sections.specs.Sections.{entry_key, entry_begin, BeginsAt}
use Rattle.upload_sections.proofs.Gathered.{all_at}

-- a class whose leader can't be created leads itself
leads_itself : (cat : Catalogue) → WellFormed cat → (c : ℕ) → is_created (class cat (leader cat c)).creation ≡ false → leader cat c ≡ c
unfolding no_class
leads_itself cat wf c au = cases (known cat c) (λ kn. sym (alone cat wf (leader cat c) au c (family_has cat wf c kn))) (λ u. rw (unknown_class cat c u) refl)

not_in_front : (c i : ℕ) → c ≢ ont_data → (eqb c ont_data and eqb i 0) ≡ false
unfolding ◌and◌
not_in_front c i other = rw (eqb_false c ont_data other)

-- the contents of instance i of class c, which isn't class 2, begin at o
pub record SpotOf (cat : Catalogue) (made : List ℕ) (c i o : ℕ) : Type 0 where
  pub small : i < 65536
  pub other : c ≢ ont_data
  pub is : spot_among cat made c i ≡ some o

module _ (cat : Catalogue) (wf : WellFormed cat) (made : List ℕ) (rise : rising made ≡ true)
    (all_made : all (λ k. is_created (class cat (class_of k)).creation) made ≡ true) {c i o : ℕ} (p : BeginsAt cat made c i o) where
  its_key : {k : ℕ} → entry_key cat made p.entry ≡ k → key (leader cat c) i ≡ k
  its_key e = rw (← p.its_class, ← p.its_number) (key_back (entry_key cat made p.entry)) ∙ e

  in_slot : p.entry < length (automatic_keys cat) → SpotOf cat made c i o
  unfolding spot_among entry_begin
  in_slot lt =
      let slots : List ℕ = automatic_keys cat in
      let k : ℕ = get_or slots p.entry 0 in
      let same : entry_key cat made p.entry ≡ k = get_or-append slots made 0 p.entry lt in
      let s : stands cat k ≡ true = all_at (stands cat) 0 slots p.entry (automatic_keys_stand cat wf) lt in
      let kc : class_of k ≡ leader cat c = ap class_of (sym same) ∙ p.its_class in
      let au : is_created (class cat (leader cat c)).creation ≡ false = rw kc at (stands_not_created cat wf k s) in
      let leads = leads_itself cat wf c au in
      let other : c ≢ ont_data = λ z. true_false (eqb_true (class_of k) ont_data (kc ∙ leads ∙ z)) (not-true (both (both s).1).0) in
      let there : position (key c i) slots ≡ some p.entry =
      ap (λ d. position (key d i) slots) (sym leads) ∙ ap (λ x. position x slots) (its_key same) ∙ stands_once 0 p.entry slots (automatic_rise cat wf) lt in
      record { small = let z = p.its_number in omega arith; other = other; is = rw (au, not_in_front c i other, there, p.place, lt-ltb p.entry (length slots) lt) }

  in_place : length (automatic_keys cat) ≤ p.entry → SpotOf cat made c i o
  unfolding spot_among entry_begin
  in_place le =
      let slots : List ℕ = automatic_keys cat in
      let j : ℕ = p.entry - length slots in
      let k : ℕ = get_or made j 0 in
      let from : p.entry ≡ length slots + j = omega arith in
      let same : entry_key cat made p.entry ≡ k = ap (entry_key cat made) from ∙ get_or-append-add slots made j 0 in
      let lt : j < length made = let y = p.is_there in let z = length-append slots made in omega arith in
      let kc : class_of k ≡ leader cat c = ap class_of (sym same) ∙ p.its_class in
      let cr : is_created (class cat (leader cat c)).creation ≡ true = rw kc at (all_at (λ x. is_created (class cat (class_of x)).creation) 0 made j all_made lt) in
      let there : position (key (leader cat c) i) made ≡ some j = ap (λ x. position x made) (its_key same) ∙ stands_once 0 j made (rising_up made rise) lt in
      record {
        small = let z = p.its_number in omega arith;
        other = λ z. never (rw (z, wf.class_2_has_instance_0_alone, wf.class_2_has_instance_0_alone) at cr);
        is = rw (cr, there, p.place, le-ltb p.entry (length slots) le);
      }

  pub at_its_spot : SpotOf cat made c i o
  at_its_spot =
      let n : ℕ = length (automatic_keys cat) in
      cases (ltb p.entry n) (λ t. in_slot (ltb_lt p.entry n t)) (λ t. in_place (ltb_le p.entry n t))
