-- What a catalogue that fits gives: the entries of each class fit where they go, and alarms are those of slots' classes.
use Prim.Native.Nat.{ℕ, ◌≤◌, ◌<◌}
use native.Mathlib.Omega.{arith}
use mathlib.Core.Path.{◌≡◌, ap}
use mathlib.Core.Bool.{true, false}
use mathlib.Core.Option.{some}
use mathlib.Core.Logic.{◌≢◌}
use mathlib.Core.List.{List, [], ◌∷◌}
use lib.ListN.{length}
use lib.Dec.{eqb, ltb}
use Rattle.rules.specs.Maps.{find, all, empty}
use Rattle.rules.specs.Catalogue.{Catalogue, no_class, class, is_created, automatic_numbers, family, ont_data}
use Rattle.rules.specs.State.{class_of}
use Rattle.rules.specs.Legal.{automatic_keys}
use Rattle.rules.specs.WellFormed.{WellFormed, is_companion, class_number_in_two_bytes}
use Rattle.rules.proofs.Laws.{never, true_false, both, not-true, or_cases, or_none, eqb_false, eqb_ne, ltb_lt, leb_le, every_find}
use Rattle.rules.proofs.Lookups.{class_or_none, known_class, created_known}
use Rattle.rules.proofs.Standing.{stands, stands_not_created}
use Rattle.store.specs.Layout.{ont_data_width, slot_count, slot_width, place_count, place_width, family_width, width_for, class_fits, fits}

-- a class that the catalogue has
abbrev pub Found : Catalogue → ℕ → Type 0
Found cat c = find c cat.classes ≡ some (class cat c)

pub created_found : (cat : Catalogue) (c : ℕ) → is_created (class cat c).creation ≡ true → Found cat c
created_found cat c h = known_class cat c (created_known cat c h)

module _ (cat : Catalogue) (h : fits cat ≡ true) where
  pub slots_are_enough : length (automatic_keys cat) ≤ slot_count
  unfolding fits
  slots_are_enough = leb_le (length (automatic_keys cat)) slot_count (both h).0

  pub places_are_enough : cat.places ≤ place_count
  unfolding fits
  places_are_enough = leb_le cat.places place_count (both (both h).1).0

  fits_at : (c : ℕ) → Found cat c → class_fits cat c (class cat c) ≡ true
  unfolding fits
  fits_at c f = every_find (class_fits cat) cat.classes (both (both h).1).1 c (class cat c) f

  pub width_fits : (c : ℕ) → Found cat c → family_width (family cat c) ≤ width_for c (class cat c).creation
  unfolding class_fits
  width_fits c f = leb_le (family_width (family cat c)) (width_for c (class cat c).creation) (both (fits_at c f)).0

  -- an instance that is there by itself fits its slot
  pub slot_fits : WellFormed cat → (k : ℕ) → stands cat k ≡ true → family_width (family cat (class_of k)) ≤ slot_width
  slot_fits w k s =
      let c : ℕ = class_of k in
      let a = both s in
      let b = both a.1 in
      let g : family_width (family cat c) ≤ width_for c (class cat c).creation = width_fits c (known_class cat c a.0) in
      let n : eqb c ont_data ≡ false = not-true b.0 in
      let t : is_created (class cat c).creation ≡ false = stands_not_created cat w k s in
      rw (n, t) at g

  pub class_2_fits : WellFormed cat → family_width (family cat ont_data) ≤ ont_data_width
  unfolding no_class
  class_2_fits w =
      let e = w.class_2_has_instance_0_alone in
      class_or_none cat ont_data (width_fits ont_data)
      (λ g.
      let l : ◌≡◌ {A = List ℕ} [] (0 ∷ []) = ap automatic_numbers (rw g at e) in
      let z : ◌≡◌ {A = ℕ} 0 1 = ap length l in absurd (omega arith))

  pub place_fits : WellFormed cat → (c : ℕ) → is_created (class cat c).creation ≡ true → family_width (family cat c) ≤ place_width
  place_fits w c t =
      let g : family_width (family cat c) ≤ width_for c (class cat c).creation = width_fits c (created_found cat c t) in
      let n : eqb c ont_data ≡ false = eqb_false c ont_data (λ e. let y : is_created (class cat ont_data).creation ≡ true = rw (← e) t in never (rw w.class_2_has_instance_0_alone at y)) in
      rw (n, t) at g

  -- a class that declares an alarm has slots
  pub alarms_fit : (c : ℕ) → Found cat c → empty (class cat c).alarms ≡ false
      → (c ≢ ont_data) × (is_created (class cat c).creation ≡ false) × (is_companion (class cat c).creation ≡ false)
  unfolding class_fits
  alarms_fit c f n = or_cases (both (both (fits_at c f)).1).0
      (λ e. true_false e n)
      (λ e. let a = or_none (not-true e) in let b = or_none a.1 in (eqb_ne c ont_data a.0, b.0, b.1))

  pub alarms_below_8 : (c : ℕ) → Found cat c → all (λ n. ltb n 8) (class cat c).alarms ≡ true
  unfolding class_fits
  alarms_below_8 c f = (both (both (fits_at c f)).1).1

-- class numbers are of two bytes
pub class_below : (cat : Catalogue) → WellFormed cat → (c : ℕ) → Found cat c → c < 65536
unfolding class_number_in_two_bytes
class_below cat w c f = ltb_lt c 65536 (every_find class_number_in_two_bytes cat.classes w.class_numbers c (class cat c) f)
