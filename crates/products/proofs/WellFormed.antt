-- Small, Large and Meter are well formed. What computes is tested; the conditions that speak of every content, table
-- or walk come by the laws of the files beside this one.
use Prim.Native.Nat.{ℕ, ◌-◌}
use mathlib.Core.Path.{◌≡◌, refl}
use mathlib.Core.Bool.{Bool, true}
use mathlib.Core.List.{[], ◌∷◌}
use lib.Dec.{leb}
use Rattle.rules.specs.Maps.{◌and◌, keys, every, rising, among}
use Rattle.rules.specs.Catalogue.{Attribute, automatic, Class, Catalogue, class, attribute, key, ont_data}
use Rattle.rules.specs.WellFormed.{numbered_1_to_16, of_1_to_25_bytes, rights_only_if_stored, never_W_and_L, no_automatic_if_created, carries_at_most_32, reset_of_class_2_only}
use Rattle.rules.specs.WellFormed.{read_in_one_of_two_ways, comes_with_a_created_one, class_number_in_two_bytes, attributes_rise, automatic_numbers_rise, alarms_in_a_bitmap}
use Rattle.rules.specs.WellFormed.{unkept_has_its_own_bit, C_only_if_created, created_by_Create, delete_where_create, IsCounter, WellFormed, computing_well_formed}
use Rattle.rules.specs.Messages.{reset_number}
use Rattle.rules.specs.Run.{computing_rules}
use Rattle.rules.specs.Products.{ont_data_class, uni_class, uni_more, profile_class, bridge_more, port_class, port_more, Small, Large, Meter, computing_products}
use Rattle.rules.proofs.Laws.{◌&◌, both}
use Rattle.rules.proofs.MapLaws.{each_keep}
use Rattle.products.proofs.Uploads.{most_sections, sections_of_each, short_uploads}
use Rattle.products.proofs.AlarmWalks.{alarms_between, short_walks}
use Rattle.products.proofs.Plain.{Plain, AllPlain, first_content_fits, L_alone, firsts_legal}
use Rattle.products.proofs.Attributes.{all_carried, carried_plain, ont_data_plain, uni_plain, uni_more_plain, bridge_plain, bridge_more_plain}

-- ---- the test

abbrev classes_pass : Catalogue → (ℕ → Class → Bool) → Bool
classes_pass cat p = every p cat.classes

abbrev attributes_pass : Catalogue → (ℕ → Class → ℕ → Attribute → Bool) → Bool
attributes_pass cat p = classes_pass cat (λ c k. every (p c k) k.attributes)

unfoldable pub attribute_tests : Catalogue → Bool
attribute_tests cat =
    attributes_pass cat numbered_1_to_16
    and attributes_pass cat of_1_to_25_bytes
    and attributes_pass cat rights_only_if_stored
    and attributes_pass cat never_W_and_L
    and attributes_pass cat C_only_if_created
    and attributes_pass cat (read_in_one_of_two_ways cat)
    and attributes_pass cat (first_content_fits cat)

unfoldable pub class_tests : Catalogue → Bool
class_tests cat =
    rising (keys cat.classes)
    and classes_pass cat class_number_in_two_bytes
    and classes_pass cat attributes_rise
    and classes_pass cat no_automatic_if_created
    and classes_pass cat automatic_numbers_rise
    and classes_pass cat (comes_with_a_created_one cat)
    and classes_pass cat created_by_Create
    and classes_pass cat carries_at_most_32
    and classes_pass cat unkept_has_its_own_bit
    and classes_pass cat reset_of_class_2_only
    and classes_pass cat alarms_in_a_bitmap
    and classes_pass cat (λ c k. delete_where_create k)

-- alarms are declared only of instances between two keys
unfoldable pub walk_tests : ℕ → ℕ → Catalogue → Bool
walk_tests lo hi cat = leb (most_sections cat) 65535 and alarms_between lo hi cat and leb (hi - lo) 65535

-- ---- any catalogue

-- class 2: the counter, the instance 0 alone, and a reset
abbrev pub IsOntData : Class → Type 0
IsOntData k = (k.attributes ≡ ont_data_class.attributes) × (k.creation ≡ automatic (0 ∷ [])) × (among reset_number k.commands ≡ true)

counter_is : (k : Class) → k.attributes ≡ ont_data_class.attributes → IsCounter (attribute k 1)
unfolding computing_rules computing_products
counter_is k e = rw e (record { one_byte = refl; is_W = refl; not_C = refl; not_L = refl; starts_at_0 = refl; any_content = λ v others. refl })

pub well_formed : (cat : Catalogue) (lo hi : ℕ) → IsOntData (class cat ont_data) → AllPlain cat
    → attribute_tests cat ≡ true → class_tests cat ≡ true → walk_tests lo hi cat ≡ true → WellFormed cat
unfolding attribute_tests class_tests walk_tests
well_formed cat lo hi two plain attributes classes walks =
    let a₁ = both attributes in let a₂ = both a₁.1 in let a₃ = both a₂.1 in
    let a₄ = both a₃.1 in let a₅ = both a₄.1 in let a₆ = both a₅.1 in
    let c₁ = both classes in let c₂ = both c₁.1 in let c₃ = both c₂.1 in let c₄ = both c₃.1 in
    let c₅ = both c₄.1 in let c₆ = both c₅.1 in let c₇ = both c₆.1 in
    let c₈ = both c₇.1 in let c₉ = both c₈.1 in let c₁₀ = both c₉.1 in let c₁₁ = both c₁₀.1 in
    let w₁ = both walks in let w₂ = both w₁.1 in
    record {
      numbers = a₁.0;
      sizes = a₂.0;
      rights_if_stored = a₃.0;
      not_W_and_L = a₄.0;
      created_not_automatic = c₄.0;
      create_fits = c₈.0;
      class_2_has_instance_0_alone = two.1;
      class_2_has_the_counter = counter_is (class cat ont_data) two.0;
      class_2_has_reset = two.2;
      reset_is_class_2_s = c₁₀.0;
      first_contents_are_legal = firsts_legal cat plain a₆.1;
      L_looks_at_its_own_alone = L_alone cat plain;
      unstored_is_readable = a₆.0;
      companions_of_created = c₆.0;
      uploads_are_short = short_uploads cat w₁.0;
      alarm_walks_are_short = short_walks cat lo hi w₂.0 w₂.1;
      classes_rise = c₁.0;
      class_numbers = c₂.0;
      attributes_in_order = c₃.0;
      automatic_in_order = c₅.0;
      alarms_fit = c₁₁.0;
      unkept_bits = c₉.0;
      C_if_created = a₅.0;
      create_if_created = c₇.0;
      delete_goes_with_create = c₁₁.1;
    }

-- everything that is tested computes where this name is unfolded
unfoldable pub testing : ℕ
unfolding computing_rules computing_products computing_well_formed attribute_tests class_tests walk_tests first_content_fits sections_of_each alarms_between all_carried
testing = 0

-- ---- the products

small_plain : AllPlain Small
unfolding testing
small_plain =
    ont_data_plain
    & uni_plain (0x0101 ∷ []) [] tt
    & carried_plain profile_class.attributes refl
    & bridge_plain [] tt
    & carried_plain (port_class [] []).attributes refl
    & tt

large_plain : AllPlain Large
unfolding testing
large_plain =
    ont_data_plain
    & uni_plain (0x0101 ∷ 0x0102 ∷ 0x0103 ∷ 0x0104 ∷ []) uni_more uni_more_plain
    & carried_plain profile_class.attributes refl
    & bridge_plain bridge_more bridge_more_plain
    & carried_plain (port_class port_more []).attributes refl
    & tt

meter_plain : AllPlain Meter
unfolding testing
meter_plain =
    ont_data_plain
    & each_keep (λ n a. Plain a) (λ n a. among n (1 ∷ 2 ∷ 5 ∷ 6 ∷ [])) (uni_class (0x0101 ∷ []) []).attributes (uni_plain (0x0101 ∷ []) [] tt)
    & tt

pub small_is_well_formed : WellFormed Small
unfolding testing
small_is_well_formed = well_formed Small (key 11 0x0101) (key 11 0x0102) (refl, refl, refl) small_plain refl refl refl

pub large_is_well_formed : WellFormed Large
unfolding testing
large_is_well_formed = well_formed Large (key 11 0x0101) (key 11 0x0105) (refl, refl, refl) large_plain refl refl refl

pub meter_is_well_formed : WellFormed Meter
unfolding testing
meter_is_well_formed = well_formed Meter (key 11 0x0101) (key 11 0x0102) (refl, refl, refl) meter_plain refl refl refl
