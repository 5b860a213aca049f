-- What holds in every catalogue: the sentences of document 01's paragraph, and of ticket 10, a condition each.
use Rattle.std.specs.Prelude.{ℕ, ◌+◌, ◌^◌, ◌≤◌, ◌≡◌, Bool, true, false, not, List, [], ◌∷◌, length, eqb, ltb, leb}
use Rattle.rules.specs.Maps.{◌and◌, ◌or◌, Map, keys, every, rising, among, all, empty}
use Rattle.rules.specs.Bytes.{are_bytes}
use Rattle.rules.specs.Masks.{total}
use Rattle.rules.specs.Catalogue.{Verdict, fine, bad, asks, constant, copied, Source, stored, of_creator, count_of, Attribute}
use Rattle.rules.specs.Catalogue.{Creation, created, automatic, comes_with, Class, Catalogue, class, attribute, supported, size_of}
use Rattle.rules.specs.Catalogue.{is_stored, carried_numbers, is_created, automatic_numbers, leader, ont_data}
use Rattle.rules.specs.State.{Table, Alarms}
use Rattle.rules.specs.Legal.{passes, there_or_gone, legal_frozen, legal_walk}
use Rattle.rules.specs.Messages.{create_number, delete_number, reset_number}
use Rattle.rules.specs.Walks.{sections}

-- ---- conditions on each class and on each attribute

abbrev pub every_class : (ℕ → Class → Bool) → Catalogue → Type 0
every_class p cat = every p cat.classes ≡ true

abbrev pub every_attribute : (ℕ → Class → ℕ → Attribute → Bool) → Catalogue → Type 0
every_attribute p cat = every_class (λ c k. every (p c k) k.attributes) cat

unfoldable pub implies : Bool → Bool → Bool
implies a b = not a or b

-- attributes are numbered 1 to 16 (and R: every attribute can be read)
unfoldable pub numbered_1_to_16 : ℕ → Class → ℕ → Attribute → Bool
numbered_1_to_16 c k n a = leb 1 n and leb n 16

-- of 1 to 25 bytes
unfoldable pub of_1_to_25_bytes : ℕ → Class → ℕ → Attribute → Bool
of_1_to_25_bytes c k n a = leb 1 a.size and leb a.size 25

-- W, C or L only if stored
unfoldable pub rights_only_if_stored : ℕ → Class → ℕ → Attribute → Bool
rights_only_if_stored c k n a = implies (a.W or a.C or a.L) (is_stored a.source)

-- never both W and L
unfoldable pub never_W_and_L : ℕ → Class → ℕ → Attribute → Bool
never_W_and_L c k n a = not (a.W and a.L)

-- a class that can be created has no automatic instances: so it is with every Creation
unfoldable pub no_automatic_if_created : ℕ → Class → Bool
no_automatic_if_created c k = implies (is_created k.creation) (empty (automatic_numbers k.creation))

-- how many bytes a Create carries
unfoldable pub unkept_bytes : Map ℕ → ℕ
unkept_bytes [] = 0
unkept_bytes (e ∷ m) = e.1 + unkept_bytes m

unfoldable pub carried_bytes : Class → ℕ
carried_bytes k = total (size_of k) (carried_numbers k) + unkept_bytes k.unkept

-- a Create carries at most 32
unfoldable pub carries_at_most_32 : ℕ → Class → Bool
carries_at_most_32 c k = leb (carried_bytes k) 32

-- reset is class 2's own (uploads and alarm walks are so by the rules)
unfoldable pub reset_of_class_2_only : ℕ → Class → Bool
reset_of_class_2_only c k = implies (among reset_number k.commands) (eqb c ont_data)

abbrev pub is_companion : Creation → Bool
is_companion created = false
is_companion (automatic l) = false
is_companion (comes_with d) = true

-- an attribute that isn't stored is read as a stored attribute, of the same size, of the created instance its own came with,
-- or, in a size that holds the place limit, as the number of instances of a created class naming its own in a stored 2-byte attribute
unfoldable pub readable_from : Catalogue → ℕ → ℕ → Source → Bool
readable_from cat c size (stored f) = true
readable_from cat c size (of_creator m) =
    let d : Class = class cat (leader cat c) in
    is_companion (class cat c).creation and supported d m and is_stored (attribute d m).source and eqb (size_of d m) size
readable_from cat c size (count_of d m) =
    let k : Class = class cat d in
    is_created k.creation and supported k m and is_stored (attribute k m).source and eqb (size_of k m) 2 and ltb cat.places (256 ^ size)

unfoldable pub read_in_one_of_two_ways : Catalogue → ℕ → Class → ℕ → Attribute → Bool
read_in_one_of_two_ways cat c k n a = readable_from cat c a.size a.source

-- a class that comes with another comes with a created one (with that alone, and has no other instances, by its Creation)
abbrev pub leader_is_created : Catalogue → Creation → Bool
leader_is_created cat created = true
leader_is_created cat (automatic l) = true
leader_is_created cat (comes_with d) = is_created (class cat d).creation

unfoldable pub comes_with_a_created_one : Catalogue → ℕ → Class → Bool
comes_with_a_created_one cat c k = leader_is_created cat k.creation

-- ---- conditions that document 01 leaves to the format: numbers in their range, each list in rising order

unfoldable pub class_number_in_two_bytes : ℕ → Class → Bool
class_number_in_two_bytes c k = ltb c 65536

unfoldable pub attributes_rise : ℕ → Class → Bool
attributes_rise c k = rising (keys k.attributes)

unfoldable pub automatic_numbers_rise : ℕ → Class → Bool
automatic_numbers_rise c k = rising (automatic_numbers k.creation) and all (λ i. ltb i 65536) (automatic_numbers k.creation)

-- a bitmap has 224 alarms
unfoldable pub alarms_in_a_bitmap : ℕ → Class → Bool
alarms_in_a_bitmap c k = all (λ n. ltb n 224) k.alarms

-- what isn't kept has a bit of its own in the bad-value mask
unfoldable pub unkept_has_its_own_bit : ℕ → Class → Bool
unkept_has_its_own_bit c k = rising (keys k.unkept) and every (λ n size. leb 1 n and leb n 16 and not (supported k n)) k.unkept

-- only a Create sets by create
unfoldable pub C_only_if_created : ℕ → Class → ℕ → Attribute → Bool
C_only_if_created c k n a = implies a.C (is_created k.creation)

-- Create and Delete are for the classes that can be created
unfoldable pub created_by_Create : ℕ → Class → Bool
created_by_Create c k = implies (among create_number k.commands or among delete_number k.commands) (is_created k.creation)

-- ---- a condition of document 02's ticket 10

-- Delete is allowed where Create is, and nowhere else
unfoldable pub delete_where_create : Class → Bool
delete_where_create k =
    let creates : Bool = among create_number k.commands in
    let deletes : Bool = among delete_number k.commands in
    implies creates deletes and implies deletes creates

-- ---- conditions that speak of every content

-- first contents are legal: the constant ones; and the copied ones, wherever the Create was accepted
abbrev pub FirstIsLegal : Catalogue → ℕ → Attribute → Source → Type 0
FirstIsLegal cat c a (stored (constant v)) =
    (length v ≡ a.size) × (are_bytes v ≡ true) × ((others : ℕ → List ℕ) → passes (there_or_gone cat) (a.rule v others) ≡ true)
FirstIsLegal cat c a (stored (copied m)) =
    (is_created (class cat (leader cat c)).creation ≡ true)
    × ((attribute (class cat (leader cat c)) m).C ≡ true)
    × (size_of (class cat (leader cat c)) m ≡ a.size)
    × ((v : List ℕ) (theirs ours : ℕ → List ℕ) → length v ≡ a.size → are_bytes v ≡ true
    → passes (there_or_gone cat) ((attribute (class cat (leader cat c)) m).rule v theirs) ≡ true
    → passes (there_or_gone cat) (a.rule v ours) ≡ true)
FirstIsLegal cat c a (of_creator m) = Unit {0}
FirstIsLegal cat c a (count_of d m) = Unit {0}

abbrev pub asks_nothing : Verdict → Bool
asks_nothing fine = true
asks_nothing bad = true
asks_nothing (asks c i) = false

-- it looks at its own content alone
pub record LooksAtItsOwnAlone (a : Attribute) : Type 0 where
  pub same_with_others : (v : List ℕ) (others : ℕ → List ℕ) → a.rule v others ≡ a.rule v (λ n. [])
  pub no_instance : (v : List ℕ) → asks_nothing (a.rule v (λ n. [])) ≡ true

-- class 2's attribute 1 is the sync counter: one byte, RW, first 0, any content
pub record IsCounter (a : Attribute) : Type 0 where
  pub one_byte : a.size ≡ 1
  pub is_W : a.W ≡ true
  pub not_C : a.C ≡ false
  pub not_L : a.L ≡ false
  pub starts_at_0 : a.source ≡ stored (constant (0 ∷ []))
  pub any_content : (v : List ℕ) (others : ℕ → List ℕ) → a.rule v others ≡ fine

pub record WellFormed (cat : Catalogue) : Type 0 where
  pub numbers : every_attribute numbered_1_to_16 cat
  pub sizes : every_attribute of_1_to_25_bytes cat
  pub rights_if_stored : every_attribute rights_only_if_stored cat
  pub not_W_and_L : every_attribute never_W_and_L cat
  pub created_not_automatic : every_class no_automatic_if_created cat
  pub create_fits : every_class carries_at_most_32 cat
  pub class_2_has_instance_0_alone : (class cat ont_data).creation ≡ automatic (0 ∷ [])
  pub class_2_has_the_counter : IsCounter (attribute (class cat ont_data) 1)
  pub class_2_has_reset : among reset_number (class cat ont_data).commands ≡ true
  pub reset_is_class_2_s : every_class reset_of_class_2_only cat
  pub first_contents_are_legal : (c n : ℕ) → supported (class cat c) n ≡ true → (attribute (class cat c) n).C ≡ false
      → FirstIsLegal cat c (attribute (class cat c) n) (attribute (class cat c) n).source
  pub L_looks_at_its_own_alone : (c n : ℕ) → (attribute (class cat c) n).L ≡ true → LooksAtItsOwnAlone (attribute (class cat c) n)
  pub unstored_is_readable : every_attribute (read_in_one_of_two_ways cat) cat
  pub companions_of_created : every_class (comes_with_a_created_one cat) cat
  pub uploads_are_short : (t : Table) → legal_frozen cat t ≡ true → length (sections cat t) ≤ 65535
  pub alarm_walks_are_short : (m : Map Alarms) → legal_walk cat m ≡ true → length m ≤ 65535
  pub classes_rise : rising (keys cat.classes) ≡ true
  pub class_numbers : every_class class_number_in_two_bytes cat
  pub attributes_in_order : every_class attributes_rise cat
  pub automatic_in_order : every_class automatic_numbers_rise cat
  pub alarms_fit : every_class alarms_in_a_bitmap cat
  pub unkept_bits : every_class unkept_has_its_own_bit cat
  pub C_if_created : every_attribute C_only_if_created cat
  pub create_if_created : every_class created_by_Create cat
  pub delete_goes_with_create : every_class (λ c k. delete_where_create k) cat

unfoldable pub computing_well_formed : ℕ
unfolding implies numbered_1_to_16 of_1_to_25_bytes rights_only_if_stored never_W_and_L no_automatic_if_created unkept_bytes carried_bytes
    carries_at_most_32 reset_of_class_2_only readable_from read_in_one_of_two_ways comes_with_a_created_one class_number_in_two_bytes
    attributes_rise automatic_numbers_rise alarms_in_a_bitmap unkept_has_its_own_bit C_only_if_created created_by_Create
    delete_where_create
computing_well_formed = 0
