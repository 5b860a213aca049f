-- Large extends Small, and Small extends Meter: what a class of the first has stands in the second as it is. That Large extends Meter follows
-- (`extending/Composes`).
use Prim.Native.Nat.{ℕ}
use mathlib.Core.Path.{◌≡◌, refl, ap}
use mathlib.Core.Bool.{true, cond}
use mathlib.Core.Option.{some}
use mathlib.Core.List.{List, [], ◌∷◌, ◌++◌}
use lib.ListN.{replicate}
use lib.Dec.{eqb}
use Rattle.rules.specs.Maps.{find, among, all}
use Rattle.rules.specs.Bytes.{number}
use Rattle.rules.specs.Catalogue.{fine, asks, Attribute, Class, Catalogue, class, known, attribute, supported, size_of, carried_numbers}
use Rattle.rules.specs.Legal.{passes}
use Rattle.rules.specs.WellFormed.{carried_bytes, delete_where_create, computing_well_formed}
use Rattle.rules.specs.Extends.{Agree, AttributeExtends, SameCreation, added_carried, ClassExtends, Extends, computing_extends}
use Rattle.rules.specs.Run.{computing_rules}
use Rattle.rules.specs.Products.{Small, Large, Meter, computing_products}
use Rattle.rules.proofs.Laws.{◌&◌, find_some, EachOf, each_among}
use Rattle.rules.proofs.MapLaws.{Each, each_find}
use Rattle.rules.proofs.Lookups.{found_attribute}
use Rattle.rules.proofs.Verdicts.{passes_later}
use Rattle.products.proofs.Each.{each_class}

-- ---- attributes that a class keeps

-- a rule comes to the same where what it may look at agrees
abbrev pub Steady : Class → Class → Attribute → Type 0
Steady k l a = (v : List ℕ) (f g : ℕ → List ℕ) → Agree k l f g → a.rule v f ≡ a.rule v g

pub kept : (first second : Catalogue) (k l : Class) (a : Attribute) → Steady k l a → AttributeExtends first second k l a a
kept first second k l a h = record {
  same_size = refl;
  same_source = refl;
  W_grows = λ t. t;
  legal_contents_grow = λ v f g size bytes t there there' more automatic led p.
      rw (← h v f g t) (passes_later there there' (λ c i t. (more c i t).2) (a.rule v f) p);
  same_C = refl;
  same_L = refl;
  same_AVC = refl;
  same_legal_L = λ t v others size bytes. refl;
}

-- an attribute of the first that stands in the second as it is
abbrev pub Stays : Class → Class → ℕ → Attribute → Type 0
Stays k l n a = (find n l.attributes ≡ some a) × Steady k l a

pub all_kept : (first second : Catalogue) (k l : Class) → Each (Stays k l) k.attributes
    → (n : ℕ) → supported k n ≡ true → (supported l n ≡ true) × AttributeExtends first second k l (attribute k n) (attribute l n)
all_kept first second k l h n t =
    let f = find_some n k.attributes t in
    let a : Attribute = f.0 in
    let s = each_find (Stays k l) k.attributes h n a f.1 in
    (rw s.0, rw (found_attribute k n a f.1, found_attribute l n a s.0) (kept first second k l a s.1))

-- ---- added attributes

abbrev pub AcceptsZero : Class → ℕ → Type 0
AcceptsZero l n = (others : ℕ → List ℕ) → (attribute l n).rule (replicate (size_of l n) 0) others ≡ fine

-- what remains to say of a class whose attributes stay
pub class_extends : (first second : Catalogue) (k l : Class) → Each (Stays k l) k.attributes
    → SameCreation k.creation l.creation
    → all (λ n. among n l.commands) k.commands ≡ true
    → (delete_where_create k ≡ true) × (delete_where_create l ≡ true)
    → k.alarms ≡ l.alarms
    → carried_bytes k ≡ carried_bytes l
    → carried_numbers l ≡ carried_numbers k ++ added_carried k l
    → EachOf (AcceptsZero l) (added_carried k l)
    → ClassExtends first second k l
unfolding passes
class_extends first second k l stay creation commands deletes alarms bytes behind zeros = record {
  same_creation = creation;
  commands_grow = commands;
  delete_goes_with_create = deletes;
  same_alarms = λ n. rw alarms;
  attributes_kept = all_kept first second k l stay;
  creates_carry_equally = bytes;
  added_come_after = behind;
  added_accept_zero = λ n here f g agree there there' more automatic led p. rw (each_among (AcceptsZero l) (added_carried k l) zeros n here g) refl;
}

-- ---- the classes of Small in Large

unfoldable pub extending : ℕ
unfolding computing_rules computing_products computing_well_formed computing_extends
extending = 0

two_extends : ClassExtends Small Large (class Small 2) (class Large 2)
unfolding extending
two_extends = class_extends Small Large (class Small 2) (class Large 2) ((refl, λ v f g h. refl) & tt) refl refl (refl, refl) refl refl refl tt

uni_extends : ClassExtends Small Large (class Small 11) (class Large 11)
unfolding extending
uni_extends = class_extends Small Large (class Small 11) (class Large 11)
    ((refl, λ v f g h. refl) & (refl, λ v f g h. refl) & (refl, λ v f g h. refl) & (refl, λ v f g h. refl) & (refl, λ v f g h. refl) & (refl, λ v f g h. refl) & tt)
    refl refl (refl, refl) refl refl refl tt

profile_extends : ClassExtends Small Large (class Small 45) (class Large 45)
unfolding extending
profile_extends = class_extends Small Large (class Small 45) (class Large 45)
    ((refl, λ v f g h. refl) & (refl, λ v f g h. refl) & (refl, λ v f g h. refl) & (refl, λ v f g h. refl) & (refl, λ v f g h. refl) & (refl, λ v f g h. refl)
    & (refl, λ v f g h. refl) & tt)
    tt refl (refl, refl) refl refl refl tt

bridge_extends : ClassExtends Small Large (class Small 46) (class Large 46)
unfolding extending
bridge_extends = class_extends Small Large (class Small 46) (class Large 46)
    ((refl, λ v f g h. refl) & (refl, λ v f g h. refl) & (refl, λ v f g h. refl) & (refl, λ v f g h. refl) & (refl, λ v f g h. refl) & (refl, λ v f g h. refl) & tt)
    refl refl (refl, refl) refl refl refl tt

-- a port's TPPointer is judged by its TPType, which nothing changes
pointer_is_steady : Steady (class Small 47) (class Large 47) (attribute (class Small 47) 4)
unfolding extending
pointer_is_steady v f g h = ap (λ (x : List ℕ). cond (eqb (number x) 1) (asks 11 (number v)) fine) (((h 3).0 refl).0 refl)

port_extends : ClassExtends Small Large (class Small 47) (class Large 47)
unfolding extending
port_extends = class_extends Small Large (class Small 47) (class Large 47)
    ((refl, λ v f g h. refl) & (refl, λ v f g h. refl) & (refl, λ v f g h. refl) & (refl, pointer_is_steady) & (refl, λ v f g h. refl) & (refl, λ v f g h. refl)
    & (refl, λ v f g h. refl) & (refl, λ v f g h. refl) & tt)
    tt refl (refl, refl) refl refl refl ((λ others. refl) & tt)

-- ---- the classes of Meter in Small

meter_two_extends : ClassExtends Meter Small (class Meter 2) (class Small 2)
unfolding extending
meter_two_extends = class_extends Meter Small (class Meter 2) (class Small 2) ((refl, λ v f g h. refl) & tt) refl refl (refl, refl) refl refl refl tt

meter_uni_extends : ClassExtends Meter Small (class Meter 11) (class Small 11)
unfolding extending
meter_uni_extends = class_extends Meter Small (class Meter 11) (class Small 11)
    ((refl, λ v f g h. refl) & (refl, λ v f g h. refl) & (refl, λ v f g h. refl) & (refl, λ v f g h. refl) & tt)
    refl refl (refl, refl) refl refl refl tt

-- ---- the products

pub large_extends_small : Extends Small Large
unfolding extending
large_extends_small = record {
  same_places = refl;
  classes_kept = each_class Small (λ c k. (known Large c ≡ true) × ClassExtends Small Large k (class Large c))
      ((refl, two_extends) & (refl, uni_extends) & (refl, profile_extends) & (refl, bridge_extends) & (refl, port_extends) & tt);
}

pub small_extends_meter : Extends Meter Small
unfolding extending
small_extends_meter = record {
  same_places = refl;
  classes_kept = each_class Meter (λ c k. (known Small c ≡ true) × ClassExtends Meter Small k (class Small c))
      ((refl, meter_two_extends) & (refl, meter_uni_extends) & tt);
}
