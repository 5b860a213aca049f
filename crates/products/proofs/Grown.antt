-- Two made-up catalogues of which the second extends the first and everything that may grow does: a right, ranges, what is asked to exist,
-- commands, automatic instances, attributes, classes and what comes with others. Both are well formed, so the conditions can be met.
use Prim.Native.Nat.{ℕ, ◌≤◌}
use native.Mathlib.Omega.{arith}
use mathlib.Core.Path.{◌≡◌, refl}
use mathlib.Core.Bool.{Bool, true, false, cond}
use mathlib.Core.List.{List, [], ◌∷◌}
use lib.ListN.{length, replicate}
use lib.Dec.{eqb, leb}
use Rattle.rules.specs.Maps.{◌and◌, ◌or◌, Map, among}
use Rattle.rules.specs.Bytes.{number, are_bytes}
use Rattle.rules.specs.Catalogue.{fine, bad, Rule, of_creator, Attribute, created, automatic, comes_with, Class, Catalogue, class, known, attribute, supported, size_of, key}
use Rattle.rules.specs.Legal.{passes, there_or_gone}
use Rattle.rules.specs.Messages.{set_number, get_number}
use Rattle.rules.specs.WellFormed.{WellFormed}
use Rattle.rules.specs.Extends.{Allows, Agree, AttributeExtends, ClassExtends, Extends, computing_extends}
use Rattle.rules.specs.Products.{any, from◌to◌, one_of, an_existing, with_rights, RW, RL, RC, RWC, R, with_AVC, ont_data_class, for_created}
use Rattle.rules.proofs.Laws.{◌&◌, never, both, and_true, or_cases, eqb_eq, leb_le, le-leb, each_among}
use Rattle.rules.proofs.MapLaws.{Each, each_find}
use Rattle.rules.proofs.Lookups.{known_attribute}
use Rattle.products.proofs.Each.{each_class}
use Rattle.products.proofs.Plain.{free, AllPlain}
use Rattle.products.proofs.Attributes.{within, carried_plain, ont_data_plain}
use Rattle.products.proofs.WellFormed.{well_formed, testing}
use Rattle.products.proofs.Extends.{kept, class_extends}

-- ---- the catalogues

-- any content while attribute n of the same instance is zero, else zero alone
unfoldable pub any_while_zero : ℕ → Rule
any_while_zero n own others = cond (eqb (number (others n)) 0) fine (cond (eqb (number own) 0) fine bad)

-- sockets are there by themselves: level and whether something is plugged in
unfoldable pub socket_class : List ℕ → List ℕ → Bool → Map Attribute → Class
socket_class commands numbers writable more = record {
  commands = commands;
  creation = automatic numbers;
  alarms = 0 ∷ [];
  attributes = (1, with_rights writable false false 1 any) ∷ (2, with_AVC (RL 1 (from 0 to 1))) ∷ more;
  unkept = [];
}

-- timers are created: mode, the socket they switch, day and hour; then come three bytes that the first doesn't keep
unfoldable pub timer_class : Map Attribute → Map ℕ → Class
timer_class attributes unkept = record { commands = for_created; creation = created; alarms = []; attributes = attributes; unkept = unkept }

unfoldable pub young_timer : Class
young_timer = timer_class
    ((1, RWC 1 (from 0 to 3)) ∷ (2, RC 2 (an_existing 60)) ∷ (3, RC 1 any) ∷ (4, RWC 1 any) ∷ [])
    ((5, 1) ∷ (6, 2) ∷ [])

-- More modes; any socket; the day may be set; the hour is any while the added zone is zero; and an added number that names the ONT data.
unfoldable pub grown_timer : Class
grown_timer = timer_class
    ((1, RWC 1 (from 0 to 7)) ∷ (2, RC 2 any) ∷ (3, RWC 1 any) ∷ (4, RWC 1 (any_while_zero 5)) ∷ (5, RC 1 any) ∷ (6, RC 2 (an_existing 2)) ∷ [])
    []

-- a display comes with each timer
unfoldable pub display_class : Class
display_class = record { commands = get_number ∷ []; creation = comes_with 70; alarms = []; attributes = (1, R 1 (of_creator 1)) ∷ []; unkept = [] }

-- a link names an existing instance of a class, and a socket
unfoldable pub link_class : ℕ → Rule → Class
link_class c socket = record {
  commands = for_created;
  creation = created;
  alarms = [];
  attributes = (1, RC 2 (an_existing c)) ∷ (2, RC 2 socket) ∷ [];
  unkept = [];
}

unfoldable pub clock_class : Class
clock_class = record { commands = set_number ∷ get_number ∷ []; creation = automatic (0 ∷ []); alarms = []; attributes = (1, RW 2 any) ∷ []; unkept = [] }

unfoldable pub Young : Catalogue
Young = record {
  places = 3;
  classes =
      (2, ont_data_class)
      ∷ (60, socket_class (get_number ∷ []) (1 ∷ []) false [])
      ∷ (70, young_timer)
      ∷ (80, link_class 70 (an_existing 60))
      ∷ [];
}

unfoldable pub Grown : Catalogue
Grown = record {
  places = 3;
  classes =
      (2, ont_data_class)
      ∷ (60, socket_class (set_number ∷ get_number ∷ []) (1 ∷ 2 ∷ []) true ((3, RW 1 any) ∷ []))
      ∷ (70, grown_timer)
      ∷ (71, display_class)
      ∷ (80, link_class 71 (one_of (1 ∷ 2 ∷ [])))
      ∷ (90, clock_class)
      ∷ [];
}

unfoldable pub computing_grown : ℕ
unfolding any_while_zero socket_class timer_class young_timer grown_timer display_class link_class clock_class Young Grown
computing_grown = 0

-- ---- they are well formed

young_plain : AllPlain Young
unfolding testing computing_grown
young_plain =
    ont_data_plain
    & (free (λ v others. refl) & within 0 1 refl refl & tt)
    & carried_plain young_timer.attributes refl
    & carried_plain (link_class 70 (an_existing 60)).attributes refl
    & tt

grown_plain : AllPlain Grown
unfolding testing computing_grown
grown_plain =
    ont_data_plain
    & (free (λ v others. refl) & within 0 1 refl refl & free (λ v others. refl) & tt)
    & carried_plain grown_timer.attributes refl
    & (free (λ v others. refl) & tt)
    & carried_plain (link_class 71 (one_of (1 ∷ 2 ∷ []))).attributes refl
    & (free (λ v others. refl) & tt)
    & tt

pub young_is_well_formed : WellFormed Young
unfolding testing computing_grown
young_is_well_formed = well_formed Young (key 60 1) (key 60 2) (refl, refl, refl) young_plain refl refl refl

pub grown_is_well_formed : WellFormed Grown
unfolding testing computing_grown
grown_is_well_formed = well_formed Grown (key 60 1) (key 60 3) (refl, refl, refl) grown_plain refl refl refl

-- ---- the second extends the first

module _ (k l : Class) where
  abbrev Grows : ℕ → Rule → Rule → Type 0
  Grows size r r' = (v : List ℕ) (f g : ℕ → List ℕ) → length v ≡ size → are_bytes v ≡ true → Agree k l f g → Allows Young Grown (r v f) (r' v g)

  -- an attribute that isn't L may become W and have another rule
  grown_attribute : (w w' c : Bool) (size : ℕ) (r r' : Rule) → (w ≡ true → w' ≡ true) → Grows size r r'
      → AttributeExtends Young Grown k l (with_rights w c false size r) (with_rights w' c false size r')
  unfolding with_rights
  grown_attribute w w' c size r r' writable more = record {
    same_size = refl;
    same_source = refl;
    W_grows = writable;
    legal_contents_grow = more;
    same_C = refl;
    same_L = refl;
    same_AVC = refl;
    same_legal_L = λ t v others length bytes. never t;
  }

  abbrev KeptAs : ℕ → Attribute → Type 0
  KeptAs n a = (supported l n ≡ true) × AttributeExtends Young Grown k l a (attribute l n)

  each_kept : Each KeptAs k.attributes → (n : ℕ) → supported k n ≡ true → KeptAs n (attribute k n)
  each_kept h n t = each_find KeptAs k.attributes h n (attribute k n) (known_attribute k n t)

-- everything that is compared computes where this name is unfolded
unfoldable extending_grown : ℕ
unfolding testing computing_extends computing_grown
extending_grown = 0

-- ---- rules that grow

now_anything : (k l : Class) (size : ℕ) (r : Rule) → Grows k l size r any
unfolding any passes
now_anything k l size r v f g sized bytes agree there there' more always led p = refl

passed : (there : ℕ → ℕ → Bool) (b : Bool) → passes there (cond b fine bad) ≡ true → b ≡ true
unfolding passes
passed there true h = refl
passed there false h = h

-- a mode up to 3 is one up to 7
more_modes : (k l : Class) → Grows k l 1 (from 0 to 3) (from 0 to 7)
unfolding from◌to◌ passes
more_modes k l v f g sized bytes agree there there' more always led p =
    let old : (leb 0 (number v) ≡ true) × (leb (number v) 3 ≡ true) = both (passed there (leb 0 (number v) and leb (number v) 3) p) in
    let small : number v ≤ 3 = leb_le (number v) 3 old.1 in
    rw (and_true old.0 (le-leb (number v) 7 (omega arith)))

-- the zone, which only the second has, is zero: then any hour is legal
any_hour : Grows young_timer grown_timer 1 any (any_while_zero 5)
unfolding extending_grown
any_hour v f g sized bytes agree there there' more always led p = rw (((agree 5).0 refl).1 refl) refl

-- where a timer is there, so is the display that comes with it
its_display : (k l : Class) → Grows k l 2 (an_existing 70) (an_existing 71)
unfolding extending_grown
its_display k l v f g sized bytes agree there there' more always led p = led 71 (number v) refl (more 70 (number v) p).2

-- the first can have socket 1 alone
only_socket_1 : (i : ℕ) → there_or_gone Young 60 i ≡ true → i ≡ 1
unfolding extending_grown
only_socket_1 i h = or_cases h (λ e. eqb_eq i 1 e) (λ e. never e)

-- so what exists is in the second's list
listed_sockets : (k l : Class) → Grows k l 2 (an_existing 60) (one_of (1 ∷ 2 ∷ []))
unfolding an_existing one_of passes among ◌or◌
listed_sockets k l v f g sized bytes agree there there' more always led p = rw (only_socket_1 (number v) (more 60 (number v) p).1) refl

-- ---- the classes

two_extends : ClassExtends Young Grown (class Young 2) (class Grown 2)
unfolding extending_grown
two_extends = class_extends Young Grown (class Young 2) (class Grown 2) ((refl, λ v f g h. refl) & tt) refl refl (refl, refl) refl refl refl tt

-- a command, an instance and an attribute more, and the level becomes W
socket_extends : ClassExtends Young Grown (class Young 60) (class Grown 60)
unfolding extending_grown
socket_extends =
    let k : Class = class Young 60 in
    let l : Class = class Grown 60 in
    record {
      same_creation = refl;
      commands_grow = refl;
      delete_goes_with_create = (refl, refl);
      same_alarms = λ n. refl;
      attributes_kept = each_kept k l
          ((refl, grown_attribute k l false true false 1 any any (λ t. refl) (now_anything k l 1 any))
          & (refl, kept Young Grown k l (with_AVC (RL 1 (from 0 to 1))) (λ v f g agree. refl))
          & tt);
      creates_carry_equally = refl;
      added_come_after = refl;
      added_accept_zero = λ n here. never here;
    }

-- what a timer only has in the second accepts zero
abbrev AcceptsZero : ℕ → Type 0
AcceptsZero n = (f g : ℕ → List ℕ) → Agree young_timer grown_timer f g
    → Allows Young Grown fine ((attribute grown_timer n).rule (replicate (size_of grown_timer n) 0) g)

zone_accepts_zero : AcceptsZero 5
unfolding extending_grown
zone_accepts_zero f g agree there there' more always led p = refl

-- zero names the ONT data, which is always there
pointer_accepts_zero : AcceptsZero 6
unfolding extending_grown
pointer_accepts_zero f g agree there there' more always led p = always 2 0 refl

timer_extends : ClassExtends Young Grown young_timer grown_timer
unfolding extending_grown
timer_extends =
    let k : Class = young_timer in
    let l : Class = grown_timer in
    record {
      same_creation = tt;
      commands_grow = refl;
      delete_goes_with_create = (refl, refl);
      same_alarms = λ n. refl;
      attributes_kept = each_kept k l
          ((refl, grown_attribute k l true true true 1 (from 0 to 3) (from 0 to 7) (λ t. t) (more_modes k l))
          & (refl, grown_attribute k l false false true 2 (an_existing 60) any (λ t. t) (now_anything k l 2 (an_existing 60)))
          & (refl, grown_attribute k l false true true 1 any any (λ t. refl) (now_anything k l 1 any))
          & (refl, grown_attribute k l true true true 1 any (any_while_zero 5) (λ t. t) any_hour)
          & tt);
      creates_carry_equally = refl;
      added_come_after = refl;
      added_accept_zero = each_among AcceptsZero (5 ∷ 6 ∷ []) (zone_accepts_zero & pointer_accepts_zero & tt);
    }

link_extends : ClassExtends Young Grown (class Young 80) (class Grown 80)
unfolding extending_grown
link_extends =
    let k : Class = class Young 80 in
    let l : Class = class Grown 80 in
    record {
      same_creation = tt;
      commands_grow = refl;
      delete_goes_with_create = (refl, refl);
      same_alarms = λ n. refl;
      attributes_kept = each_kept k l
          ((refl, grown_attribute k l false false true 2 (an_existing 70) (an_existing 71) (λ t. t) (its_display k l))
          & (refl, grown_attribute k l false false true 2 (an_existing 60) (one_of (1 ∷ 2 ∷ [])) (λ t. t) (listed_sockets k l))
          & tt);
      creates_carry_equally = refl;
      added_come_after = refl;
      added_accept_zero = λ n here. never here;
    }

pub grown_extends_young : Extends Young Grown
unfolding extending_grown
grown_extends_young = record {
  same_places = refl;
  classes_kept = each_class Young (λ c k. (known Grown c ≡ true) × ClassExtends Young Grown k (class Grown c))
      ((refl, two_extends) & (refl, socket_extends) & (refl, timer_extends) & (refl, link_extends) & tt);
}
