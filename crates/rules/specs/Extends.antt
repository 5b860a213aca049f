-- When a second catalogue extends a first: the sentences of document 01's paragraph, and of ticket 10, a condition each.
use Rattle.std.specs.Prelude.{ℕ, ◌≡◌, Bool, true, false, not, List, [], ◌++◌, length, replicate}
use Rattle.rules.specs.Bytes.{are_bytes}
use Rattle.rules.specs.Maps.{◌and◌, among, all, those}
use Rattle.rules.specs.Catalogue.{Verdict, fine, Attribute, Creation, created, automatic, comes_with, Class, Catalogue, class}
use Rattle.rules.specs.Catalogue.{known}
use Rattle.rules.specs.Catalogue.{attribute, supported, size_of, carried_numbers, is_fixed, automatic_numbers, leader}
use Rattle.rules.specs.State.{State, holds}
use Rattle.rules.specs.Legal.{passes, there_or_gone}
use Rattle.rules.specs.Run.{Call, message, attribute_report, alarm_report}
use Rattle.rules.specs.WellFormed.{carried_bytes, delete_where_create}

-- ---- legal contents may only grow

-- What the first verdict lets pass, the second does, wherever the instances that are there are ones that the first can have, and there
-- in the second too, with every automatic instance of the second and with those that come with others.
abbrev pub Allows : Catalogue → Catalogue → Verdict → Verdict → Type 0
Allows first second v w = (there there' : ℕ → ℕ → Bool)
    → ((c i : ℕ) → there c i ≡ true → (known first c ≡ true) × (there_or_gone first c i ≡ true) × (there' c i ≡ true))
    → ((c i : ℕ) → among i (automatic_numbers (class second c).creation) ≡ true → there' c i ≡ true)
    → ((c i : ℕ) → known second c ≡ true → there' (leader second c) i ≡ true → there' c i ≡ true)
    → passes there v ≡ true → passes there' w ≡ true

-- What the second's rules may look at is as in the first; where only the second has the attribute, it holds zero, as it does after
-- every Create that the first accepts. What the rules of either may not look at shows there as no bytes.
abbrev pub Agree : Class → Class → (ℕ → List ℕ) → (ℕ → List ℕ) → Type 0
Agree k l f g = (n : ℕ)
    → (is_fixed (attribute l n) ≡ true → (supported k n ≡ true → f n ≡ g n) × (supported k n ≡ false → g n ≡ replicate (size_of l n) 0))
    × (is_fixed (attribute k n) ≡ false → f n ≡ [])
    × (is_fixed (attribute l n) ≡ false → g n ≡ [])

-- ---- attributes that both have

pub record AttributeExtends (first second : Catalogue) (k l : Class) (a b : Attribute) : Type 0 where
  -- the same size, way of reading and first content
  pub same_size : a.size ≡ b.size
  pub same_source : a.source ≡ b.source
  -- rights and legal contents may only grow
  pub W_grows : a.W ≡ true → b.W ≡ true
  pub legal_contents_grow : (v : List ℕ) (f g : ℕ → List ℕ) → length v ≡ a.size → are_bytes v ≡ true → Agree k l f g
      → Allows first second (a.rule v f) (b.rule v g)
  -- but set by create, L, AVC and an L attribute's legal contents stay the same
  pub same_C : a.C ≡ b.C
  pub same_L : a.L ≡ b.L
  pub same_AVC : a.avc ≡ b.avc
  pub same_legal_L : a.L ≡ true → (v : List ℕ) (others : ℕ → List ℕ) → length v ≡ a.size → are_bytes v ≡ true → a.rule v others ≡ b.rule v others

-- ---- classes that both have

-- the same creation rule and class it comes with; each automatic instance of the first is in the second
abbrev pub SameCreation : Creation → Creation → Type 0
SameCreation created created = Unit {0}
SameCreation created (automatic m) = ⊥
SameCreation created (comes_with d) = ⊥
SameCreation (automatic l) created = ⊥
SameCreation (automatic l) (automatic m) = all (λ i. among i m) l ≡ true
SameCreation (automatic l) (comes_with d) = ⊥
SameCreation (comes_with c) created = ⊥
SameCreation (comes_with c) (automatic m) = ⊥
SameCreation (comes_with c) (comes_with d) = c ≡ d

-- the set-by-create attributes only in the second
unfoldable pub added_carried : Class → Class → List ℕ
added_carried k l = those (λ n. not (supported k n)) (carried_numbers l)

pub record ClassExtends (first second : Catalogue) (k l : Class) : Type 0 where
  pub same_creation : SameCreation k.creation l.creation
  -- the commands allowed for a class may only grow, Delete being allowed where Create is and nowhere else
  pub commands_grow : all (λ n. among n l.commands) k.commands ≡ true
  pub delete_goes_with_create : (delete_where_create k ≡ true) × (delete_where_create l ≡ true)
  pub same_alarms : (n : ℕ) → among n k.alarms ≡ among n l.alarms
  pub attributes_kept : (n : ℕ) → supported k n ≡ true → (supported l n ≡ true) × AttributeExtends first second k l (attribute k n) (attribute l n)
  -- Creates carry equally many bytes
  pub creates_carry_equally : carried_bytes k ≡ carried_bytes l
  -- set-by-create attributes only in the second come after the first's, where the first demands zero, and accept zero
  pub added_come_after : carried_numbers l ≡ carried_numbers k ++ added_carried k l
  pub added_accept_zero : (n : ℕ) → among n (added_carried k l) ≡ true → (f g : ℕ → List ℕ) → Agree k l f g
      → Allows first second fine ((attribute l n).rule (replicate (size_of l n) 0) g)

-- ---- catalogues

-- Added automatic instances are of classes that can't be created: so it is with every Creation.
pub record Extends (first second : Catalogue) : Type 0 where
  pub same_places : first.places ≡ second.places
  pub classes_kept : (c : ℕ) → known first c ≡ true → (known second c ≡ true) × ClassExtends first second (class first c) (class second c)

-- ---- reports

-- a report names what a product has if it then holds the instance, and its class there has that attribute or alarm
unfoldable pub names_what_it_has : Catalogue → State → Call → Bool
names_what_it_has cat s (message m) = true
names_what_it_has cat s (attribute_report c i n v) = holds cat s.table c i and supported (class cat c) n
names_what_it_has cat s (alarm_report c i n on) = holds cat s.table c i and among n (class cat c).alarms

unfoldable pub computing_extends : ℕ
unfolding added_carried names_what_it_has
computing_extends = 0
