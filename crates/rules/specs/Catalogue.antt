-- What a product is, as data: its classes, and of each its attributes. Everything that is known of a class stands here;
-- the rules ask the catalogue and never name a class but class 2, the ONT data.
use Rattle.std.specs.Prelude.{ℕ, ◌+◌, ◌*◌, Bool, true, false, not, List, [], eqb}
use Rattle.rules.specs.Maps.{◌and◌, Map, given, find, has, keys, keep}

-- what a rule of legal content says: legal; not legal; or legal if this instance (class, number) is there
pub data Verdict : Type 0 where
  fine : Verdict
  bad : Verdict
  asks : ℕ → ℕ → Verdict

-- A rule looks at its own content, and at the contents of those set-by-create attributes of its own instance that are neither
-- W nor L (by number; any other number shows as no bytes). Any such function is a rule.
abbrev pub Rule : Type 0
Rule = List ℕ → (ℕ → List ℕ) → Verdict

-- a stored attribute's first content: these bytes, or what the Create that makes it carried for this attribute
pub data First : Type 0 where
  constant : List ℕ → First
  copied : ℕ → First

-- where an attribute is read: stored; as a stored attribute of the created instance its own came with;
-- or as the number of instances of a class that name its own in an attribute (class, attribute)
pub data Source : Type 0 where
  stored : First → Source
  of_creator : ℕ → Source
  count_of : ℕ → ℕ → Source

-- every attribute can be read; W, C and L are its further rights
pub record Attribute : Type 0 where
  pub size : ℕ
  pub W : Bool
  pub C : Bool
  pub L : Bool
  pub avc : Bool
  pub source : Source
  pub rule : Rule

-- how instances of a class come about: by a Create; by themselves, with these numbers; or with an instance of another class
pub data Creation : Type 0 where
  created : Creation
  automatic : List ℕ → Creation
  comes_with : ℕ → Creation

pub record Class : Type 0 where
  -- the message numbers of the commands for this class whose reply has a result (uploads and alarm walks are class 2's by the rules)
  pub commands : List ℕ
  pub creation : Creation
  -- the declared alarms
  pub alarms : List ℕ
  pub attributes : Map Attribute
  -- what a Create carries, behind the set-by-create attributes, that must be zero and isn't kept: attribute number and size
  pub unkept : Map ℕ

pub record Catalogue : Type 0 where
  pub classes : Map Class
  pub places : ℕ

-- ---- looking up

unfoldable pub no_class : Class
no_class = record { commands = []; creation = automatic []; alarms = []; attributes = []; unkept = [] }

unfoldable pub class : Catalogue → ℕ → Class
class cat c = given (find c cat.classes) no_class (λ k. k)

abbrev pub known : Catalogue → ℕ → Bool
known cat c = has c cat.classes

unfoldable pub no_attribute : Attribute
no_attribute = record { size = 0; W = false; C = false; L = false; avc = false; source = stored (constant []); rule = λ own others. fine }

unfoldable pub attribute : Class → ℕ → Attribute
attribute k n = given (find n k.attributes) no_attribute (λ a. a)

abbrev pub supported : Class → ℕ → Bool
supported k n = has n k.attributes

abbrev pub size_of : Class → ℕ → ℕ
size_of k n = (attribute k n).size

abbrev pub is_stored : Source → Bool
is_stored (stored f) = true
is_stored (of_creator a) = false
is_stored (count_of d a) = false

-- the numbers of a class's stored attributes, in order
unfoldable pub stored_numbers : Class → List ℕ
stored_numbers k = keys (keep (λ n a. is_stored a.source) k.attributes)

-- the numbers of a class's set-by-create attributes, in order
unfoldable pub carried_numbers : Class → List ℕ
carried_numbers k = keys (keep (λ n a. a.C) k.attributes)

-- a set-by-create attribute that nothing changes later: what rules may look at
abbrev pub is_fixed : Attribute → Bool
is_fixed a = a.C and not a.W and not a.L

abbrev pub is_created : Creation → Bool
is_created created = true
is_created (automatic l) = false
is_created (comes_with c) = false

abbrev pub automatic_numbers : Creation → List ℕ
automatic_numbers created = []
automatic_numbers (automatic l) = l
automatic_numbers (comes_with c) = []

-- the class with whose instances a class's own come: itself, unless it comes with another
abbrev pub lead : ℕ → Creation → ℕ
lead c created = c
lead c (automatic l) = c
lead c (comes_with d) = d

abbrev pub leader : Catalogue → ℕ → ℕ
leader cat c = lead c (class cat c).creation

-- a class and those that come with it
unfoldable pub family : Catalogue → ℕ → Map Class
family cat c = keep (λ d k. eqb (lead d k.creation) c) cat.classes

-- ---- instances

-- an instance's key: its order is by class, then by number
abbrev pub key : ℕ → ℕ → ℕ
key c i = c * 65536 + i

-- class 2, the ONT data, has instance 0 alone
abbrev pub ont_data : ℕ
ont_data = 2

unfoldable pub computing_catalogue : ℕ
unfolding no_class class no_attribute attribute stored_numbers carried_numbers family
computing_catalogue = 0
