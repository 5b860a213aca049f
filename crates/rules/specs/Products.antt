-- The catalogues: Small and Large of document 01, and Meter of document 02's ticket 10.
use Rattle.std.specs.Prelude.{ℕ, Bool, true, false, not, cond, List, [], ◌∷◌, replicate, eqb, leb}
use Rattle.rules.specs.Maps.{◌and◌, Map, keep, among, those}
use Rattle.rules.specs.Bytes.{number}
use Rattle.rules.specs.Catalogue.{fine, bad, asks, Rule, constant, copied, Source, stored, of_creator, count_of, Attribute, created}
use Rattle.rules.specs.Catalogue.{automatic, comes_with, Class, Catalogue}
use Rattle.rules.specs.Messages.{create_number, delete_number, set_number, get_number, reset_number}

-- ---- rules of legal content

unfoldable pub any : Rule
any own others = fine

infix 20 from◌to◌
unfoldable pub from◌to◌ : ℕ → ℕ → Rule
from◌to◌ low high own others = cond (leb low (number own) and leb (number own) high) fine bad

unfoldable pub one_of : List ℕ → Rule
one_of l own others = cond (among (number own) l) fine bad

unfoldable pub an_existing : ℕ → Rule
an_existing c own others = asks c (number own)

-- an existing instance of class c where attribute n of the same instance is x, else any
unfoldable pub existing_where : ℕ → ℕ → ℕ → Rule
existing_where n x c own others = cond (eqb (number (others n)) x) (asks c (number own)) fine

-- ---- attributes by their rights, with size and rule

-- first contents are zero unless given; a set-by-create attribute has none, the Create carries it
unfoldable pub with_rights : Bool → Bool → Bool → ℕ → Rule → Attribute
with_rights w c l n r = record { size = n; W = w; C = c; L = l; avc = false; source = stored (constant (cond c [] (replicate n 0))); rule = r }

unfoldable pub RW : ℕ → Rule → Attribute
RW n r = with_rights true false false n r

unfoldable pub RL : ℕ → Rule → Attribute
RL n r = with_rights false false true n r

unfoldable pub RC : ℕ → Rule → Attribute
RC n r = with_rights false true false n r

unfoldable pub RWC : ℕ → Rule → Attribute
RWC n r = with_rights true true false n r

unfoldable pub from_source : Source → Attribute → Attribute
from_source s a = record { size = a.size; W = a.W; C = a.C; L = a.L; avc = a.avc; source = s; rule = a.rule }

unfoldable pub first : List ℕ → Attribute → Attribute
first v a = from_source (stored (constant v)) a

unfoldable pub first_copied_from : ℕ → Attribute → Attribute
first_copied_from n a = from_source (stored (copied n)) a

-- not stored
unfoldable pub R : ℕ → Source → Attribute
R n s = from_source s (with_rights false false false n any)

unfoldable pub with_AVC : Attribute → Attribute
with_AVC a = record { size = a.size; W = a.W; C = a.C; L = a.L; avc = true; source = a.source; rule = a.rule }

-- ---- 2 ONT data

unfoldable pub ont_data_class : Class
ont_data_class = record {
  commands = set_number ∷ get_number ∷ reset_number ∷ [];
  creation = automatic (0 ∷ []);
  alarms = [];
  -- sync counter
  attributes = (1, RW 1 any) ∷ [];
  unkept = [];
}

-- ---- 11 Ethernet UNI

unfoldable pub uni_class : List ℕ → Map Attribute → Class
uni_class numbers more = record {
  commands = set_number ∷ get_number ∷ [];
  creation = automatic numbers;
  -- LAN loss of signal
  alarms = 0 ∷ [];
  attributes =
      -- expected type, sensed type, auto detection, loopback, admin state, operational state
      (1, RW 1 any)
      ∷ (2, with_AVC (RL 1 any))
      ∷ (3, RW 1 any)
      ∷ (4, RW 1 (one_of (0 ∷ 3 ∷ [])))
      ∷ (5, RW 1 (from 0 to 1))
      ∷ (6, with_AVC (RL 1 (from 0 to 1)))
      ∷ more;
  unkept = [];
}

unfoldable pub uni_more : Map Attribute
uni_more =
    -- configuration, max frame, DTE/DCE, pause, bridged or IP, ARC, ARC interval
    (7, RL 1 any)
    ∷ (8, first (0x05 ∷ 0xEE ∷ []) (RW 2 any))
    ∷ (9, RW 1 (from 0 to 2))
    ∷ (10, RW 2 any)
    ∷ (11, first (2 ∷ []) (RW 1 (from 0 to 2)))
    ∷ (12, RW 1 (from 0 to 1))
    ∷ (13, RW 1 any)
    ∷ []

-- the commands of a class that can be created
abbrev pub for_created : List ℕ
for_created = create_number ∷ delete_number ∷ set_number ∷ get_number ∷ []

-- ---- 45 bridge service profile

unfoldable pub profile_class : Class
profile_class = record {
  commands = for_created;
  creation = created;
  alarms = [];
  attributes =
      -- spanning tree, learning, ATM port bridging, Priority, MaxAge, HelloTime, ForwardDelay
      (1, RWC 1 (from 0 to 1))
      ∷ (2, RWC 1 (from 0 to 1))
      ∷ (3, RWC 1 (from 0 to 1))
      ∷ (4, RWC 2 any)
      ∷ (5, RWC 2 (from 0x0600 to 0x2800))
      ∷ (6, RWC 2 (from 0x0100 to 0x0A00))
      ∷ (7, RWC 2 (from 0x0400 to 0x1E00))
      ∷ [];
  unkept = [];
}

-- ---- 46 bridge configuration

unfoldable pub bridge_class : Map Attribute → Class
bridge_class more = record {
  commands = set_number ∷ get_number ∷ [];
  creation = comes_with 45;
  alarms = [];
  attributes =
      -- MAC, BridgePriority, DesignatedRoot, RootPathCost, BridgePortCount, RootPortNum
      (1, RL 6 any)
      ∷ (2, R 2 (of_creator 4))
      ∷ (3, RL 8 any)
      ∷ (4, RL 4 any)
      ∷ (5, R 1 (count_of 47 1))
      ∷ (6, RL 2 any)
      ∷ more;
  unkept = [];
}

unfoldable pub bridge_more : Map Attribute
bridge_more =
    -- HelloTime, ForwardDelay
    (7, first_copied_from 6 (RL 2 any))
    ∷ (8, first_copied_from 7 (RL 2 any))
    ∷ []

-- ---- 47 port configuration

unfoldable pub port_class : Map Attribute → Map ℕ → Class
port_class more not_kept = record {
  commands = for_created;
  creation = created;
  alarms = [];
  attributes =
      -- BridgeIdPointer, PortNum, TPType, TPPointer, PortPriority, PortPathCost, spanning tree, encapsulation
      (1, RC 2 (an_existing 45))
      ∷ (2, RC 1 any)
      ∷ (3, RC 1 (one_of (1 ∷ 2 ∷ [])))
      ∷ (4, RC 2 (existing_where 3 1 11))
      ∷ (5, RWC 2 (from 0 to 255))
      ∷ (6, RWC 2 (from 1 to 65535))
      ∷ (7, RWC 1 (from 0 to 1))
      ∷ (8, RWC 1 (from 0 to 1))
      ∷ more;
  unkept = not_kept;
}

-- LANFCSInd
unfoldable pub port_more : Map Attribute
port_more = (9, RWC 1 (from 0 to 1)) ∷ []

-- ---- the products

unfoldable pub Small : Catalogue
Small = record {
  places = 40;
  classes =
      (2, ont_data_class)
      ∷ (11, uni_class (0x0101 ∷ []) [])
      ∷ (45, profile_class)
      ∷ (46, bridge_class [])
      ∷ (47, port_class [] ((9, 1) ∷ []))
      ∷ [];
}

unfoldable pub Large : Catalogue
Large = record {
  places = 40;
  classes =
      (2, ont_data_class)
      ∷ (11, uni_class (0x0101 ∷ 0x0102 ∷ 0x0103 ∷ 0x0104 ∷ []) uni_more)
      ∷ (45, profile_class)
      ∷ (46, bridge_class bridge_more)
      ∷ (47, port_class port_more [])
      ∷ [];
}

-- ---- what Meter leaves out of Small's classes

-- these attributes of a class alone, under their numbers, with their sizes, rights and rules
unfoldable pub only_attributes : List ℕ → Class → Class
only_attributes numbers k = record {
  commands = k.commands;
  creation = k.creation;
  alarms = k.alarms;
  attributes = keep (λ n a. among n numbers) k.attributes;
  unkept = k.unkept;
}

-- a class without the commands Create, Delete and Set
unfoldable pub no_create_delete_or_set : Class → Class
no_create_delete_or_set k = record {
  commands = those (λ n. not (among n (create_number ∷ delete_number ∷ set_number ∷ []))) k.commands;
  creation = k.creation;
  alarms = k.alarms;
  attributes = k.attributes;
  unkept = k.unkept;
}

-- the ONT data, and one UNI with expected type, sensed type, admin state and operational state
unfoldable pub Meter : Catalogue
Meter = record {
  places = 40;
  classes =
      (2, no_create_delete_or_set ont_data_class)
      ∷ (11, no_create_delete_or_set (only_attributes (1 ∷ 2 ∷ 5 ∷ 6 ∷ []) (uni_class (0x0101 ∷ []) [])))
      ∷ [];
}

-- ----

-- the products by their numbers
abbrev pub Products : Type 0
Products = Map Catalogue

unfoldable pub built_products : Products
built_products = (1, Small) ∷ (2, Large) ∷ (3, Meter) ∷ []

unfoldable pub computing_products : ℕ
unfolding any from◌to◌ one_of an_existing existing_where with_rights RW RL RC RWC from_source first first_copied_from R with_AVC
    ont_data_class uni_class uni_more profile_class bridge_class bridge_more port_class port_more Small Large
    only_attributes no_create_delete_or_set Meter built_products
computing_products = 0
