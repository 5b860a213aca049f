-- The state of a product, and how it is read.
use Rattle.std.specs.Prelude.{ℕ, ◌+◌, ◌/◌, ◌%◌, Bool, false, cond, List, [], ◌∷◌, ◌++◌, replicate, eqb}
use Rattle.std.proofs.Math.Option.{Option}
use Rattle.rules.specs.Maps.{◌and◌, Map, given, find, has, each, at_key}
use Rattle.rules.specs.Bytes.{number, bytes}
use Rattle.rules.specs.Catalogue.{Source, stored, of_creator, count_of, Catalogue, class, attribute, leader, key, ont_data}

abbrev pub class_of : ℕ → ℕ
class_of k = k / 65536

abbrev pub number_of : ℕ → ℕ
number_of k = k % 65536

-- the contents of an instance's stored attributes, by attribute number
abbrev pub Contents : Type 0
Contents = Map (List ℕ)

-- what comes and goes together: the contents of an instance and of those that come with it, by class
abbrev pub Entry : Type 0
Entry = Map Contents

-- entries by the key of their leading instance: those that are there by themselves, class 2 first, and the created ones
pub record Table : Type 0 where
  pub automatic : Map Entry
  pub created : Map Entry

-- an instance's alarms, on or off, by alarm number
abbrev pub Alarms : Type 0
Alarms = List Bool

-- the last answered command's first 40 bytes, and its reply's 48
pub record Memory : Type 0 where
  pub command : List ℕ
  pub reply : List ℕ

pub record State : Type 0 where
  pub table : Table
  -- the bitmaps that aren't all zero, by the instance's key
  pub alarms : Map Alarms
  pub alarm_number : ℕ
  pub remembered : Option Memory
  -- the frozen copies of the two walks
  pub upload : Option Table
  pub walk : Option (Map Alarms)

-- ---- reading

abbrev pub entries : Table → Map Entry
entries t = t.automatic ++ t.created

unfoldable pub entry : ℕ → Table → Entry
entry k t = given (find k (entries t)) [] (λ e. e)

-- the entry that an instance is in
abbrev pub entry_of : Catalogue → Table → ℕ → ℕ → Entry
entry_of cat t c i = entry (key (leader cat c) i) t

-- is there an instance i of class c?
unfoldable pub holds : Catalogue → Table → ℕ → ℕ → Bool
holds cat t c i = has c (entry_of cat t c i)

unfoldable pub contents : Catalogue → Table → ℕ → ℕ → Contents
contents cat t c i = given (find c (entry_of cat t c i)) [] (λ r. r)

unfoldable pub content : ℕ → Contents → List ℕ
content n r = given (find n r) [] (λ v. v)

-- how many instances of a created class hold the number i in attribute a
unfoldable pub how_many_name : ℕ → ℕ → ℕ → Map Entry → ℕ
how_many_name d a i [] = 0
how_many_name d a i (e ∷ m) =
    cond (eqb (class_of e.0) d and eqb (number (content a (given (find d e.1) [] (λ r. r)))) i) 1 0 + how_many_name d a i m

unfoldable pub read_from : Catalogue → Table → ℕ → ℕ → ℕ → ℕ → Source → List ℕ
read_from cat t c i n size (stored f) = content n (contents cat t c i)
read_from cat t c i n size (of_creator a) = content a (contents cat t (leader cat c) i)
read_from cat t c i n size (count_of d a) = bytes size (how_many_name d a i t.created)

-- the content of attribute n of instance i of class c
unfoldable pub read : Catalogue → Table → ℕ → ℕ → ℕ → List ℕ
read cat t c i n = read_from cat t c i n (attribute (class cat c) n).size (attribute (class cat c) n).source

-- the sync counter is attribute 1 of instance 0 of class 2
unfoldable pub counter : Catalogue → Table → ℕ
counter cat t = number (content 1 (contents cat t ont_data 0))

unfoldable pub alarms_of : ℕ → Map Alarms → Alarms
alarms_of k m = given (find k m) (replicate 224 false) (λ b. b)

-- ---- changing

-- new contents put over old ones
unfoldable pub overwrite : Contents → Contents → Contents
overwrite new r = each (λ n v. given (find n new) v (λ w. w)) r

-- the contents of one instance changed
unfoldable pub change : Catalogue → ℕ → ℕ → (Contents → Contents) → Table → Table
change cat c i f t = record {
  automatic = at_key (key (leader cat c) i) (λ e. at_key c f e) t.automatic;
  created = at_key (key (leader cat c) i) (λ e. at_key c f e) t.created;
}

unfoldable pub with_counter : Catalogue → ℕ → Table → Table
with_counter cat n t = change cat ont_data 0 (overwrite ((1, n ∷ []) ∷ [])) t

-- ---- a state with one part changed

abbrev pub with_table : Table → State → State
with_table t s = record { table = t; alarms = s.alarms; alarm_number = s.alarm_number; remembered = s.remembered; upload = s.upload; walk = s.walk }

abbrev pub with_alarms : Map Alarms → State → State
with_alarms m s = record { table = s.table; alarms = m; alarm_number = s.alarm_number; remembered = s.remembered; upload = s.upload; walk = s.walk }

abbrev pub with_alarm_number : ℕ → State → State
with_alarm_number n s = record { table = s.table; alarms = s.alarms; alarm_number = n; remembered = s.remembered; upload = s.upload; walk = s.walk }

abbrev pub with_memory : Option Memory → State → State
with_memory r s = record { table = s.table; alarms = s.alarms; alarm_number = s.alarm_number; remembered = r; upload = s.upload; walk = s.walk }

abbrev pub with_upload : Option Table → State → State
with_upload u s = record { table = s.table; alarms = s.alarms; alarm_number = s.alarm_number; remembered = s.remembered; upload = u; walk = s.walk }

abbrev pub with_walk : Option (Map Alarms) → State → State
with_walk w s = record { table = s.table; alarms = s.alarms; alarm_number = s.alarm_number; remembered = s.remembered; upload = s.upload; walk = w }

unfoldable pub computing_state : ℕ
unfolding entry holds contents content how_many_name read_from read counter alarms_of overwrite change with_counter
computing_state = 0
