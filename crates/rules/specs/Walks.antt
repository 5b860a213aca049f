-- MIB upload and Get all alarms, each with its Next: they show a copy that was frozen when they were asked for.
use Rattle.std.specs.Prelude.{ℕ, ◌+◌, not, cond, List, [], ◌∷◌, ◌++◌, map, length, eqb, leb}
use Rattle.std.proofs.Math.Option.{some}
use Rattle.rules.specs.Maps.{◌and◌, given, keys, keep, gather, nth, put_if}
use Rattle.rules.specs.Bytes.{two, bytes, bit_bytes}
use Rattle.rules.specs.Masks.{mask, total}
use Rattle.rules.specs.Catalogue.{Class, Catalogue, size_of, lead, ont_data}
use Rattle.rules.specs.State.{Table, Alarms, State, class_of, number_of, entries, with_alarm_number, with_upload, with_walk}
use Rattle.rules.specs.Commands.{values}
use Rattle.rules.specs.Messages.{Answer}

-- walks are class 2's own: any other class or instance gets zero contents, and changes nothing
unfoldable pub if_ont_data : ℕ → ℕ → State → Answer → Answer
if_ont_data c i s a = cond (eqb c ont_data and eqb i 0) a (s, [])

-- ---- sections

-- An instance's attributes in order while they fit in 26 bytes; `now` are those of the section that is being filled.
unfoldable pub sections_from : (ℕ → ℕ) → List ℕ → List ℕ → List (List ℕ)
sections_from size now [] = put_if (leb 1 (length now)) now []
sections_from size now (n ∷ l) =
    let fits : List (List ℕ) = sections_from size (now ++ n ∷ []) l in
    let full : List (List ℕ) = now ∷ sections_from size (n ∷ []) l in
    cond (leb (total size now + size n) 26) fits full

unfoldable pub sections_of : Class → List (List ℕ)
sections_of k = sections_from (size_of k) [] (keys k.attributes)

-- a section shows these attributes of an instance
pub record Section : Type 0 where
  pub of_class : ℕ
  pub of_instance : ℕ
  pub shows : List ℕ

-- the numbers of the instances of a class, in order
unfoldable pub instances_of : ℕ → Class → Table → List ℕ
instances_of c k t = map number_of (keys (keep (λ j e. eqb (class_of j) (lead c k.creation)) (entries t)))

-- instances go by class, then number; each is cut into sections
unfoldable pub sections : Catalogue → Table → List Section
sections cat t =
    gather (λ e. gather (λ i. map (λ l. record { of_class = e.0; of_instance = i; shows = l }) (sections_of e.1)) (instances_of e.0 e.1 t))
    cat.classes

unfoldable pub section_contents : Catalogue → Table → Section → List ℕ
section_contents cat t p =
    bytes 2 p.of_class ++ bytes 2 p.of_instance ++ bytes 2 (mask p.shows) ++ values cat t p.of_class p.of_instance p.shows

-- ---- MIB upload

-- the table as it stands, class 2 left out
unfoldable pub frozen : Table → Table
frozen t = record { automatic = keep (λ k e. not (eqb (class_of k) ont_data)) t.automatic; created = t.created }

unfoldable pub upload : Catalogue → State → ℕ → ℕ → Answer
upload cat s c i =
    let t : Table = frozen s.table in
    if_ont_data c i s (with_upload (some t) s, bytes 2 (length (sections cat t)))

unfoldable pub upload_next : Catalogue → State → ℕ → ℕ → List ℕ → Answer
upload_next cat s c i v =
    if_ont_data c i s (s, given s.upload [] (λ t. given (nth (sections cat t) (two v 0)) [] (section_contents cat t)))

-- ---- Get all alarms

unfoldable pub all_alarms : State → ℕ → ℕ → Answer
all_alarms s c i = if_ont_data c i s (with_walk (some s.alarms) (with_alarm_number 0 s), bytes 2 (length s.alarms))

-- alarm 0 is the top bit of the first bitmap byte
abbrev pub bitmap : Alarms → List ℕ
bitmap b = bit_bytes 28 b

unfoldable pub alarms_contents : ℕ × Alarms → List ℕ
alarms_contents e = bytes 2 (class_of e.0) ++ bytes 2 (number_of e.0) ++ bitmap e.1

unfoldable pub alarms_next : State → ℕ → ℕ → List ℕ → Answer
alarms_next s c i v = if_ont_data c i s (s, given s.walk [] (λ w. given (nth w (two v 0)) [] alarms_contents))

unfoldable pub computing_walks : ℕ
unfolding if_ont_data sections_from sections_of instances_of sections section_contents frozen upload upload_next all_alarms alarms_contents
    alarms_next
computing_walks = 0
