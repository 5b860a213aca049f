-- Create, Delete, Set, Get and MIB reset: the commands whose reply has a result.
use Rattle.std.specs.Prelude.{ℕ, Bool, not, cond, List, [], ◌∷◌, ◌++◌, length, take, drop, replicate, eqb, ltb, leb}
use Rattle.std.proofs.Math.Option.{none}
use Rattle.rules.specs.Maps.{◌and◌, Map, keys, keep, put, remove, each, empty, same, those, put_if}
use Rattle.rules.specs.Bytes.{two, bytes}
use Rattle.rules.specs.Masks.{named, mask, total}
use Rattle.rules.specs.Catalogue.{constant, copied, Source, stored, of_creator, count_of, Class, Catalogue, class, attribute}
use Rattle.rules.specs.Catalogue.{supported, size_of, is_stored, carried_numbers, is_created, leader, family, key, ont_data}
use Rattle.rules.specs.State.{Contents, Entry, Table, State, class_of, number_of, holds, contents, content, read, counter}
use Rattle.rules.specs.State.{overwrite}
use Rattle.rules.specs.State.{change, with_counter, with_table, with_alarms, with_upload, with_walk}
use Rattle.rules.specs.Legal.{legal_content}
use Rattle.rules.specs.Messages.{done, no_place, bad_parameter, unknown_instance, instance_exists, attribute_failed, next_number}
use Rattle.rules.specs.Messages.{Answer, unless_refused}

-- values cut off one after another, by the attributes' sizes
unfoldable pub cut : (ℕ → ℕ) → List ℕ → List ℕ → Contents
cut size [] v = []
cut size (n ∷ l) v = (n, take (size n) v) ∷ cut size l (drop (size n) v)

-- the attributes among new contents whose content isn't legal, in an instance with contents r
unfoldable pub illegal : (ℕ → ℕ → Bool) → Class → Contents → Contents → List ℕ
illegal there k r new = keys (keep (λ n v. not (legal_content there k r n v)) new)

abbrev pub move_counter : Catalogue → Table → Table
move_counter cat t = with_counter cat (next_number (counter cat t)) t

-- ---- a new entry

unfoldable pub first_content : Contents → Source → List ℕ
first_content carried (stored (constant v)) = v
first_content carried (stored (copied n)) = content n carried
first_content carried (of_creator a) = []
first_content carried (count_of d a) = []

-- the contents of a new instance: what the Create carried for it, else the first contents
unfoldable pub new_contents : Contents → Class → Contents
new_contents carried k =
    each (λ n a. cond a.C (content n carried) (first_content carried a.source))
    (keep (λ n a. is_stored a.source) k.attributes)

-- a new instance of class c, with those that come with it
unfoldable pub new_entry : Catalogue → ℕ → Contents → Entry
new_entry cat c carried = each (λ d k. new_contents carried k) (family cat c)

-- ---- Create

-- what a Create carries: the values of the set-by-create attributes in order
unfoldable pub carried_by : Class → List ℕ → Contents
carried_by k v = cut (size_of k) (carried_numbers k) v

-- the bytes behind them, which aren't kept and must be zero
unfoldable pub not_zero : Map ℕ → List ℕ → List ℕ
not_zero [] v = []
not_zero (e ∷ m) v = put_if (not (same (take e.1 v) (replicate e.1 0))) e.0 (not_zero m (drop e.1 v))

unfoldable pub bad_in_create : Catalogue → State → ℕ → List ℕ → List ℕ
bad_in_create cat s c v =
    let k : Class = class cat c in
    illegal (holds cat s.table) k (carried_by k v) (carried_by k v)
    ++ not_zero k.unkept (drop (total (size_of k) (carried_numbers k)) v)

unfoldable pub create_results : Catalogue → State → ℕ → ℕ → List ℕ → List (Bool × List ℕ)
create_results cat s c i v =
    (holds cat s.table c i, instance_exists ∷ [])
    ∷ (not (empty (bad_in_create cat s c v)), bad_parameter ∷ bytes 2 (mask (bad_in_create cat s c v)))
    ∷ (leb cat.places (length s.table.created), no_place ∷ [])
    ∷ []

unfoldable pub with_created : Map Entry → Table → Table
with_created m t = record { automatic = t.automatic; created = m }

unfoldable pub create : Catalogue → State → ℕ → ℕ → List ℕ → Answer
create cat s c i v =
    let carried : Contents = carried_by (class cat c) v in
    let t : Table = with_created (put (key c i) (new_entry cat c carried) s.table.created) s.table in
    unless_refused s (create_results cat s c i v) (with_table (move_counter cat t) s, done ∷ [])

-- ---- Delete

-- does instance j (a key) go when instance i of class c goes?
unfoldable pub goes_with : Catalogue → ℕ → ℕ → ℕ → Bool
goes_with cat c i j = eqb (leader cat (class_of j)) c and eqb (number_of j) i

unfoldable pub without : Catalogue → ℕ → ℕ → State → State
without cat c i s =
    let t : Table = with_created (remove (key c i) s.table.created) s.table in
    with_table (move_counter cat t) (with_alarms (keep (λ j b. not (goes_with cat c i j)) s.alarms) s)

unfoldable pub delete_results : Catalogue → State → ℕ → ℕ → List (Bool × List ℕ)
delete_results cat s c i = (not (holds cat s.table c i), unknown_instance ∷ []) ∷ []

unfoldable pub delete : Catalogue → State → ℕ → ℕ → Answer
delete cat s c i = unless_refused s (delete_results cat s c i) (without cat c i s, done ∷ [])

-- ---- Set

-- the attributes that a Set or a Get names
abbrev pub asked : List ℕ → List ℕ
asked v = named (two v 0)

unfoldable pub unsupported : Class → List ℕ → List ℕ
unsupported k l = those (λ n. not (supported k n)) l

unfoldable pub unwritable : Class → List ℕ → List ℕ
unwritable k l = those (λ n. supported k n and not (attribute k n).W) l

-- the contents that a Set carries
unfoldable pub set_by : Class → List ℕ → Contents
set_by k v = cut (size_of k) (asked v) (drop 2 v)

unfoldable pub bad_in_set : Catalogue → State → ℕ → ℕ → List ℕ → List ℕ
bad_in_set cat s c i v = illegal (holds cat s.table) (class cat c) (contents cat s.table c i) (set_by (class cat c) v)

-- the results of a Set with mask m of an instance of class k, which is there or not; the contents that it carries for these attributes are bad
unfoldable pub set_results : Bool → Class → ℕ → List ℕ → List (Bool × List ℕ)
set_results there k m bad =
    (not there, unknown_instance ∷ [])
    ∷ (eqb m 0, bad_parameter ∷ [])
    ∷ (
      not (empty (unsupported k (named m)) and empty (unwritable k (named m))),
      attribute_failed ∷ bytes 2 (mask (unsupported k (named m))) ++ bytes 2 (mask (unwritable k (named m))),
    )
    ∷ (ltb 30 (total (size_of k) (named m)), bad_parameter ∷ [])
    ∷ (not (empty bad), attribute_failed ∷ 0 ∷ 0 ∷ bytes 2 (mask bad))
    ∷ []

-- a Set of class 2 stores what it carries and doesn't move the counter further
unfoldable pub moved_by_set : Catalogue → ℕ → Table → Table
moved_by_set cat c t = cond (eqb c ont_data) t (move_counter cat t)

unfoldable pub set : Catalogue → State → ℕ → ℕ → List ℕ → Answer
set cat s c i v =
    let t : Table = change cat c i (overwrite (set_by (class cat c) v)) s.table in
    unless_refused s (set_results (holds cat s.table c i) (class cat c) (two v 0) (bad_in_set cat s c i v)) (with_table (moved_by_set cat c t) s, done ∷ [])

-- ---- Get

-- the contents of these attributes, one after another
unfoldable pub values : Catalogue → Table → ℕ → ℕ → List ℕ → List ℕ
values cat t c i [] = []
values cat t c i (n ∷ l) = read cat t c i n ++ values cat t c i l

-- the results of a Get with mask m of an instance of class k, which is there or not
unfoldable pub get_results : Bool → Class → ℕ → List (Bool × List ℕ)
get_results there k m =
    (not there, unknown_instance ∷ [])
    ∷ (eqb m 0, bad_parameter ∷ [])
    ∷ (not (empty (unsupported k (named m))), attribute_failed ∷ replicate 27 0 ++ bytes 2 (mask (unsupported k (named m))))
    ∷ (ltb 25 (total (size_of k) (named m)), bad_parameter ∷ [])
    ∷ []

unfoldable pub get : Catalogue → State → ℕ → ℕ → List ℕ → Answer
get cat s c i v =
    unless_refused s (get_results (holds cat s.table c i) (class cat c) (two v 0)) (s, done ∷ bytes 2 (two v 0) ++ values cat s.table c i (asked v))

-- ---- MIB reset

-- W attributes take their first content again, the others keep theirs
unfoldable pub reset_contents : Class → Contents → Contents
reset_contents k r = each (λ n v. cond (attribute k n).W (first_content [] (attribute k n).source) v) r

unfoldable pub reset_table : Catalogue → Table → Table
reset_table cat t = record { automatic = each (λ k e. each (λ c r. reset_contents (class cat c) r) e) t.automatic; created = [] }

-- does instance j (a key) stay at a reset?
abbrev pub stays : Catalogue → ℕ → Bool
stays cat j = not (is_created (class cat (leader cat (class_of j))).creation)

unfoldable pub was_reset : Catalogue → State → State
was_reset cat s =
    let t : Table = with_counter cat 0 (reset_table cat s.table) in
    with_upload none (with_walk none (with_table t (with_alarms (keep (λ j b. stays cat j) s.alarms) s)))

unfoldable pub reset_results : Catalogue → State → ℕ → ℕ → List (Bool × List ℕ)
reset_results cat s c i = (not (holds cat s.table c i), unknown_instance ∷ []) ∷ []

unfoldable pub reset : Catalogue → State → ℕ → ℕ → Answer
reset cat s c i = unless_refused s (reset_results cat s c i) (was_reset cat s, done ∷ [])

unfoldable pub computing_commands : ℕ
unfolding cut illegal first_content new_contents new_entry carried_by not_zero bad_in_create create_results with_created create goes_with
    without delete_results delete unsupported unwritable set_by bad_in_set set_results moved_by_set set values get_results get
    reset_contents reset_table was_reset reset_results reset
computing_commands = 0
