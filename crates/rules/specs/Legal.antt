-- When a content is legal, and which states there are.
use Rattle.std.specs.Prelude.{ℕ, suc, ◌/◌, Bool, true, false, not, cond, List, [], ◌∷◌, map, length, eqb, ltb, leb}
use Rattle.rules.specs.Maps.{◌and◌, ◌or◌, Map, given, keys, keep, every, rising, among, distinct, all, same, gather, is_some}
use Rattle.rules.specs.Maps.{first_that_applies}
use Rattle.rules.specs.Bytes.{byte, two, is_byte, are_bytes}
use Rattle.rules.specs.Catalogue.{Verdict, fine, bad, asks, Creation, created, automatic, comes_with, Class, Catalogue, class}
use Rattle.rules.specs.Catalogue.{known}
use Rattle.rules.specs.Catalogue.{attribute, size_of, stored_numbers, is_fixed, is_created, automatic_numbers, leader, family, key}
use Rattle.rules.specs.Catalogue.{ont_data}
use Rattle.rules.specs.State.{Contents, Entry, Table, Alarms, Memory, State, class_of, number_of, holds, content}

-- ---- contents

-- what a rule may look at beside its own content
unfoldable pub fixed_contents : Class → Contents → ℕ → List ℕ
fixed_contents k r n = cond (is_fixed (attribute k n)) (content n r) []

unfoldable pub passes : (ℕ → ℕ → Bool) → Verdict → Bool
passes there fine = true
passes there bad = false
passes there (asks c i) = there c i

-- is v legal for attribute n of an instance with contents r, where these instances are there?
unfoldable pub legal_content : (ℕ → ℕ → Bool) → Class → Contents → ℕ → List ℕ → Bool
legal_content there k r n v = passes there ((attribute k n).rule v (fixed_contents k r))

-- In a state, a created instance that a rule asks for, or one that came with it, may since be absent (a number has two bytes).
abbrev pub may_be_there : Creation → ℕ → Bool
may_be_there created i = ltb i 65536
may_be_there (automatic l) i = among i l
may_be_there (comes_with c) i = ltb i 65536

abbrev pub there_or_gone : Catalogue → ℕ → ℕ → Bool
there_or_gone cat c i = may_be_there (class cat c).creation i

-- exactly the stored attributes, each with bytes of its size that are legal
unfoldable pub legal_contents : Catalogue → Class → Contents → Bool
legal_contents cat k r = same (keys r) (stored_numbers k)
    and every (λ n v. eqb (length v) (size_of k n) and are_bytes v and legal_content (there_or_gone cat) k r n v) r

-- ---- tables

-- exactly the instance and those that come with it
unfoldable pub legal_entry : Catalogue → ℕ → Entry → Bool
legal_entry cat k e = same (keys e) (keys (family cat (class_of k))) and every (λ c r. legal_contents cat (class cat c) r) e

-- the keys of the instances that are there by themselves, class 2 left out
unfoldable pub keys_of : ℕ → List ℕ → List ℕ
keys_of c [] = []
keys_of c (i ∷ l) = key c i ∷ keys_of c l

unfoldable pub automatic_keys : Catalogue → List ℕ
automatic_keys cat = gather (λ e. keys_of e.0 (automatic_numbers e.1.creation)) (keep (λ c k. not (eqb c ont_data)) cat.classes)

-- `standing` are the keys of the instances that are there by themselves
unfoldable pub legal_table : Catalogue → List ℕ → Table → Bool
legal_table cat standing t = same (keys t.automatic) standing
    and rising (keys t.created)
    and every (λ k e. is_created (class cat (class_of k)).creation) t.created
    and leb (length t.created) cat.places
    and every (legal_entry cat) t.automatic
    and every (legal_entry cat) t.created

abbrev pub legal_live : Catalogue → Table → Bool
legal_live cat t = legal_table cat (key ont_data 0 ∷ automatic_keys cat) t

-- a frozen table is a table without class 2
abbrev pub legal_frozen : Catalogue → Table → Bool
legal_frozen cat t = legal_table cat (automatic_keys cat) t

-- ---- alarms

-- only alarms that are declared are on, `n` the number of the first
unfoldable pub declared_from : ℕ → List ℕ → Alarms → Bool
declared_from n declared [] = true
declared_from n declared (on ∷ b) = (not on or among n declared) and declared_from (suc n) declared b

unfoldable pub some_on : Alarms → Bool
some_on b = not (all not b)

unfoldable pub legal_bitmap : Class → Alarms → Bool
legal_bitmap k b = eqb (length b) 224 and declared_from 0 k.alarms b and some_on b

unfoldable pub legal_bitmaps : Catalogue → (ℕ → ℕ → Bool) → Map Alarms → Bool
legal_bitmaps cat there m = rising (keys m)
    and every (λ k b. there (class_of k) (number_of k) and legal_bitmap (class cat (class_of k)) b) m

-- the entries that a walk's created instances were in
unfoldable pub walked_entries : Catalogue → Map Alarms → List ℕ
walked_entries cat m =
    distinct (map (λ k. key (leader cat (class_of k)) (number_of k))
    (keys (keep (λ k b. is_created (class cat (leader cat (class_of k))).creation) m)))

-- bitmaps as some table has them: of known classes, and of no more created instances than there are places
unfoldable pub legal_walk : Catalogue → Map Alarms → Bool
legal_walk cat m = legal_bitmaps cat (λ c i. known cat c and there_or_gone cat c i) m and leb (length (walked_entries cat m)) cat.places

-- ---- the remembered command

-- drops 4 to 6, in order
unfoldable pub header_drops : List ℕ → List (Bool × ℕ)
header_drops m =
    (not (eqb (byte m 3) 0x0A), 4)
    ∷ (not (eqb (byte m 2 / 32) 2), 5)
    ∷ (eqb (two m 0) 0, 6)
    ∷ []

unfoldable pub legal_memory : Memory → Bool
legal_memory r = eqb (length r.command) 40 and are_bytes r.command and not (is_some (first_that_applies (header_drops r.command)))
    and eqb (length r.reply) 48 and are_bytes r.reply

-- ---- the state

unfoldable pub legal_state : Catalogue → State → Bool
legal_state cat s = legal_live cat s.table
    and legal_bitmaps cat (holds cat s.table) s.alarms
    and is_byte s.alarm_number
    and given s.remembered true legal_memory
    and given s.upload true (legal_frozen cat)
    and given s.walk true (legal_walk cat)

unfoldable pub computing_legal : ℕ
unfolding fixed_contents passes legal_content legal_contents legal_entry keys_of automatic_keys legal_table declared_from some_on
    legal_bitmap legal_bitmaps walked_entries legal_walk header_drops legal_memory legal_state
computing_legal = 0
