-- Demand 2: an upload shows each attribute of each instance exactly once: counted.
use Prim.Native.Nat.{ℕ, suc, ◌+◌, ◌<◌}
use native.Mathlib.Omega.{arith}
use mathlib.Core.Path.{◌≡◌, refl, sym, ◌∙◌, ap}
use mathlib.Core.Bool.{Bool, true, false, cond}
use mathlib.Core.Option.{some}
use mathlib.Core.Logic.{◌≢◌}
use mathlib.Core.List.{List, [], ◌∷◌, ◌++◌, map}
use lib.Dec.{eqb}
use Rattle.rules.specs.Maps.{◌and◌, Map, find, has, keys, keep, gather, among}
use Rattle.rules.specs.Catalogue.{Catalogue, class, known, supported, is_created, leader, family, key}
use Rattle.rules.specs.State.{Entry, Table, State, class_of, number_of, entries, holds}
use Rattle.rules.specs.Legal.{legal_entry, automatic_keys, legal_state}
use Rattle.rules.specs.Walks.{instances_of, sections, frozen}
use Rattle.rules.specs.WellFormed.{WellFormed, attributes_rise}
use Rattle.rules.proofs.Laws.{cases, never, true_false, or_none, true_and, and_true, eqb_true, eqb_false, eqb_eq, eqb_ne, all_among, every_find, find_some, has_among}
use Rattle.rules.proofs.MapLaws.{some_eq, none_some, Up, up_weaken, rising_up, up_among, among_past}
use Rattle.rules.proofs.Lookups.{known_class, class_says, supported_known}
use Rattle.rules.proofs.Families.{family_has}
use Rattle.rules.proofs.Standing.{key_class, automatic_keys_stand, stands_not_created, automatic_rise}
use Rattle.legality.proofs.Tables.{LegalEntry, open_entry, LegalTable, frozen_legal}
use Rattle.legality.proofs.Holds.{There, holds_there, there_holds, Known, holds_known, found_in}
use Rattle.legality.proofs.LegalStates.{open_state}
use Rattle.extending.proofs.Sections.{number_key}
use Rattle.demands.proofs.Uploads.{shown_by, all_attributes, each_attribute_is_shown_once}
use Rattle.legality.proofs.Frozen.{frozen_entry}

-- ---- how often a number is in a list

unfoldable times : ℕ → List ℕ → ℕ
times k [] = 0
times k (x ∷ l) = cond (eqb k x) (suc (times k l)) (times k l)

times_none : (k : ℕ) (l : List ℕ) → among k l ≡ false → times k l ≡ 0
unfolding times among
times_none k [] h = refl
times_none k (x ∷ l) h = let g = or_none h in rw g.0 (times_none k l g.1)

not_above : (k : ℕ) (l : List ℕ) → Up (suc k) l → among k l ≡ false
not_above k l u = cases (among k l) (λ e. let z = up_among (suc k) k l u e in absurd (omega arith)) (λ e. e)

-- once, where numbers rise
times_once : (b k : ℕ) (l : List ℕ) → Up b l → among k l ≡ true → times k l ≡ 1
unfolding times
times_once b k [] u h = never (unfold among in h)
times_once b k (x ∷ l) u h = cases (eqb k x)
    (λ e. let z : x ≡ k = sym (eqb_eq k x e) in
    rw e (ap suc (times_none k l (not_above k l (rw z at u.1)))))
    (λ e. rw e (times_once (suc x) k l u.1 (among_past k x l h (eqb_ne k x e))))

times_append : (k : ℕ) (l m : List ℕ) → times k (l ++ m) ≡ times k l + times k m
unfolding times
times_append k [] m = omega arith
times_append k (x ∷ l) m = let h : times k (l ++ m) ≡ times k l + times k m = times_append k l m in cases (eqb k x) (λ e. rw e (omega arith)) (λ e. rw e (omega arith))

keys_append : {A : Type 0} (l m : Map A) → keys (l ++ m) ≡ keys l ++ keys m
unfolding keys
keys_append [] m = refl
keys_append (x ∷ l) m = ap (λ (y : List ℕ). x.0 ∷ y) (keys_append l m)

-- ---- the instances of a class

times_numbers : {A : Type 0} (d i : ℕ) → i < 65536 → (m : Map A) → times i (map number_of (keys (keep (λ j e. eqb (class_of j) d) m))) ≡ times (key d i) (keys m)
unfolding times keys keep
times_numbers d i small [] = refl
times_numbers d i small (x ∷ m) = cases (eqb (class_of x.0) d)
    (λ u. rw u (λ k. cond (number_key d i x.0 small u k) (suc (times_numbers d i small m k)) (times_numbers d i small m k)))
    (λ u. let ne : class_of x.0 ≢ d = eqb_ne (class_of x.0) d u in
    let other : key d i ≢ x.0 = λ z. ne (omega arith) in
    rw (u, eqb_false (key d i) x.0 other) (times_numbers d i small m))

-- ---- how often an attribute is shown

-- how often attribute n of instance i of class c is in a list
unfoldable pub how_often : ℕ → ℕ → ℕ → List (ℕ × ℕ × ℕ) → ℕ
how_often c i n [] = 0
how_often c i n (x ∷ l) = cond ((eqb c x.0 and eqb i x.1) and eqb n x.2) (suc (how_often c i n l)) (how_often c i n l)

and_none : {a : Bool} (b : Bool) → a ≡ false → (a and b) ≡ false
unfolding ◌and◌
and_none b h = rw h

and_none_right : (a : Bool) {b : Bool} → b ≡ false → (a and b) ≡ false
unfolding ◌and◌
and_none_right a h = cases a (λ e. rw (e, h)) (λ e. rw e)

module _ (c i n : ℕ) where
  often_append : (l m : List (ℕ × ℕ × ℕ)) → how_often c i n (l ++ m) ≡ how_often c i n l + how_often c i n m
  unfolding how_often
  often_append [] m = omega arith
  often_append (x ∷ l) m =
      let h : how_often c i n (l ++ m) ≡ how_often c i n l + how_often c i n m = often_append l m in
      cases ((eqb c x.0 and eqb i x.1) and eqb n x.2) (λ e. rw e (omega arith)) (λ e. rw e (omega arith))

  often_here : (l : List ℕ) → how_often c i n (map (λ m. (c, i, m)) l) ≡ times n l
  unfolding how_often times
  often_here [] = refl
  often_here (m ∷ l) =
      let q : ((eqb c c and eqb i i) and eqb n m) ≡ eqb n m = ap (λ (b : Bool). b and eqb n m) (and_true (eqb_true c c refl) (eqb_true i i refl)) ∙ true_and (eqb n m) in
      λ k. cond (q k) (suc (often_here l k)) (often_here l k)

  often_elsewhere : (d j : ℕ) (l : List ℕ) → (eqb c d and eqb i j) ≡ false → how_often c i n (map (λ m. (d, j, m)) l) ≡ 0
  unfolding how_often
  often_elsewhere d j [] h = refl
  often_elsewhere d j (m ∷ l) h = rw (and_none (eqb n m) h) (often_elsewhere d j l h)

  often_in_class : (l js : List ℕ) → times n l ≡ 1 → how_often c i n (gather (λ j. map (λ m. (c, j, m)) l) js) ≡ times i js
  unfolding gather times how_often
  often_in_class l [] one = refl
  often_in_class l (j ∷ js) one =
      let rest : how_often c i n (gather (λ j. map (λ m. (c, j, m)) l) js) ≡ times i js = often_in_class l js one in
      let sum : how_often c i n (map (λ m. (c, j, m)) l ++ gather (λ j. map (λ m. (c, j, m)) l) js)
      ≡ how_often c i n (map (λ m. (c, j, m)) l) + how_often c i n (gather (λ j. map (λ m. (c, j, m)) l) js) =
      often_append (map (λ m. (c, j, m)) l) (gather (λ j. map (λ m. (c, j, m)) l) js) in
      cases (eqb i j)
      (λ e. let first : how_often c i n (map (λ m. (c, j, m)) l) ≡ 1 = ap (λ (x : ℕ). how_often c i n (map (λ m. (c, x, m)) l)) (sym (eqb_eq i j e)) ∙ often_here l ∙ one in
      rw e (omega arith))
      (λ e. let first : how_often c i n (map (λ m. (c, j, m)) l) ≡ 0 = often_elsewhere c j l (and_none_right (eqb c c) e) in
      rw e (omega arith))

  often_not_there : (l js : List ℕ) → times i js ≡ 0 → how_often c i n (gather (λ j. map (λ m. (c, j, m)) l) js) ≡ 0
  unfolding gather times how_often
  often_not_there l [] no_time = refl
  often_not_there l (j ∷ js) no_time = cases (eqb i j)
      (λ e. let z : suc (times i js) ≡ 0 = rw e at no_time in absurd (omega arith))
      (λ e.
      let first : how_often c i n (map (λ m. (c, j, m)) l) ≡ 0 = often_elsewhere c j l (and_none_right (eqb c c) e) in
      let rest : how_often c i n (gather (λ j. map (λ m. (c, j, m)) l) js) ≡ 0 = often_not_there l js (rw e at no_time) in
      often_append (map (λ m. (c, j, m)) l) (gather (λ j. map (λ m. (c, j, m)) l) js) ∙ omega arith)

  often_in_another : (d : ℕ) (l js : List ℕ) → d ≢ c → how_often c i n (gather (λ j. map (λ m. (d, j, m)) l) js) ≡ 0
  unfolding gather how_often
  often_in_another d l [] ne = refl
  often_in_another d l (j ∷ js) ne =
      let rest : how_often c i n (gather (λ j. map (λ m. (d, j, m)) l) js) ≡ 0 = often_in_another d l js ne in
      let first : how_often c i n (map (λ m. (d, j, m)) l) ≡ 0 = often_elsewhere d j l (and_none (eqb i j) (eqb_false c d (λ z. ne (sym z)))) in
      often_append (map (λ m. (d, j, m)) l) (gather (λ j. map (λ m. (d, j, m)) l) js) ∙ omega arith

  module _ {A : Type 0} (f : ℕ × A → List (ℕ × ℕ × ℕ)) (others : (d : ℕ) (a : A) → d ≢ c → how_often c i n (f (d, a)) ≡ 0) where
    often_later : (m : Map A) → Up (suc c) (keys m) → how_often c i n (gather f m) ≡ 0
    unfolding gather how_often keys
    often_later [] u = refl
    often_later (e ∷ m) u =
        let z = u.0 in
        let first : how_often c i n (f e) ≡ 0 = others e.0 e.1 (λ y. absurd (omega arith)) in
        let rest : how_often c i n (gather f m) ≡ 0 = often_later m (up_weaken (suc c) (suc e.0) (keys m) (omega arith) u.1) in
        often_append (f e) (gather f m) ∙ omega arith

    often_of_no_class : (m : Map A) → among c (keys m) ≡ false → how_often c i n (gather f m) ≡ 0
    unfolding gather how_often keys among
    often_of_no_class [] h = refl
    often_of_no_class (e ∷ m) h =
        let g = or_none h in
        let first : how_often c i n (f e) ≡ 0 = others e.0 e.1 (λ y. eqb_ne c e.0 g.0 (sym y)) in
        let rest : how_often c i n (gather f m) ≡ 0 = often_of_no_class m g.1 in
        often_append (f e) (gather f m) ∙ omega arith

    -- only the entry of this class counts
    often_of_class : (b : ℕ) (m : Map A) → Up b (keys m) → (a : A) → find c m ≡ some a → how_often c i n (gather f m) ≡ how_often c i n (f (c, a))
    unfolding gather find keys
    often_of_class b [] u a h = none_some h
    often_of_class b (e ∷ m) u a h = cases (eqb c e.0)
        (λ y. let z : e.0 ≡ c = sym (eqb_eq c e.0 y) in
        let w : e.1 ≡ a = some_eq (rw y at h) in
        let first : how_often c i n (f e) ≡ how_often c i n (f (c, a)) = λ k. how_often c i n (f (z k, w k)) in
        let rest : how_often c i n (gather f m) ≡ 0 = often_later m (rw z at u.1) in
        often_append (f e) (gather f m) ∙ omega arith)
        (λ y. let first : how_often c i n (f e) ≡ 0 = others e.0 e.1 (λ z. eqb_ne c e.0 y (sym z)) in
        let rest : how_often c i n (gather f m) ≡ how_often c i n (f (c, a)) = often_of_class (suc e.0) m u.1 a (rw y at h) in
        often_append (f e) (gather f m) ∙ omega arith)

-- ---- frozen tables

module _ (cat : Catalogue) (wf : WellFormed cat) (t : Table) (h : LegalTable cat wf (automatic_keys cat) t) where
  entry_once : (k : ℕ) (e : Entry) → find k (entries t) ≡ some e → times k (keys (entries t)) ≡ 1
  entry_once k e found =
      let sum : times k (keys (entries t)) ≡ times k (keys t.automatic) + times k (keys t.created) = ap (times k) (keys_append t.automatic t.created)
      ∙ times_append k (keys t.automatic) (keys t.created) in
      found_in k t.automatic t.created e found
      (λ x.
      let here : among k (keys t.automatic) ≡ true = rw (← has_among k t.automatic, x) refl in
      let one : times k (keys t.automatic) ≡ 1 = ap (times k) h.automatic_keys
      ∙ times_once 0 k (automatic_keys cat) (automatic_rise cat wf) (ap (among k) (sym h.automatic_keys) ∙ here) in
      let zero : times k (keys t.created) ≡ 0 = times_none k (keys t.created) (cases (among k (keys t.created))
      (λ y. let f = find_some k t.created (has_among k t.created ∙ y) in
      true_false (every_find (λ k e. is_created (class cat (class_of k)).creation) t.created h.all_created k f.0 f.1)
      (stands_not_created cat wf k (all_among _ (automatic_keys cat) (automatic_keys_stand cat wf) k (ap (among k) (sym h.automatic_keys) ∙ here))))
      (λ y. y)) in
      omega arith)
      (λ gone x.
      let here : among k (keys t.created) ≡ true = rw (← has_among k t.created, x) refl in
      let one : times k (keys t.created) ≡ 1 = times_once 0 k (keys t.created) (rising_up (keys t.created) h.rise) here in
      let zero : times k (keys t.automatic) ≡ 0 = times_none k (keys t.automatic) (sym (has_among k t.automatic) ∙ rw gone refl) in
      omega arith)

  -- In a frozen legal table of any well-formed catalogue, each attribute of each instance that is there is shown exactly once by the sections.
  pub each_attribute_of_a_frozen_table_is_shown_exactly_once : (c i n : ℕ) → i < 65536 → holds cat t c i ≡ true → supported (class cat c) n ≡ true
      → how_often c i n (shown_by (sections cat t)) ≡ 1
  unfolding all_attributes instances_of attributes_rise
  each_attribute_of_a_frozen_table_is_shown_exactly_once c i n small there sup =
      let x : There cat t c i = holds_there cat t c i there in
      let kn : known cat c ≡ true = supported_known cat c n sup in
      let one : times n (keys (class cat c).attributes) ≡ 1 = times_once 0 n (keys (class cat c).attributes)
      (rising_up (keys (class cat c).attributes) (class_says attributes_rise cat wf.attributes_in_order c kn))
      (sym (has_among n (class cat c).attributes) ∙ sup) in
      ap (how_often c i n) (each_attribute_is_shown_once cat t)
      ∙ often_of_class c i n (λ e. gather (λ j. map (λ m. (e.0, j, m)) (keys e.1.attributes)) (instances_of e.0 e.1 t))
      (λ d k ne. often_in_another c i n d (keys k.attributes) (instances_of d k t) ne)
      0 cat.classes (rising_up (keys cat.classes) wf.classes_rise) (class cat c) (known_class cat c kn)
      ∙ often_in_class c i n (keys (class cat c).attributes) (instances_of c (class cat c) t) one
      ∙ times_numbers (leader cat c) i small (entries t)
      ∙ entry_once (key (leader cat c) i) x.its_entry x.found

  -- In a frozen legal table of any well-formed catalogue, nothing of an instance that isn't there is shown.
  pub nothing_is_shown_of_an_instance_that_is_not_there : (c i n : ℕ) → i < 65536 → holds cat t c i ≡ false → how_often c i n (shown_by (sections cat t)) ≡ 0
  unfolding all_attributes instances_of
  nothing_is_shown_of_an_instance_that_is_not_there c i n small gone =
      ap (how_often c i n) (each_attribute_is_shown_once cat t)
      ∙ cases (known cat c)
      (λ kn. often_of_class c i n (λ e. gather (λ j. map (λ m. (e.0, j, m)) (keys e.1.attributes)) (instances_of e.0 e.1 t))
      (λ d k ne. often_in_another c i n d (keys k.attributes) (instances_of d k t) ne)
      0 cat.classes (rising_up (keys cat.classes) wf.classes_rise) (class cat c) (known_class cat c kn)
      ∙ often_not_there c i n (keys (class cat c).attributes) (instances_of c (class cat c) t)
      (times_numbers (leader cat c) i small (entries t) ∙ times_none (key (leader cat c) i) (keys (entries t)) (no_key kn)))
      (λ un. often_of_no_class c i n (λ e. gather (λ j. map (λ m. (e.0, j, m)) (keys e.1.attributes)) (instances_of e.0 e.1 t))
      (λ d k ne. often_in_another c i n d (keys k.attributes) (instances_of d k t) ne)
      cat.classes (sym (has_among c cat.classes) ∙ un))
    where
      no_key : known cat c ≡ true → among (key (leader cat c) i) (keys (entries t)) ≡ false
      no_key kn = cases (among (key (leader cat c) i) (keys (entries t)))
          (λ y.
          let k : ℕ = key (leader cat c) i in
          let f = find_some k (entries t) (has_among k (entries t) ∙ y) in
          let legal : LegalEntry cat k f.0 = open_entry cat k f.0 (found_in k t.automatic t.created f.0 f.1
          (λ x. every_find (legal_entry cat) t.automatic h.automatic_legal k f.0 x)
          (λ z x. every_find (legal_entry cat) t.created h.created_legal k f.0 x)) in
          let has_it : has c f.0 ≡ true = has_among c f.0 ∙ ap (among c) legal.its_keys ∙ ap (λ (d : ℕ). among c (keys (family cat d))) (key_class (leader cat c) i small)
          ∙ family_has cat wf c kn in
          true_false (there_holds cat t c i (record { its_entry = f.0; found = f.1; has_class = has_it })) gone)
          (λ y. y)

-- ---- an upload

module _ (cat : Catalogue) (wf : WellFormed cat) (s : State) (legal : legal_state cat s ≡ true) where
  -- An upload that is asked for in a legal state of any well-formed catalogue shows each attribute of each instance that is there then, class 2
  -- apart, exactly once.
  pub an_upload_shows_each_attribute_exactly_once : (c i n : ℕ) → c ≢ 2 → holds cat s.table c i ≡ true → supported (class cat c) n ≡ true
      → how_often c i n (shown_by (sections cat (frozen s.table))) ≡ 1
  unfolding frozen
  an_upload_shows_each_attribute_exactly_once c i n ne there sup =
      let l = (open_state cat wf s legal).its_table in
      let t : Table = s.table in
      let k : ℕ = key (leader cat c) i in
      let x : There cat t c i = holds_there cat t c i there in
      let y : Known cat wf t l c i = holds_known cat wf t l c i there in
      let still : find k (entries (frozen t)) ≡ some x.its_entry = frozen_entry cat wf c t i y.small y.is_known ne ∙ x.found in
      each_attribute_of_a_frozen_table_is_shown_exactly_once cat wf (frozen t) (frozen_legal cat wf t l) c i n y.small
      (there_holds cat (frozen t) c i (record { its_entry = x.its_entry; found = still; has_class = x.has_class })) sup
