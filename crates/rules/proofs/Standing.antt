-- The keys of the instances that are there by themselves.
use Prim.Native.Nat.{ℕ, suc, ◌+◌, ◌*◌, ◌≤◌, ◌<◌}
use native.Mathlib.Omega.{arith}
use mathlib.Core.Path.{◌≡◌, refl, sym, ◌∙◌, ap}
use mathlib.Core.Bool.{Bool, true, false, not}
use mathlib.Core.Option.{some}
use mathlib.Core.Logic.{◌≢◌}
use mathlib.Core.List.{List, [], ◌∷◌, ◌++◌}
use lib.Dec.{eqb, ltb}
use Rattle.rules.specs.Maps.{◌and◌, Map, find, keys, keep, every, gather, among, all}
use Rattle.rules.specs.Catalogue.{Creation, created, automatic, comes_with, Class, Catalogue, no_class, class, known, is_created, automatic_numbers, lead, leader, key}
use Rattle.rules.specs.Catalogue.{ont_data}
use Rattle.rules.specs.State.{class_of, number_of}
use Rattle.rules.specs.Legal.{keys_of, automatic_keys}
use Rattle.rules.specs.WellFormed.{WellFormed, automatic_numbers_rise}
use Rattle.rules.proofs.Laws.{cases, never, not-true, both, and_true, or_cases, or_left, or_right, eqb_true, eqb_false, eqb_eq, eqb_ne, ltb_lt, all_among, every_keep}
use Rattle.rules.proofs.MapLaws.{Up, up_weaken, rising_up, up_keep, rising_keep, each_of_every, every_if_found, found_kept, find_kept, all_gather, among_gather}
use Rattle.rules.proofs.Lookups.{found_class, unknown_class, class_says}

pub all_imp : (p q : ℕ → Bool) → ((k : ℕ) → p k ≡ true → q k ≡ true) → (l : List ℕ) → all p l ≡ true → all q l ≡ true
unfolding all
all_imp p q f [] h = refl
all_imp p q f (x ∷ l) h = and_true (f x (both h).0) (all_imp p q f l (both h).1)

pub all_self : (l : List ℕ) → all (λ i. among i l) l ≡ true
unfolding all among
all_self [] = refl
all_self (x ∷ l) = and_true (or_left (among x l) (eqb_true x x refl))
    (all_imp (λ i. among i l) (λ i. among i (x ∷ l)) (λ k h. or_right (eqb k x) h) l (all_self l))

-- an automatic instance of a class other than 2
abbrev pub stands : Catalogue → ℕ → Bool
stands cat k = known cat (class_of k) and not (eqb (class_of k) ont_data) and among (number_of k) (automatic_numbers (class cat (class_of k)).creation)

pub key_class : (c i : ℕ) → i < 65536 → class_of (key c i) ≡ c
key_class c i h = omega arith

pub key_number : (c i : ℕ) → i < 65536 → number_of (key c i) ≡ i
key_number c i h = omega arith

pub key_back : (k : ℕ) → key (class_of k) (number_of k) ≡ k
key_back k = omega arith

-- ---- their order

up_keys_of : (c b : ℕ) (l rest : List ℕ) → b ≤ 65536 → Up b l → all (λ i. ltb i 65536) l ≡ true → Up (suc c * 65536) rest → Up (c * 65536 + b) (keys_of c l ++ rest)
unfolding keys_of all
up_keys_of c b [] rest n u h v = up_weaken (c * 65536 + b) (suc c * 65536) rest (omega arith) v
up_keys_of c b (i ∷ l) rest n u h v =
    let g = u.0 in
    let t : i < 65536 = ltb_lt i 65536 (both h).0 in (
      omega arith,
      let r : Up (c * 65536 + suc i) (keys_of c l ++ rest) = up_keys_of c (suc i) l rest (omega arith) u.1 (both h).1 v in
          up_weaken (suc (key c i)) (c * 65536 + suc i) (keys_of c l ++ rest) (omega arith) r,
    )

up_gathered : (b : ℕ) (m : Map Class) → Up b (keys m) → every automatic_numbers_rise m ≡ true
    → Up (b * 65536) (gather (λ e. keys_of e.0 (automatic_numbers e.1.creation)) m)
unfolding keys every gather automatic_numbers_rise
up_gathered b [] u h = tt
up_gathered b (e ∷ m) u h =
    let g = u.0 in
    let l : List ℕ = automatic_numbers e.1.creation in
    let r : List ℕ = gather (λ (e : ℕ × Class). keys_of e.0 (automatic_numbers e.1.creation)) m in
    up_weaken (b * 65536) (e.0 * 65536 + 0) (keys_of e.0 l ++ r) (omega arith)
    (up_keys_of e.0 0 l r (omega arith) (rising_up l (both (both h).0).0) (both (both h).0).1 (up_gathered (suc e.0) m u.1 (both h).1))

among_keys_of : (c i : ℕ) (l : List ℕ) → among i l ≡ true → among (key c i) (keys_of c l) ≡ true
unfolding among keys_of
among_keys_of c i [] h = never h
among_keys_of c i (j ∷ l) h = or_cases h
    (λ e. or_left (among (key c i) (keys_of c l)) (eqb_true (key c i) (key c j) (ap (key c) (eqb_eq i j e))))
    (λ e. or_right (eqb (key c i) (key c j)) (among_keys_of c i l e))

module _ (cat : Catalogue) (wf : WellFormed cat) where
  stand_of : (c : ℕ) → known cat c ≡ true → c ≢ ont_data → (l : List ℕ)
      → all (λ i. ltb i 65536) l ≡ true → all (λ i. among i (automatic_numbers (class cat c).creation)) l ≡ true
      → all (stands cat) (keys_of c l) ≡ true
  unfolding all keys_of
  stand_of c kn ne [] small here = refl
  stand_of c kn ne (i ∷ l) small here =
      let lt : i < 65536 = ltb_lt i 65536 (both small).0 in
      and_true
      (rw (key_class c i lt, key_number c i lt) (and_true kn (and_true (rw (eqb_false c ont_data ne)) (both here).0)))
      (stand_of c kn ne l (both small).1 (both here).1)

  pub automatic_keys_stand : all (stands cat) (automatic_keys cat) ≡ true
  unfolding automatic_keys automatic_numbers_rise
  automatic_keys_stand =
      let others = keep (λ c k. not (eqb c ont_data)) cat.classes in
      all_gather (λ e. keys_of e.0 (automatic_numbers e.1.creation)) (stands cat) others
      (each_of_every (λ c k. all (stands cat) (keys_of c (automatic_numbers k.creation))) others (every_if_found (λ c k. all (stands cat) (keys_of c (automatic_numbers k.creation))) others
      (rising_keep (λ c k. not (eqb c ont_data)) cat.classes wf.classes_rise)
      (λ c k e.
      let f = found_kept (λ c k. not (eqb c ont_data)) cat.classes wf.classes_rise c k e in
      let kn : known cat c ≡ true = rw f.0 refl in
      let z : class cat c ≡ k = found_class cat c k f.0 in
      let r = both (class_says automatic_numbers_rise cat wf.automatic_in_order c kn) in
      rw (← z) (stand_of c kn (eqb_ne c ont_data (not-true f.1)) (automatic_numbers (class cat c).creation) r.1
      (all_self (automatic_numbers (class cat c).creation))))))

  abbrev pub standing : List ℕ
  standing = key ont_data 0 ∷ automatic_keys cat

  pub numbers_of_automatic : (creation : Creation) (i : ℕ) → among i (automatic_numbers creation) ≡ true → is_created creation ≡ false
  unfolding among
  numbers_of_automatic created i h = never h
  numbers_of_automatic (automatic l) i h = refl
  numbers_of_automatic (comes_with d) i h = never h

  -- what stands by itself is known, automatic and in the list of its class
  pub record Stands (k : ℕ) : Type 0 where
    pub is_known : known cat (class_of k) ≡ true
    pub in_list : among (number_of k) (automatic_numbers (class cat (class_of k)).creation) ≡ true

  pub class_2_known : known cat ont_data ≡ true
  unfolding no_class
  class_2_known = cases (known cat ont_data) (λ t. t)
      (λ t. absurd (let z : automatic [] ≡ automatic (0 ∷ []) = ap (λ (k : Class). k.creation) (sym (unknown_class cat ont_data t)) ∙ wf.class_2_has_instance_0_alone in
      let y : ◌≡◌ {A = List ℕ} [] (0 ∷ []) = cc in let x : ◌≡◌ {A = ℕ} 0 1 = cc in omega arith))

  pub stands_by_itself : (k : ℕ) → among k standing ≡ true → Stands k
  unfolding among
  stands_by_itself k h = or_cases h
      (λ e. let z : k ≡ key ont_data 0 = eqb_eq k (key ont_data 0) e in rw z (record {
        is_known = class_2_known;
        in_list = rw wf.class_2_has_instance_0_alone (or_left false refl);
      }))
      (λ e. let g = both (all_among (stands cat) (automatic_keys cat) automatic_keys_stand k e) in
      record { is_known = g.0; in_list = (both g.1).1 })

  pub standing_not_created : (k : ℕ) → among k standing ≡ true → is_created (class cat (class_of k)).creation ≡ false
  standing_not_created k h = numbers_of_automatic (class cat (class_of k)).creation (number_of k) (stands_by_itself k h).in_list

  pub stands_not_created : (k : ℕ) → stands cat k ≡ true → is_created (class cat (class_of k)).creation ≡ false
  stands_not_created k h = numbers_of_automatic (class cat (class_of k)).creation (number_of k) (both (both h).1).1

  numbers_lead : (creation : Creation) (c i : ℕ) → among i (automatic_numbers creation) ≡ true → lead c creation ≡ c
  unfolding among
  numbers_lead created c i h = refl
  numbers_lead (automatic l) c i h = refl
  numbers_lead (comes_with d) c i h = never h

  -- it leads itself
  pub stands_leads : (k : ℕ) → stands cat k ≡ true → leader cat (class_of k) ≡ class_of k
  stands_leads k h = numbers_lead (class cat (class_of k)).creation (class_of k) (number_of k) (both (both h).1).1

  pub standing_leads : (k : ℕ) → among k standing ≡ true → leader cat (class_of k) ≡ class_of k
  standing_leads k h = numbers_lead (class cat (class_of k)).creation (class_of k) (number_of k) (stands_by_itself k h).in_list

  -- they rise
  pub automatic_rise : Up 0 (automatic_keys cat)
  unfolding automatic_keys
  automatic_rise =
      let others = keep (λ c k. not (eqb c ont_data)) cat.classes in
      up_gathered 0 others (up_keep (λ c k. not (eqb c ont_data)) 0 cat.classes (rising_up (keys cat.classes) wf.classes_rise))
      (every_keep automatic_numbers_rise (λ c k. not (eqb c ont_data)) cat.classes wf.automatic_in_order)

-- an automatic number of a class other than class 2
pub automatic_among : (cat : Catalogue) (c i : ℕ) (k : Class) → find c cat.classes ≡ some k → c ≢ ont_data → among i (automatic_numbers k.creation) ≡ true
    → among (key c i) (automatic_keys cat) ≡ true
unfolding automatic_keys
automatic_among cat c i k f n h =
    among_gather (λ e. keys_of e.0 (automatic_numbers e.1.creation)) (key c i) c k (keep (λ c k. not (eqb c ont_data)) cat.classes)
    (find_kept (λ c k. not (eqb c ont_data)) c k cat.classes f (rw (eqb_false c ont_data n)))
    (among_keys_of c i (automatic_numbers k.creation) h)
