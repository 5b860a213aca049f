-- What is done to a table leaves it legal.
use Prim.Native.Nat.{ℕ, suc, ◌≤◌, ◌<◌}
use native.Mathlib.Omega.{arith}
use mathlib.Core.Path.{◌≡◌, refl, ◌∙◌, ap}
use mathlib.Core.Bool.{Bool, true, false, not, cond}
use mathlib.Core.Option.{some}
use mathlib.Core.List.{List, [], ◌∷◌, map}
use lib.ListN.{length}
use lib.Dec.{eqb}
use Rattle.rules.specs.Maps.{◌and◌, Map, find, keys, put, keep, remove, every, each, at_key, among, all, those, rising}
use Rattle.rules.specs.Catalogue.{created, automatic, Catalogue, class, attribute, is_created, leader, family, key, ont_data}
use Rattle.rules.specs.State.{Contents, Entry, Table, class_of, change}
use Rattle.rules.specs.Legal.{legal_contents, legal_entry, legal_table, automatic_keys}
use Rattle.rules.specs.Commands.{new_contents, new_entry, with_created, reset_contents, reset_table}
use Rattle.rules.specs.Walks.{frozen}
use Rattle.rules.specs.Run.{fresh_table}
use Rattle.rules.specs.WellFormed.{WellFormed}
use Rattle.rules.proofs.Laws.{cases, true_false, both, and_true, eqb_eq, leb_le, le-leb, same_eq, eq_same, every_find, every_keep, every_put, every_imp, keys_each, every_each}
use Rattle.rules.proofs.Laws.{has_among}
use Rattle.rules.proofs.MapLaws.{rising_put, rising_keep, length_put, length_keep, at_absent, every_if_found, every_with_keys}
use Rattle.rules.proofs.Lookups.{found_class}
use Rattle.rules.proofs.Families.{family_rises, found_in_family, in_family}
use Rattle.legality.proofs.Contents.{LegalContents, open_contents, close_contents}
use Rattle.legality.proofs.NewContents.{CarriedIsLegal, C_is_created, legal_new}
use Rattle.legality.proofs.ResetContents.{legal_reset}
use Rattle.rules.proofs.Standing.{all_imp, all_self, stands, automatic_keys_stand, standing, standing_not_created, key_class}

pub length_each : {A B : Type 0} (f : ℕ → A → B) (m : Map A) → length (each f m) ≡ length m
unfolding each
length_each f [] = refl
length_each f (x ∷ m) = ap suc (length_each f m)

-- ---- entries

pub record LegalEntry (cat : Catalogue) (k : ℕ) (e : Entry) : Type 0 where
  pub its_keys : keys e ≡ keys (family cat (class_of k))
  pub its_contents : every (λ c r. legal_contents cat (class cat c) r) e ≡ true

pub open_entry : (cat : Catalogue) (k : ℕ) (e : Entry) → legal_entry cat k e ≡ true → LegalEntry cat k e
unfolding legal_entry
open_entry cat k e h = record { its_keys = same_eq (keys e) (keys (family cat (class_of k))) (both h).0; its_contents = (both h).1 }

pub close_entry : (cat : Catalogue) (k : ℕ) (e : Entry) → LegalEntry cat k e → legal_entry cat k e ≡ true
unfolding legal_entry
close_entry cat k e h = and_true (eq_same (keys e) (keys (family cat (class_of k))) h.its_keys) h.its_contents

abbrev pub KeepsLegal : Catalogue → ℕ → (Contents → Contents) → Contents → Type 0
KeepsLegal cat c f r = LegalContents cat (class cat c) r → LegalContents cat (class cat c) (f r)

module _ (cat : Catalogue) (wf : WellFormed cat) where
  pub entry_each : (k : ℕ) (e : Entry) (g : ℕ → Contents → Contents) → ((d : ℕ) (r : Contents) → find d e ≡ some r → KeepsLegal cat d (g d) r)
      → LegalEntry cat k e → LegalEntry cat k (each g e)
  entry_each k e g step h = record {
    its_keys = keys_each g e ∙ h.its_keys;
    its_contents = rw (every_each (λ c r. legal_contents cat (class cat c) r) g e)
        (every_if_found (λ c r. legal_contents cat (class cat c) (g c r)) e (rw h.its_keys (family_rises cat wf (class_of k)))
        (λ d r f. close_contents cat (class cat d) (g d r)
        (step d r f (open_contents cat (class cat d) r (every_find (λ c r. legal_contents cat (class cat c) r) e h.its_contents d r f)))));
  }

  -- one class's contents changed
  pub entry_at : (k : ℕ) (e : Entry) (c : ℕ) (f : Contents → Contents) → ((r : Contents) → find c e ≡ some r → KeepsLegal cat c f r)
      → LegalEntry cat k e → LegalEntry cat k (at_key c f e)
  entry_at k e c f step h = entry_each k e (λ j a. cond (eqb j c) (f a) a)
      (λ d r g. cases (eqb d c)
      (λ t. let z : d ≡ c = eqb_eq d c t in rw (t, z) (step r (rw z at g)))
      (λ t. rw t (λ old. old))) h

  -- ---- tables

  pub record LegalTable (stand : List ℕ) (t : Table) : Type 0 where
    pub automatic_keys : keys t.automatic ≡ stand
    pub rise : rising (keys t.created) ≡ true
    pub all_created : every (λ k e. is_created (class cat (class_of k)).creation) t.created ≡ true
    pub in_places : length t.created ≤ cat.places
    pub automatic_legal : every (legal_entry cat) t.automatic ≡ true
    pub created_legal : every (legal_entry cat) t.created ≡ true

  pub open_table : (stand : List ℕ) (t : Table) → legal_table cat stand t ≡ true → LegalTable stand t
  unfolding legal_table
  open_table stand t h =
      let h₁ = both h in
      let h₂ = both h₁.1 in
      let h₃ = both h₂.1 in
      let h₄ = both h₃.1 in
      let h₅ = both h₄.1 in
      record {
        automatic_keys = same_eq (keys t.automatic) stand h₁.0;
        rise = h₂.0;
        all_created = h₃.0;
        in_places = leb_le (length t.created) cat.places h₄.0;
        automatic_legal = h₅.0;
        created_legal = h₅.1;
      }

  pub close_table : (stand : List ℕ) (t : Table) → LegalTable stand t → legal_table cat stand t ≡ true
  unfolding legal_table
  close_table stand t h =
      and_true (eq_same (keys t.automatic) stand h.automatic_keys)
      (and_true h.rise (and_true h.all_created (and_true (le-leb (length t.created) cat.places h.in_places) (and_true h.automatic_legal h.created_legal))))

  abbrev pub LegalLive : Table → Type 0
  LegalLive t = LegalTable (standing cat wf) t

  -- ---- a change of one instance

  -- an instance that can't be created may be changed in any way that keeps every content legal; a created one as it stands
  pub change_legal : (c i : ℕ) (f : Contents → Contents) (t : Table)
      → (is_created (class cat (leader cat c)).creation ≡ false → (r : Contents) → KeepsLegal cat c f r)
      → ((e : Entry) (r : Contents) → find (key (leader cat c) i) t.created ≡ some e → find c e ≡ some r → KeepsLegal cat c f r)
      → i < 65536 → LegalLive t → LegalLive (change cat c i f t)
  unfolding change
  change_legal c i f t any_r this_r lt h =
      let k : ℕ = key (leader cat c) i in
      let g : ℕ → Entry → Entry = λ j a. cond (eqb j k) (at_key c f a) a in
      record {
        automatic_keys = keys_each g t.automatic ∙ h.automatic_keys;
        rise = rw (keys_each g t.created) h.rise;
        all_created = rw (every_each (λ k e. is_created (class cat (class_of k)).creation) g t.created) h.all_created;
        in_places = rw (length_each g t.created) h.in_places;
        automatic_legal = cases (is_created (class cat (leader cat c)).creation)
            (λ e. rw (at_absent k (at_key c f) t.automatic (rw h.automatic_keys (absent k e lt))) h.automatic_legal)
            (λ e. rw (every_each (legal_entry cat) g t.automatic)
            (every_imp (legal_entry cat) (λ j a. legal_entry cat j (g j a)) (λ j a old. cases (eqb j k)
            (λ u. rw u (close_entry cat j (at_key c f a) (entry_at j a c f (λ r x. any_r e r) (open_entry cat j a old))))
            (λ u. rw u old)) t.automatic h.automatic_legal));
        created_legal = rw (every_each (legal_entry cat) g t.created)
            (every_if_found (λ j a. legal_entry cat j (g j a)) t.created h.rise (λ j a x.
            let old : legal_entry cat j a ≡ true = every_find (legal_entry cat) t.created h.created_legal j a x in
            cases (eqb j k)
            (λ u. let z : j ≡ k = eqb_eq j k u in
            rw u (close_entry cat j (at_key c f a) (entry_at j a c f (λ r y. this_r a r (rw z at x) y) (open_entry cat j a old))))
            (λ u. rw u old)));
      }
    where
      absent : (k : ℕ) → is_created (class cat (leader cat c)).creation ≡ true → i < 65536 → among (key (leader cat c) i) (standing cat wf) ≡ false
      absent k e lt = cases (among (key (leader cat c) i) (standing cat wf))
          (λ y. true_false e (rw (key_class (leader cat c) i lt) at (standing_not_created cat wf (key (leader cat c) i) y)))
          (λ y. y)

  -- the same where every change keeps contents legal
  pub change_any : (c i : ℕ) (f : Contents → Contents) (t : Table) → ((r : Contents) → KeepsLegal cat c f r) → i < 65536 → LegalLive t → LegalLive (change cat c i f t)
  change_any c i f t any_r lt h = change_legal c i f t (λ e r. any_r r) (λ e r x y. any_r r) lt h

  -- ---- new entries

  pub new_entry_legal : (k : ℕ) (carried : Contents) → CarriedIsLegal cat (class_of k) carried → LegalEntry cat k (new_entry cat (class_of k) carried)
  unfolding new_entry
  new_entry_legal k carried ok =
      let fam = family cat (class_of k) in
      record {
        its_keys = keys_each (λ d j. new_contents carried j) fam;
        its_contents = rw (every_each (λ c r. legal_contents cat (class cat c) r) (λ d j. new_contents carried j) fam)
            (every_if_found (λ d j. legal_contents cat (class cat d) (new_contents carried j)) fam (family_rises cat wf (class_of k)) (λ d j x.
            let g = found_in_family cat wf (class_of k) d j x in
            let z : class cat d ≡ j = found_class cat d j g.0 in
            let w : leader cat d ≡ class_of k = rw z g.1 in
            rw (← z) (close_contents cat (class cat d) (new_contents carried (class cat d)) (legal_new cat wf d (rw g.0 refl) carried (rw w ok)))));
      }

  pub create_legal : (k : ℕ) (e : Entry) (t : Table) → is_created (class cat (class_of k)).creation ≡ true → length t.created < cat.places
      → LegalEntry cat k e → LegalLive t → LegalLive (with_created (put k e t.created) t)
  unfolding with_created
  create_legal k e t cr room ok h = record {
    automatic_keys = h.automatic_keys;
    rise = rising_put k e t.created h.rise;
    all_created = every_put (λ k e. is_created (class cat (class_of k)).creation) k e t.created h.all_created cr;
    in_places = omega (arith, length_put k e t.created);
    automatic_legal = h.automatic_legal;
    created_legal = every_put (legal_entry cat) k e t.created h.created_legal (close_entry cat k e ok);
  }

  -- ---- fewer entries

  pub delete_legal : (k : ℕ) (t : Table) → LegalLive t → LegalLive (with_created (remove k t.created) t)
  unfolding with_created
  delete_legal k t h = record {
    automatic_keys = h.automatic_keys;
    rise = rising_keep (λ j a. not (eqb j k)) t.created h.rise;
    all_created = every_keep (λ k e. is_created (class cat (class_of k)).creation) (λ j a. not (eqb j k)) t.created h.all_created;
    in_places = omega (arith, h.in_places, length_keep (λ j a. not (eqb j k)) t.created);
    automatic_legal = h.automatic_legal;
    created_legal = every_keep (legal_entry cat) (λ j a. not (eqb j k)) t.created h.created_legal;
  }

  -- the entry of an automatic instance holds its class alone, and stays at a reset
  pub automatic_stays : (k d : ℕ) → among k (standing cat wf) ≡ true → among d (keys (family cat (class_of k))) ≡ true
      → is_created (class cat (leader cat d)).creation ≡ false
  automatic_stays k d h m = rw (in_family cat wf (class_of k) d m).1 (standing_not_created cat wf k h)

  reset_entry : (k : ℕ) (e : Entry) → among k (standing cat wf) ≡ true → LegalEntry cat k e → LegalEntry cat k (each (λ c r. reset_contents (class cat c) r) e)
  reset_entry k e here h = entry_each k e (λ c r. reset_contents (class cat c) r)
      (λ d r f. legal_reset cat wf d (automatic_stays k d here (rw (← h.its_keys, ← has_among d e, f) refl)) r) h

  pub reset_legal : (t : Table) → LegalLive t → LegalLive (reset_table cat t)
  unfolding reset_table every
  reset_legal t h =
      let g : ℕ → Entry → Entry = λ k e. each (λ c r. reset_contents (class cat c) r) e in
      record {
        automatic_keys = keys_each g t.automatic ∙ h.automatic_keys;
        rise = unfold rising keys in refl;
        all_created = refl;
        in_places = omega arith;
        automatic_legal = rw (every_each (legal_entry cat) g t.automatic)
            (every_imp (λ k e. among k (standing cat wf) and legal_entry cat k e) (λ k e. legal_entry cat k (g k e))
            (λ k e x. close_entry cat k (g k e) (reset_entry k e (both x).0 (open_entry cat k e (both x).1)))
            t.automatic
            (every_with_keys (legal_entry cat) (standing cat wf) t.automatic (λ k y. rw h.automatic_keys at y) h.automatic_legal));
        created_legal = refl;
      }

  -- ---- power-on

  pub keys_map : {A : Type 0} (f : ℕ → A) (l : List ℕ) → keys (map (λ k. (k, f k)) l) ≡ l
  unfolding keys
  keys_map f [] = refl
  keys_map f (k ∷ l) = ap (λ (x : List ℕ). k ∷ x) (keys_map f l)

  pub every_map : {A : Type 0} (p : ℕ → A → Bool) (f : ℕ → A) (l : List ℕ) → all (λ k. p k (f k)) l ≡ true → every p (map (λ k. (k, f k)) l) ≡ true
  unfolding every all
  every_map p f [] h = refl
  every_map p f (k ∷ l) h = and_true (both h).0 (every_map p f l (both h).1)

  -- an automatic instance carries nothing
  nothing_carried_by : (k : ℕ) → is_created (class cat (class_of k)).creation ≡ false → CarriedIsLegal cat (class_of k) []
  nothing_carried_by k e n t = true_false t (no_C k e n)
    where
      no_C : (k : ℕ) → is_created (class cat (class_of k)).creation ≡ false → (n : ℕ) → (attribute (class cat (class_of k)) n).C ≡ false
      no_C k e n = cases (attribute (class cat (class_of k)) n).C
          (λ y. true_false (C_is_created cat wf (class_of k) n y) e) (λ y. y)

  pub fresh_legal : LegalLive (fresh_table cat)
  unfolding fresh_table every
  fresh_legal =
      let g : ℕ → Entry = λ k. new_entry cat (class_of k) [] in
      record {
        automatic_keys = keys_map g (standing cat wf);
        rise = unfold rising keys in refl;
        all_created = refl;
        in_places = omega arith;
        automatic_legal = every_map (legal_entry cat) g (standing cat wf)
            (all_imp (λ k. among k (standing cat wf)) (λ k. legal_entry cat k (g k))
            (λ k here. close_entry cat k (g k) (new_entry_legal k [] (nothing_carried_by k (standing_not_created cat wf k here))))
            (standing cat wf) (all_self (standing cat wf)));
        created_legal = refl;
      }

  -- ---- freezing

  keys_keep : {A : Type 0} (p : ℕ → Bool) (m : Map A) → keys (keep (λ k a. p k) m) ≡ those p (keys m)
  unfolding keys keep those
  keys_keep p [] = refl
  keys_keep p (x ∷ m) = cases (p x.0) (λ t. rw t (ap (λ (l : List ℕ). x.0 ∷ l) (keys_keep p m))) (λ t. rw t (keys_keep p m))

  those_all : (p : ℕ → Bool) (l : List ℕ) → all p l ≡ true → those p l ≡ l
  unfolding those all
  those_all p [] h = refl
  those_all p (k ∷ l) h = rw (both h).0 (ap (λ (x : List ℕ). k ∷ x) (those_all p l (both h).1))

  pub frozen_keys : those (λ k. not (eqb (class_of k) ont_data)) (standing cat wf) ≡ automatic_keys cat
  unfolding those
  frozen_keys = those_all (λ k. not (eqb (class_of k) ont_data)) (automatic_keys cat)
      (all_imp (stands cat) (λ k. not (eqb (class_of k) ont_data)) (λ k h. (both (both h).1).0) (automatic_keys cat) (automatic_keys_stand cat wf))

  pub frozen_legal : (t : Table) → LegalLive t → LegalTable (automatic_keys cat) (frozen t)
  unfolding frozen
  frozen_legal t h =
      let p : ℕ → Entry → Bool = λ k e. not (eqb (class_of k) ont_data) in
      record {
        automatic_keys = keys_keep (λ k. not (eqb (class_of k) ont_data)) t.automatic ∙ ap (λ (l : List ℕ). those (λ k. not (eqb (class_of k) ont_data)) l) h.automatic_keys
            ∙ frozen_keys;
        rise = h.rise;
        all_created = h.all_created;
        in_places = h.in_places;
        automatic_legal = every_keep (legal_entry cat) p t.automatic h.automatic_legal;
        created_legal = h.created_legal;
      }
