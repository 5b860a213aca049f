-- Which instances are there, before and after a change of the table.
use Prim.Native.Nat.{ℕ, ◌<◌}
use native.Mathlib.Omega.{arith}
use mathlib.Core.Path.{◌≡◌, refl, sym, ◌∙◌, ap}
use mathlib.Core.Bool.{true, false, cond}
use mathlib.Core.Option.{Option, none, some}
use mathlib.Core.Logic.{◌≢◌}
use mathlib.Core.List.{List, [], ◌++◌}
use lib.Dec.{eqb}
use Rattle.rules.specs.Maps.{Map, given, find, has, keys, put, remove, each, at_key, among}
use Rattle.rules.specs.Catalogue.{Creation, created, automatic, comes_with, Catalogue, class, known, is_created, automatic_numbers, leader, lead, family, key}
use Rattle.rules.specs.State.{Contents, Entry, Table, class_of, entries, entry, holds, change}
use Rattle.rules.specs.Legal.{legal_entry, may_be_there, there_or_gone}
use Rattle.rules.specs.Commands.{with_created, reset_contents, reset_table}
use Rattle.rules.specs.WellFormed.{WellFormed}
use Rattle.rules.proofs.Laws.{cases, never, true_false, eqb_eq, lt-ltb, every_find, keys_each, find_each, has_among}
use Rattle.rules.proofs.MapLaws.{find_append, each_append, find_put, find_remove}
use Rattle.rules.proofs.Families.{in_family}
use Rattle.rules.proofs.Standing.{standing, Stands, stands_by_itself, standing_not_created, key_class, key_number}
use Rattle.legality.proofs.Tables.{LegalEntry, open_entry, LegalLive}

-- an instance that is there: its entry, found and with its class
pub record There (cat : Catalogue) (t : Table) (c i : ℕ) : Type 0 where
  pub its_entry : Entry
  pub found : find (key (leader cat c) i) (entries t) ≡ some its_entry
  pub has_class : has c its_entry ≡ true

pub holds_there : (cat : Catalogue) (t : Table) (c i : ℕ) → holds cat t c i ≡ true → There cat t c i
unfolding holds entry find
holds_there cat t c i h = go (find (key (leader cat c) i) (entries t)) refl h
  where
    go : (o : Option Entry) → find (key (leader cat c) i) (entries t) ≡ o → has c (given o [] (λ e. e)) ≡ true → There cat t c i
    go none e y = never y
    go (some x) e y = record { its_entry = x; found = e; has_class = y }

pub there_holds : (cat : Catalogue) (t : Table) (c i : ℕ) → There cat t c i → holds cat t c i ≡ true
unfolding holds entry
there_holds cat t c i h = rw h.found h.has_class

pub has_each : {A B : Type 0} (f : ℕ → A → B) (k : ℕ) (m : Map A) → has k (each f m) ≡ has k m
has_each f k m = has_among k (each f m) ∙ ap (λ (l : List ℕ). among k l) (keys_each f m) ∙ sym (has_among k m)

-- the entries of a table are found among the automatic ones or among the created ones
pub found_in {ℓ} : {X : Type ℓ} (k : ℕ) (a b : Map Entry) (e : Entry) → find k (a ++ b) ≡ some e
    → (find k a ≡ some e → X) → (find k a ≡ none → find k b ≡ some e → X) → X
found_in {X = X} k a b e h f g = go (find k a) refl (rw (find_append k a b) at h)
  where
    go : (o : Option Entry) → find k a ≡ o → given o (find k b) some ≡ some e → X
    go none x y = g x y
    go (some z) x y = f (x ∙ y)

pub find_in_created : (k : ℕ) (a b : Map Entry) (e : Entry) → find k a ≡ none → find k b ≡ some e → find k (a ++ b) ≡ some e
find_in_created k a b e x y = rw (find_append k a b, x, y)

pub find_in_automatic : (k : ℕ) (a b : Map Entry) (e : Entry) → find k a ≡ some e → find k (a ++ b) ≡ some e
find_in_automatic k a b e x = rw (find_append k a b, x)

module _ (cat : Catalogue) (wf : WellFormed cat) (t : Table) (h : LegalLive cat wf t) where
  -- an entry's key and contents, wherever it stands
  pub entry_legal : (k : ℕ) (e : Entry) → find k (entries t) ≡ some e → LegalEntry cat k e
  entry_legal k e f = open_entry cat k e (found_in k t.automatic t.created e f
      (λ x. every_find (legal_entry cat) t.automatic h.automatic_legal k e x)
      (λ n x. every_find (legal_entry cat) t.created h.created_legal k e x))

  pub automatic_stands : (k : ℕ) (e : Entry) → find k t.automatic ≡ some e → among k (standing cat wf) ≡ true
  automatic_stands k e x = rw (← h.automatic_keys, ← has_among k t.automatic, x) refl

  pub is_created_one : (k : ℕ) (e : Entry) → find k t.created ≡ some e → is_created (class cat (class_of k)).creation ≡ true
  is_created_one k e x = every_find (λ k e. is_created (class cat (class_of k)).creation) t.created h.all_created k e x

  -- a created one isn't among the automatic ones
  pub created_alone : (k : ℕ) → is_created (class cat (class_of k)).creation ≡ true → find k t.automatic ≡ none
  created_alone k cr = go (find k t.automatic) refl
    where
      go : (o : Option Entry) → find k t.automatic ≡ o → find k t.automatic ≡ none
      go none e = e
      go (some x) e = true_false cr (standing_not_created cat wf k (automatic_stands k x e))

  -- what is known of an instance that is there
  pub record Known (c i : ℕ) : Type 0 where
    pub is_known : known cat c ≡ true
    pub small : i < 65536
    pub may_be : there_or_gone cat c i ≡ true

  pub there_known : (c i : ℕ) → There cat t c i → Known c i
  there_known c i x =
      let e : Entry = x.its_entry in
      let k : ℕ = key (leader cat c) i in
      let l : LegalEntry cat k e = entry_legal k e x.found in
      let m : among c (keys (family cat (class_of k))) ≡ true = rw (← l.its_keys, ← has_among c e) x.has_class in
      let f = in_family cat wf (class_of k) c m in
      let led : leader cat c ≡ class_of k = f.1 in
      let small : i < 65536 = omega arith in
      record {
        is_known = f.0;
        small = small;
        may_be = found_in k t.automatic t.created e x.found
            (λ y. let s : Stands cat wf k = stands_by_itself cat wf k (automatic_stands k e y) in
            listed (class cat c).creation small (λ z. let w : class_of k ≡ c = sym led ∙ z in
            rw (w, key_number (leader cat c) i small) at s.in_list))
            (λ n y. let cr : is_created (class cat (class_of k)).creation ≡ true = is_created_one k e y in
            not_automatic (class cat c).creation small (λ z. let w : class_of k ≡ c = sym led ∙ z in rw w at cr));
      }
    where
      listed : (creation : Creation) → i < 65536 → (lead c creation ≡ c → among i (automatic_numbers creation) ≡ true) → may_be_there creation i ≡ true
      listed created small f = lt-ltb i 65536 small
      listed (automatic l) small f = f refl
      listed (comes_with d) small f = lt-ltb i 65536 small

      not_automatic : (creation : Creation) → i < 65536 → (lead c creation ≡ c → is_created creation ≡ true) → may_be_there creation i ≡ true
      not_automatic created small f = lt-ltb i 65536 small
      not_automatic (automatic l) small f = never (f refl)
      not_automatic (comes_with d) small f = lt-ltb i 65536 small

  pub holds_known : (c i : ℕ) → holds cat t c i ≡ true → Known c i
  holds_known c i y = there_known c i (holds_there cat t c i y)

  -- ---- after a change

  pub entries_change : (c i : ℕ) (f : Contents → Contents) → entries (change cat c i f t) ≡ at_key (key (leader cat c) i) (at_key c f) (entries t)
  unfolding change
  entries_change c i f = sym (each_append (λ j a. cond (eqb j (key (leader cat c) i)) (at_key c f a) a) t.automatic t.created)

  pub holds_change : (c i : ℕ) (f : Contents → Contents) (d j : ℕ) → holds cat t d j ≡ true → holds cat (change cat c i f t) d j ≡ true
  holds_change c i f d j y =
      let x : There cat t d j = holds_there cat t d j y in
      let k : ℕ = key (leader cat c) i in
      let g : ℕ → Entry → Entry = λ n a. cond (eqb n k) (at_key c f a) a in
      let kk : ℕ = key (leader cat d) j in
      there_holds cat (change cat c i f t) d j (record {
        its_entry = g kk x.its_entry;
        found = rw (entries_change c i f, find_each g kk (entries t), x.found);
        has_class = cases (eqb kk k)
            (λ u. rw (u, has_each (λ n a. cond (eqb n c) (f a) a) d x.its_entry) x.has_class)
            (λ u. rw u x.has_class);
      })

  -- a new entry holds what its family says
  pub holds_create : (k : ℕ) (e : Entry) → LegalEntry cat k e → (d j : ℕ) → holds cat t d j ≡ true
      → holds cat (with_created (put k e t.created) t) d j ≡ true
  unfolding with_created
  holds_create k e le d j y =
      let x : There cat t d j = holds_there cat t d j y in
      let kk : ℕ = key (leader cat d) j in
      let there : (a : Entry) → find kk (t.automatic ++ put k e t.created) ≡ some a → has d a ≡ true → holds cat (with_created (put k e t.created) t) d j ≡ true =
      λ a p q. there_holds cat (with_created (put k e t.created) t) d j (record { its_entry = a; found = p; has_class = q }) in
      found_in kk t.automatic t.created x.its_entry x.found
      (λ p. there x.its_entry (find_in_automatic kk t.automatic (put k e t.created) x.its_entry p) x.has_class)
      (λ n p. cases (eqb kk k)
      (λ u. let z : kk ≡ k = eqb_eq kk k u in
      there e (find_in_created kk t.automatic (put k e t.created) e n (rw (find_put kk k e t.created, u)))
      (rw (has_among d e, le.its_keys, ← z, ← (entry_legal kk x.its_entry x.found).its_keys, ← has_among d x.its_entry) x.has_class))
      (λ u. there x.its_entry (find_in_created kk t.automatic (put k e t.created) x.its_entry n (rw (find_put kk k e t.created, u) p)) x.has_class))

  pub holds_delete : (c i : ℕ) (d j : ℕ) → i < 65536 → j < 65536 → (leader cat d ≡ c → j ≡ i → ⊥) → holds cat t d j ≡ true
      → holds cat (with_created (remove (key c i) t.created) t) d j ≡ true
  unfolding with_created
  holds_delete c i d j small smaller other y =
      let x : There cat t d j = holds_there cat t d j y in
      let kk : ℕ = key (leader cat d) j in
      let differs : kk ≢ key c i = λ z. other (omega arith) (omega arith) in
      there_holds cat (with_created (remove (key c i) t.created) t) d j (record {
        its_entry = x.its_entry;
        found = found_in kk t.automatic t.created x.its_entry x.found
            (λ p. find_in_automatic kk t.automatic (remove (key c i) t.created) x.its_entry p)
            (λ n p. find_in_created kk t.automatic (remove (key c i) t.created) x.its_entry n
            (find_remove kk (key c i) t.created differs ∙ p));
        has_class = x.has_class;
      })

  pub holds_reset : (d j : ℕ) → is_created (class cat (leader cat d)).creation ≡ false → holds cat t d j ≡ true → holds cat (reset_table cat t) d j ≡ true
  unfolding reset_table
  holds_reset d j stay y =
      let x : There cat t d j = holds_there cat t d j y in
      let kk : ℕ = key (leader cat d) j in
      let small : j < 65536 = (there_known d j x).small in
      let g : ℕ → Entry → Entry = λ k e. each (λ c r. reset_contents (class cat c) r) e in
      there_holds cat (reset_table cat t) d j (record {
        its_entry = g kk x.its_entry;
        found = found_in kk t.automatic t.created x.its_entry x.found
            (λ p. find_in_automatic kk (each g t.automatic) [] (g kk x.its_entry) (rw (find_each g kk t.automatic, p)))
            (λ n p. true_false (rw (key_class (leader cat d) j small) at (is_created_one kk x.its_entry p)) stay);
        has_class = rw (has_each (λ c r. reset_contents (class cat c) r) d x.its_entry) x.has_class;
      })
