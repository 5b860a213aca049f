-- What is read of an attribute: a stored one from its instance's contents; and always, of an instance that is there, as many bytes as its size.
use Prim.Native.Nat.{ℕ, ◌<◌}
use mathlib.Core.Path.{◌≡◌, refl, sym, ◌∙◌, ap}
use mathlib.Core.Bool.{true}
use mathlib.Core.Option.{some}
use mathlib.Core.List.{List, [], ◌∷◌, ◌++◌}
use lib.ListN.{length}
use Rattle.rules.specs.Maps.{gather, find, has, keys, among}
use Rattle.rules.specs.Catalogue.{Source, stored, of_creator, count_of, Catalogue, class, known, attribute, supported, size_of, is_stored, leader, family, key}
use Rattle.rules.specs.State.{Entry, Table, class_of, entries, entry, contents, content, how_many_name, read_from, read}
use Rattle.rules.specs.Commands.{values}
use Rattle.rules.specs.Legal.{legal_entry}
use Rattle.rules.specs.WellFormed.{WellFormed, readable_from, read_in_one_of_two_ways}
use Rattle.rules.proofs.Laws.{both, eqb_eq, every_find, find_some, has_among}
use Rattle.rules.proofs.ByteLaws.{length_bytes}
use Rattle.rules.proofs.Lookups.{supported_known, attribute_says}
use Rattle.rules.proofs.Standing.{key_class}
use Rattle.rules.proofs.Families.{in_family, family_has}
use Rattle.legality.proofs.Contents.{value_test, LegalContents, value_of, content_found}
use Rattle.legality.proofs.Tables.{LegalEntry, open_entry, LegalTable}
use Rattle.legality.proofs.Holds.{There, found_in}
use Rattle.legality.proofs.Counter.{contents_legal}
use Rattle.extending.proofs.Sections.{Shown}
use Rattle.demands.proofs.Carried.{its_leader}
use Rattle.demands.proofs.ContentLaws.{stored_is_there}

-- contents that are read one after another
pub values_gathered : (cat : Catalogue) (t : Table) (c i : ℕ) (l : List ℕ) → values cat t c i l ≡ gather (read cat t c i) l
unfolding values gather
values_gathered cat t c i [] = refl
values_gathered cat t c i (n ∷ l) = ap (λ (v : List ℕ). read cat t c i n ++ v) (values_gathered cat t c i l)

module _ (cat : Catalogue) (wf : WellFormed cat) (stand : List ℕ) (t : Table) (h : LegalTable cat wf stand t) where
  -- a stored attribute has a content, of its size
  stored_sized : (c i n : ℕ) → There cat t c i → supported (class cat c) n ≡ true → is_stored (attribute (class cat c) n).source ≡ true
      → length (content n (contents cat t c i)) ≡ size_of (class cat c) n
  unfolding contents entry
  stored_sized c i n x sup st =
      let f = find_some c x.its_entry x.has_class in
      let l : LegalContents cat (class cat c) f.0 = contents_legal cat wf stand t h c i x.its_entry f.0 x.found f.1 in
      let these : contents cat t c i ≡ f.0 = rw (x.found, f.1) refl in
      let v = find_some n (contents cat t c i) (stored_is_there cat wf stand t h c i n x sup st) in
      ap length (content_found n v.0 (contents cat t c i) v.1)
      ∙ (value_of cat (class cat c) f.0 n v.0 (every_find (value_test cat (class cat c) f.0) f.0 l.values n v.0 (ap (find n) (sym these) ∙ v.1))).sized

  -- an entry of the table is one of its key's
  entry_is : (k : ℕ) (e : Entry) → find k (entries t) ≡ some e → LegalEntry cat k e
  entry_is k e f = open_entry cat k e (found_in k t.automatic t.created e f
      (λ y. every_find (legal_entry cat) t.automatic h.automatic_legal k e y)
      (λ no y. every_find (legal_entry cat) t.created h.created_legal k e y))

  -- the instance with which another came stands in the same entry
  leader_there : (c i : ℕ) → There cat t c i → known cat c ≡ true → There cat t (leader cat c) i
  leader_there c i x kn =
      let k : ℕ = key (leader cat c) i in
      let e : Entry = x.its_entry in
      let led : leader cat (leader cat c) ≡ leader cat c = (its_leader cat wf c kn).0 in
      let l : LegalEntry cat k e = entry_is k e x.found in
      let mine : among c (keys (family cat (class_of k))) ≡ true = ap (among c) (sym l.its_keys) ∙ sym (has_among c e) ∙ x.has_class in
      let same : leader cat c ≡ class_of k = (in_family cat wf (class_of k) c mine).1 in
      record {
        its_entry = e;
        found = ap (λ (d : ℕ). find (key d i) (entries t)) led ∙ x.found;
        has_class = has_among (leader cat c) e ∙ ap (among (leader cat c)) l.its_keys
            ∙ ap (λ (d : ℕ). among (leader cat c) (keys (family cat d))) (sym (led ∙ same)) ∙ family_has cat wf (leader cat c) (its_leader cat wf c kn).1;
      }

  -- What is read has the attribute's size, in each way of reading.
  pub read_sized : (c i n : ℕ) → There cat t c i → supported (class cat c) n ≡ true → length (read cat t c i n) ≡ size_of (class cat c) n
  unfolding read read_from read_in_one_of_two_ways readable_from
  read_sized c i n x sup = go (attribute (class cat c) n).source refl
    where
      readable : (src : Source) → (attribute (class cat c) n).source ≡ src → readable_from cat c (size_of (class cat c) n) src ≡ true
      readable src e = ap (readable_from cat c (size_of (class cat c) n)) (sym e)
          ∙ attribute_says (read_in_one_of_two_ways cat) cat wf.unstored_is_readable c n sup

      go : (src : Source) → (attribute (class cat c) n).source ≡ src → length (read_from cat t c i n (size_of (class cat c) n) src) ≡ size_of (class cat c) n
      go (stored f) e = stored_sized c i n x sup (ap is_stored e)
      go (of_creator a) e =
          let y = both (both (readable (of_creator a) e)).1 in
          let z = both y.1 in
          stored_sized (leader cat c) i a (leader_there c i x (supported_known cat c n sup)) y.0 z.0
          ∙ eqb_eq (size_of (class cat (leader cat c)) a) (size_of (class cat c) n) z.1
      go (count_of d a) e = length_bytes (size_of (class cat c) n) (how_many_name d a i t.created)

  -- an instance of a known class is there where its entry is
  pub there_with_its_entry : (c i : ℕ) → known cat c ≡ true → i < 65536 → has (key (leader cat c) i) (entries t) ≡ true → There cat t c i
  there_with_its_entry c i kn small in_table =
      let k : ℕ = key (leader cat c) i in
      let f = find_some k (entries t) in_table in
      record {
        its_entry = f.0;
        found = f.1;
        has_class = has_among c f.0 ∙ ap (among c) (entry_is k f.0 f.1).its_keys
            ∙ ap (λ (d : ℕ). among c (keys (family cat d))) (key_class (leader cat c) i small) ∙ family_has cat wf c kn;
      }

  -- so has what a section shows
  pub what_is_read_has_its_size : (c i n : ℕ) → Shown cat t c i n → length (read cat t c i n) ≡ size_of (class cat c) n
  what_is_read_has_its_size c i n x = read_sized c i n (there_with_its_entry c i x.is_known x.small x.in_table) x.is_supported
