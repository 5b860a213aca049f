-- A new instance's contents are legal: what the Create carried, and first contents.
use Prim.Native.Nat.{ℕ}
use mathlib.Core.Path.{◌≡◌, refl, ◌∙◌}
use mathlib.Core.Bool.{true, false, cond}
use mathlib.Core.List.{List, []}
use Rattle.rules.specs.Maps.{keys, keep, rising}
use Rattle.rules.specs.Catalogue.{constant, copied, Source, stored, of_creator, count_of, Attribute, Catalogue, class, known, attribute, supported, is_stored, stored_numbers}
use Rattle.rules.specs.Catalogue.{is_fixed, is_created, leader, Class}
use Rattle.rules.specs.State.{Contents, content}
use Rattle.rules.specs.Legal.{fixed_contents, legal_content}
use Rattle.rules.specs.Commands.{first_content, new_contents}
use Rattle.rules.specs.WellFormed.{WellFormed, rights_only_if_stored, C_only_if_created, attributes_rise, FirstIsLegal}
use Rattle.rules.proofs.Laws.{cases, never, both, or_left, or_right, keys_each, every_each, find_each}
use Rattle.rules.proofs.MapLaws.{rising_keep, every_if_found, found_kept, find_kept}
use Rattle.rules.proofs.Lookups.{implied, class_says, found_attribute, known_attribute, C_supported, attribute_says, leads_itself}
use Rattle.legality.proofs.Contents.{Value, value_test, of_value, value_agrees, LegalContents}

-- what a Create of class d carried is legal
abbrev pub CarriedIsLegal : Catalogue → ℕ → Contents → Type 0
CarriedIsLegal cat d carried = (n : ℕ) → (attribute (class cat d) n).C ≡ true → Value cat (class cat d) carried n (content n carried)

abbrev pub start : Contents → ℕ → Attribute → List ℕ
start carried n a = cond a.C (content n carried) (first_content carried a.source)

pub keys_of_new : (k : Class) (carried : Contents) → keys (new_contents carried k) ≡ stored_numbers k
unfolding new_contents stored_numbers
keys_of_new k carried = keys_each (start carried) (keep (λ n a. is_stored a.source) k.attributes)

pub content_of_new : (k : Class) (carried : Contents) (n : ℕ) → supported k n ≡ true → is_stored (attribute k n).source ≡ true
    → content n (new_contents carried k) ≡ start carried n (attribute k n)
unfolding content new_contents
content_of_new k carried n s t = rw (
  find_each (start carried) n (keep (λ n a. is_stored a.source) k.attributes),
  find_kept (λ n a. is_stored a.source) n (attribute k n) k.attributes (known_attribute k n s) t,
)

module _ (cat : Catalogue) (wf : WellFormed cat) where
  -- a set-by-create attribute is stored, and of a class that leads itself
  pub C_is_stored : (c n : ℕ) → (attribute (class cat c) n).C ≡ true → is_stored (attribute (class cat c) n).source ≡ true
  unfolding rights_only_if_stored
  C_is_stored c n h = implied (attribute_says rights_only_if_stored cat wf.rights_if_stored c n (C_supported (class cat c) n h))
      (or_right (attribute (class cat c) n).W (or_left (attribute (class cat c) n).L h))

  pub C_is_created : (c n : ℕ) → (attribute (class cat c) n).C ≡ true → is_created (class cat c).creation ≡ true
  unfolding C_only_if_created
  C_is_created c n h = implied (attribute_says C_only_if_created cat wf.C_if_created c n (C_supported (class cat c) n h)) h

  pub C_leads : (c n : ℕ) → (attribute (class cat c) n).C ≡ true → leader cat c ≡ c
  C_leads c n h = leads_itself c (class cat c).creation (C_is_created c n h)

  pub attributes_in_order : (c : ℕ) → known cat c ≡ true → rising (keys (class cat c).attributes) ≡ true
  unfolding attributes_rise
  attributes_in_order c h = class_says attributes_rise cat wf.attributes_in_order c h

  module _ (c : ℕ) (kn : known cat c ≡ true) (carried : Contents) (ok : CarriedIsLegal cat (leader cat c) carried) where
    pub carried_agrees : fixed_contents (class cat c) carried ≡ fixed_contents (class cat c) (new_contents carried (class cat c))
    unfolding fixed_contents
    carried_agrees = λ i n. go n i
      where
        go : (n : ℕ) → cond (is_fixed (attribute (class cat c) n)) (content n carried) []
            ≡ cond (is_fixed (attribute (class cat c) n)) (content n (new_contents carried (class cat c))) []
        go n = cases (is_fixed (attribute (class cat c) n))
            (λ e. let s : (attribute (class cat c) n).C ≡ true = (both e).0 in
            rw (e, content_of_new (class cat c) carried n (C_supported (class cat c) n s) (C_is_stored c n s), s))
            (λ e. rw e)

    first_value : (n : ℕ) → supported (class cat c) n ≡ true → (attribute (class cat c) n).C ≡ false → (src : Source) → is_stored src ≡ true
        → FirstIsLegal cat c (attribute (class cat c) n) src → Value cat (class cat c) (new_contents carried (class cat c)) n (first_content carried src)
    unfolding first_content legal_content
    first_value n s t (stored (constant v)) i f = record { sized = f.0; bytes = f.1; legal = f.2 (fixed_contents (class cat c) (new_contents carried (class cat c))) }
    first_value n s t (stored (copied m)) i f =
        let d : ℕ = leader cat c in
        let v = ok m f.1 in
        record {
          sized = v.sized ∙ f.2;
          bytes = v.bytes;
          legal = f.3 (content m carried) (fixed_contents (class cat d) carried) (fixed_contents (class cat c) (new_contents carried (class cat c))) (v.sized ∙ f.2) v.bytes v.legal;
        }
    first_value n s t (of_creator a) i f = never i
    first_value n s t (count_of d a) i f = never i

    pub start_value : (n : ℕ) → supported (class cat c) n ≡ true → is_stored (attribute (class cat c) n).source ≡ true
        → Value cat (class cat c) (new_contents carried (class cat c)) n (start carried n (attribute (class cat c) n))
    start_value n s t = cases (attribute (class cat c) n).C
        (λ e. rw e (value_agrees cat (class cat c) carried (new_contents carried (class cat c)) n (content n carried) carried_agrees
        (let z : leader cat c ≡ c = C_leads c n e in rw z at (ok n (rw z e)))))
        (λ e. rw e (first_value n s e (attribute (class cat c) n).source t (wf.first_contents_are_legal c n s e)))

    pub legal_new : LegalContents cat (class cat c) (new_contents carried (class cat c))
    unfolding new_contents stored_numbers
    legal_new =
        let m = keep (λ n a. is_stored a.source) (class cat c).attributes in
        let order : rising (keys (class cat c).attributes) ≡ true = attributes_in_order c kn in
        record {
          its_keys = keys_of_new (class cat c) carried;
          values = rw (every_each (value_test cat (class cat c) (new_contents carried (class cat c))) (start carried) m)
              (every_if_found (λ n a. value_test cat (class cat c) (new_contents carried (class cat c)) n (start carried n a)) m
              (rising_keep (λ n a. is_stored a.source) (class cat c).attributes order)
              (λ n a e.
              let f = found_kept (λ n a. is_stored a.source) (class cat c).attributes order n a e in
              let z : attribute (class cat c) n ≡ a = found_attribute (class cat c) n a f.0 in
              rw (← z) (of_value cat (class cat c) (new_contents carried (class cat c)) n (start carried n (attribute (class cat c) n))
              (start_value n (rw f.0 refl) (rw z f.1)))));
        }
