-- What stands in an upload is sent by one of its Nexts.
use Prim.Native.Nat.{ℕ, suc, ◌≤◌, ◌<◌}
use native.Mathlib.Omega.{arith}
use mathlib.Core.Path.{◌≡◌, refl, sym, ap}
use mathlib.Core.Bool.{true}
use mathlib.Core.Option.{some}
use mathlib.Core.List.{List, [], ◌∷◌, ◌++◌, append_assoc}
use lib.ListN.{length}
use Rattle.rules.specs.Maps.{◌and◌, among, nth}
use Rattle.rules.specs.Bytes.{bytes}
use Rattle.rules.specs.Catalogue.{Catalogue}
use Rattle.rules.specs.State.{Table, State, read}
use Rattle.rules.specs.Legal.{legal_frozen}
use Rattle.rules.specs.Commands.{values}
use Rattle.rules.specs.WellFormed.{WellFormed}
use Rattle.rules.specs.Walks.{Section, sections, section_contents, if_ont_data, upload_next}
use Rattle.rules.proofs.Laws.{never, both, or_cases, eqb_eq}
use Rattle.extending.specs.Promise.{stands_in, SameUploads}
use Rattle.rules.proofs.ByteLaws.{two_of_bytes}

-- where an attribute stands in sections, one of them shows it
pub record InOne (l : List Section) (c i n : ℕ) : Type 0 where
  pub index : ℕ
  pub its_section : Section
  pub found : nth l index ≡ some its_section
  pub in_range : index < length l
  pub its_class : its_section.of_class ≡ c
  pub its_instance : its_section.of_instance ≡ i
  pub shows_it : among n its_section.shows ≡ true

pub in_one : (l : List Section) (c i n : ℕ) → stands_in l c i n ≡ true → InOne l c i n
unfolding stands_in nth
in_one [] c i n h = never h
in_one (p ∷ l) c i n h = or_cases h
    (λ x. record {
      index = 0;
      its_section = p;
      found = refl;
      in_range = omega arith;
      its_class = eqb_eq p.of_class c (both x).0;
      its_instance = eqb_eq p.of_instance i (both (both x).1).0;
      shows_it = (both (both x).1).1;
    })
    (λ x. let r = in_one l c i n x in let z = r.in_range in
    record { index = suc r.index; its_section = r.its_section; found = r.found; in_range = omega arith; its_class = r.its_class; its_instance = r.its_instance; shows_it = r.shows_it })

-- Some Upload Next below the count answers with a section of this instance that names the attribute.
pub record Fetched (cat : Catalogue) (s : State) (t : Table) (c i n : ℕ) : Type 0 where
  pub index : ℕ
  pub in_range : index < length (sections cat t)
  pub shows : List ℕ
  pub shows_it : among n shows ≡ true
  pub the_reply : (upload_next cat s 2 0 (bytes 2 index)).1 ≡ section_contents cat t (record { of_class = c; of_instance = i; shows = shows })

relabelled : (cat : Catalogue) (t : Table) (p : Section) (c i : ℕ) → p.of_class ≡ c → p.of_instance ≡ i
    → section_contents cat t p ≡ section_contents cat t (record { of_class = c; of_instance = i; shows = p.shows })
relabelled cat t p c i d e = rw (← d, ← e) refl

pub what_stands_is_fetched : (cat : Catalogue) → WellFormed cat → (s : State) (t : Table) → s.upload ≡ some t → legal_frozen cat t ≡ true
    → (c i n : ℕ) → stands_in (sections cat t) c i n ≡ true → Fetched cat s t c i n
unfolding upload_next if_ont_data ◌and◌
what_stands_is_fetched cat wf s t e legal c i n h =
    let x = in_one (sections cat t) c i n h in
    let short = wf.uploads_are_short t legal in
    let r = x.in_range in
    let small : x.index ≤ 65535 = omega arith in
    record {
      index = x.index;
      in_range = x.in_range;
      shows = x.its_section.shows;
      shows_it = x.shows_it;
      the_reply = rw (e, two_of_bytes x.index small, x.found) (relabelled cat t x.its_section c i x.its_class x.its_instance);
    }

-- its content is among the values, as it is read
pub record Shown (cat : Catalogue) (t : Table) (c i n : ℕ) (l : List ℕ) : Type 0 where
  pub before : List ℕ
  pub after : List ℕ
  pub is_split : l ≡ before ++ n ∷ after
  pub content_there : values cat t c i l ≡ values cat t c i before ++ (read cat t c i n ++ values cat t c i after)

pub its_content_is_shown : (cat : Catalogue) (t : Table) (c i n : ℕ) (l : List ℕ) → among n l ≡ true → Shown cat t c i n l
unfolding among values
its_content_is_shown cat t c i n [] h = never h
its_content_is_shown cat t c i n (x ∷ l) h = or_cases h
    (λ e. record { before = []; after = l; is_split = rw (eqb_eq n x e) refl; content_there = rw (eqb_eq n x e) refl })
    (λ e. let r = its_content_is_shown cat t c i n l e in
    record {
      before = x ∷ r.before;
      after = r.after;
      is_split = ap (λ k. x ∷ k) r.is_split;
      content_there = rw r.content_there (sym (append_assoc (read cat t c i x) (values cat t c i r.before) (read cat t c i n ++ values cat t c i r.after)));
    })

-- Each attribute in the upload that the first was asked for last is sent by some Upload Next of the second, with the same content.
pub each_attribute_is_fetched_from_the_second : (first second : Catalogue) → WellFormed second → (s z : State) → SameUploads first second s z
    → ((u : Table) → z.upload ≡ some u → legal_frozen second u ≡ true) → (t : Table) → s.upload ≡ some t → (c i n : ℕ) → stands_in (sections first t) c i n ≡ true
    → (u : Table) × (z.upload ≡ some u) × Fetched second z u c i n × (read second u c i n ≡ read first t c i n)
each_attribute_is_fetched_from_the_second first second wf s z same legal t e c i n h =
    let x = same t e in
    (x.0, x.1, what_stands_is_fetched second wf z x.0 x.1 (legal x.0 x.1) c i n (x.2.stands_too c i n h), x.2.same_content c i n h)
