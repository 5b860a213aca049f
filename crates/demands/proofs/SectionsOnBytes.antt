-- A section of an upload, on the bytes of the reply that it comes in: class, instance and mask stand where the message format says, and
-- behind them the content of each attribute that the mask names, as it is read in the frozen table, and zeros behind the last.
use Prim.Native.Nat.{ℕ, ◌+◌, ◌≤◌, ◌<◌}
use native.Mathlib.Omega.{arith}
use mathlib.Core.Path.{◌≡◌, refl, sym, ◌∙◌, ap}
use mathlib.Core.Bool.{true}
use mathlib.Core.Option.{some}
use mathlib.Core.List.{List, [], ◌∷◌, ◌++◌}
use lib.ListN.{length, take, drop}
use Rattle.rules.specs.Maps.{◌and◌, ◌or◌, gather, among, first_that_applies, nth}
use Rattle.rules.specs.Bytes.{byte, two, bytes}
use Rattle.rules.specs.Masks.{mask, total}
use Rattle.rules.specs.Catalogue.{Catalogue, class, size_of}
use Rattle.rules.specs.State.{Table, read}
use Rattle.rules.specs.Legal.{automatic_keys, legal_frozen}
use Rattle.rules.specs.Messages.{contents_in, reply_to, Answer, unless_refused}
use Rattle.rules.specs.Walks.{Section, sections, section_contents, if_ont_data, upload_next}
use Rattle.rules.specs.WellFormed.{WellFormed, class_number_in_two_bytes}
use Rattle.rules.specs.Run.{perform, first_results, answer}
use Rattle.rules.specs.Products.{Products}
use Rattle.rules.proofs.Laws.{ltb_lt, among_here}
use Rattle.rules.proofs.MapLaws.{rising_up}
use Rattle.rules.proofs.Lookups.{class_says}
use Rattle.store.specs.Decode.{Held}
use Rattle.store.specs.Fitting.{AllFit}
use Rattle.legality.proofs.Tables.{open_table}
use Rattle.legality.proofs.LegalStates.{open_state}
use Rattle.bits.proofs.Masks.{Within, within_rising, mask_small, named_mask}
use Rattle.extending.proofs.Sections.{Shown}
use Rattle.demands.specs.Sent.{number_at, mask_names, bytes_before, value_from, shown_in_section}
use Rattle.demands.proofs.SentLaws.{named_are, same_before, two_in_a_reply, length_gathered, shown_is, zero_behind_them}
use Rattle.demands.proofs.AnsweredOnBytes.{AnsweredAnew, two_in_contents, its_length, its_catalogue_is_well_formed, its_state_is_legal, its_reply}
use Rattle.demands.proofs.Readings.{values_gathered, what_is_read_has_its_size}
use Rattle.demands.proofs.SectionLaws.{one_of_that_index, what_it_shows_is_there, what_it_shows_rises}
use Rattle.demands.proofs.Uploads.{every_section_fits, no_section_is_empty}

-- ---- bytes of a reply

-- A reply whose contents are two numbers, the mask of some attributes and their values, one behind the other.
module _ (m : List ℕ) (long : length m ≡ 48) (size : ℕ → ℕ) (value : ℕ → List ℕ) (c i : ℕ) (l : List ℕ) (rises : Within 1 l)
    (sized : (n : ℕ) → among n l ≡ true → length (value n) ≡ size n) (fits : total size l ≤ 26) where
  abbrev its_contents : List ℕ
  its_contents = bytes 2 c ++ bytes 2 i ++ bytes 2 (mask l) ++ gather value l

  abbrev its_bytes : List ℕ
  its_bytes = reply_to m its_contents

  contents_length : length its_contents ≡ 6 + total size l
  unfolding bytes
  contents_length = let z = length_gathered size value l sized in omega arith

  class_there : c < 65536 → number_at its_bytes 8 ≡ c
  unfolding bytes
  class_there small = two_in_a_reply m its_contents 0 long (let z = contents_length in omega arith) (omega arith) ∙ omega arith

  instance_there : i < 65536 → number_at its_bytes 10 ≡ i
  unfolding bytes
  instance_there small = two_in_a_reply m its_contents 2 long (let z = contents_length in omega arith) (omega arith) ∙ omega arith

  mask_there : number_at its_bytes 12 ≡ mask l
  unfolding bytes
  mask_there = let small = mask_small l rises in two_in_a_reply m its_contents 4 long (let z = contents_length in omega arith) (omega arith) ∙ omega arith

  -- the mask names these attributes
  names_there : (n : ℕ) → mask_names (number_at its_bytes 12) n ≡ among n l
  names_there n = ap (λ (k : ℕ). mask_names k n) mask_there ∙ sym (named_are (mask l) n) ∙ ap (among n) (named_mask l rises)

  -- and each value stands behind the bytes of those before it, the first at byte 14
  value_there : (n : ℕ) → mask_names (number_at its_bytes 12) n ≡ true → value_from 14 size (mask_names (number_at its_bytes 12)) its_bytes n ≡ value n
  unfolding value_from bytes
  value_there n named =
      let here : among n l ≡ true = sym (names_there n) ∙ named in
      let before = same_before size (mask_names (number_at its_bytes 12)) (λ k. among k l) n (λ k lt. names_there k) in
      ap (λ (b : ℕ). take (size n) (drop (14 + b) its_bytes)) before
      ∙ shown_is m (bytes 2 c ++ bytes 2 i ++ bytes 2 (mask l)) 6 size value l long refl (omega arith) (rising_up l (within_rising 1 l rises)) sized n here

  -- and behind the last stand zeros
  zeros_there : (j : ℕ) → 14 + bytes_before size (mask_names (number_at its_bytes 12)) 17 ≤ j → j < 40 → byte its_bytes j ≡ 0
  unfolding bytes
  zeros_there j behind in_40 =
      let all = same_before size (mask_names (number_at its_bytes 12)) (λ k. among k l) 17 (λ k lt. names_there k) in
      zero_behind_them m (bytes 2 c ++ bytes 2 i ++ bytes 2 (mask l)) 6 size value l long refl rises sized j (omega arith) in_40

-- ---- the reply to an Upload Next

-- A section p of table t in the bytes of a reply r: its class, its instance and the attributes that it shows, and for each attribute that the mask
-- names its content as it is read in t, as many bytes as its size, behind those before it. Behind the last of them the contents are 0 up to byte 39.
pub record HasTheSection (cat : Catalogue) (t : Table) (p : Section) (r : List ℕ) : Type 0 where
  pub its_class : number_at r 8 ≡ p.of_class
  pub its_instance : number_at r 10 ≡ p.of_instance
  pub its_mask : (n : ℕ) → mask_names (number_at r 12) n ≡ among n p.shows
  pub its_values : (n : ℕ) → mask_names (number_at r 12) n ≡ true → shown_in_section (class cat (number_at r 8)) r n ≡ read cat t (number_at r 8) (number_at r 10) n
  pub the_rest_is_zero : (j : ℕ) → 14 + bytes_before (size_of (class cat (number_at r 8))) (mask_names (number_at r 12)) 17 ≤ j → j < 40 → byte r j ≡ 0

first_of_some : (l : List ℕ) → 1 ≤ length l → (n : ℕ) × (among n l ≡ true)
first_of_some [] h = absurd (omega arith)
first_of_some (n ∷ l) h = (n, among_here n l)

-- contents that are class, instance, mask and what is read, one behind the other, have the section
laid_out_so : (cat : Catalogue) → WellFormed cat → (t : Table) → legal_frozen cat t ≡ true → (k : ℕ) (p : Section) → nth (sections cat t) k ≡ some p
    → (m r : List ℕ) → length m ≡ 48
    → r ≡ reply_to m (bytes 2 p.of_class ++ bytes 2 p.of_instance ++ bytes 2 (mask p.shows) ++ gather (read cat t p.of_class p.of_instance) p.shows)
    → HasTheSection cat t p r
unfolding class_number_in_two_bytes
laid_out_so cat wf t legal k p e m r long is = record {
  its_class = class_is;
  its_instance = instance_is;
  its_mask = names;
  its_values = λ n named.
      ap (λ (x : ℕ). value_from 14 (size_of (class cat x)) (mask_names (number_at r 12)) r n) class_is
      ∙ ap (λ (x : List ℕ). value_from 14 size (mask_names (two x 12)) x n) is
      ∙ value_there m long size value c i p.shows rises sized fits n (ap (λ (x : List ℕ). mask_names (two x 12) n) (sym is) ∙ named)
      ∙ (λ j. read cat t (sym class_is j) (sym instance_is j) n);
  the_rest_is_zero = λ j behind in_40.
      let of_class = ap (λ (x : ℕ). bytes_before (size_of (class cat x)) (mask_names (number_at r 12)) 17) class_is in
      let of_mask = ap (λ (x : List ℕ). bytes_before size (mask_names (two x 12)) 17) is in
      ap (λ (x : List ℕ). byte x j) is ∙ zeros_there m long size value c i p.shows rises sized fits j (omega arith) in_40;
}
  where
    c : ℕ
    c = p.of_class

    i : ℕ
    i = p.of_instance

    size : ℕ → ℕ
    size = size_of (class cat c)

    value : ℕ → List ℕ
    value = read cat t c i

    rises : Within 1 p.shows
    rises = what_it_shows_rises cat wf t k p e

    sized : (n : ℕ) → among n p.shows ≡ true → length (value n) ≡ size n
    sized n y = what_is_read_has_its_size cat wf (automatic_keys cat) t (open_table cat wf (automatic_keys cat) t legal) c i n (what_it_shows_is_there cat wf t k p e n y)

    fits : total size p.shows ≤ 26
    fits = every_section_fits cat wf t k p e

    one_of_them : (n : ℕ) × (among n p.shows ≡ true)
    one_of_them = first_of_some p.shows (no_section_is_empty cat wf t k p e)

    shown : Shown cat t c i one_of_them.0
    shown = what_it_shows_is_there cat wf t k p e one_of_them.0 one_of_them.1

    class_is : number_at r 8 ≡ c
    class_is = ap (λ (x : List ℕ). two x 8) is ∙ class_there m long size value c i p.shows rises sized fits
        (ltb_lt c 65536 (class_says class_number_in_two_bytes cat wf.class_numbers c shown.is_known))

    instance_is : number_at r 10 ≡ i
    instance_is = ap (λ (x : List ℕ). two x 10) is ∙ instance_there m long size value c i p.shows rises sized fits shown.small

    names : (n : ℕ) → mask_names (number_at r 12) n ≡ among n p.shows
    names n = ap (λ (x : List ℕ). mask_names (two x 12) n) is ∙ names_there m long size value c i p.shows rises sized fits n

-- An Upload Next, message 14 to the ONT data, that is answered anew with r, where the store's state has table t frozen and the index that the message
-- asks for is below the number of t's sections.
pub record AsksForASection (products : Products) (store m buffer r : List ℕ) (h : Held) (t : Table) : Type 0 where
  pub anew : AnsweredAnew products 14 store m buffer r h
  pub to_class_2 : number_at m 4 ≡ 2
  pub to_instance_0 : number_at m 6 ≡ 0
  pub frozen_is : h.state.upload ≡ some t
  pub below : number_at m 8 < length (sections h.catalogue t)

-- The reply to such an Upload Next has the section of the frozen table that has the index in the message, on its bytes.
pub the_reply_to_an_upload_next_has_its_section : (products : Products) → AllFit products → (store m buffer r : List ℕ) (h : Held) (t : Table)
    → AsksForASection products store m buffer r h t
    → (p : Section) × (nth (sections h.catalogue t) (number_at m 8) ≡ some p) × HasTheSection h.catalogue t p r
unfolding answer unless_refused first_results perform first_that_applies among ◌or◌ ◌and◌ upload_next if_ont_data section_contents
the_reply_to_an_upload_next_has_its_section products fit store m buffer r h t a =
    let cat : Catalogue = h.catalogue in
    let wf : WellFormed cat = its_catalogue_is_well_formed products fit 14 store m buffer r h a.anew in
    let legal : legal_frozen cat t ≡ true = rw a.frozen_is at (open_state cat wf h.state (its_state_is_legal products 14 store m buffer r h a.anew)).its_upload in
    let of_index = one_of_that_index (sections cat t) (number_at m 8) a.below in
    let p : Section = of_index.0 in
    let asked : nth (sections cat t) (two (contents_in m) 0) ≡ some p = ap (nth (sections cat t)) (two_in_contents m 0 (omega arith)) ∙ of_index.1 in
    let done : answer cat h.state 14 (number_at m 4) (number_at m 6) (contents_in m) ≡ upload_next cat h.state 2 0 (contents_in m) =
    λ j. answer cat h.state 14 (a.to_class_2 j) (a.to_instance_0 j) (contents_in m) in
    let shown : (upload_next cat h.state 2 0 (contents_in m)).1 ≡ section_contents cat t p = rw (a.frozen_is, asked) refl in
    let one_behind_the_other : section_contents cat t p
    ≡ bytes 2 p.of_class ++ bytes 2 p.of_instance ++ bytes 2 (mask p.shows) ++ gather (read cat t p.of_class p.of_instance) p.shows =
    ap (λ (v : List ℕ). bytes 2 p.of_class ++ bytes 2 p.of_instance ++ bytes 2 (mask p.shows) ++ v) (values_gathered cat t p.of_class p.of_instance p.shows) in (
      p,
      of_index.1,
      laid_out_so cat wf t legal (number_at m 8) p of_index.1 m r (its_length products 14 store m buffer r h a.anew)
          (its_reply products 14 store m buffer r h a.anew ∙ ap (λ (x : Answer). reply_to m x.1) done ∙ ap (reply_to m) (shown ∙ one_behind_the_other)),
    )
