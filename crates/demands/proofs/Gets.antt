-- What an accepted Get replies; and that after an accepted Set it is what the Set carried.
use Prim.Native.Nat.{ℕ, suc}
use native.Mathlib.Omega.{arith}
use mathlib.Core.Path.{◌≡◌, refl, ◌∙◌, ap}
use mathlib.Core.Bool.{Bool, true}
use mathlib.Core.Logic.{◌≢◌}
use mathlib.Core.List.{List, [], ◌∷◌, ◌++◌}
use Rattle.rules.specs.Maps.{gather, all, among}
use Rattle.rules.specs.Bytes.{byte, two, bytes}
use Rattle.rules.specs.Catalogue.{Source, stored, of_creator, count_of, Catalogue, class, attribute, is_stored}
use Rattle.rules.specs.State.{Table, State, holds, contents, content, read_from, read}
use Rattle.rules.specs.Legal.{legal_state}
use Rattle.rules.specs.Commands.{asked, set_by, set, values, get_results, get}
use Rattle.rules.specs.WellFormed.{WellFormed, rights_only_if_stored}
use Rattle.rules.proofs.Laws.{never, both, or_left}
use Rattle.rules.proofs.Lookups.{implied, W_supported, attribute_says}
use Rattle.legality.proofs.Refusals.{unless_refused_is}
use Rattle.demands.proofs.Sets.{Accepted, table_after, what_an_accepted_set_names_can_be_written, an_accepted_set_stores_what_it_names}
use Rattle.rules.proofs.MapLaws.{first_has}

-- a stored attribute is read from its instance's contents
pub read_stored : (cat : Catalogue) (t : Table) (c i n : ℕ) → is_stored (attribute (class cat c) n).source ≡ true → read cat t c i n ≡ content n (contents cat t c i)
unfolding read read_from
read_stored cat t c i n h = go (attribute (class cat c) n).source h
  where
    go : (src : Source) → is_stored src ≡ true → read_from cat t c i n (attribute (class cat c) n).size src ≡ content n (contents cat t c i)
    go (stored f) h = refl
    go (of_creator a) h = never h
    go (count_of d a) h = never h

-- contents that are read one by one are read one after another
pub values_are : (cat : Catalogue) (t : Table) (c i : ℕ) (f : ℕ → List ℕ) (p : ℕ → Bool) → ((n : ℕ) → p n ≡ true → read cat t c i n ≡ f n)
    → (l : List ℕ) → all p l ≡ true → values cat t c i l ≡ gather f l
unfolding values gather all
values_are cat t c i f p each [] h = refl
values_are cat t c i f p each (n ∷ l) h = λ k. each n (both h).0 k ++ values_are cat t c i f p each l (both h).1 k

-- An accepted Get, with mask and contents w, replies 0, its mask and the contents of what it names, one after another.
pub an_accepted_get_replies_what_it_names : (cat : Catalogue) (s : State) (c i : ℕ) (w : List ℕ) → byte (get cat s c i w).1 0 ≡ 0
    → (get cat s c i w).1 ≡ 0 ∷ bytes 2 (two w 0) ++ values cat s.table c i (asked w)
unfolding get get_results
an_accepted_get_replies_what_it_names cat s c i w =
    unless_refused_is (λ a. byte a.1 0 ≡ 0 → a.1 ≡ 0 ∷ bytes 2 (two w 0) ++ values cat s.table c i (asked w)) s lines _
    (λ r e y. absurd (first_has (λ r. byte r 0 ≢ 0) lines ((λ t. over_0 4), ((λ t. over_0 2), ((λ t. over_0 8), ((λ t. over_0 2), tt)))) r e y))
    (λ clear y. refl)
  where
    lines : List (Bool × List ℕ)
    lines = get_results (holds cat s.table c i) (class cat c) (two w 0)

    over_0 : (n : ℕ) → suc n ≢ 0
    over_0 n q = absurd (omega arith)

module _ (cat : Catalogue) (wf : WellFormed cat) (s : State) (h : legal_state cat s ≡ true) (c i : ℕ) (v : List ℕ) (done : Accepted cat s c i v) where
  -- After an accepted Set, each attribute that it names reads what the Set carried for it.
  pub get_after_set_gives_what_was_sent : (n : ℕ) → among n (asked v) ≡ true → read cat (table_after cat s c i v) c i n ≡ content n (set_by (class cat c) v)
  unfolding rights_only_if_stored
  get_after_set_gives_what_was_sent n named =
      let w : (attribute (class cat c) n).W ≡ true = what_an_accepted_set_names_can_be_written cat wf s h c i v done n named in
      read_stored cat (table_after cat s c i v) c i n
      (implied (attribute_says rights_only_if_stored cat wf.rights_if_stored c n (W_supported (class cat c) n w)) (or_left _ w))
      ∙ an_accepted_set_stores_what_it_names cat wf s h c i v done n named

  -- So an accepted Get of attributes that the Set named replies 0, its mask and what the Set carried for them, one after another.
  pub the_reply_to_a_get_after_set_is_what_was_sent : (w : List ℕ) → byte (get cat (set cat s c i v).0 c i w).1 0 ≡ 0
      → all (λ n. among n (asked v)) (asked w) ≡ true
      → (get cat (set cat s c i v).0 c i w).1 ≡ 0 ∷ bytes 2 (two w 0) ++ gather (λ n. content n (set_by (class cat c) v)) (asked w)
  the_reply_to_a_get_after_set_is_what_was_sent w ok named =
      an_accepted_get_replies_what_it_names cat (set cat s c i v).0 c i w ok
      ∙ ap (λ (l : List ℕ). 0 ∷ bytes 2 (two w 0) ++ l) (values_are cat (table_after cat s c i v) c i (λ n. content n (set_by (class cat c) v)) (λ n. among n (asked v))
      get_after_set_gives_what_was_sent (asked w) named)
