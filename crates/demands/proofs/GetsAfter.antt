-- Demand 2 on lent bytes: a Get that comes next shows what a Set or a Create was sent. For each attribute that both name, the reply to the Get has, from c3
-- on, the bytes that the Set had for it from c2 on, or the Create from c0 on.
use Prim.Native.Nat.{ℕ}
use mathlib.Core.Path.{◌≡◌, sym, ◌∙◌}
use mathlib.Core.Bool.{true}
use mathlib.Core.Option.{some}
use mathlib.Core.List.{List}
use Rattle.rules.specs.Bytes.{byte}
use Rattle.rules.specs.Catalogue.{Catalogue, class, attribute, is_stored}
use Rattle.rules.specs.State.{State, read}
use Rattle.rules.specs.Run.{message}
use Rattle.rules.specs.Products.{Products}
use Rattle.rules.specs.WellFormed.{WellFormed, rights_only_if_stored}
use Rattle.rules.proofs.Laws.{or_left}
use Rattle.rules.proofs.MapLaws.{some_eq}
use Rattle.rules.proofs.Lookups.{implied, W_supported, attribute_says}
use Rattle.store.specs.Decode.{Held, decode}
use Rattle.store.specs.Entries.{enter}
use Rattle.store.specs.Fitting.{AllFit}
use Rattle.demands.specs.Sent.{number_at, mask_names, sent_in_set, sent_in_create, shown_in_get}
use Rattle.demands.proofs.AnsweredOnBytes.{AnsweredAnew, its_catalogue_is_well_formed}
use Rattle.demands.proofs.GetsOnBytes.{a_get_shows_what_is_read}
use Rattle.demands.proofs.SetsOnBytes.{an_accepted_set_does_what_its_bytes_say}
use Rattle.demands.proofs.CreatesOnBytes.{what_an_accepted_create_does}
use Rattle.demands.proofs.Gets.{read_stored}

-- A command m of this number is answered with 0, and the next call is a Get g of the same instance, which is answered with 0 too; its reply is q.
pub record ThenGet (products : Products) (number : ℕ) (store m buffer r : List ℕ) (h : Held) (g get_buffer q : List ℕ) (k : Held) : Type 0 where
  pub first : AnsweredAnew products number store m buffer r h
  pub first_is_done : byte r 8 ≡ 0
  pub then_the_get : AnsweredAnew products 9 (enter products (message m) store buffer).store g get_buffer q k
  pub the_get_is_done : byte q 8 ≡ 0
  pub same_class : number_at g 4 ≡ number_at m 4
  pub same_instance : number_at g 6 ≡ number_at m 6

module _ (products : Products) (fit : AllFit products) (number : ℕ) (store m buffer r : List ℕ) (h : Held) (g get_buffer q : List ℕ) (k : Held)
    (x : ThenGet products number store m buffer r h g get_buffer q k) where
  -- what the Get shows is what the state that the first left holds
  shows_the_state_after : (t : State) → decode products (enter products (message m) store buffer).store ≡ some (record { product = h.product; catalogue = h.catalogue; state = t })
      → (n : ℕ) → mask_names (number_at g 8) n ≡ true → shown_in_get (class h.catalogue (number_at m 4)) q n ≡ read h.catalogue t.table (number_at m 4) (number_at m 6) n
  shows_the_state_after t left n y =
      let held : k ≡ record { product = h.product; catalogue = h.catalogue; state = t } = some_eq (sym x.then_the_get.held ∙ left) in
      let shown = (a_get_shows_what_is_read products fit (enter products (message m) store buffer).store g get_buffer q k x.then_the_get x.the_get_is_done).its_values n y in
      (λ i. shown_in_get (class (sym held i).catalogue (sym x.same_class i)) q n)
      ∙ shown
      ∙ (λ i. read (held i).catalogue (held i).state.table (x.same_class i) (x.same_instance i) n)

-- After a Set, the reply to the Get has for each attribute that both masks name the bytes that the Set had for it.
pub a_get_after_a_set_shows_what_was_sent : (products : Products) (fit : AllFit products) (store m buffer r : List ℕ) (h : Held) (g get_buffer q : List ℕ) (k : Held)
    → ThenGet products 8 store m buffer r h g get_buffer q k → (n : ℕ) → mask_names (number_at m 8) n ≡ true → mask_names (number_at g 8) n ≡ true
    → shown_in_get (class h.catalogue (number_at m 4)) q n ≡ sent_in_set (class h.catalogue (number_at m 4)) m n
unfolding rights_only_if_stored
a_get_after_a_set_shows_what_was_sent products fit store m buffer r h g get_buffer q k x n set asked =
    let cat : Catalogue = h.catalogue in
    let shows = shows_the_state_after products fit 8 store m buffer r h g get_buffer q k x in
    let wf : WellFormed cat = its_catalogue_is_well_formed products fit 8 store m buffer r h x.first in
    let done = an_accepted_set_does_what_its_bytes_say products fit store m buffer r h x.first x.first_is_done in
    let w : (attribute (class cat (number_at m 4)) n).W ≡ true = done.2.the_named_can_be_written n set in
    let stored : is_stored (attribute (class cat (number_at m 4)) n).source ≡ true =
    implied (attribute_says rights_only_if_stored cat wf.rights_if_stored (number_at m 4) n (W_supported (class cat (number_at m 4)) n w)) (or_left _ w) in
    shows done.0 done.1 n asked
    ∙ read_stored cat done.0.table (number_at m 4) (number_at m 6) n stored
    ∙ done.2.the_named_are_as_sent n set

-- After a Create, it has for each set-by-create attribute that its mask names the bytes that the Create had for it.
pub a_get_after_a_create_shows_what_was_sent : (products : Products) (fit : AllFit products) (store m buffer r : List ℕ) (h : Held) (g get_buffer q : List ℕ) (k : Held)
    → ThenGet products 4 store m buffer r h g get_buffer q k → (n : ℕ) → (attribute (class h.catalogue (number_at m 4)) n).C ≡ true → mask_names (number_at g 8) n ≡ true
    → shown_in_get (class h.catalogue (number_at m 4)) q n ≡ sent_in_create (class h.catalogue (number_at m 4)) m n
a_get_after_a_create_shows_what_was_sent products fit store m buffer r h g get_buffer q k x n carried asked =
    let shows = shows_the_state_after products fit 4 store m buffer r h g get_buffer q k x in
    let done = what_an_accepted_create_does products fit store m buffer r h x.first x.first_is_done in
    shows done.0 done.1 n asked
    ∙ done.2.it_has_what_was_sent n carried
