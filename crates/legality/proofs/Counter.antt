-- The counter stays a byte, and what writes it leaves the table legal.
use Prim.Native.Nat.{ℕ, ◌<◌}
use native.Mathlib.Omega.{arith}
use mathlib.Core.Path.{◌≡◌, refl, sym, ◌∙◌}
use mathlib.Core.Option.{Option, none, some}
use mathlib.Core.List.{List, [], ◌∷◌}
use lib.Dec.{eqb}
use Rattle.rules.specs.Maps.{given, find}
use Rattle.rules.specs.Bytes.{number, number_from}
use Rattle.rules.specs.Catalogue.{Catalogue, class, attribute, leader, key, ont_data}
use Rattle.rules.specs.State.{Contents, Entry, Table, entries, entry, contents, content, counter, overwrite, with_counter}
use Rattle.rules.specs.Legal.{fixed_contents, passes, legal_content, legal_contents, legal_entry}
use Rattle.rules.specs.Messages.{next_number}
use Rattle.rules.specs.Commands.{move_counter}
use Rattle.rules.specs.WellFormed.{WellFormed}
use Rattle.rules.proofs.Laws.{cases, eqb_eq, eqb_ne, every_find}
use Rattle.rules.proofs.MapLaws.{some_eq, none_some}
use Rattle.rules.proofs.Lookups.{without_C}
use Rattle.rules.proofs.ByteLaws.{bytes_cons, bytes_none, number_of_one}
use Rattle.legality.proofs.Contents.{Value, value_test, value_of, LegalContents, open_contents, Writable, legal_overwrite}
use Rattle.legality.proofs.Tables.{LegalEntry, open_entry, LegalTable, LegalLive, change_any}
use Rattle.legality.proofs.Holds.{found_in}

-- ---- reading from a legal table

module _ (cat : Catalogue) (wf : WellFormed cat) (stand : List ℕ) (t : Table) (h : LegalTable cat wf stand t) where
  pub contents_legal : (c i : ℕ) (e : Entry) (r : Contents) → find (key (leader cat c) i) (entries t) ≡ some e → find c e ≡ some r
      → LegalContents cat (class cat c) r
  contents_legal c i e r f g =
      let k : ℕ = key (leader cat c) i in
      let l : LegalEntry cat k e = open_entry cat k e (found_in k t.automatic t.created e f
      (λ x. every_find (legal_entry cat) t.automatic h.automatic_legal k e x)
      (λ n x. every_find (legal_entry cat) t.created h.created_legal k e x)) in
      open_contents cat (class cat c) r (every_find (λ c r. legal_contents cat (class cat c) r) e l.its_contents c r g)

  -- what is read of a stored attribute is nothing, or a legal value
  pub stored_value {ℓ} : (X : List ℕ → Type ℓ) (c i n : ℕ) → X [] → ((r : Contents) (v : List ℕ) → Value cat (class cat c) r n v → X v)
      → X (content n (contents cat t c i))
  unfolding content contents entry find
  stored_value X c i n base step = go (find (key (leader cat c) i) (entries t)) refl
    where
      go₂ : (r : Contents) → LegalContents cat (class cat c) r → (o : Option (List ℕ)) → find n r ≡ o → X (given o [] (λ v. v))
      go₂ r l none x = base
      go₂ r l (some v) x = step r v (value_of cat (class cat c) r n v (every_find (value_test cat (class cat c) r) r l.values n v x))

      go₁ : (e : Entry) → find (key (leader cat c) i) (entries t) ≡ some e → (o : Option Contents) → find c e ≡ o → X (given (find n (given o [] (λ r. r))) [] (λ v. v))
      go₁ e f none x = base
      go₁ e f (some r) x = go₂ r (contents_legal c i e r f x) (find n r) refl

      go : (o : Option Entry) → find (key (leader cat c) i) (entries t) ≡ o
          → X (given (find n (given (find c (given o [] (λ e. e))) [] (λ r. r))) [] (λ v. v))
      go none x = base
      go (some e) x = go₁ e x (find c e) refl

module _ (cat : Catalogue) (wf : WellFormed cat) where
  pub counter_small : (t : Table) → LegalLive cat wf t → counter cat t < 256
  unfolding counter number_from
  counter_small t h = stored_value cat wf _ t h (λ v. number v < 256) ont_data 0 1 (omega arith)
      (λ r v x. number_of_one v (x.sized ∙ wf.class_2_has_the_counter.one_byte) x.bytes)

  pub next_small : (n : ℕ) → n < 256 → next_number n < 256
  unfolding next_number
  next_small n h = cases (eqb n 255) (λ e. rw e (omega arith)) (λ e. let ne = eqb_ne n 255 e in rw e (omega arith))

  counter_writable : (n : ℕ) → n < 256 → (r : Contents) → Writable cat (class cat ont_data) r ((1, n ∷ []) ∷ [])
  unfolding find legal_content passes
  counter_writable n h r m v e = cases (eqb m 1)
      (λ t. let z : m ≡ 1 = eqb_eq m 1 t in
      let w : n ∷ [] ≡ v = some_eq (rw t at e) in
      let c = wf.class_2_has_the_counter in
      rw (z, ← w) (
        record {
          sized = sym c.one_byte;
          bytes = bytes_cons n [] h bytes_none;
          legal = rw (c.any_content (n ∷ []) (fixed_contents (class cat ont_data) r));
        },
        without_C (attribute (class cat ont_data) 1) c.not_C,
      ))
      (λ t. none_some (rw t at e))

  pub with_counter_legal : (n : ℕ) (t : Table) → n < 256 → LegalLive cat wf t → LegalLive cat wf (with_counter cat n t)
  unfolding with_counter
  with_counter_legal n t lt h = change_any cat wf ont_data 0 (overwrite ((1, n ∷ []) ∷ [])) t
      (λ r. legal_overwrite cat (class cat ont_data) ((1, n ∷ []) ∷ []) r (counter_writable n lt r)) (omega arith) h

  pub move_counter_legal : (t : Table) → LegalLive cat wf t → LegalLive cat wf (move_counter cat t)
  move_counter_legal t h = with_counter_legal (next_number (counter cat t)) t (next_small (counter cat t) (counter_small t h)) h
