-- An accepted Set, and a report of an attribute, leave the table legal.
use Prim.Native.Nat.{ℕ, ◌<◌}
use mathlib.Core.Path.{◌≡◌, refl}
use mathlib.Core.Bool.{Bool, true, false, cond}
use mathlib.Core.Option.{some}
use mathlib.Core.List.{List, [], ◌∷◌}
use lib.ListN.{length}
use lib.Dec.{eqb}
use Rattle.rules.specs.Maps.{find}
use Rattle.rules.specs.Bytes.{are_bytes}
use Rattle.rules.specs.Catalogue.{Verdict, fine, bad, asks, Catalogue, class, attribute, size_of, is_fixed, is_created, leader, key, ont_data}
use Rattle.rules.specs.State.{Contents, Entry, Table, entry, contents, content, overwrite, change}
use Rattle.rules.specs.Legal.{fixed_contents, passes, legal_content, there_or_gone}
use Rattle.rules.specs.Commands.{moved_by_set}
use Rattle.rules.specs.WellFormed.{WellFormed, asks_nothing}
use Rattle.rules.proofs.Laws.{cases, never, eqb_eq}
use Rattle.rules.proofs.MapLaws.{some_eq, none_some, find_append}
use Rattle.rules.proofs.Lookups.{with_L, without_C}
use Rattle.legality.proofs.Contents.{value_agrees, Writable, legal_overwrite}
use Rattle.legality.proofs.ResetContents.{nothing_carried}
use Rattle.rules.proofs.Standing.{key_class}
use Rattle.legality.proofs.Tables.{LegalLive, change_legal, change_any}
use Rattle.legality.proofs.Counter.{move_counter_legal}
use Rattle.legality.proofs.Holds.{created_alone}

module _ (cat : Catalogue) (wf : WellFormed cat) (t : Table) (h : LegalLive cat wf t) where
  -- the contents of a created instance are those of its entry
  pub contents_found : (c i : ℕ) (e : Entry) (r : Contents) → i < 65536 → is_created (class cat (leader cat c)).creation ≡ true
      → find (key (leader cat c) i) t.created ≡ some e → find c e ≡ some r → contents cat t c i ≡ r
  unfolding contents entry
  contents_found c i e r lt cr f g = rw (
    find_append (key (leader cat c) i) t.automatic t.created,
    created_alone cat wf t h (key (leader cat c) i) (rw (key_class (leader cat c) i lt) cr),
    f,
    g,
  )

  -- ---- Set

  -- an instance that can't be created has nothing that a rule could look at beside its own content
  nothing_fixed : (c : ℕ) (r q : Contents) → is_created (class cat (leader cat c)).creation ≡ false → fixed_contents (class cat c) r ≡ fixed_contents (class cat c) q
  unfolding fixed_contents
  nothing_fixed c r q st = λ i n. go n i
    where
      go : (n : ℕ) → cond (is_fixed (attribute (class cat c) n)) (content n r) [] ≡ cond (is_fixed (attribute (class cat c) n)) (content n q) []
      go n = rw (without_C (attribute (class cat c) n) (nothing_carried cat wf c st n))

  pub set_legal : (c i : ℕ) (new : Contents) → i < 65536 → Writable cat (class cat c) (contents cat t c i) new
      → LegalLive cat wf (change cat c i (overwrite new) t)
  set_legal c i new lt w = change_legal cat wf c i (overwrite new) t
      (λ st r. legal_overwrite cat (class cat c) new r
      (λ n v e. (value_agrees cat (class cat c) (contents cat t c i) r n v (nothing_fixed c (contents cat t c i) r st) (w n v e).0, (w n v e).1)))
      (λ e r f g old. cases (is_created (class cat (leader cat c)).creation)
      (λ cr. let z : contents cat t c i ≡ r = contents_found c i e r lt cr f g in
      legal_overwrite cat (class cat c) new r (rw z at w) old)
      (λ st. legal_overwrite cat (class cat c) new r
      (λ n v e. (value_agrees cat (class cat c) (contents cat t c i) r n v (nothing_fixed c (contents cat t c i) r st) (w n v e).0, (w n v e).1)) old))
      lt h

  -- ---- a report of an L attribute

  passes_alone : (there later : ℕ → ℕ → Bool) (v : Verdict) → asks_nothing v ≡ true → passes there v ≡ true → passes later v ≡ true
  unfolding passes
  passes_alone there later fine a p = refl
  passes_alone there later bad a p = never p
  passes_alone there later (asks c i) a p = never a

  pub report_legal : (c i n : ℕ) (v : List ℕ) (there : ℕ → ℕ → Bool) (seen : Contents) → i < 65536 → (attribute (class cat c) n).L ≡ true
      → length v ≡ size_of (class cat c) n → are_bytes v ≡ true → legal_content there (class cat c) seen n v ≡ true
      → LegalLive cat wf (change cat c i (overwrite ((n, v) ∷ [])) t)
  unfolding legal_content find
  report_legal c i n v there seen lt l sized bytes good = change_any cat wf c i (overwrite ((n, v) ∷ [])) t
      (λ r. legal_overwrite cat (class cat c) ((n, v) ∷ []) r (λ m w e. cases (eqb m n)
      (λ y. let z : m ≡ n = eqb_eq m n y in let x : v ≡ w = some_eq (rw y at e) in
      rw (z, ← x) (record { sized = sized; bytes = bytes; legal = later r }, with_L (attribute (class cat c) n) l))
      (λ y. none_some (rw y at e))))
      lt h
    where
      later : (r : Contents) → passes (there_or_gone cat) ((attribute (class cat c) n).rule v (fixed_contents (class cat c) r)) ≡ true
      later r =
          let own = wf.L_looks_at_its_own_alone c n l in
          rw (own.same_with_others v (fixed_contents (class cat c) r))
          (passes_alone there (there_or_gone cat) ((attribute (class cat c) n).rule v (λ n. [])) (own.no_instance v)
          (rw (own.same_with_others v (fixed_contents (class cat c) seen)) at good))

  pub moved_by_set_legal : (c : ℕ) (t' : Table) → LegalLive cat wf t' → LegalLive cat wf (moved_by_set cat c t')
  unfolding moved_by_set
  moved_by_set_legal c t' l = cases (eqb c ont_data) (λ e. rw e l) (λ e. rw e (move_counter_legal cat wf t' l))
