-- A reset leaves the contents of an instance that stays legal.
use Prim.Native.Nat.{ℕ}
use mathlib.Core.Path.{◌≡◌}
use mathlib.Core.Bool.{true, false, cond}
use mathlib.Core.List.{[]}
use Rattle.rules.specs.Maps.{◌or◌}
use Rattle.rules.specs.Catalogue.{constant, copied, Source, stored, of_creator, count_of, Catalogue, class, attribute, supported, is_stored, is_created, leader}
use Rattle.rules.specs.State.{Contents}
use Rattle.rules.specs.Legal.{fixed_contents, legal_content}
use Rattle.rules.specs.Commands.{first_content, reset_contents}
use Rattle.rules.specs.WellFormed.{WellFormed, rights_only_if_stored, FirstIsLegal}
use Rattle.rules.proofs.Laws.{cases, never, true_false, not-true, both, or_left}
use Rattle.rules.proofs.Lookups.{implied, W_supported, attribute_says}
use Rattle.legality.proofs.Contents.{Value, LegalContents, legal_each}
use Rattle.legality.proofs.NewContents.{C_is_created, C_leads}

module _ (cat : Catalogue) (wf : WellFormed cat) (c : ℕ) (stays : is_created (class cat (leader cat c)).creation ≡ false) where
  -- it has no set-by-create attribute
  pub nothing_carried : (n : ℕ) → (attribute (class cat c) n).C ≡ false
  nothing_carried n = cases (attribute (class cat c) n).C
      (λ e. true_false (C_is_created cat wf c n e) (rw (C_leads cat wf c n e) at stays)) (λ e. e)

  first_again : (r : Contents) (n : ℕ) (src : Source) → is_stored src ≡ true → FirstIsLegal cat c (attribute (class cat c) n) src
      → Value cat (class cat c) r n (first_content [] src)
  unfolding first_content legal_content
  first_again r n (stored (constant v)) i f = record { sized = f.0; bytes = f.1; legal = f.2 (fixed_contents (class cat c) r) }
  first_again r n (stored (copied m)) i f = true_false f.0 stays
  first_again r n (of_creator a) i f = never i
  first_again r n (count_of d a) i f = never i

  pub legal_reset : (r : Contents) → LegalContents cat (class cat c) r → LegalContents cat (class cat c) (reset_contents (class cat c) r)
  unfolding reset_contents rights_only_if_stored
  legal_reset r h = legal_each cat (class cat c) (λ n v. cond (attribute (class cat c) n).W (first_content [] (attribute (class cat c) n).source) v) r
      (λ n v e. let z : (attribute (class cat c) n).W ≡ false = not-true (both (both e).1).0 in rw z)
      (λ n v old. cases (attribute (class cat c) n).W
      (λ e. let s : supported (class cat c) n ≡ true = W_supported (class cat c) n e in
      rw e (first_again r n (attribute (class cat c) n).source
      (implied (attribute_says rights_only_if_stored cat wf.rights_if_stored c n s) (or_left ((attribute (class cat c) n).C or (attribute (class cat c) n).L) e))
      (wf.first_contents_are_legal c n s (nothing_carried n))))
      (λ e. rw e old)) h
