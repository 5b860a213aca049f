-- Only instances that are there by themselves have alarms that are on, so that no bitmap goes when created instances go.
use Prim.Native.Nat.{ℕ}
use mathlib.Core.Path.{◌≡◌}
use mathlib.Core.Bool.{Bool, true, false, not}
use Rattle.rules.specs.Maps.{◌and◌, Map, keep}
use Rattle.rules.specs.Catalogue.{Catalogue, class, is_created, leader}
use Rattle.rules.specs.State.{Alarms, class_of, number_of}
use Rattle.rules.specs.Legal.{legal_bitmap, legal_bitmaps}
use Rattle.rules.specs.Commands.{stays, goes_with}
use Rattle.rules.proofs.Laws.{cases, true_false, not-true, both, false_not, every_imp, eqb_eq}
use Rattle.rules.proofs.MapLaws.{keep_all}
use Rattle.store.specs.Layout.{fits}
use Rattle.store.proofs.AlarmsBack.{bitmap_plain}
use Rattle.rules.proofs.Lookups.{plain_lead}

module _ (cat : Catalogue) (f : fits cat ≡ true) where
  -- an instance with a legal bitmap, which has an alarm on, leads itself and isn't a created one
  pub bitmap_leads : (j : ℕ) (b : Alarms) → legal_bitmap (class cat (class_of j)) b ≡ true → leader cat (class_of j) ≡ class_of j
  bitmap_leads j b h =
      let p = bitmap_plain cat f (class_of j) b h in
      plain_lead (class_of j) (class cat (class_of j)).creation p.1 p.2

  pub bitmap_stays : (j : ℕ) (b : Alarms) → legal_bitmap (class cat (class_of j)) b ≡ true → stays cat j ≡ true
  bitmap_stays j b h = rw (bitmap_leads j b h) (false_not (bitmap_plain cat f (class_of j) b h).1)

  module _ (there : ℕ → ℕ → Bool) (m : Map Alarms) (h : legal_bitmaps cat there m ≡ true) where
    -- every bitmap passes a test that those of instances there by themselves pass
    kept_whole : (p : ℕ → Bool) → ((j : ℕ) → stays cat j ≡ true → p j ≡ true) → keep (λ j b. p j) m ≡ m
    unfolding legal_bitmaps
    kept_whole p ok = keep_all (λ j b. p j) m (every_imp
        (λ j b. there (class_of j) (number_of j) and legal_bitmap (class cat (class_of j)) b) (λ j b. p j)
        (λ j b y. ok j (bitmap_stays j b (both y).1)) m (both h).1)

    -- a MIB reset takes no alarm away
    pub alarms_stay : keep (λ j b. stays cat j) m ≡ m
    alarms_stay = kept_whole (stays cat) (λ j y. y)

    -- nor does a Delete
    pub alarms_left : (c i : ℕ) → is_created (class cat c).creation ≡ true → keep (λ j b. not (goes_with cat c i j)) m ≡ m
    unfolding goes_with
    alarms_left c i cr = kept_whole (λ j. not (goes_with cat c i j)) (λ j y. false_not (apart j y))
      where
        apart : (j : ℕ) → stays cat j ≡ true → goes_with cat c i j ≡ false
        apart j y = cases (goes_with cat c i j)
            (λ e. true_false cr (not-true (rw (eqb_eq (leader cat (class_of j)) c (both e).0) at y)))
            (λ e. e)
