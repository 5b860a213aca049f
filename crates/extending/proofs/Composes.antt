-- Extending composes: of a row of catalogues, each of which extends the one before it, every later one extends every earlier one.
use Prim.Native.Nat.{ℕ}
use mathlib.Core.Path.{◌≡◌, refl, sym, ◌∙◌, ap, subst}
use mathlib.Core.Bool.{Bool, true, false, not, cond}
use mathlib.Core.List.{List, [], ◌∷◌, ◌++◌, append_assoc}
use lib.ListN.{replicate, length-replicate}
use lib.Dec.{ltb}
use Rattle.rules.specs.Maps.{◌and◌, among, those}
use Rattle.rules.specs.Catalogue.{Verdict, fine, Attribute, Creation, created, automatic, comes_with, Class, Catalogue, class, known, attribute, supported, size_of}
use Rattle.rules.specs.Catalogue.{carried_numbers, is_fixed, is_created, automatic_numbers, lead, leader}
use Rattle.rules.specs.Legal.{passes, may_be_there, there_or_gone}
use Rattle.rules.specs.WellFormed.{WellFormed, leader_is_created, comes_with_a_created_one}
use Rattle.rules.specs.Extends.{Allows, Agree, AttributeExtends, SameCreation, added_carried, ClassExtends, Extends}
use Rattle.rules.proofs.Laws.{cases, never, true_false, not-true, false_not, both, and_true, all_among}
use Rattle.rules.proofs.Lookups.{class_says}
use Rattle.rules.proofs.ByteLaws.{bytes_zeros}
use Rattle.rules.proofs.Standing.{all_imp}
use Rattle.extending.proofs.Found.{known_too, class_extends, same_leader, listed_known}
use Rattle.extending.proofs.Judged.{fixed_before}
use Rattle.extending.proofs.Fresh.{listed_too}
use Rattle.rules.proofs.MapLaws.{among_those}
use Rattle.legality.proofs.Carried.{carried_is_C}
use Rattle.extending.proofs.Carried.{in_added}
use Rattle.legality.proofs.NewContents.{attributes_in_order}

-- ---- how instances come about

creation_composes : (a b c : Creation) → SameCreation a b → SameCreation b c → SameCreation a c
creation_composes created created c x y = y
creation_composes created (automatic m) c x y = absurd x
creation_composes created (comes_with d) c x y = absurd x
creation_composes (automatic l) created c x y = absurd x
creation_composes (automatic l) (automatic m) created x y = absurd y
creation_composes (automatic l) (automatic m) (automatic n) x y = all_imp (λ i. among i m) (λ i. among i n) (all_among (λ i. among i n) m y) l x
creation_composes (automatic l) (automatic m) (comes_with d) x y = absurd y
creation_composes (automatic l) (comes_with d) c x y = absurd x
creation_composes (comes_with d) created c x y = absurd x
creation_composes (comes_with d) (automatic m) c x y = absurd x
creation_composes (comes_with d) (comes_with e) c x y = subst (λ (i : ℕ). SameCreation (comes_with i) c) (sym x) y

-- what the first can have, the second can
may_be_too : (i : ℕ) (a b : Creation) → SameCreation a b → may_be_there a i ≡ true → may_be_there b i ≡ true
may_be_too i created created x h = h
may_be_too i created (automatic m) x h = absurd x
may_be_too i created (comes_with d) x h = absurd x
may_be_too i (automatic l) created x h = absurd x
may_be_too i (automatic l) (automatic m) x h = all_among (λ j. among j m) l x i h
may_be_too i (automatic l) (comes_with d) x h = absurd x
may_be_too i (comes_with d) created x h = absurd x
may_be_too i (comes_with d) (automatic m) x h = absurd x
may_be_too i (comes_with d) (comes_with e) x h = h

listed_may_be : (i : ℕ) (a : Creation) → among i (automatic_numbers a) ≡ true → may_be_there a i ≡ true
unfolding among
listed_may_be i created h = never h
listed_may_be i (automatic l) h = h
listed_may_be i (comes_with d) h = never h

created_is_small : (i : ℕ) (a : Creation) → is_created a ≡ true → may_be_there a i ≡ true → ltb i 65536 ≡ true
created_is_small i created c h = h
created_is_small i (automatic l) c h = never c
created_is_small i (comes_with d) c h = never c

-- where a catalogue can have an instance, it can have those that come with it
led_may_be : (cat : Catalogue) → WellFormed cat → (c i : ℕ) → known cat c ≡ true → there_or_gone cat (leader cat c) i ≡ true → there_or_gone cat c i ≡ true
unfolding comes_with_a_created_one
led_may_be cat wf c i kn = go (class cat c).creation refl (class_says (comes_with_a_created_one cat) cat wf.companions_of_created c kn)
  where
    go : (a : Creation) → (class cat c).creation ≡ a → leader_is_created cat a ≡ true → there_or_gone cat (lead c a) i ≡ true → may_be_there a i ≡ true
    go created e z h = rw e at h
    go (automatic l) e z h = rw e at h
    go (comes_with d) e z h = created_is_small i (class cat d).creation z h

-- ---- lists of numbers

those_append : (p : ℕ → Bool) (l m : List ℕ) → those p (l ++ m) ≡ those p l ++ those p m
unfolding those
those_append p [] m = refl
those_append p (n ∷ l) m = cases (p n) (λ t. rw (t, those_append p l m) refl) (λ t. rw t (those_append p l m))

-- a test that a stricter one has answered
those_stricter : (p q : ℕ → Bool) → ((n : ℕ) → q n ≡ true → p n ≡ true) → (l : List ℕ) → those p (those q l) ≡ those q l
unfolding those
those_stricter p q f [] = refl
those_stricter p q f (n ∷ l) = cases (q n) (λ t. rw (t, f n t, those_stricter p q f l) refl) (λ t. rw t (those_stricter p q f l))

module _ (first second third : Catalogue) (wf : WellFormed first) (wf' : WellFormed second) (wf'' : WellFormed third)
    (ext : Extends first second) (ext' : Extends second third) where
  -- ---- verdicts

  -- those of the third's instances that the second can have
  abbrev between : (ℕ → ℕ → Bool) → ℕ → ℕ → Bool
  between there c i = there c i and (known second c and there_or_gone second c i)

  module _ (there there' : ℕ → ℕ → Bool) where
    in_between : ((c i : ℕ) → there c i ≡ true → (known first c ≡ true) × (there_or_gone first c i ≡ true) × (there' c i ≡ true))
        → (c i : ℕ) → there c i ≡ true → (known first c ≡ true) × (there_or_gone first c i ≡ true) × (between there' c i ≡ true)
    in_between more c i h =
        let x = more c i h in
        let same = (class_extends first second wf wf' ext c x.0).same_creation in
        let can : there_or_gone second c i ≡ true = may_be_too i (class first c).creation (class second c).creation same x.1 in
        (x.0, x.1, and_true x.2 (and_true (known_too first second wf wf' ext c x.0) can))

    always_between : ((c i : ℕ) → among i (automatic_numbers (class third c).creation) ≡ true → there' c i ≡ true)
        → (c i : ℕ) → among i (automatic_numbers (class second c).creation) ≡ true → between there' c i ≡ true
    always_between always c i h =
        let kn : known second c ≡ true = listed_known second c i h in
        let same = (class_extends second third wf' wf'' ext' c kn).same_creation in
        and_true (always c i (listed_too i (class second c).creation (class third c).creation same h))
        (and_true kn (listed_may_be i (class second c).creation h))

    led_between : ((c i : ℕ) → known third c ≡ true → there' (leader third c) i ≡ true → there' c i ≡ true)
        → (c i : ℕ) → known second c ≡ true → between there' (leader second c) i ≡ true → between there' c i ≡ true
    led_between led c i kn h =
        let x = both h in
        and_true (led c i (known_too second third wf' wf'' ext' c kn) (rw (same_leader second third wf' wf'' ext' c kn) x.0))
        (and_true kn (led_may_be second wf' c i kn (both x.1).1))

  allows_composes : (u v w : Verdict) → Allows first second u v → Allows second third v w → Allows first third u w
  allows_composes u v w x y there there' more always led p =
      y (between there') there' (λ c i h. let z = both h in ((both z.1).0, (both z.1).1, z.0)) always led
      (x there (between there') (in_between there there' more) (always_between there there' always) (led_between there there' led) p)

  -- ---- a class that the first has

  module _ (c : ℕ) (kn : known first c ≡ true) where
    abbrev k : Class
    k = class first c

    abbrev l : Class
    l = class second c

    abbrev m : Class
    m = class third c

    kn' : known second c ≡ true
    kn' = known_too first second wf wf' ext c kn

    kn'' : known third c ≡ true
    kn'' = known_too second third wf' wf'' ext' c kn'

    kept : ClassExtends first second k l
    kept = class_extends first second wf wf' ext c kn

    kept' : ClassExtends second third l m
    kept' = class_extends second third wf' wf'' ext' c kn'

    absent_before : (n : ℕ) → supported l n ≡ false → supported k n ≡ false
    absent_before n absent = cases (supported k n) (λ sup. true_false (kept.attributes_kept n sup).0 absent) (λ t. t)

    -- what the second's rules may look at: what the first has, and zero where it hasn't
    abbrev shown_between : (ℕ → List ℕ) → ℕ → List ℕ
    shown_between f n = cond (is_fixed (attribute l n)) (cond (supported k n) (f n) (replicate (size_of l n) 0)) []

    module _ (f g : ℕ → List ℕ) (agree : Agree k m f g) where
      agree_before : Agree k l f (shown_between f)
      agree_before n = (λ fixed. (λ sup. rw (fixed, sup) refl, λ absent. rw (fixed, absent) refl), (agree n).1, λ loose. rw loose refl)

      agree_after : Agree l m (shown_between f) g
      agree_after n = (
        λ fixed. (
          λ sup.
              let x = (kept'.attributes_kept n sup).1 in
              rw (fixed_before second third l m (attribute l n) (attribute m n) x fixed) (cases (supported k n)
              (λ sup'. rw sup' (((agree n).0 fixed).0 sup'))
              (λ absent. rw (absent, x.same_size) (sym (((agree n).0 fixed).1 absent)))),
          λ absent. ((agree n).0 fixed).1 (absent_before n absent),
        ),
        λ loose. rw loose refl,
        (agree n).2,
      )

    attribute_composes : (a b d : Attribute) → AttributeExtends first second k l a b → AttributeExtends second third l m b d → AttributeExtends first third k m a d
    attribute_composes a b d x y = record {
      same_size = x.same_size ∙ y.same_size;
      same_source = x.same_source ∙ y.same_source;
      W_grows = λ t. y.W_grows (x.W_grows t);
      legal_contents_grow = λ v f g sized bytes agree. allows_composes (a.rule v f) (b.rule v (shown_between f)) (d.rule v g)
          (x.legal_contents_grow v f (shown_between f) sized bytes (agree_before f g agree))
          (y.legal_contents_grow v (shown_between f) g (sized ∙ x.same_size) bytes (agree_after f g agree));
      same_C = x.same_C ∙ y.same_C;
      same_L = x.same_L ∙ y.same_L;
      same_AVC = x.same_AVC ∙ y.same_AVC;
      same_legal_L = λ t v others sized bytes.
          x.same_legal_L t v others sized bytes ∙ y.same_legal_L (sym x.same_L ∙ t) v others (sized ∙ x.same_size) bytes;
    }

    attributes_compose : (n : ℕ) → supported k n ≡ true → (supported m n ≡ true) × AttributeExtends first third k m (attribute k n) (attribute m n)
    attributes_compose n sup =
        let x = kept.attributes_kept n sup in
        let y = kept'.attributes_kept n x.0 in
        (y.0, attribute_composes (attribute k n) (attribute l n) (attribute m n) x.1 y.1)

    -- what is added is what the second adds to the first, and the third to the second
    added_composes : added_carried k m ≡ added_carried k l ++ added_carried l m
    unfolding added_carried
    added_composes =
        let absent : ℕ → Bool = λ n. not (supported k n) in
        let absent' : ℕ → Bool = λ n. not (supported l n) in
        ap (those absent) kept'.added_come_after
        ∙ those_append absent (carried_numbers l) (those absent' (carried_numbers m))
        ∙ ap (λ (x : List ℕ). those absent (carried_numbers l) ++ x)
        (those_stricter absent absent' (λ n t. false_not (absent_before n (not-true t))) (carried_numbers m))

    added_come_after_both : carried_numbers m ≡ carried_numbers k ++ added_carried k m
    added_come_after_both =
        kept'.added_come_after
        ∙ ap (λ (x : List ℕ). x ++ added_carried l m) kept.added_come_after
        ∙ append_assoc (carried_numbers k) (added_carried k l) (added_carried l m)
        ∙ ap (λ (x : List ℕ). carried_numbers k ++ x) (sym added_composes)

    -- ---- zeros

    module _ (n : ℕ) (here : among n (added_carried k m) ≡ true) (f g : ℕ → List ℕ) (agree : Agree k m f g) where
      abbrev zeros : List ℕ
      zeros = replicate (size_of m n) 0

      -- only the third sets it by create
      newest_accepts_zero : supported l n ≡ false → (attribute m n).C ≡ true → Allows first third fine ((attribute m n).rule zeros g)
      unfolding passes
      newest_accepts_zero absent set_by_create = allows_composes fine fine ((attribute m n).rule zeros g)
          (λ there there' more always led p. refl)
          (kept'.added_accept_zero n (in_added second third wf' wf'' ext' c kn' n absent set_by_create) (shown_between f) g (agree_after f g agree))

      -- the second does too
      newer_accepts_zero : supported k n ≡ false → supported l n ≡ true → (attribute m n).C ≡ true → Allows first third fine ((attribute m n).rule zeros g)
      newer_accepts_zero absent sup set_by_create =
          let x = (kept'.attributes_kept n sup).1 in
          let size : size_of l n ≡ size_of m n = x.same_size in
          let was_added = in_added first second wf wf' ext c kn n absent (x.same_C ∙ set_by_create) in
          allows_composes fine ((attribute l n).rule zeros (shown_between f)) ((attribute m n).rule zeros g)
          (rw (← size) (kept.added_accept_zero n was_added f (shown_between f) (agree_before f g agree)))
          (x.legal_contents_grow zeros (shown_between f) g (length-replicate {A = ℕ} (size_of m n) 0 ∙ sym size) (bytes_zeros (size_of m n)) (agree_after f g agree))

      accepts_zero : Allows first third fine ((attribute m n).rule zeros g)
      unfolding added_carried
      accepts_zero =
          let x = both (rw (among_those (λ n. not (supported k n)) n (carried_numbers m)) at here) in
          let set_by_create : (attribute m n).C ≡ true = carried_is_C m (attributes_in_order third wf'' c kn'') n x.1 in
          cases (supported l n)
          (λ sup. newer_accepts_zero (not-true x.0) sup set_by_create)
          (λ absent. newest_accepts_zero absent set_by_create)

    class_composes : ClassExtends first third k m
    class_composes = record {
      same_creation = creation_composes k.creation l.creation m.creation kept.same_creation kept'.same_creation;
      commands_grow = all_imp (λ n. among n l.commands) (λ n. among n m.commands) (all_among (λ n. among n m.commands) l.commands kept'.commands_grow) k.commands
          kept.commands_grow;
      delete_goes_with_create = (kept.delete_goes_with_create.0, kept'.delete_goes_with_create.1);
      same_alarms = λ n. kept.same_alarms n ∙ kept'.same_alarms n;
      attributes_kept = attributes_compose;
      creates_carry_equally = kept.creates_carry_equally ∙ kept'.creates_carry_equally;
      added_come_after = added_come_after_both;
      added_accept_zero = accepts_zero;
    }

pub extending_composes : (first second third : Catalogue) → WellFormed first → WellFormed second → WellFormed third
    → Extends first second → Extends second third → Extends first third
extending_composes first second third wf wf' wf'' ext ext' = record {
  same_places = ext.same_places ∙ ext'.same_places;
  classes_kept = λ c kn. (kn'' first second third wf wf' wf'' ext ext' c kn, class_composes first second third wf wf' wf'' ext ext' c kn);
}
