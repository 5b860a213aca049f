-- What the first product takes for legal, the second does.
use Prim.Native.Nat.{ℕ, ◌≤◌}
use mathlib.Core.Path.{◌≡◌, refl, ◌∙◌}
use mathlib.Core.Bool.{Bool, true, false, not}
use mathlib.Core.List.{List, [], ◌∷◌}
use lib.ListN.{length, drop}
use lib.Dec.{eqb}
use Rattle.rules.specs.Maps.{◌and◌, Map, keys, keep, every, all, empty}
use Rattle.rules.specs.Bytes.{are_bytes}
use Rattle.rules.specs.Masks.{total}
use Rattle.rules.specs.Catalogue.{Attribute, Class, Catalogue, class, known, attribute, supported, size_of, is_fixed}
use Rattle.rules.specs.State.{Contents, Table, holds, content}
use Rattle.rules.specs.Legal.{fixed_contents, passes, legal_content}
use Rattle.rules.specs.Commands.{cut, illegal}
use Rattle.rules.specs.WellFormed.{WellFormed}
use Rattle.rules.specs.Extends.{Agree, AttributeExtends, Extends}
use Rattle.rules.proofs.Laws.{cases, true_false, not-true, false_not, both, and_true, eqb_eq, every_imp}
use Rattle.rules.proofs.MapLaws.{every_keys}
use Rattle.rules.proofs.ByteLaws.{keys_cut, sized_cut, bytes_cut}
use Rattle.legality.proofs.Tables.{LegalLive}
use Rattle.legality.proofs.Refusals.{none_kept}
use Rattle.extending.specs.Matched.{MatchedContents, MatchedTable}
use Rattle.extending.proofs.Found.{class_extends, automatic_held, companion_held, held_by_both}

-- ---- tests of every entry

pub every_kept : {A : Type 0} (p : ℕ → A → Bool) (m : Map A) → every p m ≡ true → empty (keys (keep (λ n a. not (p n a)) m)) ≡ true
unfolding keys keep every
every_kept p [] h = refl
every_kept p (x ∷ m) h = rw (both h).0 (every_kept p m (both h).1)

pub every_and : {A : Type 0} (p q : ℕ → A → Bool) (m : Map A) → every p m ≡ true → every q m ≡ true → every (λ n a. p n a and q n a) m ≡ true
unfolding every
every_and p q [] h g = refl
every_and p q (x ∷ m) h g = and_true (and_true (both h).0 (both g).0) (every_and p q m (both h).1 (both g).1)

-- ---- what rules may look at

-- an attribute that rules may look at in the second, they may look at in the first
pub fixed_before : (first second : Catalogue) (k l : Class) (a b : Attribute) → AttributeExtends first second k l a b → is_fixed b ≡ true → is_fixed a ≡ true
fixed_before first second k l a b x h =
    let g = both h in
    let w : b.W ≡ false = not-true (both g.1).0 in
    and_true (x.same_C ∙ g.0) (and_true
    (false_not (cases a.W (λ y. true_false (x.W_grows y) w) (λ y. y)))
    (rw x.same_L (both g.1).1))

module _ (first second : Catalogue) (wf : WellFormed first) (wf' : WellFormed second) (ext : Extends first second) where
  pub contents_agree : (c : ℕ) → known first c ≡ true → (r q : Contents) → MatchedContents (class first c) (class second c) r q
      → Agree (class first c) (class second c) (fixed_contents (class first c) r) (fixed_contents (class second c) q)
  unfolding fixed_contents content
  contents_agree c kn r q m n =
      let k : Class = class first c in
      let l : Class = class second c in (
        λ fixed. (
          λ sup.
              let x = ((class_extends first second wf wf' ext c kn).attributes_kept n sup).1 in
              rw (fixed, fixed_before first second k l (attribute k n) (attribute l n) x fixed, m.same_contents n sup) refl,
          λ sup. rw fixed (m.added_is_zero n sup fixed),
        ),
        λ loose. rw loose refl,
        λ loose. rw loose refl,
      )

  -- sizes are the same, so what is cut off is the same
  pub same_cut : (c : ℕ) → known first c ≡ true → (l w : List ℕ) → all (supported (class first c)) l ≡ true
      → cut (size_of (class second c)) l w ≡ cut (size_of (class first c)) l w
  unfolding cut all
  same_cut c kn [] w sup = refl
  same_cut c kn (n ∷ l) w sup =
      let e = ((class_extends first second wf wf' ext c kn).attributes_kept n (both sup).0).1.same_size in
      rw (← e, same_cut c kn l (drop (size_of (class first c) n) w) (both sup).1) refl

  -- ---- verdicts

  module _ (t u : Table) (h : LegalLive first wf t) (h' : LegalLive second wf' u) (m : MatchedTable first second t u) where
    -- what is legal in the first is in the second
    pub legal_too : (c : ℕ) → known first c ≡ true → (f g : ℕ → List ℕ) → Agree (class first c) (class second c) f g
        → (n : ℕ) → supported (class first c) n ≡ true → (v : List ℕ) → length v ≡ size_of (class first c) n → are_bytes v ≡ true
        → passes (holds first t) ((attribute (class first c) n).rule v f) ≡ true
        → passes (holds second u) ((attribute (class second c) n).rule v g) ≡ true
    legal_too c kn f g agree n sup v sized bytes ok =
        ((class_extends first second wf wf' ext c kn).attributes_kept n sup).1.legal_contents_grow v f g sized bytes agree
        (holds first t) (holds second u) (held_by_both first second wf wf' ext t u m h h') (automatic_held second wf' u h') (companion_held second wf' u h') ok

    -- none of the values cut off is illegal in the second if none is in the first
    pub none_illegal : (c : ℕ) → known first c ≡ true → (l w : List ℕ) (r q : Contents)
        → Agree (class first c) (class second c) (fixed_contents (class first c) r) (fixed_contents (class second c) q)
        → all (supported (class first c)) l ≡ true → total (size_of (class first c)) l ≤ length w → are_bytes w ≡ true
        → empty (illegal (holds first t) (class first c) r (cut (size_of (class first c)) l w)) ≡ true
        → empty (illegal (holds second u) (class second c) q (cut (size_of (class first c)) l w)) ≡ true
    unfolding illegal legal_content
    none_illegal c kn l w r q agree sup long bytes good =
        let k : Class = class first c in
        let new : Contents = cut (size_of k) l w in
        let has_one : ℕ → List ℕ → Bool = λ n x. supported k n in
        let sized : ℕ → List ℕ → Bool = λ n x. eqb (length x) (size_of k n) in
        let of_bytes : ℕ → List ℕ → Bool = λ n x. are_bytes x in
        let legal : ℕ → List ℕ → Bool = legal_content (holds first t) k r in
        every_kept (legal_content (holds second u) (class second c) q) new
        (every_imp (λ n x. (has_one n x and sized n x) and (of_bytes n x and legal n x)) (legal_content (holds second u) (class second c) q)
        (λ n x y.
        let a = both (both y).0 in
        let b = both (both y).1 in
        legal_too c kn (fixed_contents k r) (fixed_contents (class second c) q) agree n a.0 x (eqb_eq (length x) (size_of k n) a.1) b.0 b.1)
        new
        (every_and (λ n x. has_one n x and sized n x) (λ n x. of_bytes n x and legal n x) new
        (every_and has_one sized new (rw (every_keys (supported k) new, keys_cut (size_of k) l w) sup) (sized_cut (size_of k) l w long))
        (every_and of_bytes legal new (bytes_cut (size_of k) l w bytes) (none_kept legal new good))))
