-- What is written into an instance leaves its contents legal.
use Prim.Native.Nat.{ℕ, suc, ◌≤◌}
use mathlib.Core.Path.{◌≡◌, refl, ◌∙◌, sym}
use mathlib.Core.Bool.{Bool, true, false, cond}
use mathlib.Core.Option.{Option, none, some}
use mathlib.Core.List.{List, [], ◌∷◌}
use lib.ListN.{length}
use lib.Dec.{eqb}
use Rattle.rules.specs.Maps.{◌and◌, given, find, has, keys, every, each, among, is_some}
use Rattle.rules.specs.Bytes.{are_bytes}
use Rattle.rules.specs.Catalogue.{Class, Catalogue, attribute, size_of, stored_numbers, is_fixed, Verdict, asks, fine, bad}
use Rattle.rules.specs.State.{Contents, content, overwrite}
use Rattle.rules.specs.Legal.{fixed_contents, legal_content, there_or_gone, legal_contents, passes}
use Rattle.rules.proofs.Laws.{cases, true_false, both, and_true, eqb_true, eqb_eq, same_eq, eq_same, every_imp, keys_each, every_each, find_each, never, among_here, eqb_false}
use Rattle.rules.proofs.Laws.{or_right, find_some, has_among}
use Rattle.rules.proofs.MapLaws.{Up, up_among}
use native.Mathlib.Omega.{arith}
use mathlib.Core.Logic.{◌≢◌}
use Rattle.rules.specs.WellFormed.{asks_nothing}

-- a content as a legal state has it, in an instance whose contents are r
pub record Value (cat : Catalogue) (k : Class) (r : Contents) (n : ℕ) (v : List ℕ) : Type 0 where
  pub sized : length v ≡ size_of k n
  pub bytes : are_bytes v ≡ true
  pub legal : legal_content (there_or_gone cat) k r n v ≡ true

abbrev pub value_test : Catalogue → Class → Contents → ℕ → List ℕ → Bool
value_test cat k r n v = eqb (length v) (size_of k n) and are_bytes v and legal_content (there_or_gone cat) k r n v

pub value_of : (cat : Catalogue) (k : Class) (r : Contents) (n : ℕ) (v : List ℕ) → value_test cat k r n v ≡ true → Value cat k r n v
value_of cat k r n v h = record { sized = eqb_eq (length v) (size_of k n) (both h).0; bytes = (both (both h).1).0; legal = (both (both h).1).1 }

pub of_value : (cat : Catalogue) (k : Class) (r : Contents) (n : ℕ) (v : List ℕ) → Value cat k r n v → value_test cat k r n v ≡ true
of_value cat k r n v h = and_true (eqb_true (length v) (size_of k n) h.sized) (and_true h.bytes h.legal)

-- the same under contents that agree on what rules may look at
pub value_agrees : (cat : Catalogue) (k : Class) (r q : Contents) (n : ℕ) (v : List ℕ) → fixed_contents k r ≡ fixed_contents k q → Value cat k r n v → Value cat k q n v
unfolding legal_content
value_agrees cat k r q n v e h = record { sized = h.sized; bytes = h.bytes; legal = rw e at h.legal }

-- ---- an instance's contents, entry by entry

pub record LegalContents (cat : Catalogue) (k : Class) (r : Contents) : Type 0 where
  pub its_keys : keys r ≡ stored_numbers k
  pub values : every (value_test cat k r) r ≡ true

pub open_contents : (cat : Catalogue) (k : Class) (r : Contents) → legal_contents cat k r ≡ true → LegalContents cat k r
unfolding legal_contents
open_contents cat k r h = record { its_keys = same_eq (keys r) (stored_numbers k) (both h).0; values = (both h).1 }

pub close_contents : (cat : Catalogue) (k : Class) (r : Contents) → LegalContents cat k r → legal_contents cat k r ≡ true
unfolding legal_contents
close_contents cat k r h = and_true (eq_same (keys r) (stored_numbers k) h.its_keys) h.values

-- ---- writing over

-- what may be written: legal values, of attributes that rules don't look at
abbrev pub Writable : Catalogue → Class → Contents → Contents → Type 0
Writable cat k r new = (n : ℕ) (v : List ℕ) → find n new ≡ some v → Value cat k r n v × (is_fixed (attribute k n) ≡ false)

pub content_each : (f : ℕ → List ℕ → List ℕ) (n : ℕ) (r : Contents) → ((v : List ℕ) → f n v ≡ v) → content n (each f r) ≡ content n r
unfolding content
content_each f n r h = rw (find_each f n r) (go (find n r))
  where
    go : (o : Option (List ℕ)) → given (given o none (λ a. some (f n a))) [] (λ v. v) ≡ given o [] (λ v. v)
    go none = refl
    go (some a) = h a

pub content_found : (n : ℕ) (v : List ℕ) (r : Contents) → find n r ≡ some v → content n r ≡ v
unfolding content
content_found n v r e = rw e refl

pub content_kept : (new r : Contents) (n : ℕ) → find n new ≡ none → content n (overwrite new r) ≡ content n r
unfolding content overwrite
content_kept new r n e = rw (find_each (λ m v. given (find m new) v (λ w. w)) n r) (go (find n r))
  where
    go : (o : Option (List ℕ)) → given (given {B = Option (List ℕ)} o none (λ v. some (given (find n new) v (λ w. w)))) [] (λ v. v) ≡ given o [] (λ v. v)
    go none = refl
    go (some v) = rw e refl

pub content_put : (new r : Contents) (n : ℕ) (w : List ℕ) → find n new ≡ some w → has n r ≡ true → content n (overwrite new r) ≡ w
unfolding content overwrite
content_put new r n w e h = rw (find_each (λ m v. given (find m new) v (λ w. w)) n r) (go (find n r) h)
  where
    go : (o : Option (List ℕ)) → is_some o ≡ true → given (given {B = Option (List ℕ)} o none (λ v. some (given (find n new) v (λ w. w)))) [] (λ v. v) ≡ w
    go none h = never h
    go (some v) h = rw e refl

-- what is among both is the new one
pub content_over : (new r : Contents) (n : ℕ) → among n (keys new) ≡ true → among n (keys r) ≡ true → content n (overwrite new r) ≡ content n new
content_over new r n h g =
    let f = find_some n new (has_among n new ∙ h) in
    content_put new r n f.0 f.1 (has_among n r ∙ g) ∙ sym (content_found n f.0 new f.1)

-- contents of the same attributes, which are the same
pub same_contents : (b : ℕ) (r s : Contents) → Up b (keys r) → keys r ≡ keys s → ((n : ℕ) → among n (keys r) ≡ true → content n r ≡ content n s) → r ≡ s
unfolding keys content find among
same_contents b [] [] u e h = refl
same_contents b [] (y ∷ s) u e h = absurd (let z : ◌≡◌ {A = ℕ} 0 1 = cc in omega arith)
same_contents b (x ∷ r) [] u e h = absurd (let z : ◌≡◌ {A = ℕ} 0 1 = cc in omega arith)
same_contents b (x ∷ r) (y ∷ s) u e h =
    let n : x.0 ≡ y.0 = cc in
    let m : keys r ≡ keys s = cc in
    let v : x.1 ≡ y.1 = rw (eqb_true x.0 x.0 refl, eqb_true x.0 y.0 n) at (h x.0 (among_here x.0 (keys r))) in
    let rest : r ≡ s = same_contents (suc x.0) r s u.1 m (λ i a.
    let past : suc x.0 ≤ i = up_among (suc x.0) i (keys r) u.1 a in
    let one : i ≢ x.0 = omega arith in
    let other : i ≢ y.0 = omega arith in
    rw (eqb_false i x.0 one, eqb_false i y.0 other) at (h i (or_right (eqb i x.0) a))) in
    λ i. (n i, v i) ∷ rest i

-- contents changed where rules don't look
pub fixed_each : (k : Class) (f : ℕ → List ℕ → List ℕ) (r : Contents) → ((n : ℕ) (v : List ℕ) → is_fixed (attribute k n) ≡ true → f n v ≡ v)
    → fixed_contents k r ≡ fixed_contents k (each f r)
unfolding fixed_contents
fixed_each k f r h = λ i n. go n i
  where
    go : (n : ℕ) → cond (is_fixed (attribute k n)) (content n r) [] ≡ cond (is_fixed (attribute k n)) (content n (each f r)) []
    go n = cases (is_fixed (attribute k n)) (λ e. rw (e, content_each f n r (λ v. h n v e))) (λ e. rw e)

-- every content changed to a legal one, where rules don't look
pub legal_each : (cat : Catalogue) (k : Class) (f : ℕ → List ℕ → List ℕ) (r : Contents)
    → ((n : ℕ) (v : List ℕ) → is_fixed (attribute k n) ≡ true → f n v ≡ v)
    → ((n : ℕ) (v : List ℕ) → Value cat k r n v → Value cat k r n (f n v))
    → LegalContents cat k r → LegalContents cat k (each f r)
legal_each cat k f r fixed step h =
    let e : fixed_contents k r ≡ fixed_contents k (each f r) = fixed_each k f r fixed in
    record {
      its_keys = keys_each f r ∙ h.its_keys;
      values = rw (every_each (value_test cat k (each f r)) f r)
          (every_imp (value_test cat k r) (λ n v. value_test cat k (each f r) n (f n v))
          (λ n v t. of_value cat k (each f r) n (f n v) (value_agrees cat k r (each f r) n (f n v) e (step n v (value_of cat k r n v t))))
          r h.values);
    }

pub legal_overwrite : (cat : Catalogue) (k : Class) (new r : Contents) → Writable cat k r new → LegalContents cat k r → LegalContents cat k (overwrite new r)
unfolding overwrite
legal_overwrite cat k new r w h = legal_each cat k (λ n v. given (find n new) v (λ x. x)) r
    (λ n v e. same_if_fixed n v (find n new) refl e)
    (λ n v old. new_or_old n v (find n new) refl old) h
  where
    same_if_fixed : (n : ℕ) (v : List ℕ) (o : Option (List ℕ)) → find n new ≡ o → is_fixed (attribute k n) ≡ true → given o v (λ x. x) ≡ v
    same_if_fixed n v none e t = refl
    same_if_fixed n v (some x) e t = true_false t (w n x e).1

    new_or_old : (n : ℕ) (v : List ℕ) (o : Option (List ℕ)) → find n new ≡ o → Value cat k r n v → Value cat k r n (given o v (λ x. x))
    new_or_old n v none e old = old
    new_or_old n v (some x) e old = (w n x e).0

-- a verdict that asks for no instance is the same wherever it is asked
pub passes_anywhere : (there there' : ℕ → ℕ → Bool) (v : Verdict) → asks_nothing v ≡ true → passes there v ≡ passes there' v
unfolding passes
passes_anywhere there there' fine a = refl
passes_anywhere there there' bad a = refl
passes_anywhere there there' (asks c i) a = never a
