-- What holds of the classes whose instances have slots: they are alone in their entries, fit their slots, and copy nothing.
use Prim.Native.Nat.{ℕ, zero, suc, ◌≤◌, ◌<◌}
use native.Mathlib.Omega.{arith}
use mathlib.Core.Path.{◌≡◌, refl, sym, ◌∙◌, ap}
use mathlib.Core.Bool.{Bool, true, false}
use mathlib.Core.List.{List, [], ◌∷◌}
use lib.ListN.{length, get_or}
use lib.Dec.{eqb}
use Rattle.rules.specs.Maps.{Map, keys, every, among, all, rising}
use Rattle.rules.specs.Masks.{named, mask}
use Rattle.rules.specs.Catalogue.{constant, copied, Source, stored, of_creator, count_of, Attribute, Class, Catalogue, class, known, attribute, size_of, is_stored, stored_numbers}
use Rattle.rules.specs.Catalogue.{is_created, leader, family}
use Rattle.rules.specs.State.{class_of}
use Rattle.rules.specs.Legal.{automatic_keys}
use Rattle.rules.specs.WellFormed.{WellFormed, FirstIsLegal}
use Rattle.rules.proofs.Laws.{never, true_false, both, and_true, or_right, eqb_true, ltb_lt, all_among, among_here}
use Rattle.rules.proofs.MapLaws.{Each}
use Rattle.rules.proofs.Standing.{all_self, stands, automatic_keys_stand, stands_leads, stands_not_created}
use Rattle.rules.proofs.Families.{family_classes, family_rises, family_has, alone}
use Rattle.store.specs.Layout.{slot_width, contents_width, family_width}
use Rattle.store.proofs.ContentsBack.{sized}
use Rattle.store.proofs.Widths.{slot_fits}
use Rattle.legality.proofs.ResetContents.{nothing_carried}
use Rattle.bits.proofs.Masks.{Within, within_rising, named_mask}
use Rattle.class_tables.specs.declared.Product.{Product}
use Rattle.class_tables.specs.Built.{cat_of, class_for}
use Rattle.class_tables.proofs.EveryProduct.{well_formed_of, fits_of}
use Rattle.class_tables.proofs.ClassLaws.{stored_there}
use Rattle.class_tables.proofs.Facts.{stored_within, writable_within, writable_stored}
use Rattle.attribute_write.specs.Lays.{first_from, firsts, leading_class, all_stored}
use Rattle.reset_command.specs.Resets.{begun}

-- ---- any class: the attributes that are written are stored, and the masks name them

pub begun_stored : (pr : Product) (c : ℕ) (every : Bool) → all_stored (class_for pr c) (begun every (class_for pr c)) ≡ true
begun_stored pr c true = all_self (stored_numbers (class_for pr c))
begun_stored pr c false = writable_stored pr c

begun_within : (pr : Product) (c : ℕ) (every : Bool) → Within 1 (begun every (class_for pr c))
begun_within pr c true = stored_within pr c
begun_within pr c false = writable_within pr c

pub begun_rises : (pr : Product) (c : ℕ) (every : Bool) → rising (begun every (class_for pr c)) ≡ true
begun_rises pr c every = within_rising 1 (begun every (class_for pr c)) (begun_within pr c every)

pub begun_named : (pr : Product) (c : ℕ) (every : Bool) {asked : ℕ} → asked ≡ mask (begun every (class_for pr c)) → named asked ≡ begun every (class_for pr c)
begun_named pr c every e = ap named e ∙ named_mask (begun every (class_for pr c)) (begun_within pr c every)

-- ---- a class that stays at a reset: its first contents are written out

first_sized : (cat : Catalogue) (c : ℕ) (a : Attribute) (lead : Class) → is_created (class cat (leader cat c)).creation ≡ false
    → (s : Source) → is_stored s ≡ true → FirstIsLegal cat c a s → length (first_from lead [] a.size s) ≡ a.size
unfolding first_from
first_sized cat c a lead stays (stored (constant v)) i f = f.0
first_sized cat c a lead stays (stored (copied m)) i f = true_false f.0 stays
first_sized cat c a lead stays (of_creator n) i f = never i
first_sized cat c a lead stays (count_of d n) i f = never i

module _ (pr : Product) (c : ℕ) (stays : is_created (class_for pr (leader (cat_of pr) c)).creation ≡ false) where
  abbrev k : Class
  k = class_for pr c

  first_is_legal : (n : ℕ) → among n (stored_numbers k) ≡ true → FirstIsLegal (cat_of pr) c (attribute k n) (attribute k n).source
  first_is_legal n h =
      (well_formed_of pr).first_contents_are_legal c n (stored_there pr c n h).0 (nothing_carried (cat_of pr) (well_formed_of pr) c stays n)

  pub nothing_copied : (n m : ℕ) → among n (stored_numbers k) ≡ true → (attribute k n).source ≡ stored (copied m) → ⊥
  nothing_copied n m h e = let f : FirstIsLegal (cat_of pr) c (attribute k n) (stored (copied m)) = rw e at (first_is_legal n h) in true_false f.0 stays

  pub firsts_sized : (l : List ℕ) → all_stored k l ≡ true → sized (size_of k) (firsts k (leading_class pr c) [] l) ≡ true
  unfolding firsts all every
  firsts_sized [] h = refl
  firsts_sized (n ∷ l) h =
      let one : length (first_from (leading_class pr c) [] (size_of k n) (attribute k n).source) ≡ size_of k n =
      first_sized (cat_of pr) c (attribute k n) (leading_class pr c) stays (attribute k n).source (stored_there pr c n (both h).0).1 (first_is_legal n (both h).0) in
      and_true (eqb_true (length (first_from (leading_class pr c) [] (size_of k n) (attribute k n).source)) (size_of k n) one) (firsts_sized l (both h).1)

-- ---- a class of a slot

-- a class that leads itself and can't be created is all of its family
pub all_of_its_family : (cat : Catalogue) (wf : WellFormed cat) (c : ℕ) → known cat c ≡ true → leader cat c ≡ c → is_created (class cat c).creation ≡ false
    → family cat c ≡ (c, class cat c) ∷ []
unfolding keys rising among
all_of_its_family cat wf c kn leads made =
    let its_own : among c (keys (family cat (leader cat c))) ≡ true = family_has cat wf c kn in
    only (family cat c) (family_rises cat wf c) (rw leads at its_own) (alone cat wf c made) (family_classes cat wf c)
  where
    only : (m : Map Class) → rising (keys m) ≡ true → among c (keys m) ≡ true → ((d : ℕ) → among d (keys m) ≡ true → d ≡ c)
        → Each (λ d k. class cat d ≡ k) m → m ≡ (c, class cat c) ∷ []
    only [] r h f e = never h
    only (x ∷ []) r h f e =
        let its : x.0 ≡ c = f x.0 (among_here x.0 []) in
        ap (λ (k : Class). (x.0, k) ∷ []) (sym e.0) ∙ ap (λ (d : ℕ). (d, class cat d) ∷ []) its
    only (x ∷ y ∷ m) r h f e =
        let less : x.0 < y.0 = ltb_lt x.0 y.0 (both r).0 in
        let first : x.0 ≡ c = f x.0 (among_here x.0 (y.0 ∷ keys m)) in
        let second : y.0 ≡ c = f y.0 (or_right (eqb y.0 x.0) (among_here y.0 (keys m))) in
        absurd (omega arith)

pub record SlotClass (pr : Product) (c : ℕ) : Type 0 where
  pub stays : is_created (class_for pr (leader (cat_of pr) c)).creation ≡ false
  pub narrow : contents_width (class_for pr c) ≤ slot_width
  pub its_family : family (cat_of pr) c ≡ (c, class_for pr c) ∷ []

pub slot_class : (pr : Product) (k : ℕ) → among k (automatic_keys (cat_of pr)) ≡ true → SlotClass pr (class_of k)
unfolding family_width
slot_class pr k h =
    let cat : Catalogue = cat_of pr in
    let wf : WellFormed cat = well_formed_of pr in
    let c : ℕ = class_of k in
    let s : stands cat k ≡ true = all_among (stands cat) (automatic_keys cat) (automatic_keys_stand cat wf) k h in
    let leads : leader cat c ≡ c = stands_leads cat wf k s in
    let made : is_created (class cat c).creation ≡ false = stands_not_created cat wf k s in
    let fam : family cat c ≡ (c, class cat c) ∷ [] = all_of_its_family cat wf c (both s).0 leads made in
    let wide = rw fam at (slot_fits cat (fits_of pr) wf k s) in
    record { stays = rw leads made; narrow = omega arith; its_family = fam }

pub among_at : (j : ℕ) (l : List ℕ) → j < length l → among (get_or l j 0) l ≡ true
unfolding among
among_at j [] h = absurd (omega arith)
among_at zero (x ∷ l) h = among_here x l
among_at (suc j) (x ∷ l) h = or_right (eqb (get_or l j 0) x) (among_at j l (omega arith))
