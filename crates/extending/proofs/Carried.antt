-- What a Create carries, in both products: what the first keeps and, behind it, what only the second keeps, which is zero.
use Prim.Native.Nat.{ℕ, ◌+◌}
use native.Mathlib.Omega.{arith}
use mathlib.Core.Path.{◌≡◌, refl, ◌∙◌, ap}
use mathlib.Core.Bool.{true, false, not}
use mathlib.Core.Option.{Option, none, some}
use mathlib.Core.List.{List, ◌++◌}
use lib.ListN.{drop, replicate}
use lib.Seq.{drop-drop}
use Rattle.rules.specs.Maps.{◌and◌, given, find, among, all, empty}
use Rattle.rules.specs.Masks.{total}
use Rattle.rules.specs.Catalogue.{Class, Catalogue, class, known, attribute, supported, size_of, carried_numbers}
use Rattle.rules.specs.State.{Contents}
use Rattle.rules.specs.Commands.{cut, carried_by, not_zero}
use Rattle.rules.specs.WellFormed.{WellFormed, carried_bytes, unkept_bytes}
use Rattle.rules.specs.Extends.{added_carried, ClassExtends, Extends}
use Rattle.rules.proofs.Laws.{cases, true_false}
use Rattle.rules.proofs.MapLaws.{find_append, among_those}
use Rattle.rules.proofs.Lookups.{C_supported}
use Rattle.rules.proofs.Standing.{all_imp, all_self}
use Rattle.legality.proofs.NewContents.{attributes_in_order}
use Rattle.legality.proofs.Carried.{C_in_carried, carried_is_C}
use Rattle.extending.proofs.Found.{class_extends}
use Rattle.extending.proofs.Judged.{same_cut}
use Rattle.extending.proofs.Gets.{same_total}
use Rattle.extending.proofs.Cuts.{cut_append, total_append, cut_none, Zeros, zeros_split, unkept_are_zero, zero_is_unkept, cut_zeros}

-- the same for what the first has, and zero for what only the second sets by create
pub record MatchedCarried (k l : Class) (r q : Contents) : Type 0 where
  pub same_carried : (n : ℕ) → supported k n ≡ true → find n q ≡ find n r
  pub added_carried_zero : (n : ℕ) → supported k n ≡ false → (attribute l n).C ≡ true → find n q ≡ some (replicate (size_of l n) 0)

module _ (first second : Catalogue) (wf : WellFormed first) (wf' : WellFormed second) (ext : Extends first second) (c : ℕ) (kn : known first c ≡ true) where
  abbrev k : Class
  k = class first c

  abbrev l : Class
  l = class second c

  abbrev kept : ClassExtends first second (class first c) (class second c)
  kept = class_extends first second wf wf' ext c kn

  carried_supported : (n : ℕ) → among n (carried_numbers k) ≡ true → supported k n ≡ true
  carried_supported n y = C_supported k n (carried_is_C k (attributes_in_order first wf c kn) n y)

  all_carried_supported : all (supported k) (carried_numbers k) ≡ true
  all_carried_supported = all_imp (λ n. among n (carried_numbers k)) (supported k) carried_supported (carried_numbers k) (all_self (carried_numbers k))

  pub in_added : (n : ℕ) → supported k n ≡ false → (attribute l n).C ≡ true → among n (added_carried k l) ≡ true
  unfolding added_carried ◌and◌
  in_added n absent y = rw (among_those (λ n. not (supported k n)) n (carried_numbers l), absent) (C_in_carried second wf' l n y)

  not_in_added : (n : ℕ) → supported k n ≡ true → among n (added_carried k l) ≡ false
  unfolding added_carried ◌and◌
  not_in_added n sup = rw (among_those (λ n. not (supported k n)) n (carried_numbers l), sup) refl

  -- ---- how many bytes

  abbrev front : ℕ
  front = total (size_of k) (carried_numbers k)

  abbrev added : ℕ
  added = total (size_of l) (added_carried k l)

  front_and_added : total (size_of l) (carried_numbers l) ≡ front + added
  front_and_added =
      ap (total (size_of l)) kept.added_come_after
      ∙ total_append (size_of l) (carried_numbers k) (added_carried k l)
      ∙ ap (λ (n : ℕ). n + added) (same_total first second wf wf' ext c kn (carried_numbers k) all_carried_supported)

  -- what only the second keeps takes the place of bytes that the first doesn't keep
  unkept_split : unkept_bytes k.unkept ≡ added + unkept_bytes l.unkept
  unfolding carried_bytes
  unkept_split =
      let e : front + unkept_bytes k.unkept ≡ total (size_of l) (carried_numbers l) + unkept_bytes l.unkept = kept.creates_carry_equally in
      let f : total (size_of l) (carried_numbers l) ≡ front + added = front_and_added in
      omega arith

  -- ---- the bytes of one Create

  module _ (v : List ℕ) where
    abbrev behind : List ℕ
    behind = drop front v

    -- the second carries what the first does, and behind it what only the second does
    carried_too : carried_by l v ≡ carried_by k v ++ cut (size_of l) (added_carried k l) behind
    unfolding carried_by
    carried_too =
        ap (λ (m : List ℕ). cut (size_of l) m v) kept.added_come_after
        ∙ cut_append (size_of l) (carried_numbers k) (added_carried k l) v
        ∙ rw (
          same_cut first second wf wf' ext c kn (carried_numbers k) v all_carried_supported,
          same_total first second wf wf' ext c kn (carried_numbers k) all_carried_supported,
        ) refl

    find_carried : (n : ℕ) → find n (carried_by l v) ≡ given (find n (carried_by k v)) (find n (cut (size_of l) (added_carried k l) behind)) some
    find_carried n = ap (find n) carried_too ∙ find_append n (carried_by k v) (cut (size_of l) (added_carried k l) behind)

    not_carried : (n : ℕ) → supported k n ≡ false → find n (carried_by k v) ≡ none
    unfolding carried_by
    not_carried n absent = cut_none (size_of k) (carried_numbers k) v n
        (cases (among n (carried_numbers k)) (λ y. true_false (carried_supported n y) absent) (λ y. y))

    module _ (clean : empty (not_zero k.unkept behind) ≡ true) where
      zeros_behind : Zeros added behind × Zeros (unkept_bytes l.unkept) (drop added behind)
      zeros_behind = zeros_split added (unkept_bytes l.unkept) behind (rw unkept_split at (unkept_are_zero k.unkept behind clean))

      -- where the first found zero behind what it keeps, the second does
      pub clean_too : empty (not_zero l.unkept (drop (total (size_of l) (carried_numbers l)) v)) ≡ true
      clean_too = rw (front_and_added, ← drop-drop added front v) (zero_is_unkept l.unkept (drop added behind) zeros_behind.1)

      pub carried_match : MatchedCarried k l (carried_by k v) (carried_by l v)
      carried_match = record {
        same_carried = λ n sup. rw (find_carried n, cut_none (size_of l) (added_carried k l) behind n (not_in_added n sup)) (itself (find n (carried_by k v)));
        added_carried_zero = λ n absent y. rw (find_carried n, not_carried n absent)
            (cut_zeros (size_of l) (added_carried k l) behind zeros_behind.0 n (in_added n absent y));
      }
        where
          itself : (o : Option (List ℕ)) → given o none some ≡ o
          itself none = refl
          itself (some w) = refl
