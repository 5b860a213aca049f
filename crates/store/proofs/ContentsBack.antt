-- The contents of an instance as bytes: how many they are, and that they are read back.
use Prim.Native.Nat.{ℕ}
use mathlib.Core.Path.{◌≡◌, refl, ap}
use mathlib.Core.Bool.{Bool, true}
use mathlib.Core.List.{List, [], ◌∷◌, ◌++◌, append_assoc}
use lib.ListN.{length, length-append, take, drop}
use lib.Seq.{take_at, drop_at, take-add}
use lib.Dec.{eqb}
use Rattle.rules.specs.Maps.{◌and◌, keys, every, gather}
use Rattle.rules.specs.Bytes.{are_bytes}
use Rattle.rules.specs.Masks.{total}
use Rattle.rules.specs.Catalogue.{Class, Catalogue, size_of, stored_numbers}
use Rattle.rules.specs.State.{Contents}
use Rattle.rules.specs.Legal.{legal_content, there_or_gone, legal_contents}
use Rattle.rules.specs.Commands.{cut}
use Rattle.rules.proofs.Laws.{both, eqb_eq, same_eq, every_imp}
use Rattle.store.specs.Layout.{contents_bytes, contents_width}
use Rattle.store.specs.Decode.{read_contents}

-- each content has its size
abbrev pub sized : (ℕ → ℕ) → Contents → Bool
sized size r = every (λ n v. eqb (length v) (size n)) r

-- contents are cut off again by their sizes
pub cut_back : (size : ℕ → ℕ) (r : Contents) (rest : List ℕ) → sized size r ≡ true → cut size (keys r) (contents_bytes r ++ rest) ≡ r
unfolding cut keys contents_bytes gather every
cut_back size [] rest h = refl
cut_back size (e ∷ r) rest h =
    let b : List ℕ = gather (λ (x : ℕ × List ℕ). x.1) r in
    let n : length e.1 ≡ size e.0 = eqb_eq (length e.1) (size e.0) (both h).0 in
    rw (
      append_assoc e.1 b rest,
      take_at e.1 (b ++ rest) (size e.0) n,
      drop_at e.1 (b ++ rest) (size e.0) n,
      cut_back size r rest (both h).1,
    )

-- and put together again
pub bytes_of_cut : (size : ℕ → ℕ) (l b : List ℕ) → contents_bytes (cut size l b) ≡ take (total size l) b
unfolding contents_bytes gather cut total
bytes_of_cut size [] b = refl
bytes_of_cut size (n ∷ l) b = rw (take-add (size n) (total size l) b) (ap (λ (x : List ℕ). take (size n) b ++ x) (bytes_of_cut size l (drop (size n) b)))

pub length_sized : (size : ℕ → ℕ) (r : Contents) → sized size r ≡ true → length (contents_bytes r) ≡ total size (keys r)
unfolding keys contents_bytes gather every total
length_sized size [] h = refl
length_sized size (e ∷ r) h =
    rw (
      length-append e.1 (gather (λ (x : ℕ × List ℕ). x.1) r),
      eqb_eq (length e.1) (size e.0) (both h).0,
      length_sized size r (both h).1,
    )

-- ---- legal contents

module _ (cat : Catalogue) (k : Class) (r : Contents) (h : legal_contents cat k r ≡ true) where
  pub legal_keys : keys r ≡ stored_numbers k
  unfolding legal_contents
  legal_keys = same_eq (keys r) (stored_numbers k) (both h).0

  pub legal_sized : sized (size_of k) r ≡ true
  unfolding legal_contents
  legal_sized =
      every_imp (λ n v. eqb (length v) (size_of k n) and are_bytes v and legal_content (there_or_gone cat) k r n v) (λ n v. eqb (length v) (size_of k n))
      (λ n v g. (both g).0) r (both h).1

  pub contents_back : (rest : List ℕ) → read_contents k (contents_bytes r ++ rest) ≡ r
  unfolding read_contents
  contents_back rest = rw (← legal_keys) (cut_back (size_of k) r rest legal_sized)

  pub contents_length : length (contents_bytes r) ≡ contents_width k
  unfolding contents_width
  contents_length = rw (← legal_keys) (length_sized (size_of k) r legal_sized)
