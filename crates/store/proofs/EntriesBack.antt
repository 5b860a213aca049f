-- The entry of an instance as bytes, with those that come with it: how many they are, and that they are read back.
use Prim.Native.Nat.{ℕ, ◌-◌, ◌≤◌}
use mathlib.Core.Path.{◌≡◌, refl}
use mathlib.Core.Bool.{Bool, true}
use mathlib.Core.List.{List, [], ◌∷◌, ◌++◌, append_assoc}
use lib.ListN.{length, take, replicate, length-append}
use lib.Seq.{drop_at}
use Rattle.rules.specs.Maps.{Map, keys, every, gather, same}
use Rattle.rules.specs.Bytes.{fill}
use Rattle.rules.specs.Catalogue.{Class, Catalogue, class, family}
use Rattle.rules.specs.State.{Entry, class_of}
use Rattle.rules.specs.Legal.{legal_contents, legal_entry}
use Rattle.rules.specs.WellFormed.{WellFormed}
use Rattle.rules.proofs.Laws.{both, never, eqb_eq}
use Rattle.rules.proofs.MapLaws.{Each}
use Rattle.rules.proofs.Families.{family_classes}
use Rattle.store.specs.Layout.{contents_bytes, entry_bytes, contents_width, family_width}
use Rattle.store.specs.Decode.{read_entry}
use Rattle.rules.proofs.ByteLaws.{fill_keeps}
use Rattle.store.proofs.ContentsBack.{contents_back, contents_length}

module _ (cat : Catalogue) where
  abbrev pub legal_each : Entry → Bool
  legal_each e = every (λ c r. legal_contents cat (class cat c) r) e

  pub family_back : (fam : Map Class) (e : Entry) (rest : List ℕ) → Each (λ d k. class cat d ≡ k) fam → same (keys e) (keys fam) ≡ true → legal_each e ≡ true
      → read_entry fam (entry_bytes e ++ rest) ≡ e
  unfolding read_entry entry_bytes keys same every gather
  family_back [] [] rest f s h = refl
  family_back [] (x ∷ e) rest f s h = never s
  family_back (k ∷ fam) [] rest f s h = never s
  family_back (k ∷ fam) (x ∷ e) rest f s h =
      let b : List ℕ = gather (λ (y : ℕ × List (ℕ × List ℕ)). contents_bytes y.1) e in
      let n : x.0 ≡ k.0 = eqb_eq x.0 k.0 (both s).0 in
      let g : legal_contents cat k.1 x.1 ≡ true = rw (← f.0, ← n) (both h).0 in
      rw (
        append_assoc (contents_bytes x.1) b rest,
        contents_back cat k.1 x.1 g (b ++ rest),
        drop_at (contents_bytes x.1) (b ++ rest) (contents_width k.1) (contents_length cat k.1 x.1 g),
        family_back fam e rest f.1 (both s).1 (both h).1,
        ← n,
      )

  pub family_length : (fam : Map Class) (e : Entry) → Each (λ d k. class cat d ≡ k) fam → same (keys e) (keys fam) ≡ true → legal_each e ≡ true
      → length (entry_bytes e) ≡ family_width fam
  unfolding entry_bytes keys same every gather family_width
  family_length [] [] f s h = refl
  family_length [] (x ∷ e) f s h = never s
  family_length (k ∷ fam) [] f s h = never s
  family_length (k ∷ fam) (x ∷ e) f s h =
      let n : x.0 ≡ k.0 = eqb_eq x.0 k.0 (both s).0 in
      let g : legal_contents cat k.1 x.1 ≡ true = rw (← f.0, ← n) (both h).0 in
      rw (
        length-append (contents_bytes x.1) (gather (λ (y : ℕ × List (ℕ × List ℕ)). contents_bytes y.1) e),
        contents_length cat k.1 x.1 g,
        family_length fam e f.1 (both s).1 (both h).1,
      )

module _ (cat : Catalogue) (w : WellFormed cat) (k : ℕ) (e : Entry) (h : legal_entry cat k e ≡ true) where
  pub entry_length : length (entry_bytes e) ≡ family_width (family cat (class_of k))
  unfolding legal_entry
  entry_length = family_length cat (family cat (class_of k)) e (family_classes cat w (class_of k)) (both h).0 (both h).1

  -- an entry that fits is read back from where it was filled in
  pub entry_back : (n : ℕ) → family_width (family cat (class_of k)) ≤ n → read_entry (family cat (class_of k)) (fill n (entry_bytes e)) ≡ e
  unfolding legal_entry
  entry_back n g =
      let l : length (entry_bytes e) ≤ n = rw entry_length g in
      rw (fill_keeps n (entry_bytes e) l)
      (family_back cat (family cat (class_of k)) e (take (n - length (entry_bytes e)) (replicate n 0)) (family_classes cat w (class_of k)) (both h).0 (both h).1)
