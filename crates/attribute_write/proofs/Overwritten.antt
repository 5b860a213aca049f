-- New contents written over old ones: the bytes with each of the new contents laid over the old.
use Prim.Native.Nat.{ℕ, suc, ◌+◌, ◌≤◌}
use native.Mathlib.Nat.{zero-add, add_assoc}
use native.Mathlib.Omega.{arith}
use mathlib.Core.Path.{◌≡◌, refl, sym, ◌∙◌, ap}
use mathlib.Core.Bool.{true, false}
use mathlib.Core.Option.{Option, none, some}
use mathlib.Core.List.{List, [], ◌∷◌, ◌++◌}
use lib.ListN.{length, take, drop, length-take, length-drop, take-append-drop, replicate, replicate-append-replicate, length-append, length-replicate}
use lib.Seq.{length-take-le, drop-drop}
use lib.Dec.{eqb}
use Rattle.rules.specs.Maps.{is_some, given, find, keys, every, each, among, all, rising, gather}
use Rattle.rules.specs.Bytes.{laid}
use Rattle.rules.specs.Masks.{total}
use Rattle.rules.specs.Catalogue.{Class, size_of, stored_numbers}
use Rattle.rules.specs.State.{Contents, overwrite, content}
use Rattle.rules.specs.Commands.{cut}
use Rattle.rules.proofs.Laws.{cases, never, both, and_true, eqb_eq, keys_each, every_each, every_imp, every_find, has_among}
use Rattle.rules.proofs.MapLaws.{Up, rising_up, Each, each_found}
use Rattle.rules.proofs.ByteLaws.{keys_cut, sized_cut}
use Rattle.store.specs.Layout.{contents_bytes, contents_width}
use Rattle.store.proofs.ContentsBack.{sized, length_sized, bytes_of_cut}
use Rattle.octets.proofs.Laid.{length_laid, laid_behind, laid_before}
use Rattle.class_tables.specs.Describes.{offset_of}
use Rattle.class_tables.proofs.Offsets.{offset_fits, content_at}
use Rattle.octets.proofs.Parted.{part}
use Rattle.table.proofs.ContentsLaid.{not_below, contents_laid}
use Rattle.attribute_write.specs.Lays.{laid_values, all_stored}
use Rattle.rules.proofs.Standing.{all_self}

-- contents of stored attributes, each of its size
pub record Sized (k : Class) (new : Contents) : Type 0 where
  pub are_stored : all_stored k (keys new) ≡ true
  pub are_sized : sized (size_of k) new ≡ true

module _ (k : Class) (e : ℕ × List ℕ) (new : Contents) (s : Sized k (e ∷ new)) where
  pub first_is_stored : among e.0 (stored_numbers k) ≡ true
  unfolding keys all
  first_is_stored = (both s.are_stored).0

  pub first_length : length e.1 ≡ size_of k e.0
  unfolding every
  first_length = eqb_eq (length e.1) (size_of k e.0) (both s.are_sized).0

  pub first_fits : offset_of k e.0 + length e.1 ≤ contents_width k
  first_fits = let z = offset_fits k e.0 first_is_stored in let y = first_length in omega arith

  one_sized : Sized k (e ∷ [])
  unfolding keys all every
  one_sized = record { are_stored = and_true first_is_stored refl; are_sized = and_true (both s.are_sized).0 refl }

  pub rest_sized : Sized k new
  unfolding keys all every
  rest_sized = record { are_stored = (both s.are_stored).1; are_sized = (both s.are_sized).1 }

-- what is cut off for stored attributes
pub cut_is_sized : (k : Class) (l v : List ℕ) → all_stored k l ≡ true → total (size_of k) l ≤ length v → Sized k (cut (size_of k) l v)
cut_is_sized k l v s h = record { are_stored = rw (keys_cut (size_of k) l v) s; are_sized = sized_cut (size_of k) l v h }

-- ---- values laid into longer bytes

pub length_laid_values : (k : Class) (at : ℕ) (new : Contents) (b : List ℕ) → Sized k new → at + contents_width k ≤ length b
    → length (laid_values k at new b) ≡ length b
unfolding laid_values
length_laid_values k at [] b s h = refl
length_laid_values k at (e ∷ new) b s h =
    let f = first_fits k e new s in
    let l : length (laid (at + offset_of k e.0) e.1 b) ≡ length b = length_laid (at + offset_of k e.0) e.1 b (omega arith) in
    length_laid_values k at new (laid (at + offset_of k e.0) e.1 b) (rest_sized k e new s) (omega arith) ∙ l

pub values_behind : (k : Class) (at : ℕ) (new : Contents) (x b : List ℕ) → x ++ laid_values k at new b ≡ laid_values k (length x + at) new (x ++ b)
unfolding laid_values
values_behind k at [] x b = refl
values_behind k at (e ∷ new) x b =
    values_behind k at new x (laid (at + offset_of k e.0) e.1 b)
    ∙ rw (laid_behind x e.1 b (at + offset_of k e.0), ← add_assoc (length x) at (offset_of k e.0))

pub values_before : (k : Class) (at : ℕ) (new : Contents) (b rest : List ℕ) → Sized k new → at + contents_width k ≤ length b
    → laid_values k at new b ++ rest ≡ laid_values k at new (b ++ rest)
unfolding laid_values
values_before k at [] b rest s h = refl
values_before k at (e ∷ new) b rest s h =
    let f = first_fits k e new s in
    let l : length (laid (at + offset_of k e.0) e.1 b) ≡ length b = length_laid (at + offset_of k e.0) e.1 b (omega arith) in
    values_before k at new (laid (at + offset_of k e.0) e.1 b) rest (rest_sized k e new s) (omega arith)
    ∙ ap (laid_values k at new) (laid_before e.1 b rest (at + offset_of k e.0) (omega arith))

-- values laid at a place are laid over the instance's contents there
pub values_in_part : (k : Class) (o : ℕ) (new : Contents) (b : List ℕ) → Sized k new → o + contents_width k ≤ length b
    → laid_values k o new b ≡ laid o (laid_values k 0 new (part o (contents_width k) b)) b
unfolding laid
values_in_part k o new b s h =
    let n : ℕ = contents_width k in
    let x : List ℕ = take o b in
    let y : List ℕ = part o n b in
    let z : List ℕ = drop n (drop o b) in
    let lx : length x + 0 ≡ o = simp length-take (omega arith) in
    let ly : length y ≡ n = length-take-le n (drop o b) (simp length-drop (omega arith)) in
    let lv : length (laid_values k 0 new y) ≡ n = length_laid_values k 0 new y s (omega arith) ∙ ly in
    let parts : b ≡ x ++ (y ++ z) = rw (take-append-drop n (drop o b)) (sym (take-append-drop o b)) in
    let in_parts : laid_values k o new (x ++ (y ++ z)) ≡ x ++ (laid_values k 0 new y ++ z) =
    rw (values_before k 0 new y z s (omega arith), values_behind k 0 new x (y ++ z), lx) refl in
    ap (laid_values k o new) parts ∙ in_parts ∙ rw (lv, drop-drop n o b)

-- ---- contents

-- one after another, where each is named once
overwrite_next : (e : ℕ × List ℕ) (new r : Contents) → among e.0 (keys new) ≡ false → overwrite (e ∷ new) r ≡ overwrite new (overwrite (e ∷ []) r)
unfolding overwrite each find
overwrite_next e new [] a = refl
overwrite_next e new (x ∷ r) a = cases (eqb x.0 e.0)
    (λ t. let z : find x.0 new ≡ none = absent (find x.0 new) (has_among x.0 new ∙ rw (eqb_eq x.0 e.0 t) a) in
    rw (t, z, overwrite_next e new r a))
    (λ t. rw (t, overwrite_next e new r a))
  where
    absent : (o : Option (List ℕ)) → is_some o ≡ false → o ≡ none
    absent none q = refl
    absent (some v) q = never (sym q)

sized_overwrite : (size : ℕ → ℕ) (new r : Contents) → sized size new ≡ true → sized size r ≡ true → sized size (overwrite new r) ≡ true
unfolding overwrite
sized_overwrite size new r s h =
    every_each (λ n v. eqb (length v) (size n)) (λ n v. given (find n new) v (λ w. w)) r
    ∙ every_imp (λ n v. eqb (length v) (size n)) (λ n v. eqb (length (given (find n new) v (λ w. w))) (size n)) (λ n v q. go n v (find n new) refl q) r h
  where
    go : (n : ℕ) (v : List ℕ) (o : Option (List ℕ)) → find n new ≡ o → eqb (length v) (size n) ≡ true → eqb (length (given o v (λ w. w))) (size n) ≡ true
    go n v none f q = q
    go n v (some w) f q = every_find (λ n v. eqb (length v) (size n)) new s n w f

overwrite_none : (r : Contents) → overwrite [] r ≡ r
unfolding overwrite each find
overwrite_none [] = refl
overwrite_none (x ∷ r) = ap (λ (m : Contents). x ∷ m) (overwrite_none r)

keys_overwrite : (new r : Contents) → keys (overwrite new r) ≡ keys r
unfolding overwrite
keys_overwrite new r = keys_each (λ n v. given (find n new) v (λ w. w)) r

-- contents of a class's stored attributes, each of its size, with others written over some of them
module _ (k : Class) (up : rising (stored_numbers k) ≡ true) where
  one_by_one : (b : ℕ) (new r : Contents) → Up b (keys new) → Sized k new → keys r ≡ stored_numbers k → sized (size_of k) r ≡ true
      → contents_bytes (overwrite new r) ≡ laid_values k 0 new (contents_bytes r)
  unfolding keys laid_values
  one_by_one b [] r u s ks h = ap contents_bytes (overwrite_none r)
  one_by_one b (e ∷ new) r u s ks h =
      let r' : Contents = overwrite (e ∷ []) r in
      let once : among e.0 (keys new) ≡ false = not_below (suc e.0) e.0 (keys new) u.1 (omega arith) in
      let ks' : keys r' ≡ stored_numbers k = keys_overwrite (e ∷ []) r ∙ ks in
      let h' : sized (size_of k) r' ≡ true = sized_overwrite (size_of k) (e ∷ []) r (one_sized k e new s).are_sized h in
      let laid_one : contents_bytes r' ≡ laid (offset_of k e.0) e.1 (contents_bytes r) =
      rw ks at (contents_laid (size_of k) 0 r e.0 e.1 (rw ks (rising_up (stored_numbers k) up)) h (rw ks (first_is_stored k e new s)) (first_length k e new s)) in
      ap contents_bytes (overwrite_next e new r once) ∙ one_by_one (suc e.0) new r' u.1 (rest_sized k e new s) ks' h'
      ∙ ap (laid_values k 0 new) (laid_one ∙ rw (zero-add (offset_of k e.0)))

  pub overwrite_laid : (new r : Contents) → rising (keys new) ≡ true → Sized k new → keys r ≡ stored_numbers k → sized (size_of k) r ≡ true
      → contents_bytes (overwrite new r) ≡ laid_values k 0 new (contents_bytes r)
  overwrite_laid new r u s ks h = one_by_one 0 new r (rising_up (keys new) u) s ks h

-- ---- over zeros

-- as many zeros as each content has bytes
zeros_for : Contents → Contents
zeros_for r = each (λ n v. replicate (length v) 0) r

zeros_for_bytes : (r : Contents) → contents_bytes (zeros_for r) ≡ replicate (length (contents_bytes r)) 0
unfolding zeros_for each contents_bytes gather
zeros_for_bytes [] = refl
zeros_for_bytes (e ∷ r) =
    let b : List ℕ = gather (λ (x : ℕ × List ℕ). x.1) r in
    ap (λ (z : List ℕ). replicate (length e.1) 0 ++ z) (zeros_for_bytes r)
    ∙ replicate-append-replicate (length e.1) (length b) 0 ∙ ap (λ (n : ℕ). replicate {A = ℕ} n 0) (sym (length-append e.1 b))

put_back : (new r : Contents) → Each (λ n v. find n new ≡ some v) r → overwrite new (zeros_for r) ≡ r
unfolding zeros_for overwrite each
put_back new [] h = refl
put_back new (e ∷ r) h = rw (h.0, put_back new r h.1)

-- all of an instance's contents laid over zeros are its bytes
pub contents_over_zeros : (k : Class) (new : Contents) → rising (stored_numbers k) ≡ true → keys new ≡ stored_numbers k → sized (size_of k) new ≡ true
    → laid_values k 0 new (replicate (contents_width k) 0) ≡ contents_bytes new
unfolding zeros_for contents_width
contents_over_zeros k new up ks h =
    let all_kept : Sized k new = record { are_stored = rw ks (all_self (stored_numbers k)); are_sized = h } in
    let zeros_sized : sized (size_of k) (zeros_for new) ≡ true =
    every_each (λ n v. eqb (length v) (size_of k n)) (λ n (v : List ℕ). replicate {A = ℕ} (length v) 0) new
    ∙ every_imp (λ n v. eqb (length v) (size_of k n)) (λ n v. eqb (length (replicate {A = ℕ} (length v) 0)) (size_of k n))
    (λ n (v : List ℕ) q. rw (length-replicate {A = ℕ} (length {A = ℕ} v) 0) q) new h in
    let long : length (contents_bytes new) ≡ total (size_of k) (stored_numbers k) = length_sized (size_of k) new h ∙ ap (total (size_of k)) ks in
    ap (λ (n : ℕ). laid_values k 0 new (replicate n 0)) (sym long) ∙ ap (laid_values k 0 new) (sym (zeros_for_bytes new))
    ∙ sym (overwrite_laid k up new (zeros_for new) (rw ks up) all_kept (keys_each (λ n (v : List ℕ). replicate {A = ℕ} (length v) 0) new ∙ ks) zeros_sized)
    ∙ ap contents_bytes (put_back new new (each_found 0 new (rising_up (keys new) (rw ks up))))

-- ---- the contents of all stored attributes

-- of each one, of its size
pub record Whole (k : Class) (r : Contents) : Type 0 where
  pub its_keys : keys r ≡ stored_numbers k
  pub are_sized : sized (size_of k) r ≡ true

-- cut off longer bytes
pub cut_is_whole : (k : Class) (b : List ℕ) → contents_width k ≤ length b → Whole k (cut (size_of k) (stored_numbers k) b)
unfolding contents_width
cut_is_whole k b h = record { its_keys = keys_cut (size_of k) (stored_numbers k) b; are_sized = sized_cut (size_of k) (stored_numbers k) b h }

-- with which these begin
pub begins_with_its_cut : (k : Class) (b : List ℕ) → b ≡ contents_bytes (cut (size_of k) (stored_numbers k) b) ++ drop (contents_width k) b
unfolding contents_width
begins_with_its_cut k b = sym (rw (bytes_of_cut (size_of k) (stored_numbers k) b) (take-append-drop (total (size_of k) (stored_numbers k)) b))

module _ (k : Class) (r : Contents) (w : Whole k r) where
  pub whole_length : length (contents_bytes r) ≡ contents_width k
  unfolding contents_width
  whole_length = length_sized (size_of k) r w.are_sized ∙ ap (total (size_of k)) w.its_keys

  -- an attribute's content among them, with other bytes behind
  pub shown_in_whole : (rest : List ℕ) (n : ℕ) → among n (stored_numbers k) ≡ true → take (size_of k n) (drop (offset_of k n) (contents_bytes r ++ rest)) ≡ content n r
  shown_in_whole rest n h = rw (← w.its_keys) (content_at (size_of k) n r rest w.are_sized (rw w.its_keys h))

  module _ (new : Contents) (s : Sized k new) where
    pub whole_overwritten : Whole k (overwrite new r)
    whole_overwritten = record { its_keys = keys_overwrite new r ∙ w.its_keys; are_sized = sized_overwrite (size_of k) new r s.are_sized w.are_sized }

    -- values laid over them
    pub laid_over_whole : rising (stored_numbers k) ≡ true → rising (keys new) ≡ true → (rest : List ℕ)
        → laid_values k 0 new (contents_bytes r ++ rest) ≡ contents_bytes (overwrite new r) ++ rest
    laid_over_whole up u rest =
        let l = whole_length in
        sym (values_before k 0 new (contents_bytes r) rest s (omega arith))
        ∙ ap (λ (x : List ℕ). x ++ rest) (sym (overwrite_laid k up new r u s w.its_keys w.are_sized))
