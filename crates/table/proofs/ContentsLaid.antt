-- One attribute written: the bytes of an instance's contents, and of its entry, with the new content laid over the old.
use Prim.Native.Nat.{ℕ, suc, ◌+◌, ◌≤◌, ◌<◌}
use native.Mathlib.Omega.{arith}
use mathlib.Core.Path.{◌≡◌, refl, sym, ◌∙◌, ap}
use mathlib.Core.Bool.{true, false}
use mathlib.Core.Option.{some}
use mathlib.Core.List.{List, [], ◌∷◌, ◌++◌}
use lib.ListN.{length, length-append}
use lib.Dec.{eqb}
use Rattle.rules.specs.Maps.{Map, find, keys, every, each, at_key, among, gather, same}
use Rattle.rules.specs.Bytes.{laid}
use Rattle.rules.specs.Masks.{total}
use Rattle.rules.specs.Catalogue.{Class, Catalogue, class}
use Rattle.rules.specs.State.{Contents, Entry, overwrite}
use Rattle.rules.specs.Legal.{legal_contents}
use Rattle.rules.proofs.Laws.{cases, never, true_false, both, or_cases, or_none, same_eq, eqb_true, eqb_false, eqb_eq, eqb_ne, or_left}
use Rattle.rules.proofs.MapLaws.{some_eq, none_some, Up, up_among, at_absent, Each}
use Rattle.store.specs.Layout.{contents_bytes, entry_bytes, contents_width}
use Rattle.store.proofs.ContentsBack.{sized, contents_length}
use Rattle.store.specs.Positions.{offset, before}
use Rattle.octets.proofs.Laid.{laid_behind, laid_before, laid_all}

-- a number below a rising list isn't in it
pub not_below : (b k : ℕ) (l : List ℕ) → Up b l → k < b → among k l ≡ false
not_below b k l u h = cases (among k l) (λ t. absurd (let z : b ≤ k = up_among b k l u t in omega arith)) (λ t. t)

pub overwrite_absent : (n : ℕ) (w : List ℕ) (r : Contents) → among n (keys r) ≡ false → overwrite ((n, w) ∷ []) r ≡ r
unfolding overwrite find each keys among
overwrite_absent n w [] h = refl
overwrite_absent n w (e ∷ r) h =
    let g = or_none h in
    rw (eqb_false e.0 n (λ z. eqb_ne n e.0 g.0 (sym z)), overwrite_absent n w r g.1)

-- what is laid over the front of two lists
laid_front : (w v rest : List ℕ) → length w ≡ length v → laid 0 w (v ++ rest) ≡ w ++ rest
laid_front w v rest h = sym (laid_before w v rest 0 (omega arith)) ∙ ap (λ (z : List ℕ). z ++ rest) (laid_all w v h)

pub contents_laid : (size : ℕ → ℕ) (b : ℕ) (r : Contents) (n : ℕ) (w : List ℕ) → Up b (keys r) → sized size r ≡ true → among n (keys r) ≡ true → length w ≡ size n
    → contents_bytes (overwrite ((n, w) ∷ []) r) ≡ laid (offset size (keys r) n) w (contents_bytes r)
unfolding overwrite find each keys among contents_bytes gather every offset
contents_laid size b [] n w u s h l = never h
contents_laid size b (e ∷ r) n w u s h l =
    let g = both s in
    let le : length e.1 ≡ size e.0 = eqb_eq (length e.1) (size e.0) g.0 in
    let rest : List ℕ = contents_bytes r in
    cases (eqb n e.0)
    (λ t.
    let z : n ≡ e.0 = eqb_eq n e.0 t in
    rw (t, eqb_true e.0 n (sym z), overwrite_absent n w r (not_below (suc e.0) n (keys r) u.1 (omega arith)))
    (sym (laid_front w e.1 rest (l ∙ ap size z ∙ sym le))))
    (λ t.
    let f : eqb e.0 n ≡ false = eqb_false e.0 n (λ z. eqb_ne n e.0 t (sym z)) in
    let later : among n (keys r) ≡ true = or_cases h (λ y. true_false y t) (λ y. y) in
    rw (t, f, contents_laid size (suc e.0) r n w u.1 g.1 later l, ← le) (laid_behind e.1 w rest (offset size (keys r) n)))

pub offset_fits : (size : ℕ → ℕ) (l : List ℕ) (n : ℕ) → among n l ≡ true → offset size l n + size n ≤ total size l
unfolding among offset total
offset_fits size [] n h = never h
offset_fits size (m ∷ l) n h = cases (eqb n m)
    (λ t. rw (t, eqb_eq n m t) (omega arith))
    (λ t. let later : among n l ≡ true = or_cases h (λ y. true_false y t) (λ y. y) in
    let z : offset size l n + size n ≤ total size l = offset_fits size l n later in rw t (omega arith))

-- ---- entries

module _ (cat : Catalogue) where
  pub entry_laid : (fam : Map Class) (e : Entry) (b c o : ℕ) (w : List ℕ) (f : Contents → Contents) (r : Contents)
      → Each (λ d k. class cat d ≡ k) fam → Up b (keys fam) → same (keys e) (keys fam) ≡ true → every (λ c r. legal_contents cat (class cat c) r) e ≡ true
      → find c e ≡ some r → contents_bytes (f r) ≡ laid o w (contents_bytes r) → o + length w ≤ length (contents_bytes r)
      → entry_bytes (at_key c f e) ≡ laid (before fam c + o) w (entry_bytes e)
  unfolding entry_bytes keys same every gather find each before
  entry_laid [] [] b c o w f r cl u s h fd eq fit = none_some fd
  entry_laid [] (x ∷ e) b c o w f r cl u s h fd eq fit = never s
  entry_laid (k ∷ fam) [] b c o w f r cl u s h fd eq fit = never s
  entry_laid (k ∷ fam) (x ∷ e) b c o w f r cl u s h fd eq fit =
      let n : x.0 ≡ k.0 = eqb_eq x.0 k.0 (both s).0 in
      let g : legal_contents cat k.1 x.1 ≡ true = rw (← cl.0, ← n) (both h).0 in
      let lx : length (contents_bytes x.1) ≡ contents_width k.1 = contents_length cat k.1 x.1 g in
      let rest : List ℕ = entry_bytes e in
      let ks : keys e ≡ keys fam = same_eq (keys e) (keys fam) (both s).1 in
      cases (eqb c x.0)
      (λ t.
      let z : c ≡ x.0 = eqb_eq c x.0 t in
      let y : x.1 ≡ r = some_eq (rw t at fd) in
      let late : among c (keys e) ≡ false = rw ks (not_below (suc k.0) c (keys fam) u.1 (omega arith)) in
      let none_before : 0 + o ≡ o = omega arith in
      rw (eqb_true x.0 c (sym z), eqb_true c k.0 (z ∙ n), none_before, at_absent c f e late, y, eq) (laid_before w (contents_bytes r) rest o fit))
      (λ t.
      let ne : eqb x.0 c ≡ false = eqb_false x.0 c (λ z. eqb_ne c x.0 t (sym z)) in
      let nk : eqb c k.0 ≡ false = eqb_false c k.0 (λ z. eqb_ne c x.0 t (z ∙ sym n)) in
      let ih : entry_bytes (at_key c f e) ≡ laid (before fam c + o) w (entry_bytes e) =
      entry_laid fam e (suc k.0) c o w f r cl.1 u.1 (both s).1 (both h).1 (rw t at fd) eq fit in
      let sum : contents_width k.1 + before fam c + o ≡ contents_width k.1 + (before fam c + o) = omega arith in
      rw (ne, nk, ih, sum, ← lx) (laid_behind (contents_bytes x.1) w rest (before fam c + o)))

  pub entry_room : (fam : Map Class) (e : Entry) (c m : ℕ) (r : Contents)
      → Each (λ d k. class cat d ≡ k) fam → same (keys e) (keys fam) ≡ true → every (λ c r. legal_contents cat (class cat c) r) e ≡ true
      → find c e ≡ some r → m ≤ length (contents_bytes r) → before fam c + m ≤ length (entry_bytes e)
  unfolding entry_bytes keys same every gather find before
  entry_room [] [] c m r cl s h fd fit = none_some fd
  entry_room [] (x ∷ e) c m r cl s h fd fit = never s
  entry_room (k ∷ fam) [] c m r cl s h fd fit = never s
  entry_room (k ∷ fam) (x ∷ e) c m r cl s h fd fit =
      let n : x.0 ≡ k.0 = eqb_eq x.0 k.0 (both s).0 in
      let g : legal_contents cat k.1 x.1 ≡ true = rw (← cl.0, ← n) (both h).0 in
      let lx : length (contents_bytes x.1) ≡ contents_width k.1 = contents_length cat k.1 x.1 g in
      let la = length-append (contents_bytes x.1) (entry_bytes e) in
      cases (eqb c x.0)
      (λ t. let y : x.1 ≡ r = some_eq (rw t at fd) in
      rw (eqb_true c k.0 (eqb_eq c x.0 t ∙ n), la, y) (omega arith))
      (λ t.
      let nk : eqb c k.0 ≡ false = eqb_false c k.0 (λ z. eqb_ne c x.0 t (z ∙ sym n)) in
      let ih : before fam c + m ≤ length (entry_bytes e) = entry_room fam e c m r cl.1 (both s).1 (both h).1 (rw t at fd) fit in
      rw (nk, la) (omega arith))

-- of a family that is one class alone, nothing stands in front of it
pub first_of : (c : ℕ) (fam : Map Class) → ((d : ℕ) → among d (keys fam) ≡ true → d ≡ c) → before fam c ≡ 0
unfolding before keys among
first_of c [] f = refl
first_of c (e ∷ m) f = rw (eqb_true c e.0 (sym (f e.0 (or_left (among e.0 (keys m)) (eqb_true e.0 e.0 refl)))))
