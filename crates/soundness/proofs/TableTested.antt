-- A table's bytes are those of a legal table exactly if they pass the test.
use Prim.Native.Nat.{ℕ, zero, suc, ◌+◌, ◌*◌, ◌-◌, ◌≤◌}
use native.Mathlib.Omega.{arith}
use mathlib.Core.Path.{◌≡◌, refl, sym, ◌∙◌, ap}
use mathlib.Core.Bool.{Bool, true}
use mathlib.Core.List.{List, [], ◌∷◌, ◌++◌}
use lib.ListN.{length, take, drop, length-append, length-drop}
use lib.Seq.{length-take-le, take-add, drop-drop}
use lib.Dec.{leb}
use Rattle.rules.specs.Maps.{◌and◌, Map, keys, every, gather, all, same, rising}
use Rattle.rules.specs.Bytes.{byte, two, bytes, fill, are_bytes}
use Rattle.rules.specs.Masks.{total}
use Rattle.rules.specs.Catalogue.{Class, Catalogue, class, size_of, stored_numbers, is_created, family}
use Rattle.rules.specs.State.{Entry, class_of, number_of}
use Rattle.rules.specs.Legal.{legal_contents, legal_entry, legal_table, legal_frozen, automatic_keys}
use Rattle.rules.specs.WellFormed.{WellFormed}
use Rattle.rules.proofs.Laws.{cases, never, both, and_true, bool_eq, true_and, eqb_true, leb_le, le-leb, same_refl}
use Rattle.rules.proofs.MapLaws.{Up, rising_up, up_rising, Each, length_gather}
use Rattle.rules.proofs.ByteLaws.{length_fill, byte_small, two_small, bytes_take, bytes_drop, fill_nothing}
use Rattle.rules.proofs.Families.{family_classes}
use Rattle.rules.proofs.Standing.{stands, automatic_keys_stand, key_class, key_number}
use Rattle.store.specs.Layout.{slot_width, slots_length, place_width, place_length, places_length, table_length, entry_bytes, slot, place, code_table, contents_width}
use Rattle.store.specs.Layout.{family_width, fits}
use Rattle.store.specs.Decode.{read_contents, read_entry, read_slots, read_place, read_places, read_table}
use Rattle.store.proofs.Widths.{slots_are_enough, places_are_enough, slot_fits, place_fits}
use Rattle.store.proofs.TablesBack.{slot_length, place_has_its_length}
use Rattle.class_tests.specs.Tests.{family_legal, family_test}
use Rattle.slot_tests.specs.Tests.{slots_test}
use Rattle.rules.proofs.Conjunctions.{and_swap}
use Rattle.place_runs.specs.Tests.{key_in, place_test, places_test}
use Rattle.soundness.specs.Tests.{table_test}
use Rattle.soundness.proofs.Blocks.{same_front, same_zeros, four_front, fill_front, fill_take}
use Rattle.store.proofs.ContentsBack.{bytes_of_cut}

-- ---- keys that rise, from a bound on

unfoldable pub rises_from : ℕ → List ℕ → Bool
rises_from low [] = true
rises_from low (k ∷ l) = leb low k and rises_from (suc k) l

rises_up : (low : ℕ) (l : List ℕ) → rises_from low l ≡ true → Up low l
unfolding rises_from
rises_up low [] h = tt
rises_up low (k ∷ l) h = (leb_le low k (both h).0, rises_up (suc k) l (both h).1)

up_rises : (low : ℕ) (l : List ℕ) → Up low l → rises_from low l ≡ true
unfolding rises_from
up_rises low [] u = refl
up_rises low (k ∷ l) u = and_true (le-leb low k u.0) (up_rises (suc k) l u.1)

pub rising_rises : (l : List ℕ) → rising l ≡ rises_from 0 l
rising_rises l = bool_eq (rising l) (rises_from 0 l) (λ h. up_rises 0 l (rising_up l h)) (λ h. up_rising 0 l (rises_up 0 l h))

-- ---- contents and entries: what is read, put together again

pub bytes_of_entry : (fam : Map Class) (b : List ℕ) → entry_bytes (read_entry fam b) ≡ take (family_width fam) b
unfolding entry_bytes gather read_entry family_width read_contents contents_width
bytes_of_entry [] b = refl
bytes_of_entry (e ∷ fam) b =
    let w : ℕ = total (size_of e.1) (stored_numbers e.1) in
    rw (take-add w (family_width fam) b, bytes_of_cut (size_of e.1) (stored_numbers e.1) b)
    (ap (λ (x : List ℕ). take w b ++ x) (bytes_of_entry fam (drop w b)))

pub keys_of_entry : (fam : Map Class) (b : List ℕ) → keys (read_entry fam b) ≡ keys fam
unfolding keys read_entry
keys_of_entry [] b = refl
keys_of_entry (e ∷ fam) b = ap (λ (l : List ℕ). e.0 ∷ l) (keys_of_entry fam (drop (contents_width e.1) b))

module _ (cat : Catalogue) where
  abbrev pub legal_each : Entry → Bool
  legal_each e = every (λ c r. legal_contents cat (class cat c) r) e

  -- what is read from a family's bytes is legal if they pass
  family_read : (fam : Map Class) (b : List ℕ) → Each (λ d k. class cat d ≡ k) fam → legal_each (read_entry fam b) ≡ family_legal cat fam b
  unfolding every read_entry family_legal
  family_read [] b f = refl
  family_read (e ∷ fam) b f = rw (f.0, family_read fam (drop (contents_width e.1) b) f.1) refl

module _ (cat : Catalogue) (wf : WellFormed cat) where
  -- a block of n bytes that holds an entry of class c
  pub entry_tested : (k n : ℕ) (b : List ℕ) → length b ≡ n → family_width (family cat (class_of k)) ≤ n
      → (legal_entry cat k (read_entry (family cat (class_of k)) b) and same (fill n (entry_bytes (read_entry (family cat (class_of k)) b))) b)
      ≡ family_test cat (family cat (class_of k)) b
  unfolding legal_entry family_test
  entry_tested k n b l h =
      let fam : Map Class = family cat (class_of k) in
      rw (
        bytes_of_entry fam b,
        fill_take n (family_width fam) b l h,
        keys_of_entry fam b,
        same_refl (keys fam),
        true_and (legal_each cat (read_entry fam b)),
        family_read cat fam b (family_classes cat wf (class_of k)),
      )
      refl

  -- ---- slots

  pub keys_of_slots : (l b : List ℕ) → keys (read_slots cat l b) ≡ l
  unfolding keys read_slots
  keys_of_slots [] b = refl
  keys_of_slots (k ∷ l) b = ap (λ (x : List ℕ). k ∷ x) (keys_of_slots l (drop slot_width b))

  slots_of : (l b : List ℕ) → length (gather slot (read_slots cat l b)) ≡ length l * slot_width
  unfolding gather read_slots
  slots_of [] b = omega arith
  slots_of (k ∷ l) b =
      let e : ℕ × Entry = (k, read_entry (family cat (class_of k)) (take slot_width b)) in
      rw (length-append (slot e) (gather slot (read_slots cat l (drop slot_width b))), slot_length e, slots_of l (drop slot_width b)) (omega arith)

  module _ (f : fits cat ≡ true) where
    pub slots_tested : (l b : List ℕ) (n : ℕ) → all (stands cat) l ≡ true → length b ≡ n → length l * slot_width ≤ n
        → (every (legal_entry cat) (read_slots cat l b) and same (fill n (gather slot (read_slots cat l b))) b) ≡ slots_test cat l b
    unfolding every read_slots slots_test gather all slot
    slots_tested [] b n st len h = rw (true_and, fill_nothing n, same_zeros n b len)
    slots_tested (k ∷ l) b n st len h =
        let x : List ℕ = take slot_width b in
        let fam : Map Class = family cat (class_of k) in
        let e : Entry = read_entry fam x in
        let lx : length x ≡ slot_width = length-take-le slot_width b (omega arith) in
        let rest : Map Entry = read_slots cat l (drop slot_width b) in
        let g : List ℕ = gather slot rest in
        let ld : length (drop slot_width b) ≡ n - slot_width = simp length-drop (omega arith) in
        let ls : length (fill slot_width (entry_bytes e)) ≡ slot_width = length_fill slot_width (entry_bytes e) in
        let a : Bool = legal_entry cat k e in
        let v : Bool = every (legal_entry cat) rest in
        let s₁ : Bool = same (fill slot_width (entry_bytes e)) x in
        let s₂ : Bool = same (fill (n - slot_width) g) (drop slot_width b) in
        rw (
          fill_front n slot_width (fill slot_width (entry_bytes e)) g ls (omega (arith, slots_of l (drop slot_width b))),
          same_front (fill slot_width (entry_bytes e)) (fill (n - slot_width) g) b slot_width ls (omega arith),
          ← entry_tested k slot_width x lx (slot_fits cat f wf k (both st).0),
          ← slots_tested l (drop slot_width b) (n - slot_width) (both st).1 ld (omega arith),
        )
        (and_swap a v s₁ s₂)

    -- ---- places

    pub count_of_places : (n : ℕ) (b : List ℕ) → length (read_places cat n b) ≡ n
    unfolding read_places
    count_of_places zero b = refl
    count_of_places (suc n) b = ap suc (count_of_places n (drop place_length b))

    places_of : (n : ℕ) (b : List ℕ) → length (gather place (read_places cat n b)) ≡ n * place_length
    places_of n b = length_gather place place_length place_has_its_length (read_places cat n b) ∙ ap (λ (m : ℕ). m * place_length) (count_of_places n b)

    -- a place's key as bytes, and what follows it
    place_bytes : (r : List ℕ) (e : Entry) → length r ≡ place_length → are_bytes r ≡ true
        → same (place (key_in r, e)) r ≡ same (fill place_width (entry_bytes e)) (drop 4 r)
    unfolding place bytes
    place_bytes r e l b =
        let c : class_of (key_in r) ≡ two r 0 = key_class (two r 0) (two r 2) (two_small r 2 b) in
        let i : number_of (key_in r) ≡ two r 2 = key_number (two r 0) (two r 2) (two_small r 2 b) in
        let x : List ℕ = fill place_width (entry_bytes e) in
        rw (c, i, four_front r (omega (arith, l)) b x)

    abbrev pub created_key : ℕ → Entry → Bool
    created_key k e = is_created (class cat (class_of k)).creation

    pub place_tested : (low : ℕ) (r : List ℕ) → length r ≡ place_length → are_bytes r ≡ true
        → (leb low (key_in r) and created_key (key_in r) (read_place cat r).1 and legal_entry cat (key_in r) (read_place cat r).1 and same (place (read_place cat r)) r)
        ≡ place_test cat low r
    unfolding read_place place_test
    place_tested low r l b =
        let c : class_of (key_in r) ≡ two r 0 = key_class (two r 0) (two r 2) (two_small r 2 b) in
        let fam : Map Class = family cat (two r 0) in
        let e : Entry = read_entry fam (drop 4 r) in
        let ld : length (drop 4 r) ≡ place_width = simp length-drop (omega (arith, l)) in
        cases (is_created (class cat (two r 0)).creation)
        (λ t.
        let et = rw c at (entry_tested (key_in r) place_width (drop 4 r) ld (rw c (place_fits cat f wf (two r 0) t))) in
        rw (c, t, place_bytes r e l b, ← et) refl)
        (λ t. rw (c, t) (bool_eq _ _ (λ p. never (both (both p).1).0) (λ p. never (both (both p).1).0)))

    pub places_tested : (n low : ℕ) (b : List ℕ) (m : ℕ) → length b ≡ m → n * place_length ≤ m → are_bytes b ≡ true
        → (rises_from low (keys (read_places cat n b)) and every created_key (read_places cat n b) and every (legal_entry cat) (read_places cat n b)
        and same (fill m (gather place (read_places cat n b))) b) ≡ places_test cat n low b
    unfolding read_places read_place places_test every keys gather rises_from
    places_tested zero low b m len h bs = rw (fill_nothing m, same_zeros m b len, true_and, true_and, true_and)
    places_tested (suc n) low b m len h bs =
        let r : List ℕ = take place_length b in
        let e : ℕ × Entry = read_place cat r in
        let lr : length r ≡ place_length = length-take-le place_length b (omega arith) in
        let rest : Map Entry = read_places cat n (drop place_length b) in
        let g : List ℕ = gather place rest in
        let ld : length (drop place_length b) ≡ m - place_length = simp length-drop (omega arith) in
        let lp : length (place e) ≡ place_length = place_has_its_length e in
        let lg : length g ≡ n * place_length = places_of n (drop place_length b) in
        let a₁ : Bool = leb low e.0 in
        let a₂ : Bool = rises_from (suc e.0) (keys rest) in
        let c₁ : Bool = created_key e.0 e.1 in
        let c₂ : Bool = every created_key rest in
        let l₁ : Bool = legal_entry cat e.0 e.1 in
        let l₂ : Bool = every (legal_entry cat) rest in
        let s₁ : Bool = same (place e) r in
        let s₂ : Bool = same (fill (m - place_length) g) (drop place_length b) in
        let one : (a₁ and c₁ and l₁ and s₁) ≡ place_test cat low r = place_tested low r lr (bytes_take place_length b bs) in
        rw (
          fill_front m place_length (place e) g lp (omega arith),
          same_front (place e) (fill (m - place_length) g) b place_length lp (omega arith),
          ← one,
          ← places_tested n (suc e.0) (drop place_length b) (m - place_length) ld (omega arith) (bytes_drop place_length b bs),
        )
        (bool_eq ((a₁ and a₂) and (c₁ and c₂) and (l₁ and l₂) and (s₁ and s₂)) ((a₁ and c₁ and l₁ and s₁) and (a₂ and c₂ and l₂ and s₂))
        (λ p. let p₁ = both p in let p₂ = both p₁.1 in let p₃ = both p₂.1 in
        let a = both p₁.0 in let c = both p₂.0 in let l = both p₃.0 in let s = both p₃.1 in
        and_true (and_true a.0 (and_true c.0 (and_true l.0 s.0))) (and_true a.1 (and_true c.1 (and_true l.1 s.1))))
        (λ p. let p₁ = both p in let x = both p₁.0 in let x₂ = both x.1 in let x₃ = both x₂.1 in
        let y = both p₁.1 in let y₂ = both y.1 in let y₃ = both y₂.1 in
        and_true (and_true x.0 y.0) (and_true (and_true x₂.0 y₂.0) (and_true (and_true x₃.0 y₃.0) (and_true x₃.1 y₃.1)))))

    -- ---- the table

    -- the bytes that a table was read from are its encoding, and it is legal
    abbrev pub is_table : List ℕ → Bool
    is_table b = legal_frozen cat (read_table cat b) and same (code_table (read_table cat b)) b

    first_byte_off : (n : ℕ) (x y b : List ℕ) → byte b 0 ≡ n → 1 ≤ length b → same (n ∷ x ++ y) b ≡ same (x ++ y) (drop 1 b)
    unfolding same
    first_byte_off n x y [] e h = absurd (omega arith)
    first_byte_off n x y (a ∷ b) e h = rw (eqb_true n a (sym e), true_and)

    pub table_tested : (b : List ℕ) → length b ≡ table_length → are_bytes b ≡ true → is_table b ≡ table_test cat b
    unfolding read_table code_table legal_table table_test
    table_tested b len bs =
        let n : ℕ = byte b 0 in
        let sl : List ℕ = take slots_length (drop 1 b) in
        let pl : List ℕ = drop (1 + slots_length) b in
        let std : List ℕ = automatic_keys cat in
        let aut : Map Entry = read_slots cat std sl in
        let cr : Map Entry = read_places cat n pl in
        let lsl : length sl ≡ slots_length = length-take-le slots_length (drop 1 b) (simp length-drop (omega (arith, len))) in
        let lpl : length pl ≡ places_length = simp length-drop (omega (arith, len)) in
        let x : List ℕ = fill slots_length (gather slot aut) in
        let y : List ℕ = fill places_length (gather place cr) in
        let lx : length x ≡ slots_length = length_fill slots_length (gather slot aut) in
        let nb : n ≤ 255 = omega (arith, byte_small b 0 bs) in
        cases (leb n cat.places)
        (λ t. rw (count_of_places n pl, t)
        (let few : n ≤ cat.places = leb_le n cat.places t in
        let st = slots_tested std sl slots_length (automatic_keys_stand cat wf) lsl (omega (arith, slots_are_enough cat f)) in
        let pt = places_tested n 0 pl places_length lpl (omega (arith, places_are_enough cat f)) (bytes_drop (1 + slots_length) b bs) in
        let dd : drop slots_length (drop 1 b) ≡ pl = drop-drop slots_length 1 b in
        rw (
          first_byte_off n x y b refl (omega (arith, len)),
          same_front x y (drop 1 b) slots_length lx (simp length-drop (omega (arith, len))),
          dd,
          keys_of_slots std sl,
          same_refl std,
          rising_rises (keys cr),
          ← st,
          ← pt,
        )
        (sorted (rises_from 0 (keys cr)) (every created_key cr) (every (legal_entry cat) aut) (every (legal_entry cat) cr) (same x sl) (same y pl))))
        (λ t. rw (count_of_places n pl, t) (bool_eq _ _
        (λ p. never (both (both (both (both (both p).0).1).1).1).0)
        (λ p. never (both p).0)))
      where
        sorted : (r c a l s₁ s₂ : Bool)
            → ((true and (r and (c and (true and (a and l))))) and (s₁ and s₂)) ≡ (true and ((a and s₁) and (r and (c and (l and s₂)))))
        sorted r c a l s₁ s₂ = bool_eq _ _
            (λ p. let p₁ = both p in let q = both (both p₁.0).1 in let q₂ = both q.1 in let q₃ = both (both q₂.1).1 in let s = both p₁.1 in
            and_true refl (and_true (and_true q₃.0 s.0) (and_true q.0 (and_true q₂.0 (and_true q₃.1 s.1)))))
            (λ p. let p₁ = both (both p).1 in let q = both p₁.0 in let t = both p₁.1 in let t₂ = both t.1 in let t₃ = both t₂.1 in
            and_true (and_true refl (and_true t.0 (and_true t₂.0 (and_true refl (and_true q.0 t₃.0))))) (and_true q.1 t₃.1))
