-- One attribute of one instance written: the table's bytes with the new content laid over the old, at the instance's spot.
use Prim.Native.Nat.{ℕ, ◌+◌, ◌≤◌}
use native.Mathlib.Omega.{arith}
use mathlib.Core.Path.{◌≡◌, refl, sym, ◌∙◌, ap}
use mathlib.Core.Bool.{Bool, true, not}
use mathlib.Core.Option.{Option, none, some}
use mathlib.Core.List.{List, [], ◌∷◌, ◌++◌, append_assoc}
use lib.ListN.{length, length-append}
use lib.Dec.{eqb}
use Rattle.rules.specs.Maps.{Map, find, keys, keep, every, all, gather}
use Rattle.rules.specs.Bytes.{fill, laid}
use Rattle.rules.specs.Catalogue.{Catalogue, key, ont_data}
use Rattle.rules.specs.State.{Entry, Table, class_of, entry}
use Rattle.rules.specs.Legal.{automatic_keys}
use Rattle.rules.specs.Walks.{frozen}
use Rattle.rules.specs.WellFormed.{WellFormed}
use Rattle.rules.proofs.Laws.{both}
use Rattle.rules.proofs.MapLaws.{some_eq, none_some, every_keys, keep_all}
use Rattle.rules.proofs.ByteLaws.{length_fill}
use Rattle.rules.proofs.Standing.{all_imp, stands, automatic_keys_stand}
use Rattle.store.specs.Layout.{ont_data_width, slots_length, places_length, entry_bytes, slot, place, code_table, live_bytes, places_at}
use Rattle.table.specs.Spots.{at_position}
use Rattle.octets.proofs.Laid.{laid_behind, laid_before, fill_laid}

-- what stands at a position
pub at_some {ℓ} : {X : Type ℓ} (f : ℕ → ℕ) (p : Option ℕ) (o : ℕ) → at_position f p ≡ some o → ((j : ℕ) → p ≡ some j → o ≡ f j → X) → X
at_some f none o e g = none_some e
at_some f (some j) o e g = g j refl (sym (some_eq e))

-- ---- the table's bytes in pieces

abbrev pub table_of : Map Entry → Map Entry → Table
table_of a m = record { automatic = a; created = m }

-- the byte in front with the count, the slots, the places
abbrev pub pieces : Entry → Map Entry → Map Entry → List ℕ
pieces e a m = (fill ont_data_width (entry_bytes e) ++ (length m ∷ fill slots_length (gather slot a))) ++ fill places_length (gather place m)

-- class 2's entry is the first, and the other automatic ones have slots
pub in_pieces : (cat : Catalogue) (wf : WellFormed cat) (e : Entry) (a m : Map Entry) → keys a ≡ automatic_keys cat
    → live_bytes (table_of ((key ont_data 0, e) ∷ a) m) ≡ pieces e a m
unfolding live_bytes code_table frozen entry find keep
in_pieces cat wf e a m ks =
    let p : ℕ → Entry → Bool = λ k e. not (eqb (class_of k) ont_data) in
    let all_others : every p a ≡ true = every_keys (λ k. not (eqb (class_of k) ont_data)) a ∙ ap (λ (l : List ℕ). all (λ k. not (eqb (class_of k) ont_data)) l) ks
    ∙ all_imp (stands cat) (λ k. not (eqb (class_of k) ont_data)) (λ k s. (both (both s).1).0) (automatic_keys cat) (automatic_keys_stand cat wf) in
    rw (keep_all p a all_others) (sym (append_assoc (fill ont_data_width (entry_bytes e)) (length m ∷ fill slots_length (gather slot a)) (fill places_length (gather place m))))

pub front_length : (e : Entry) (a m : Map Entry) → length (fill ont_data_width (entry_bytes e) ++ (length m ∷ fill slots_length (gather slot a))) ≡ places_at
front_length e a m = length-append (fill ont_data_width (entry_bytes e)) (length m ∷ fill slots_length (gather slot a))
    ∙ omega (arith, length_fill ont_data_width (entry_bytes e), length_fill slots_length (gather slot a))

-- the places changed
pub places_laid : (e : Entry) (a m m' : Map Entry) (q : ℕ) (w : List ℕ) → length m' ≡ length m → gather place m' ≡ laid q w (gather place m)
    → q + length w ≤ length (gather place m) → length (gather place m) ≤ places_length → pieces e a m' ≡ laid (places_at + q) w (pieces e a m)
places_laid e a m m' q w l g room fit =
    rw (l, g, fill_laid places_length w (gather place m) q room fit)
    (laid_behind (fill ont_data_width (entry_bytes e) ++ (length m ∷ fill slots_length (gather slot a))) w (fill places_length (gather place m)) q
    ∙ ap (λ (k : ℕ). laid (k + q) w (pieces e a m)) (front_length e a m))

-- a slot changed
pub slots_laid : (e : Entry) (a a' m : Map Entry) (q : ℕ) (w : List ℕ) → gather slot a' ≡ laid q w (gather slot a)
    → q + length w ≤ length (gather slot a) → length (gather slot a) ≤ slots_length → pieces e a' m ≡ laid (2 + q) w (pieces e a m)
slots_laid e a a' m q w g room fit =
    let x : List ℕ = fill ont_data_width (entry_bytes e) in
    let s : List ℕ = fill slots_length (gather slot a) in
    let p : List ℕ = fill places_length (gather place m) in
    let lx : length x ≡ 1 = length_fill ont_data_width (entry_bytes e) in
    let ls : length s ≡ slots_length = length_fill slots_length (gather slot a) in
    let cons : length m ∷ laid q w s ≡ laid (1 + q) w (length m ∷ s) = laid_behind (length m ∷ []) w s q in
    let sum : length x + (1 + q) ≡ 2 + q = omega arith in
    rw (g, fill_laid slots_length w (gather slot a) q room fit, cons, laid_behind x w (length m ∷ s) (1 + q), sum)
    (laid_before w (x ++ (length m ∷ s)) p (2 + q) (omega (arith, front_length e a m)))

-- class 2's contents changed
pub front_laid : (e e' : Entry) (a m : Map Entry) (q : ℕ) (w : List ℕ) → entry_bytes e' ≡ laid q w (entry_bytes e)
    → q + length w ≤ length (entry_bytes e) → length (entry_bytes e) ≤ ont_data_width → pieces e' a m ≡ laid q w (pieces e a m)
front_laid e e' a m q w g room fit =
    let x : List ℕ = fill ont_data_width (entry_bytes e) in
    let r : List ℕ = length m ∷ fill slots_length (gather slot a) in
    let p : List ℕ = fill places_length (gather place m) in
    let lx : length x ≡ 1 = length_fill ont_data_width (entry_bytes e) in
    rw (g, fill_laid ont_data_width w (entry_bytes e) q room fit, laid_before w x r q (omega arith))
    (laid_before w (x ++ r) p q (simp length-append (omega arith)))

-- the shape of a legal table's automatic part
pub record Shape (cat : Catalogue) (a : Map Entry) : Type 0 where
  pub first : Entry
  pub rest : Map Entry
  pub is : a ≡ (key ont_data 0, first) ∷ rest
  pub rest_keys : keys rest ≡ automatic_keys cat

pub shape_of : (cat : Catalogue) (a : Map Entry) → keys a ≡ key ont_data 0 ∷ automatic_keys cat → Shape cat a
unfolding keys
shape_of cat [] e = absurd (let z : ◌≡◌ {A = ℕ} 0 1 = cc in omega arith)
shape_of cat (x ∷ a) e =
    let z : x.0 ≡ key ont_data 0 = cc in
    record { first = x.1; rest = a; is = ap (λ (k : ℕ). (k, x.1) ∷ a) z; rest_keys = cc }
