-- Sound stores: exactly the encodings of legal states, each of one state.
use Prim.Native.Nat.{ℕ, ◌≤◌, ◌<◌}
use native.Mathlib.Omega.{arith}
use mathlib.Core.Path.{◌≡◌, refl, sym, ◌∙◌, ap}
use mathlib.Core.Bool.{true}
use mathlib.Core.Option.{Option, none, some}
use mathlib.Core.List.{List, [], ◌++◌}
use lib.ListN.{length, take, drop, length-append, length-drop}
use lib.Seq.{take_at}
use lib.Dec.{ltb}
use Rattle.rules.specs.Maps.{◌and◌, given, find, gather, same}
use Rattle.rules.specs.Bytes.{byte, are_bytes}
use Rattle.rules.specs.Catalogue.{Catalogue}
use Rattle.rules.specs.State.{State}
use Rattle.rules.specs.Legal.{legal_state}
use Rattle.rules.specs.WellFormed.{WellFormed}
use Rattle.rules.specs.Run.{store_length}
use Rattle.rules.specs.Products.{Products}
use Rattle.rules.proofs.Laws.{cases, both, and_true, same_eq, same_refl, ltb_le, le-ltb}
use Rattle.rules.proofs.MapLaws.{Each, each_find}
use Rattle.store.specs.Layout.{parts, encode, fits}
use Rattle.store.specs.Decode.{Held, read_state, decode_as, decode}
use Rattle.store.specs.Fitting.{AllFit}
use Rattle.store.specs.Entries.{written}
use Rattle.store.proofs.Parts.{encode_length, legal_remembers}
use Rattle.store.proofs.StateBack.{read_back}
use Rattle.store.proofs.OfBytes.{encoding_is_bytes}

-- a store begins with its product
pub first_byte : (p : ℕ) (cat : Catalogue) (s : State) (rest : List ℕ) → byte (encode p cat s ++ rest) 0 ≡ p
unfolding encode parts gather
first_byte p cat s rest = refl

pub legal_length : (p : ℕ) (cat : Catalogue) (s : State) → legal_state cat s ≡ true → length (encode p cat s) ≡ store_length
legal_length p cat s h = encode_length p cat s (legal_remembers cat s h)

-- ---- encodings are sound

pub decode_of_an_encoding : (products : Products) (p : ℕ) (cat : Catalogue) (s : State) (rest : List ℕ)
    → find p products ≡ some cat → WellFormed cat → fits cat ≡ true → legal_state cat s ≡ true
    → decode products (encode p cat s ++ rest) ≡ some (record { product = p; catalogue = cat; state = s })
unfolding decode decode_as
decode_of_an_encoding products p cat s rest e w f h =
    let b : List ℕ = encode p cat s in
    let l : length b ≡ store_length = legal_length p cat s h in
    let n : store_length ≤ length (b ++ rest) = rw (length-append b rest) (omega arith) in
    rw (
      le-ltb (length (b ++ rest)) store_length n,
      first_byte p cat s rest,
      e,
      take_at b rest store_length l,
      read_back p cat s w f h,
      and_true h (same_refl b),
    )

-- ---- what is sound is an encoding

-- bytes that are decoded are the encoding of what is decoded
pub decoded_as : (p : ℕ) (cat : Catalogue) (b : List ℕ) (h : Held) → decode_as p cat b ≡ some h
    → (h.product ≡ p) × (h.catalogue ≡ cat) × (legal_state cat h.state ≡ true) × (b ≡ encode p cat h.state)
unfolding decode_as
decoded_as p cat b h e =
    let s : State = read_state cat b in
    cases (legal_state cat s and same (encode p cat s) b)
    (λ t.
    let y : some (record { product = p; catalogue = cat; state = s }) ≡ some h = rw t at e in
    let z : s ≡ h.state = ap (λ (o : Option Held). given o s (λ x. x.state)) y in (
      sym (ap (λ (o : Option Held). given o p (λ x. x.product)) y),
      sym (ap (λ (o : Option Held). given o cat (λ x. x.catalogue)) y),
      rw (← z) (both t).0,
      rw (← z) (sym (same_eq (encode p cat s) b (both t).1)),
    ))
    (λ t. let y : none ≡ some h = rw t at e in let z : ◌≡◌ {A = ℕ} 0 1 = cc in absurd (omega arith))

pub sound_is_an_encoding : (products : Products) (b : List ℕ) (h : Held) → decode products b ≡ some h
    → (find h.product products ≡ some h.catalogue)
    × (legal_state h.catalogue h.state ≡ true)
    × (take store_length b ≡ encode h.product h.catalogue h.state)
    × (store_length ≤ length b)
unfolding decode
sound_is_an_encoding products b h e = cases (ltb (length b) store_length)
    (λ t. let y : none ≡ some h = rw t at e in let z : ◌≡◌ {A = ℕ} 0 1 = cc in absurd (omega arith))
    (λ t. go (find (byte b 0) products) refl (rw t at e) (ltb_le (length b) store_length t))
  where
    go : (o : Option Catalogue) → find (byte b 0) products ≡ o → given o none (λ cat. decode_as (byte b 0) cat (take store_length b)) ≡ some h → store_length ≤ length b
        → (find h.product products ≡ some h.catalogue)
        × (legal_state h.catalogue h.state ≡ true)
        × (take store_length b ≡ encode h.product h.catalogue h.state)
        × (store_length ≤ length b)
    go none f e n = let z : ◌≡◌ {A = ℕ} 0 1 = cc in absurd (omega arith)
    go (some cat) f e n =
        let d = decoded_as (byte b 0) cat (take store_length b) h e in
        (rw (d.0, d.1) f, rw d.1 d.2, rw (d.0, d.1) d.3, n)

-- ---- one state, one encoding

-- what two sound stores hold decides their bytes, but those past the length
pub one_state_one_encoding : (products : Products) (b c : List ℕ) (h : Held) → decode products b ≡ some h → decode products c ≡ some h → take store_length b ≡ take store_length c
one_state_one_encoding products b c h e f = (sound_is_an_encoding products b h e).2 ∙ sym (sound_is_an_encoding products c h f).2

-- and the bytes decide product and state
pub one_encoding_one_state : (cat : Catalogue) (p q : ℕ) (s t : State) → WellFormed cat → fits cat ≡ true → legal_state cat s ≡ true → legal_state cat t ≡ true
    → encode p cat s ≡ encode q cat t → (p ≡ q) × (s ≡ t)
one_encoding_one_state cat p q s t w f h g e = (
  sym (first_byte p cat s []) ∙ ap (λ (b : List ℕ). byte (b ++ []) 0) e ∙ first_byte q cat t [],
  sym (read_back p cat s w f h) ∙ ap (read_state cat) e ∙ read_back q cat t w f g,
)

-- ---- of a list of products that all fit

-- it is enough to show it of each product
pub all_fit : (products : Products) → Each (λ p cat. (p < 256) × WellFormed cat × (fits cat ≡ true)) products → AllFit products
all_fit products h = record {
  in_a_byte = λ p cat e. (each_find (λ p cat. (p < 256) × WellFormed cat × (fits cat ≡ true)) products h p cat e).0;
  well_formed = λ p cat e. (each_find (λ p cat. (p < 256) × WellFormed cat × (fits cat ≡ true)) products h p cat e).1;
  fit = λ p cat e. (each_find (λ p cat. (p < 256) × WellFormed cat × (fits cat ≡ true)) products h p cat e).2;
}

module _ (products : Products) (a : AllFit products) where
  -- the encoding of a legal state of a product of the list, with anything behind it, is sound and holds it
  pub decode_of_held : (h : Held) (rest : List ℕ) → find h.product products ≡ some h.catalogue → legal_state h.catalogue h.state ≡ true
      → decode products (encode h.product h.catalogue h.state ++ rest) ≡ some h
  decode_of_held h rest e g =
      decode_of_an_encoding products h.product h.catalogue h.state rest e (a.well_formed h.product h.catalogue e) (a.fit h.product h.catalogue e) g

  pub held_is_bytes : (h : Held) → find h.product products ≡ some h.catalogue → legal_state h.catalogue h.state ≡ true
      → are_bytes (encode h.product h.catalogue h.state) ≡ true
  held_is_bytes h e g =
      encoding_is_bytes h.product h.catalogue h.state (a.in_a_byte h.product h.catalogue e) (a.fit h.product h.catalogue e) g

  pub one_encoding_one_held : (h k : Held) → find h.product products ≡ some h.catalogue → legal_state h.catalogue h.state ≡ true
      → find k.product products ≡ some k.catalogue → legal_state k.catalogue k.state ≡ true
      → encode h.product h.catalogue h.state ≡ encode k.product k.catalogue k.state → h ≡ k
  one_encoding_one_held h k e g f i y =
      let z : some h ≡ some k = sym (decode_of_held h [] e g) ∙ ap (λ (b : List ℕ). decode products (b ++ [])) y ∙ decode_of_held k [] f i in
      cc

  -- the bytes past the length say nothing
  pub decode_front : (b : List ℕ) (h : Held) (rest : List ℕ) → decode products b ≡ some h → decode products (take store_length b ++ rest) ≡ some h
  decode_front b h rest e =
      let d = sound_is_an_encoding products b h e in
      ap (λ (x : List ℕ). decode products (x ++ rest)) d.2 ∙ decode_of_held h rest d.0 d.1

  -- a store that a call wrote is sound and holds what was written
  pub decode_of_written : (h : Held) (s : State) (b : List ℕ) → find h.product products ≡ some h.catalogue → legal_state h.catalogue s ≡ true
      → decode products (written h s b) ≡ some (record { product = h.product; catalogue = h.catalogue; state = s })
  unfolding written
  decode_of_written h s b e g = decode_of_held (record { product = h.product; catalogue = h.catalogue; state = s }) (drop store_length b) e g

-- what is written leaves a store's length
pub length_written : (h : Held) (s : State) (b : List ℕ) → legal_state h.catalogue s ≡ true → store_length ≤ length b → length (written h s b) ≡ length b
unfolding written
length_written h s b g n =
    rw (length-append (encode h.product h.catalogue s) (drop store_length b), legal_length h.product h.catalogue s g, length-drop store_length b) (omega arith)
