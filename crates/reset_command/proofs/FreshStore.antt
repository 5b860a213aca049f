-- The store of a power-on: zeros, the product's number, and first contents in the slots.
use Prim.Native.Nat.{ℕ, ◌-◌, ◌≤◌}
use mathlib.Core.Path.{◌≡◌, refl, sym, ◌∙◌, ap}
use mathlib.Core.Bool.{true}
use mathlib.Core.List.{List, [], ◌∷◌, ◌++◌, map}
use lib.ListN.{length, take, drop, set, replicate}
use lib.Seq.{length-take-le}
use borrow.Rule.Slice.PartMut.{mid_of, put_mid}
use Rattle.rules.specs.Catalogue.{Catalogue}
use Rattle.rules.specs.State.{State, alarms_of, entry, with_table}
use Rattle.rules.specs.Legal.{automatic_keys}
use Rattle.rules.specs.Run.{fresh, fresh_table, store_length}
use Rattle.store.specs.Layout.{slot_count, block_length, slots_at, live_at, encode, code_alarms, live_bytes, code_table, parts, code_optional, entry_bytes}
use Rattle.store.proofs.Parts.{Remembers, legal_remembers}
use Rattle.store.proofs.StateLaid as laid_over
use Rattle.octets.proofs.Laid.{laid_part}
use Rattle.class_tables.specs.declared.Product.{Product}
use Rattle.class_tables.specs.Built.{cat_of, product_of}
use Rattle.sound_store.specs.Held.{stored}
use Rattle.reset_command.specs.Resets.{slots_begun}
use Rattle.reset_command.proofs.FreshBlock.{fill_zeros, fresh_block}
use Rattle.rules.specs.Bytes.{bits_from, fill, laid}
use Rattle.rules.specs.Maps.{find, keep, gather}
use Rattle.rules.specs.Walks.{frozen}
use Rattle.legality.proofs.Kept.{the_fresh_state_is_legal}
use Rattle.class_tables.proofs.EveryProduct.{well_formed_of}

-- ---- a state with nothing in it: its store is zeros behind the product's number

blank : Catalogue → State
blank cat = with_table (record { automatic = []; created = [] }) (fresh cat)

fresh_remembers : (pr : Product) → Remembers (fresh (cat_of pr))
fresh_remembers pr = legal_remembers (cat_of pr) (fresh (cat_of pr)) (the_fresh_state_is_legal (cat_of pr) (well_formed_of pr))

zeros_behind : ℕ → List ℕ
zeros_behind p = p ∷ replicate (store_length - 1) 0

-- without alarms, a slot's byte of alarms is 0
no_alarms : (l : List ℕ) → map (λ k. bits_from 0 (take 8 (alarms_of k []))) l ≡ replicate (length l) 0
unfolding bits_from alarms_of find
no_alarms [] = refl
no_alarms (k ∷ l) = ap (λ (x : List ℕ). 0 ∷ x) (no_alarms l)

alarms_zero : (cat : Catalogue) → code_alarms cat [] ≡ replicate slot_count 0
unfolding code_alarms
alarms_zero cat = ap (fill slot_count) (no_alarms (automatic_keys cat)) ∙ fill_zeros slot_count (length (automatic_keys cat))

blank_is : (p : ℕ) (cat : Catalogue) → encode p cat (blank cat) ≡ zeros_behind p
unfolding blank fresh zeros_behind encode parts code_optional code_table entry find frozen keep gather entry_bytes
blank_is p cat = rw (alarms_zero cat) refl

blank_block : (cat : Catalogue) → live_bytes (blank cat).table ≡ replicate block_length 0
unfolding blank live_bytes code_table entry find frozen keep gather entry_bytes
blank_block cat = refl

-- ---- the store that is written

first_set : (z rest : List ℕ) (p : ℕ) → z ≡ replicate store_length 0 → set (z ++ rest) 0 p ≡ zeros_behind p ++ rest
unfolding zeros_behind
first_set z rest p e = ap (λ (x : List ℕ). set (x ++ rest) 0 p) e

module _ (pr : Product) (s z v : List ℕ) (p : ℕ) (h : store_length ≤ length s) (e : z ≡ replicate (length (take store_length s)) 0) (q : p ≡ product_of pr)
    (y : v ≡ slots_begun (cat_of pr) true (automatic_keys (cat_of pr)) slots_at (mid_of live_at block_length (set (z ++ drop store_length s) 0 p))) where
  abbrev rest : List ℕ
  rest = drop store_length s

  abbrev before : List ℕ
  before = encode p (cat_of pr) (blank (cat_of pr)) ++ rest

  was : set (z ++ rest) 0 p ≡ before
  was =
      let zs : z ≡ replicate store_length 0 = e ∙ ap (λ (n : ℕ). replicate {A = ℕ} n 0) (length-take-le store_length s h) in
      first_set z rest p zs ∙ ap (λ (x : List ℕ). x ++ rest) (sym (blank_is p (cat_of pr)))

  block_is : v ≡ live_bytes (fresh_table (cat_of pr))
  unfolding blank
  block_is =
      y ∙ ap (λ (b : List ℕ). slots_begun (cat_of pr) true (automatic_keys (cat_of pr)) slots_at (mid_of live_at block_length b)) was
      ∙ ap (slots_begun (cat_of pr) true (automatic_keys (cat_of pr)) slots_at) (laid_over.live_part p (cat_of pr) (blank (cat_of pr)) (fresh_remembers pr) rest ∙ blank_block (cat_of pr))
      ∙ fresh_block pr

  pub fresh_written : put_mid live_at block_length (set (z ++ rest) 0 p) v ≡ stored pr (fresh (cat_of pr)) s
  unfolding stored fresh blank
  fresh_written =
      ap (λ (b : List ℕ). put_mid live_at block_length b v) was
      ∙ laid_part live_at block_length v before (ap length block_is ∙ laid_over.live_length (fresh_table (cat_of pr)))
      ∙ ap (λ (x : List ℕ). laid live_at x before) block_is
      ∙ sym (laid_over.live_laid p (cat_of pr) (blank (cat_of pr)) (fresh_remembers pr) rest (fresh_table (cat_of pr)))
      ∙ ap (λ (n : ℕ). encode n (cat_of pr) (fresh (cat_of pr)) ++ rest) q
