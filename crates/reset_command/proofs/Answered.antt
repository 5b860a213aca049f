-- What a MIB reset leaves: nothing changed where it is refused; else the table, the alarm walk and the upload.
use Prim.Native.Nat.{ℕ, ◌+◌, ◌≤◌, ◌<◌}
use native.Mathlib.Omega.{arith}
use mathlib.Core.Path.{◌≡◌, refl, sym, ◌∙◌, ap}
use mathlib.Core.Bool.{Bool, true, false, not}
use mathlib.Core.Option.{none}
use mathlib.Core.List.{List, [], ◌∷◌, ◌++◌}
use lib.ListN.{length, drop, replicate, length-take, length-drop, length-replicate}
use borrow.Rule.Slice.PartMut.{mid_of, put_mid}
use Rattle.rules.specs.Maps.{Map, first_that_applies, keep}
use Rattle.rules.specs.Bytes.{laid, fill}
use Rattle.rules.specs.Catalogue.{Catalogue}
use Rattle.rules.specs.State.{Table, Alarms, State, holds, with_counter, with_table, with_alarms, with_upload, with_walk}
use Rattle.rules.specs.Legal.{legal_state}
use Rattle.rules.specs.Messages.{done, unknown_instance, unless_refused}
use Rattle.rules.specs.Commands.{stays, reset_table, was_reset, reset_results, reset}
use Rattle.rules.specs.Run.{store_length}
use Rattle.rules.proofs.Laws.{both, not-true, not-false}
use Rattle.store.specs.Layout.{encode, live_bytes, live_at, upload_at, walk_at, block_length, slot_count}
use Rattle.store.proofs.Parts.{Remembers}
use Rattle.octets.proofs.Laid.{laid_part, length_laid}
use Rattle.class_tables.specs.Built.{cat_of, product_of}
use Rattle.class_tables.proofs.EveryProduct.{fits_of}
use Rattle.octets.proofs.Parted.{part}
use Rattle.store.proofs.StateLaid as laid_over
use Rattle.table.specs.Live.{there_in}
use Rattle.table.proofs.HeldAt.{there_is_held}
use Rattle.store.proofs.AlarmsStay.{alarms_stay}
use Rattle.sound_store.specs.Held.{state_in, Sound, stored, Leaves}
use Rattle.sound_store.proofs.Held.{remembers, in_parts, told, live_opened, live_is, live_held}
use Rattle.reset_command.specs.Resets.{block_reset}
use Rattle.reset_command.proofs.BlockReset.{block_law}
use Rattle.class_tables.specs.declared.Product.{Product}

-- ---- over plain lists: a part made zero

zeros_laid : (a n : ℕ) (b z : List ℕ) → a + n ≤ length b → z ≡ replicate (length (mid_of a n b)) 0 → put_mid a n b z ≡ laid a (replicate n 0) b
zeros_laid a n b z h e =
    let l : length (mid_of a n b) ≡ n = simp (length-take, length-drop) (omega arith) in
    let zs : z ≡ replicate n 0 = e ∙ ap (λ (k : ℕ). replicate {A = ℕ} k 0) l in
    laid_part a n z b (ap length zs ∙ length-replicate {A = ℕ} n 0) ∙ ap (λ (v : List ℕ). laid a v b) zs

zeros_long : (a n : ℕ) (b : List ℕ) → a + n ≤ length b → length (laid a (replicate n 0) b) ≡ length b
zeros_long a n b h = let l : length (replicate {A = ℕ} n 0) ≡ n = length-replicate {A = ℕ} n 0 in length_laid a (replicate n 0) b (omega arith)

module _ (pr : Product) (b : List ℕ) (h : Sound pr b) where
  abbrev cat : Catalogue
  cat = cat_of pr

  abbrev s : State
  s = state_in pr b

  -- ---- the state

  abbrev after_reset : Table
  after_reset = with_counter cat 0 (reset_table cat s.table)

  abbrev rest : List ℕ
  rest = drop store_length b

  alarms_left : keep (λ j a. stays cat j) s.alarms ≡ s.alarms
  unfolding legal_state
  alarms_left = alarms_stay cat (fits_of pr) (holds cat s.table) s.alarms (both (both h.legal).1).0

  reset_state : State
  reset_state = with_upload none (with_walk none (with_table after_reset s))

  state_is : was_reset cat s ≡ reset_state
  unfolding was_reset reset_state
  state_is = ap (λ (m : Map Alarms). with_upload none (with_walk none (with_table after_reset (with_alarms m s)))) alarms_left

  -- ---- the table, the walk and the upload, one after another

  abbrev b₁ : List ℕ
  b₁ = laid live_at (live_bytes after_reset) b

  abbrev b₂ : List ℕ
  b₂ = laid walk_at (replicate (1 + slot_count) 0) b₁

  abbrev b₃ : List ℕ
  b₃ = laid upload_at (replicate block_length 0) b₂

  in_three : encode (product_of pr) cat reset_state ++ rest ≡ b₃
  unfolding reset_state
  in_three =
      let p : ℕ = product_of pr in
      let known : Remembers s = remembers pr b h in
      let s₁ : State = with_table after_reset s in
      let s₂ : State = with_walk none s₁ in
      laid_over.no_upload_laid p cat s₂ known rest
      ∙ ap (laid upload_at (replicate block_length 0))
      (laid_over.no_walk_laid p cat s₁ known rest
      ∙ ap (laid walk_at (replicate (1 + slot_count) 0))
      (laid_over.live_laid p cat s known rest after_reset ∙ ap (laid live_at (live_bytes after_reset)) (sym (in_parts pr b h))))

  -- as the code writes them
  module _ (v z₁ z₂ : List ℕ) (y : v ≡ block_reset cat (mid_of live_at block_length b))
      (q : z₁ ≡ replicate (length (mid_of walk_at (1 + slot_count) (put_mid live_at block_length b v))) 0)
      (r : z₂ ≡ replicate (length (mid_of upload_at block_length (put_mid walk_at (1 + slot_count) (put_mid live_at block_length b v) z₁))) 0) where
    block_put : put_mid live_at block_length b v ≡ b₁
    block_put =
        let vs : v ≡ live_bytes after_reset = y ∙ ap (block_reset cat) (live_is pr b h) ∙ block_law pr s.table (live_opened pr b h) in
        laid_part live_at block_length v b (ap length vs ∙ laid_over.live_length after_reset) ∙ ap (λ (x : List ℕ). laid live_at x b) vs

    b₁_long : length b₁ ≡ length b
    b₁_long = let long = h.long in let l = laid_over.live_length after_reset in length_laid live_at (live_bytes after_reset) b (omega arith)

    walk_ended : put_mid walk_at (1 + slot_count) (put_mid live_at block_length b v) z₁ ≡ b₂
    walk_ended =
        let long = h.long in
        let l = b₁_long in
        ap (λ (x : List ℕ). put_mid walk_at (1 + slot_count) x z₁) block_put
        ∙ zeros_laid walk_at (1 + slot_count) b₁ z₁ (omega arith) (q ∙ ap (λ (x : List ℕ). replicate (length (mid_of walk_at (1 + slot_count) x)) 0) block_put)

    upload_ended : put_mid upload_at block_length (put_mid walk_at (1 + slot_count) (put_mid live_at block_length b v) z₁) z₂ ≡ b₃
    upload_ended =
        let long = h.long in
        let l = b₁_long in
        let m : length b₂ ≡ length b = zeros_long walk_at (1 + slot_count) b₁ (omega arith) ∙ l in
        ap (λ (x : List ℕ). put_mid upload_at block_length x z₂) walk_ended
        ∙ zeros_laid upload_at block_length b₂ z₂ (omega arith) (r ∙ ap (λ (x : List ℕ). replicate (length (mid_of upload_at block_length x)) 0) walk_ended)

    pub all_reset : put_mid upload_at block_length (put_mid walk_at (1 + slot_count) (put_mid live_at block_length b v) z₁) z₂ ≡ stored pr (was_reset cat s) b
    unfolding stored
    all_reset = upload_ended ∙ sym in_three ∙ ap (λ (x : State). encode (product_of pr) cat x ++ rest) (sym state_is)

  -- ---- the answer

  module _ (c i : ℕ) (small : i < 65536) (there : Bool) (is : there ≡ there_in cat (part live_at block_length b) c i) where
    held : there ≡ holds cat s.table c i
    held = is ∙ there_is_held pr (part live_at block_length b) s.table (live_held pr b h) c i small

    refused_is : not there ≡ true → reset cat s c i ≡ (s, unknown_instance ∷ [])
    unfolding reset reset_results unless_refused first_that_applies
    refused_is e = let f : holds cat s.table c i ≡ false = sym held ∙ not-true e in rw f refl

    accepted_is : not there ≡ false → reset cat s c i ≡ (was_reset cat s, done ∷ [])
    unfolding reset reset_results unless_refused first_that_applies
    accepted_is e = let f : holds cat s.table c i ≡ true = sym held ∙ not-false e in rw f refl

    pub refused : not there ≡ true → Leaves pr (reset cat s c i) b b (fill 32 (unknown_instance ∷ []))
    refused e = rw (refused_is e) (told pr b h (unknown_instance ∷ []))

    pub accepted : {after : List ℕ} → not there ≡ false → after ≡ stored pr (was_reset cat s) b → Leaves pr (reset cat s c i) b after (replicate 32 0)
    accepted e f = rw (accepted_is e) (record { store = f; reply = refl })
